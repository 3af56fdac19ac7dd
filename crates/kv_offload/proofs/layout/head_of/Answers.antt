use Rattle.std.proofs.Common.{ap, ◌∙◌}
use Rattle.std.proofs.lemmas.List.{drop_all}
use Rattle.kv_offload.specs.Layout.{hash_on}
use Rattle.kv_offload.proofs.HeadLemmas.{head_is}
use Rattle.kv_offload.proofs.layout.head_of.Goals as goal

pub returns-clause-head : goal.returns-clause-head
returns-clause-head c =
    head_is c.args.key.now c.loop-byte.hash c.requires
    (c.loop-byte.invariant.so_far ∙ ap (hash_on c.loop-byte.hash) (drop_all c.loop-byte.byte-index c.args.key.now c.loop-byte-test.false))
