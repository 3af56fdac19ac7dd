use Rattle.std.proofs.Common.{◌≡◌, ◌-◌, ℕ, List, length, ap, arith, ◌∙◌}
use Rattle.std.proofs.lemmas.List.{take_at}
use Rattle.kv_offload.specs.declared.layout.TheConstants.{HEADS}
use Rattle.kv_offload.specs.Layout.{value_of}
use Rattle.kv_offload.proofs.HeadLemmas.{key_some}
use Rattle.kv_offload.proofs.StoreLemmas.{got_given, absent_got}
use Rattle.kv_offload.proofs.kv.Kv.get.Goals as goal

pub returns-in_default-clause-given : goal.returns-in_default-clause-given
returns-in_default-clause-given g c = absent_got c.args.self.now.records (g.P.Space.contents c.args.space.now) c.args.key.now c.in_default.ensures.absent

pub returns-clause-given : goal.returns-clause-given
returns-clause-given g c =
    let long : length c.read_value.new.out ≡ c.in-Some.found.value_len = omega (arith, c.read_value.auto.out, c.split_at_mut-value.ensures.front_len) in
    got_given c.in-Some.ensures.found _ _ c.requires.store (key_some c.args.key.now c.requires.some) (c.read_value.ensures.contents ∙ c.in-Some.ensures.contents)
    (take_at c.read_value.new.out c.split_at_mut-value.result.1.now c.in-Some.found.value_len long
    ∙ c.read_value.ensures.value ∙ ap (λ (bytes : List ℕ). value_of bytes (c.in-Some.found.node - HEADS)) c.in-Some.ensures.contents)
