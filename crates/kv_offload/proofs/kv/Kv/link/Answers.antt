use Rattle.std.proofs.Common.{ℕ, ap, ◌∙◌}
use Rattle.kv_offload.specs.Layout.{link_of, number_at}
use Rattle.kv_offload.proofs.PlaceLemmas.{link_in}
use Rattle.kv_offload.proofs.kv.Kv.link.Goals as goal

pub read_number-requires-clause-within : goal.read_number-requires-clause-within
read_number-requires-clause-within g c =
    rw c.link_place.ensures (link_in c.args.self.now.records c.args.node (g.P.Space.contents c.args.space.now) c.requires.pages c.requires.node)

pub returns-clause-link : goal.returns-clause-link
unfolding link_of
returns-clause-link g c =
    c.read_number.ensures.number ∙ ap (λ (place : ℕ). number_at place (g.P.Space.contents c.args.space.now)) c.link_place.ensures
