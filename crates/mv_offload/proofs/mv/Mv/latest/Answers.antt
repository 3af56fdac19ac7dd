use Rattle.std.proofs.Common.{List, ℕ, ◌-◌, ◌≡◌, Some, sym, ap, arith, ◌∙◌, slice_get}
use Rattle.mv_offload.specs.Layout.{bytes_of}
use Rattle.mv_offload.specs.Stored.{versions_at}
use Rattle.mv_offload.proofs.CallLemmas.{latest_past, latest_done}
use Rattle.mv_offload.proofs.mv.Mv.latest.Goals as goal

pub returns-then-number-eq0-clause-given : goal.returns-then-number-eq0-clause-given
returns-then-number-eq0-clause-given g c = latest_past c.requires.store c.in-Some.ensures.found c.if-number-eq0.true

pub returns-clause-given : goal.returns-clause-given
returns-clause-given g c =
    let old : List ℕ = g.P.Space.contents c.args.space.now in
    let kept = c.in-Some.ensures.contents in
    let there : slice_get (versions_at old (c.args.object - 1)) (c.in-Some.number - 1) ≡ Some (bytes_of old c.slot-slot.result) =
    sym (ap (λ (m : List ℕ). slice_get (versions_at m (c.args.object - 1)) (c.in-Some.number - 1)) kept) ∙ c.slot-slot.ensures.version ∙ ap (λ (m : List ℕ). Some (bytes_of m c.slot-slot.result)) kept in
    latest_done c.requires.store c.in-Some.ensures.found (bytes_of old c.slot-slot.result) _ (g.P.Space.contents c.copy-size.new.space) (omega arith) there
    (c.copy-size.ensures.bytes ∙ ap (λ (m : List ℕ). bytes_of m c.slot-slot.result) (c.slot-slot.ensures.contents ∙ kept))
    (c.copy-size.ensures.contents ∙ c.slot-slot.ensures.contents ∙ kept)
