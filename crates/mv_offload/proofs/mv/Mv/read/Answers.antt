use Rattle.std.proofs.Common.{List, ℕ, ◌-◌, ◌≡◌, Some, sym, ap, arith, ◌∙◌, inl, inr, slice_get}
use Rattle.mv_offload.specs.Layout.{bytes_of}
use Rattle.mv_offload.specs.Stored.{versions_at}
use Rattle.mv_offload.proofs.CallLemmas.{read_past, read_done}
use Rattle.mv_offload.proofs.mv.Mv.read.Goals as goal
use Rattle.mv_offload.proofs.mv.Mv.read.Goals.{then-version-eq0-via-then-version-eq0, then-version-eq0-via-else-version-eq0+then-version-number}

pub returns-then-version-eq0-clause-given : goal.returns-then-version-eq0-clause-given
returns-then-version-eq0-clause-given g c = read_past c.requires.store c.in-Some.ensures.found c.args.version (elim c.then-version-eq0.branch [
  | then-version-eq0-via-then-version-eq0 w ↦ inl w.if-version-eq0.true
  | then-version-eq0-via-else-version-eq0+then-version-number w ↦ inr w.if-version-number.true
])

pub returns-clause-given : goal.returns-clause-given
returns-clause-given g c =
    let old : List ℕ = g.P.Space.contents c.args.space.now in
    let kept = c.in-Some.ensures.contents in
    let there : slice_get (versions_at old (c.args.object - 1)) (c.args.version - 1) ≡ Some (bytes_of old c.slot-slot.result) =
    sym (ap (λ (m : List ℕ). slice_get (versions_at m (c.args.object - 1)) (c.args.version - 1)) kept) ∙ c.slot-slot.ensures.version ∙ ap (λ (m : List ℕ). Some (bytes_of m c.slot-slot.result)) kept in
    read_done c.requires.store c.in-Some.ensures.found c.args.version (bytes_of old c.slot-slot.result) _ (g.P.Space.contents c.copy.new.space) (omega arith) there
    (c.copy.ensures.bytes ∙ ap (λ (m : List ℕ). bytes_of m c.slot-slot.result) (c.slot-slot.ensures.contents ∙ kept))
    (c.copy.ensures.contents ∙ c.slot-slot.ensures.contents ∙ kept)
