use Rattle.std.proofs.Common.{List, [], ◌∷◌, ◌++◌, ◌-◌, ℕ, arith, ap, ◌∙◌, slice_set}
use Rattle.mv_offload.specs.Layout.{count_of}
use Rattle.mv_offload.specs.Stored.{held_in, versions_at}
use Rattle.mv_offload.proofs.CallLemmas.{append_full, append_done, number_below}
use Rattle.mv_offload.proofs.mv.Mv.append.Goals as goal

pub returns-then-slot-self-clause-given : goal.returns-then-slot-self-clause-given
returns-then-slot-self-clause-given g c =
    let count = ap count_of c.in-Some.ensures.contents in
    append_full c.requires.store c.in-Some.ensures.found c.args.bytes.now (omega arith)

pub overflow_add-result : goal.overflow_add-result
overflow_add-result g c =
    let few = number_below _ c.in-Some.number c.requires.store (omega (arith, c.in-Some.ensures.found.above, c.in-Some.ensures.found.below)) c.in-Some.ensures.found.is_number in
    omega (arith, few, c.requires.store.sound.few_versions, c.requires.store.pages.few_versions)

pub returns-clause-given : goal.returns-clause-given
returns-clause-given g c =
    let count = ap count_of c.in-Some.ensures.contents in
    append_done c.requires.store c.in-Some.ensures.found c.args.bytes.now (g.P.Space.contents c.add.new.space) (omega arith)
    (c.add.ensures.held ∙ ap (λ (m : List ℕ). slice_set (held_in m) (c.args.object - 1) (versions_at m (c.args.object - 1) ++ c.args.bytes.now ∷ [])) (c.versions_held-slot.ensures.contents ∙ c.in-Some.ensures.contents))
