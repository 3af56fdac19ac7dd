use Rattle.std.proofs.Common.{ℕ, rules, true, ap, ◌∙◌}
use Rattle.cl_outside.proofs.ToldLemmas.{added_more}
use Rattle.cl_outside.specs.Counts.{one_more}
use Rattle.cl_outside.specs.declared.faults.Faults.{Faults}
use Rattle.cl_outside.proofs.loops.write_all.Goals as goal

pub loop-done-preserved : goal.loop-done-preserved
loop-done-preserved g c =
    let put = c.in-Put.ensures.bytes.2 in
    (added_more _ _ _ _ _ _ _ c.loop-done.invariant.0 c.split_at.ensures.back put, search rules, search rules)

-- the write that failed is the last call, and left what was written
pub returns-in-Failed-clause-front : goal.returns-in-Failed-clause-front
returns-in-Failed-clause-front g c = (c.loop-done.done, c.loop-done.invariant.2, c.in-Failed.ensures.bytes ∙ c.loop-done.invariant.0)

pub returns-in-Failed-clause-counted : goal.returns-in-Failed-clause-counted
returns-in-Failed-clause-counted g c = c.in-Failed.ensures.cause ∙ ap (λ (n : ℕ). let f : Faults = record { count = one_more n; last = true } in f) c.loop-done.invariant.1
