-- Which calls of an object in memory fail.
use Rattle.std.specs.Prelude.{ℕ, Bool, ◌==◌, List}
use Rattle.std.specs.List.{list_any}
use Rattle.cl_outside.specs.Counts.{one_more}

-- the numbers of the calls that are to fail, from 1, and how many calls there were
pub record CallPlan : Type 0 where
  pub fails : List ℕ
  pub calls : ℕ

-- the next call is to fail
abbrev pub fails_next : CallPlan → Bool
fails_next plan = list_any (λ number. number == one_more plan.calls) plan.fails

-- the plan after one more call
abbrev pub after_call : CallPlan → CallPlan
after_call plan = record plan { calls = one_more plan.calls }
