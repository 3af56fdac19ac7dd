-- What a history is: a run, or not, with the first entry that is no step.
use Rattle.std.specs.Prelude.{ℕ, ◌+◌, ◌≡◌, List, ◌∷◌, ◌++◌, length}
use Rattle.cl_types.specs.declared.config.NodeConfig.{NodeConfig}
use Rattle.cl_types.specs.declared.line.Entry.{Entry}
use Rattle.flat_model.specs.Run.{IsRunFrom, MayStep, after}
use Rattle.flat_model.specs.State.{FlatState, opening}
use Rattle.history_check.specs.declared.history.Verdict.{Verdict}
use Rattle.history_check.specs.declared.history.Verdict.TheVariants.{Run, NotRun}

-- the entries before the one of this number, from 1, are a run from this state on, and it is no step after them
pub record IsFirstFault (s : FlatState) (entries : List Entry) (number : ℕ) : Type 0 where
  pub before : List Entry
  pub entry : Entry
  pub behind : List Entry
  pub parted : entries ≡ before ++ entry ∷ behind
  pub numbered : number ≡ length before + 1
  pub run : IsRunFrom s before
  pub no_step : MayStep (after s before) entry.pid entry.request entry.reply → ⊥

-- the verdict of entries from this state on
abbrev pub IsVerdictFrom : FlatState → List Entry → Verdict → Type 0
IsVerdictFrom s entries Run = IsRunFrom s entries
IsVerdictFrom s entries (NotRun number) = IsFirstFault s entries number

-- the verdict of a history from the opening on
abbrev pub IsVerdict : NodeConfig → List Entry → Verdict → Type 0
IsVerdict c entries verdict = IsVerdictFrom (opening c) entries verdict
