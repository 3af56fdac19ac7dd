-- Induction over the events of a schedule.
use Rattle.std.proofs.Common.{◌≡◌, ℕ, suc, ◌+◌, ◌≤◌, List, [], ◌∷◌, true, arith}
use Rattle.cl_types.specs.declared.config.Config.{Config}
use Rattle.cl_types.specs.declared.line.Entry.{Entry}
use Rattle.cl_types.specs.declared.schedule.Event.{Event}
use Rattle.trace.specs.Account.{Account, extended, nothing_yet}
use Rattle.trace.specs.Events.{effect, next_account, account_from}
use Rattle.cl_types.specs.Ranges.{is_typed}
use Rattle.trace.specs.Schedules.{IsRisingFrom, AreTyped}

-- how far a schedule's lines go
abbrev pub past : ℕ → List (ℕ × Event) → ℕ
past l [] = l
past l (e ∷ es) = past (e.0 + 1) es

module _ (keep : List Entry → List Entry) (config : Config) (I : Account → ℕ → Type 0)
    (later : (a : Account) (l m : ℕ) → l ≤ m → I a l → I a m)
    (next : (a : Account) (l : ℕ) (e : Event) → is_typed e ≡ true → I a l → I (extended a l e (effect keep config a l e)) (suc l)) where
  from : (events : List (ℕ × Event)) (a : Account) (l : ℕ) → IsRisingFrom l events → AreTyped events → I a l → I (account_from keep config a events) (past l events)
  from [] a l rising typed i = i
  from (e ∷ es) a l rising typed i =
      from es (next_account keep config a e) (e.0 + 1) rising.1 typed.1 (later _ (suc e.0) (e.0 + 1) (omega arith) (next a e.0 e.1 typed.0 (later a l e.0 rising.0 i)))

  -- what holds of nothing yet, and is kept by each event, holds of every account
  pub of_account : (events : List (ℕ × Event)) → IsRisingFrom 0 events → AreTyped events → I nothing_yet 0 → I (account_from keep config nothing_yet events) (past 0 events)
  of_account events rising typed i = from events nothing_yet 0 rising typed i
