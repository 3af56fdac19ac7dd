-- What is ready by the calls that have not ended is what is ready by all that were issued.
use Rattle.std.specs.Prelude.{◌≡◌, ◌↔◌, ℕ, ◌+◌, ◌<◌, List, Bool, true, false, not, Some, None, slice_get}
use Rattle.cl_types.specs.declared.call.Call.{Call}
use Rattle.cl_types.specs.declared.config.Config.{Config}
use Rattle.cl_types.specs.declared.line.Entry.{Entry}
use Rattle.cl_types.specs.declared.numbers.ClientNo.{ClientNo}
use Rattle.cl_types.specs.declared.schedule.Event.{Event}
use Rattle.client_model.specs.Order.{depends, is_fence, footprint, waits_for, may_go}
use Rattle.trace.specs.Account.{Account, nothing_yet}
use Rattle.client_model.specs.Client.{call_standing, prints}
use Rattle.trace.specs.Clients.{issued, standing_at, has_ended, client_at}
use Rattle.trace.specs.Events.{account_from}

-- The call at place n waits for none of the calls that still run.
abbrev pub WaitsForNone : List Call → (ℕ → Bool) → ℕ → Call → Type 0
WaitsForNone calls still n k =
    (m : ℕ) (x : Call) → slice_get calls m ≡ Some x → m < n → still m ≡ true
    → waits_for (footprint x) (footprint k) ≡ false

-- A Fence has ended only where all calls before it have.
abbrev pub FencesLast : List Call → (ℕ → Bool) → Type 0
FencesLast calls still =
    (f : ℕ) (x : Call) → slice_get calls f ≡ Some x → is_fence x ≡ true → still f ≡ false
    → (m : ℕ) → m < f → still m ≡ false

-- the call at place n depends on none of the calls that still run
abbrev pub DependsOnNone : List Call → (ℕ → Bool) → ℕ → Type 0
DependsOnNone calls still n = (m : ℕ) → m < n → still m ≡ true → depends calls m n ≡ false

-- where Fences end last, the two say the same of every issued call
abbrev pub ReadyLaw : Type 0
ReadyLaw =
    (calls : List Call) (still : ℕ → Bool) (n : ℕ) (k : Call)
    → slice_get calls n ≡ Some k → FencesLast calls still
    → WaitsForNone calls still n k ↔ DependsOnNone calls still n

-- ---- in an account
-- the call at this place was issued and has not ended
abbrev pub runs : Account → ClientNo → ℕ → Bool
runs a c m = elim (slice_get (issued a c) m) [
  | None ↦ false
  | Some k ↦ not (has_ended a c (call_standing (standing_at a c) (m + 1, k)))
]

-- A client of an account lets a call go exactly where it depends on none of the calls that have not ended.
abbrev pub ReadyInAccounts : Type 0
ReadyInAccounts =
    (keep : List Entry → List Entry) (config : Config) (events : List (ℕ × Event))
    (c : ClientNo) (n : ℕ) (k : Call)
    → let a : Account = account_from keep config nothing_yet events in
    slice_get (issued a c) n ≡ Some k
    → (may_go (prints (client_at config a c).calls) (n + 1, footprint k) ≡ true)
    ↔ DependsOnNone (issued a c) (runs a c) n
