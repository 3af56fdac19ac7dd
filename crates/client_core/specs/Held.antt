-- The calls that a client holds, each with what came of its parts and how many were sent. No public clause cites this module.
use Rattle.std.specs.Prelude.{ℕ, ◌+◌, ◌≡◌, ◌<◌, ◌≤◌, ◌==◌, Bool, false, ◌&&◌, nat_lt, List, [], ◌∷◌, ◌++◌, length, map, filter, filter_map, find, replicate, Option, Some, None, is_none, if◌then◌else◌, option_map, option_and_then, slice_get, slice_set}
use Rattle.std.specs.List.{AllByRecursion as Each}
use Rattle.cl_types.specs.declared.limits.TheConstants.{HELD_CALLS}
use Rattle.cl_types.specs.declared.numbers.CallNo.{CallNo}
use Rattle.cl_types.specs.declared.call.Call.{Call}
use Rattle.cl_types.specs.declared.request.Request.{Request}
use Rattle.cl_types.specs.declared.reply.Part.{Part}
use Rattle.client_model.specs.Cut.{cut, Ending, combine, handed_back}
use Rattle.client_model.specs.Order.{is_fence, Footprint, footprint, ready_in}
use Rattle.client_model.specs.Client.{Finished, emptied, every}
use Rattle.client_core.specs.Valid.{AreRising}

-- a call that has not ended: its buffer is of zeros here, and of its parts the first ones were sent
pub record Held : Type 0 where
  pub number : ℕ
  pub call : Call
  pub came : List (Option Ending)
  pub sent : ℕ

-- the calls that a client holds: those that have not ended, in order of issue, and the others as they ended
pub record Holding : Type 0 where
  pub held : List Held
  pub ended : List Finished

-- the call of number n, of which nothing was sent
abbrev pub new_held : ℕ → Call → Held
new_held n k = record { number = n; call = emptied k; came = replicate (length (cut k)) None; sent = 0 }

-- what the order of the call rests on
abbrev pub print_of : Held → ℕ × Footprint
print_of h = (h.number, footprint h.call)

-- the call of this number, where it is there
abbrev pub held_at : ℕ → List Held → Option Held
held_at n hs = find (λ h. h.number == n) hs

-- the calls, the one of number n changed
abbrev pub changed : ℕ → (Held → Held) → List Held → List Held
changed n g hs = map (λ h. if h.number == n then g h else h) hs

-- ---- parts that are sent
-- the call, one more of its parts sent
abbrev pub with_one_sent : Held → Held
with_one_sent h = record h { sent = h.sent + 1 }

-- not all parts of the call were sent
abbrev pub has_unsent : Held → Bool
has_unsent h = nat_lt h.sent (length h.came)

-- the first of its parts that was not sent
abbrev pub next_part : Held → Part
next_part h = record { call = record { 0 = h.number }; part = h.sent }

-- the call has an unsent part, and is ready among these
abbrev pub may_send : List (ℕ × Footprint) → Held → Bool
may_send calls h = has_unsent h && ready_in calls h.number

-- the first part that may be sent, where there is one
abbrev pub part_to_send : List Held → Option Part
part_to_send hs = option_map next_part (find (may_send (map print_of hs)) hs)

-- the request of a part, where there is such a part
abbrev pub request_at : List Held → Part → Option Request
request_at hs p = option_and_then (λ h. slice_get (cut h.call) p.part) (held_at p.call.0 hs)

-- ---- what comes of parts
-- the call with what came of part i
abbrev pub with_came : ℕ → Ending → Held → Held
with_came i ending h = record h { came = slice_set h.came i (Some ending) }

-- the call as it ends by what came of its parts
abbrev pub ended_with : Held → List Ending → Finished
ended_with h endings = record { number = h.number; answer = combine h.call endings; call = handed_back h.call endings }

-- what the call has come to, where something came of each part; a Fence ends by a poll
abbrev pub ended_of : Held → Option Finished
ended_of h = if is_fence h.call then None else option_map (ended_with h) (every h.came)

-- the calls after each that has come to an end has ended
abbrev pub with_ends : Holding → Holding
with_ends c = record { held = filter (λ h. is_none (ended_of h)) c.held; ended = c.ended ++ filter_map ended_of c.held }

-- the calls after this came of the part
abbrev pub after_coming : Part → Ending → Holding → Holding
after_coming p ending c = with_ends (record c { held = changed p.call.0 (with_came p.part ending) c.held })

-- the part is of one of these calls, it was sent, and nothing has come of it
pub record IsAwaited (p : Part) (hs : List Held) : Type 0 where
  pub h : Held
  pub there : held_at p.call.0 hs ≡ Some h
  pub no_fence : is_fence h.call ≡ false
  pub sent : p.part < h.sent
  pub still : slice_get h.came p.part ≡ Some None

-- the numbers rise, none of the calls that are held has come to an end, and there are at most 256
pub record IsGoing (c : Holding) : Type 0 where
  pub last : ℕ
  pub rising : AreRising 0 last (map (λ h. h.number) c.held)
  pub going : Each (λ h. ended_of h ≡ None) c.held
  pub few : length c.held + length c.ended ≤ HELD_CALLS

-- ---- Fences
-- the number of the Fence that is the first of these, where one is
abbrev pub fence_first_in : List Held → Option CallNo
fence_first_in [] = None
fence_first_in (h ∷ hs) = if is_fence h.call then Some (record { 0 = h.number }) else None
