-- What holds of a client's state at every moment.
use Rattle.std.specs.Prelude.{ℕ, ◌+◌, ◌-◌, ◌*◌, ◌/◌, ◌≡◌, ◌<◌, ◌≤◌, not, List, [], ◌∷◌, length, map, sum_by, Option, None}
use Rattle.std.specs.List.{AllByRecursion as Each}
use Rattle.cl_types.specs.declared.call.Call.{Call}
use Rattle.cl_types.specs.declared.request.Request.{Request}
use Rattle.cl_types.specs.declared.reply.Part.{Part}
use Rattle.cl_types.specs.declared.limits.TheConstants.{HELD_CALLS, LAST_RESEND, TIMEOUT}
use Rattle.cl_types.specs.declared.numbers.ClientNo.{ClientNo}
use Rattle.client_core.specs.declared.ids.TheConstants.{LAST_FIRST_ID}
use Rattle.client_model.specs.Apart.{AreApart}
use Rattle.frame_model.specs.Faults.{first_fault}
use Rattle.client_model.specs.Issue.{call_faults}
use Rattle.client_model.specs.Client.{ClientState, ClientCall, ClientPart, Standing, Unsent, InFlight, Over, Sending, parts_of, parts_named, flights, finished, held, new_client}

-- a client that has issued no call, whose first sending has this id
abbrev pub client_from : ClientNo → (pid first : ℕ) → ClientState
client_from c pid first = record (new_client c pid) { sendings = first - 1 }

-- each number is above n and above those before it, and none above the last
abbrev pub AreRising : ℕ → ℕ → List ℕ → Type 0
AreRising n last [] = n ≤ last
AreRising n last (m ∷ ms) = (n < m) × AreRising m last ms

-- the ids under which the parts in flight were first sent
abbrev pub origs : ClientState → List ℕ
origs s = map (λ f. f.orig) (flights s)

-- how many more times a part may be sent
abbrev pub sendings_left : Standing → ℕ
sendings_left Unsent = 4
sendings_left (InFlight orig first last) = (first + LAST_RESEND - last) / TIMEOUT
sendings_left (Over ending) = 0

-- the name and the request of a part
abbrev pub name_of : ClientPart → Part × Request
name_of p = (p.part, p.request)

-- a good call that has not ended, with the parts that it is cut into
pub record IsHeld (k : ClientCall) : Type 0 where
  pub good : first_fault (call_faults k.call) ≡ None
  pub parts : map name_of k.parts ≡ parts_named k.number k.call
  pub going : finished k ≡ None

-- what holds of a client's state at every moment
pub record IsValid (s : ClientState) : Type 0 where
  -- numbers rise in order of issue, and none is above the latest
  pub rising : AreRising 0 s.issued (map (λ k. k.number) s.calls)
  pub calls : Each IsHeld s.calls
  pub few : held s ≤ HELD_CALLS
  -- each call that it holds was issued
  pub counted : held s ≤ s.issued
  -- the id of a first sending names a part in flight
  pub apart : AreApart (origs s)
  pub ids : Each (λ id. (1 ≤ id) × (id ≤ s.sendings)) (origs s)
  -- a call has at most 65 parts, and each is sent at most four times, so no id runs out
  pub sendings : s.sendings + sum_by (λ p. sendings_left p.standing) (parts_of s.calls) ≤ LAST_FIRST_ID + 260 * s.issued
