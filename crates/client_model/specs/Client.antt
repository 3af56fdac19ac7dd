-- A client as a machine of its own: what it holds, and what each of its calls leaves.
use Rattle.std.specs.Prelude.{ℕ, ◌+◌, ◌==◌, Bool, true, false, ◌&&◌, not, nat_lt, List, [], ◌∷◌, ◌++◌, length, map, drop, take, filter, filter_map, flat_map, Option, Some, None, is_none, if◌then◌else◌, slice_get, find, option_map, unwrap_or}
use Rattle.std.specs.List.{enumerate_from}
use Rattle.cl_types.specs.declared.numbers.ClientNo.{ClientNo}
use Rattle.cl_types.specs.declared.frame.Head.{Head}
use Rattle.cl_types.specs.declared.call.Call.{Call}
use Rattle.cl_types.specs.declared.call.Call.TheVariants as call
use Rattle.cl_types.specs.declared.request.Request.{Request}
use Rattle.cl_types.specs.declared.reply.Part.{Part}
use Rattle.cl_types.specs.declared.reply.Reply.{Reply}
use Rattle.cl_types.specs.declared.reply.Answer.{Answer}
use Rattle.cl_types.specs.declared.reply.Answer.TheVariants as answer
use Rattle.cl_types.specs.declared.reply.Value.TheVariants as value
use Rattle.cl_types.specs.declared.line.EndedCall.{EndedCall}
use Rattle.cl_types.specs.Bytes.{zeros}
use Rattle.cl_types.specs.declared.limits.TheConstants.{PARTS_IN_FLIGHT}
use Rattle.cl_types.specs.Parts.{same_part}
use Rattle.cl_types.specs.Times.{is_old, is_due}
use Rattle.client_model.specs.Cut.{cut, Ending, Replied, GivenUp, combine, handed_back}
use Rattle.client_model.specs.Order.{is_fence, Footprint, footprint, may_go, ready_in}

-- ---- the state
-- how a part stands: in flight under the id of its first sending, when first sent, and when last
pub data Standing : Type 0 where
  Unsent : Standing
  InFlight : (orig first last : ℕ) → Standing
  Over : (ending : Ending) → Standing

-- a part of a call that has not ended: its name, its request, and how it stands
pub record ClientPart : Type 0 where
  pub part : Part
  pub request : Request
  pub standing : Standing

-- A call that has not ended. Its buffer is of zeros here: replies are put into it as they come.
pub record ClientCall : Type 0 where
  pub number : ℕ
  pub call : Call
  pub parts : List ClientPart

-- a call that has ended: its answer, and the call as it is handed back, its buffer filled
pub record Finished : Type 0 where
  pub number : ℕ
  pub answer : Answer
  pub call : Call

-- a client: who it is, what it has issued and sent, the calls that it holds, and its latest moment
pub record ClientState : Type 0 where
  pub client : ClientNo
  pub pid : ℕ
  -- how many calls it has issued, and how many sendings of parts it has made
  pub issued : ℕ
  pub sendings : ℕ
  -- the calls that have not ended, in order of issue
  pub calls : List ClientCall
  -- those that have ended and are not yet handed out, as they ended
  pub ended : List Finished
  -- the latest moment that it was given
  pub last : ℕ

-- the client that has issued nothing and was given no moment
abbrev pub new_client : ClientNo → ℕ → ClientState
new_client c pid = record { client = c; pid = pid; issued = 0; sendings = 0; calls = []; ended = []; last = 0 }

-- ---- what is read off it
-- a part in flight
pub record Sending : Type 0 where
  pub part : Part
  pub request : Request
  pub orig : ℕ
  pub first : ℕ
  pub last : ℕ

-- a part that stands in flight, as a sending
abbrev pub flight : Part → Request → Standing → Option Sending
flight p r (InFlight orig first last) = Some (record { part = p; request = r; orig = orig; first = first; last = last })
flight p r other = None

-- the part has not been sent
abbrev pub is_unsent : Standing → Bool
is_unsent Unsent = true
is_unsent other = false

-- the parts of these calls, in order of issue and then of part
abbrev pub parts_of : List ClientCall → List ClientPart
parts_of calls = flat_map (λ k. k.parts) calls

-- the parts in flight, in order of issue and then of part
abbrev pub flights : ClientState → List Sending
flights s = filter_map (λ p. flight p.part p.request p.standing) (parts_of s.calls)

-- the part in flight whose first sending had this id, where there is one
abbrev pub flight_under : ℕ → ClientState → Option Sending
flight_under orig s = find (λ f. f.orig == orig) (flights s)

-- the calls that have not ended, by what their order rests on
abbrev pub prints : List ClientCall → List (ℕ × Footprint)
prints calls = map (λ k. (k.number, footprint k.call)) calls

-- a call is ready where it waits for no earlier one that has not ended
abbrev pub ready : ClientState → List ClientCall
ready s = filter (λ k. may_go (prints s.calls) (k.number, footprint k.call)) s.calls

-- the unsent parts of ready calls
abbrev pub sendable : ClientState → List ClientPart
sendable s = filter (λ p. is_unsent p.standing) (parts_of (ready s))

-- the call of number n has not ended and is ready
abbrev pub ready_at : ClientState → ℕ → Bool
ready_at s n = ready_in (prints s.calls) n

-- the id of the next sending
abbrev pub next_id : ClientState → ℕ
next_id s = s.sendings + 1

-- how many calls a client holds: those that have not ended, and those that are not yet handed out
abbrev pub held : ClientState → ℕ
held s = length s.calls + length s.ended

-- ---- a call is issued
-- the call with a buffer of zeros
abbrev pub emptied : Call → Call
emptied (call.Read addr buf) = call.Read addr (zeros (length buf))
emptied (call.Offload number op bytes buf) = call.Offload number op bytes (zeros (length buf))
emptied other = other

-- part i of the call of number n
abbrev pub named : ℕ → ℕ × Request → Part × Request
named n q = (record { call = record { 0 = n }; part = q.0 }, q.1)

-- the parts of the call of number n
abbrev pub parts_named : ℕ → Call → List (Part × Request)
parts_named n k = map (named n) (enumerate_from 0 (cut k))

-- the part of this name and request, standing as is told for it
abbrev pub standing_so : (Part → Standing) → Part × Request → ClientPart
standing_so how p = record { part = p.0; request = p.1; standing = how p.0 }

-- the call of number n, its parts standing as is told for them
abbrev pub call_standing : (Part → Standing) → ℕ × Call → ClientCall
call_standing how k = record { number = k.0; call = emptied k.1; parts = map (standing_so how) (parts_named k.0 k.1) }

-- the client after it took the call: under the next number, and no part of it sent
abbrev pub after_issue : Call → ClientState → ClientState
after_issue k s = record s { issued = s.issued + 1; calls = s.calls ++ call_standing (λ p. Unsent) (s.issued + 1, k) ∷ [] }

-- ---- a part changes how it stands; each step is total, so that no law asks which rule chose the part
-- the part, its standing changed where it is this one
abbrev pub part_changed : Part → (Standing → Standing) → ClientPart → ClientPart
part_changed p f q = record q { standing = if same_part q.part p then f q.standing else q.standing }

-- the call, the standing of this part changed
abbrev pub call_changed : Part → (Standing → Standing) → ClientCall → ClientCall
call_changed p f k = record k { parts = map (part_changed p f) k.parts }

-- a part in flight is over as one that was given up at moment t; any other stands as it did
abbrev pub given_up : ℕ → Standing → Standing
given_up t (InFlight orig first last) = Over (GivenUp first t)
given_up t other = other

-- a part is over by its reply; one that was over stays so
abbrev pub answered : Reply → Standing → Standing
answered reply (Over e) = Over e
answered reply other = Over (Replied reply)

-- ---- a part is over, and its call ends where all are
-- all of them, where all are there
abbrev pub every : {A : Type 0} → List (Option A) → Option (List A)
every [] = Some []
every (None ∷ xs) = None
every (Some x ∷ xs) = option_map (λ ys. x ∷ ys) (every xs)

-- what came of a part that is over
abbrev pub ending_of : Standing → Option Ending
ending_of (Over e) = Some e
ending_of other = None

-- what came of each part of a call, where all are over
abbrev pub all_over : ClientCall → Option (List Ending)
all_over k = every (map (λ p. ending_of p.standing) k.parts)

-- the call as it ends by what came of its parts
abbrev pub finished_with : ClientCall → List Ending → Finished
finished_with k endings = record { number = k.number; answer = combine k.call endings; call = handed_back k.call endings }

-- what a call of which each part is over has come to; a Fence has no part, and ends by a poll
abbrev pub finished : ClientCall → Option Finished
finished k = if is_fence k.call then None else option_map (finished_with k) (all_over k)

-- the client after each call of which all parts are over has ended
abbrev pub with_ends : ClientState → ClientState
with_ends s = record s { calls = filter (λ k. is_none (finished k)) s.calls; ended = s.ended ++ filter_map finished s.calls }

-- the client after a part left flight: it was given up, or its reply was taken
abbrev pub after_part : Part → (Standing → Standing) → ClientState → ClientState
after_part p f s = with_ends (record s { calls = map (call_changed p f) s.calls })

-- the client after it took this reply for the part
abbrev pub after_reply : Part → Reply → ClientState → ClientState
after_reply p reply s = after_part p (answered reply) s

-- ---- a poll
-- a part that goes out: under which id, and for which first one
pub record Outgoing : Type 0 where
  pub part : Part
  pub request : Request
  pub id : ℕ
  pub orig : ℕ
  pub again : Bool

-- the head under which a part goes out
abbrev pub head_of : ClientNo → (pid : ℕ) → Outgoing → Head
head_of c pid o = record { client = c; pid = pid; id = o.id; orig = o.orig }

-- what a poll does: it gives up a part, ends a Fence, sends a frame of items, or does nothing
pub data Polled : Type 0 where
  GivesUp : (flight : Sending) → Polled
  EndsFence : (call : ℕ) → Polled
  Sends : (items : List Outgoing) → Polled
  Idles : Polled

-- 1. a part in flight that is old enough is given up, the first in order of issue and then of part
abbrev pub to_give_up : ClientState → ℕ → Option Polled
to_give_up s t = option_map GivesUp (find (λ f. is_old t f.first) (flights s))

-- 2. a Fence whose earlier calls have all ended ends: it is the first call that has not
abbrev pub fence_first : List ClientCall → Option Polled
fence_first [] = None
fence_first (k ∷ calls) = if is_fence k.call then Some (EndsFence k.number) else None

-- a part in flight, as it goes out again under this id
abbrev pub again : ℕ → Sending → Outgoing
again id f = record { part = f.part; request = f.request; id = id; orig = f.orig; again = true }

-- 3. a part in flight that is due is sent again, under a new id
abbrev pub to_send_again : ClientState → ℕ → Option Polled
to_send_again s t = option_map (λ f. Sends (again (next_id s) f ∷ [])) (find (λ f. is_due t f.first f.last) (flights s))

-- an unsent part, as it goes out under this id, which is its orig too
abbrev pub anew : ℕ → ClientPart → Outgoing
anew id p = record { part = p.part; request = p.request; id = id; orig = id; again = false }

-- fewer than 64 parts are in flight
abbrev pub has_room_in_flight : ClientState → Bool
has_room_in_flight s = nat_lt (length (flights s)) PARTS_IN_FLIGHT

-- 4. an unsent part of a ready call is sent, where there is room in flight
abbrev pub to_send : ClientState → Option Polled
to_send s = if has_room_in_flight s then option_map (λ p. Sends (anew (next_id s) p ∷ [])) (slice_get (sendable s) 0) else None

-- the first item that is there
abbrev pub first_some : {A : Type 0} → List (Option A) → Option A
first_some [] = None
first_some (Some x ∷ xs) = Some x
first_some (None ∷ xs) = first_some xs

-- what a poll does: the first rule that applies, and else nothing
abbrev pub poll : ClientState → ℕ → Polled
poll s t = unwrap_or (first_some (to_give_up s t ∷ fence_first s.calls ∷ to_send_again s t ∷ to_send s ∷ [])) Idles

-- ---- after a poll
-- how a part stands after it went out at moment t
abbrev pub gone_out : ℕ → Outgoing → Standing → Standing
gone_out t o Unsent = if o.again then Unsent else InFlight o.id t t
gone_out t o (InFlight orig first last) = InFlight orig first t
gone_out t o (Over e) = Over e

-- the calls after these parts went out at moment t
abbrev pub sent_calls : ℕ → List Outgoing → List ClientCall → List ClientCall
sent_calls t [] calls = calls
sent_calls t (o ∷ os) calls = sent_calls t os (map (call_changed o.part (gone_out t o)) calls)

-- the call is the Fence of number n
abbrev pub is_fence_of : ℕ → ClientCall → Bool
is_fence_of n k = is_fence k.call && n == k.number

-- the client after what a poll at moment t does, but for its latest moment
abbrev pub after_polled : ℕ → Polled → ClientState → ClientState
after_polled t (GivesUp f) s = after_part f.part (given_up t) s
after_polled t (EndsFence n) s = record s {
  calls = filter (λ k. not (is_fence_of n k)) s.calls;
  ended = s.ended ++ record { number = n; answer = combine call.Fence []; call = call.Fence } ∷ [];
}
after_polled t (Sends items) s = record s { sendings = s.sendings + length items; calls = sent_calls t items s.calls }
after_polled t Idles s = s

-- the client given the moment t, which is its latest
abbrev pub at_moment : ℕ → ClientState → ClientState
at_moment t s = record s { last = t }

-- the client after a poll at moment t that does this
abbrev pub after_poll : ℕ → Polled → ClientState → ClientState
after_poll t p s = after_polled t p (at_moment t s)

-- ---- a call is handed out
-- the client after the call that ended first was handed out
abbrev pub after_done : ClientState → ClientState
after_done s = record s { ended = drop 1 s.ended }

-- the client after all calls that ended were handed out
abbrev pub handed_out : ClientState → ClientState
handed_out s = record s { ended = [] }

-- the buffer of a call, no bytes where it has none
abbrev pub buffer_of : Call → List ℕ
buffer_of (call.Read addr buf) = buf
buffer_of (call.Offload number op bytes buf) = buf
buffer_of other = []

-- the bytes of a filled buffer that the answer's length counts, and none for another answer
abbrev pub counted : Answer → Call → List ℕ
counted (answer.Done (value.Len n)) k = take n (buffer_of k)
counted other k = []

-- a call that ended, as a line tells it
abbrev pub told : ClientNo → Finished → EndedCall
told c f = record { client = c; call = record { 0 = f.number }; answer = f.answer; bytes = counted f.answer f.call }

-- the first of the ended calls as a line tells it, where there is one
abbrev pub end_told : ClientNo → List Finished → Option EndedCall
end_told c ended = option_map (told c) (slice_get ended 0)
