-- The state of a client, read off the lines of an account.
use Rattle.std.specs.Prelude.{ℕ, zero, suc, slice_get, ◌==◌, Bool, true, false, ◌&&◌, not, List, [], ◌∷◌, length, map, filter, filter_map, flat_map, count_by, Option, Some, None, is_some, if◌then◌else◌, find, option_map, option_and_then, unwrap_or}
use Rattle.std.specs.List.{list_any, enumerate_from}
use Rattle.cl_types.specs.declared.numbers.ClientNo.{ClientNo}
use Rattle.cl_types.specs.declared.call.Call.{Call}
use Rattle.cl_types.specs.declared.config.Config.{Config}
use Rattle.cl_types.specs.declared.schedule.CallText.TheVariants as text
use Rattle.cl_types.specs.declared.schedule.Event.{Event}
use Rattle.cl_types.specs.declared.schedule.Event.TheVariants as event
use Rattle.cl_types.specs.declared.line.Did.{Did}
use Rattle.cl_types.specs.declared.line.Did.TheVariants as did
use Rattle.cl_types.specs.declared.reply.Part.{Part}
use Rattle.cl_types.specs.declared.request.Request.{Request}
use Rattle.cl_types.specs.Parts.{same_part}
use Rattle.client_model.specs.Cut.{cut, Ending, Replied, GivenUp}
use Rattle.client_model.specs.Order.{is_fence}
use Rattle.trace.specs.Account.{Account, Line, Load, Asks, Answers, frame_at}
use Rattle.client_model.specs.Client.{Standing, Unsent, InFlight, Over, ClientState, ClientCall, call_standing, finished}
use Rattle.cl_types.specs.Parts.{same_client}
use Rattle.cl_types.specs.Written.{call_of}

-- the process of a client of the configuration, and 0 where it has no such client
abbrev pub pid_of : Config → ClientNo → ℕ
pid_of config c = unwrap_or (option_map (λ entry. entry.1) (find (λ entry. same_client c entry.0) config.clients)) 0

-- ---- calls
-- the text tells that a call was issued
abbrev pub says_issued : Did → Bool
says_issued (did.Issued client number) = true
says_issued other = false

-- the call that the client issued on a line of this event and these texts, where it did
abbrev pub issued_on : ClientNo → Event → List Did → Option Call
issued_on c (event.Call client text) texts = if same_client c client && list_any says_issued texts then Some (call_of text) else None
issued_on c other texts = None

-- the calls that a client has issued, in order
abbrev pub issued : Account → ClientNo → List Call
issued a c = filter_map (λ line. issued_on c line.event line.texts) a.lines

-- the calls that a client has issued, each with its number from 1
abbrev pub numbered : Account → ClientNo → List (ℕ × Call)
numbered a c = enumerate_from 1 (issued a c)

-- the call of a number, from 1
abbrev pub call_at : List Call → ℕ → Option Call
call_at calls zero = None
call_at calls (suc n) = slice_get calls n

-- the request of this part of the call, where it has such a part
abbrev pub part_request : Part → Call → Option Request
part_request p k = slice_get (cut k) p.part

-- the request of a part of an issued call, by the number of the call and the part's place in it
abbrev pub request_of_part : Account → ClientNo → Part → Option Request
request_of_part a c p = option_and_then (part_request p) (call_at (issued a c) p.call.0)

-- ---- what the texts say of one part
-- what f reads off the texts of one line, given its moment
abbrev pub texts_on : {A : Type 0} → (ℕ → Did → Option A) → Line → List A
texts_on f line = filter_map (f line.moment) line.texts

-- what f reads off the texts of all lines, given the moment of each
abbrev pub texts_with : {A : Type 0} → Account → (ℕ → Did → Option A) → List A
texts_with a f = flat_map (texts_on f) a.lines

-- the first item, where there is one
abbrev pub first_of : {A : Type 0} → List A → Option A
first_of [] = None
first_of (x ∷ xs) = Some x

-- the last item, and x where there is none
abbrev pub last_of : {A : Type 0} → A → List A → A
last_of x [] = x
last_of x (y ∷ ys) = last_of y ys

-- the id and the moment where the text tells the first sending of the part
abbrev pub first_sending : ClientNo → Part → ℕ → Did → Option (ℕ × ℕ)
first_sending c p t (did.Sent frame client part id) = if same_client c client && same_part p part then Some (id, t) else None
first_sending c p t other = None

-- the id under which the part was first sent, and the moment, where it was sent
abbrev pub first_sent : Account → ClientNo → Part → Option (ℕ × ℕ)
first_sent a c p = first_of (texts_with a (first_sending c p))

-- the moment where the text tells a sending of the part, the first or another
abbrev pub sending_on : ClientNo → Part → ℕ → Did → Option ℕ
sending_on c p t (did.Sent frame client part id) = if same_client c client && same_part p part then Some t else None
sending_on c p t (did.Again frame client part id orig) = if same_client c client && same_part p part then Some t else None
sending_on c p t other = None

-- the moments of all sendings of the part, in order
abbrev pub moments_sent : Account → ClientNo → Part → List ℕ
moments_sent a c p = texts_with a (sending_on c p)

-- how a part left flight, as a text says it: by the reply in a frame, or given up at a moment
pub data PartEnd : Type 0 where
  TookFrame : (frame : ℕ) → PartEnd
  GaveUpAt : (moment : ℕ) → PartEnd

-- how the part left flight, where the text tells it
abbrev pub part_end : ClientNo → Part → ℕ → Did → Option PartEnd
part_end c p t (did.Took frame client part) = if same_client c client && same_part p part then Some (TookFrame frame) else None
part_end c p t (did.GaveUp client part) = if same_client c client && same_part p part then Some (GaveUpAt t) else None
part_end c p t other = None

-- how the part left flight, where it did
abbrev pub end_of_part : Account → ClientNo → Part → Option PartEnd
end_of_part a c p = first_of (texts_with a (part_end c p))

-- the reply that a frame carries
abbrev pub replied : Load → Option Ending
replied (Asks items) = None
replied (Answers head reply if_taken) = Some (Replied reply)

-- what came of a part that left flight so: the reply in the frame, or the two moments of giving up
abbrev pub ending_by : Account → ClientNo → Part → PartEnd → Option Ending
ending_by a c p (TookFrame frame) = option_and_then (λ f. replied f.load) (frame_at a frame)
ending_by a c p (GaveUpAt moment) = option_map (λ first. GivenUp first.1 moment) (first_sent a c p)

-- what came of a part, where it left flight
abbrev pub ending : Account → ClientNo → Part → Option Ending
ending a c p = option_and_then (ending_by a c p) (end_of_part a c p)

-- how a part stands, by what came of it, its first sending, and the moments of all
abbrev pub standing : Option Ending → Option (ℕ × ℕ) → List ℕ → Standing
standing (Some e) first moments = Over e
standing None None moments = Unsent
standing None (Some (orig, first)) moments = InFlight orig first (last_of first moments)

-- how a part stands, by the lines of the account
abbrev pub standing_at : Account → ClientNo → Part → Standing
standing_at a c p = standing (ending a c p) (first_sent a c p) (moments_sent a c p)

-- ---- ends
-- the text tells that a Fence ended
abbrev pub says_fence_ended : Did → Bool
says_fence_ended did.FenceEnded = true
says_fence_ended other = false

-- the line tells the end of the client's Fence of number n
abbrev pub ends_fence : ClientNo → ℕ → Line → Bool
ends_fence c n line = list_any says_fence_ended line.texts && elim line.ended [ None ↦ false | Some e ↦ same_client c e.client && e.call.0 == n ]

-- each part was taken or given up, or for a Fence its line of the end stands
abbrev pub has_ended : Account → ClientNo → ClientCall → Bool
has_ended a c k = if is_fence k.call then list_any (ends_fence c k.number) a.lines else is_some (finished k)

-- ---- numbers
-- the text tells that the client sent a part, for the first time or again
abbrev pub is_sending : ClientNo → Did → Bool
is_sending c (did.Sent frame client part id) = same_client c client
is_sending c (did.Again frame client part id orig) = same_client c client
is_sending c other = false

-- how many sendings of parts a client has made
abbrev pub sendings : Account → ClientNo → ℕ
sendings a c = count_by (is_sending c) (flat_map (λ line. line.texts) a.lines)

-- the moment of a line, where it polls the client
abbrev pub polled_on : ClientNo → ℕ → Event → Option ℕ
polled_on c t (event.Poll client) = if same_client c client then Some t else None
polled_on c t other = None

-- the moment of the last line that polled the client, 0 where none did
abbrev pub last_polled : Account → ClientNo → ℕ
last_polled a c = last_of 0 (filter_map (λ line. polled_on c line.moment line.event) a.lines)

-- ---- the state
-- The client that stands in an account. It has handed out all that ended, since a line tells the call that ends by it.
abbrev pub client_at : Config → Account → ClientNo → ClientState
client_at config a c = record {
  client = c;
  pid = pid_of config c;
  issued = length (issued a c);
  sendings = sendings a c;
  calls = filter (λ k. not (has_ended a c k)) (map (call_standing (standing_at a c)) (numbered a c));
  ended = [];
  last = last_polled a c;
}
