-- What a history is to be, read off the account that it stands in.
use Rattle.std.specs.Prelude.{ℕ, ◌-◌, ◌<◌, ◌≡◌, Bool, true, false, List, [], ◌∷◌, map, Option, Some, None, option_map, slice_get, Contains, ◌⊎◌}
use Rattle.std.specs.List.{AllByRecursion as Each}
use Rattle.cl_types.specs.Requests.{is_changing}
use Rattle.cl_types.specs.declared.numbers.ClientNo.{ClientNo}
use Rattle.cl_types.specs.declared.call.Call.{Call}
use Rattle.cl_types.specs.declared.config.Config.{Config}
use Rattle.cl_types.specs.declared.frame.How.{How}
use Rattle.cl_types.specs.declared.frame.How.TheVariants.{Executed, Looked}
use Rattle.cl_types.specs.declared.reply.Part.{Part}
use Rattle.cl_types.specs.declared.reply.Answer.{Answer}
use Rattle.cl_types.specs.declared.reply.Answer.TheVariants as answer
use Rattle.cl_types.specs.declared.schedule.Event.{Event}
use Rattle.cl_types.specs.declared.schedule.Event.TheVariants as event
use Rattle.cl_types.specs.declared.line.Did.{Did}
use Rattle.cl_types.specs.declared.line.Did.TheVariants as did
use Rattle.cl_types.specs.declared.line.EndedCall.{EndedCall}
use Rattle.cl_types.specs.declared.line.Entry.{Entry}
use Rattle.cl_types.specs.Times.{is_live}
use Rattle.client_model.specs.Cut.{Ending, Replied, combine, answer_bytes}
use Rattle.client_model.specs.Order.{depends}
use Rattle.client_model.specs.Client.{every, parts_named}
use Rattle.trace.specs.Account.{Account, Line, Frame, Carried, frame_at, items_of, is_before, memory_at}
use Rattle.trace.specs.Clients.{issued, call_at, first_sent, request_of_part, pid_of}
use Rattle.trace.specs.Events.{record_of, on_peek}
use Rattle.frame_model.specs.Frames.{status_in}

-- ---- in order
-- no later entry of the list is at an earlier line and position
abbrev pub IsInOrder : List Entry → Type 0
IsInOrder [] = Unit {0}
IsInOrder (e ∷ es) = Each (λ (later : Entry). is_before e.line e.position later ≡ false) es × IsInOrder es

-- ---- stands
-- the event hands a frame to its end
abbrev pub is_delivery : Event → Bool
is_delivery (event.Deliver frame) = true
is_delivery event.DeliverNext = true
is_delivery other = false

-- the item is this part of this client
pub record CarriesPart (c : ClientNo) (p : Part) (i : Carried) : Type 0 where
  pub client : c ≡ i.item.head.client
  pub part : p ≡ i.part

-- the text tells a reply to the part, so that the node was not busy
abbrev pub Handles : ClientNo → Part → Did → Type 0
Handles c p (did.Handled frame client part how status reply) = (client ≡ c) × (part ≡ p)
Handles c p other = ⊥

-- no earlier line handled the part
abbrev pub IsFirst : Account → Line → ClientNo → Part → Type 0
IsFirst a line c p = Each (λ (other : Line). other.number < line.number → Each (λ (d : Did). Handles c p d → ⊥) other.texts) a.lines

-- the client took the reply of this frame for the part
abbrev pub IsTaken : Account → ℕ → ClientNo → Part → Type 0
IsTaken a frame c p = (line : Line) × Contains a.lines line × Contains line.texts (did.Took frame c p)

-- the entry stands at a delivery of a live frame that carries its part at its position
pub record StandsAt (a : Account) (e : Entry) : Type 0 where
  -- a line that delivers
  pub line : Line
  pub there : Contains a.lines line
  pub number : line.number ≡ e.line
  pub delivers : is_delivery line.event ≡ true
  -- a live frame, with the part at its position
  pub frame_number : ℕ
  pub frame : Frame
  pub is_frame : frame_at a frame_number ≡ Some frame
  pub live : is_live line.moment frame.moment ≡ true
  pub item : Carried
  pub at_position : slice_get (items_of frame.load) e.position ≡ Some item
  pub carries : CarriesPart e.client e.part item
  -- the item is the entry's: its request, by its process, under the id under which the part was first sent
  pub request : item.item.request ≡ e.request
  pub process : item.item.head.pid ≡ e.pid
  pub first_moment : ℕ
  pub first : first_sent a e.client e.part ≡ Some (item.item.head.orig, first_moment)
  -- and tells how it was handled, with the status of the entry's reply
  pub how : How
  pub reply_frame : ℕ
  pub text : slice_get line.texts e.position ≡ Some (did.Handled frame_number e.client e.part how (status_in e.reply) reply_frame)
  -- a changing part: the first delivery at which the node was not busy
  pub changing : is_changing e.request ≡ true → (how ≡ Executed) × IsFirst a line e.client e.part
  -- a reading part: the one that made the reply which the client took
  pub reading : is_changing e.request ≡ false → (how ≡ Looked) × IsTaken a reply_frame e.client e.part

-- each entry of the history stands at such a delivery
abbrev pub Stands : Account → Type 0
Stands a = Each (StandsAt a) a.history

-- ---- once: each part of an answered call has exactly one entry, and any other part at most one
-- the entry is of a part of an issued call, with its request, by its client's process
pub record IsOwn (config : Config) (a : Account) (e : Entry) : Type 0 where
  pub request : request_of_part a e.client e.part ≡ Some e.request
  pub process : e.pid ≡ pid_of config e.client

-- two entries aren't of one part
abbrev pub Differ : Entry → Entry → Type 0
Differ e other = e.client ≡ other.client → e.part ≡ other.part → ⊥

-- no two entries are of one part
abbrev pub AreDistinct : List Entry → Type 0
AreDistinct [] = Unit {0}
AreDistinct (e ∷ es) = Each (Differ e) es × AreDistinct es

-- the reply of a part's entry
abbrev pub reply_in_history : List Entry → ClientNo → Part → Option Ending
reply_in_history h c p = option_map (λ e. Replied e.reply) (record_of h c p)

-- the call timed out
abbrev pub IsTimedOut : Answer → Type 0
IsTimedOut (answer.TimedOut first_sent now) = Unit {0}
IsTimedOut other = ⊥

-- each part of the call has an entry, and the replies of these, part by part, make the answer and its bytes
pub record AnswerStands (a : Account) (ended : EndedCall) : Type 0 where
  pub call : Call
  pub is_call : call_at (issued a ended.client) ended.call.0 ≡ Some call
  pub endings : List Ending
  pub all : every (map (λ p. reply_in_history a.history ended.client p.0) (parts_named ended.call.0 call)) ≡ Some endings
  pub made : ended.answer ≡ combine call endings
  pub bytes : ended.bytes ≡ answer_bytes (combine call endings) endings

-- a call that ended timed out, or has the answer that the entries of its parts make
abbrev pub EndStands : Account → Option EndedCall → Type 0
EndStands a None = Unit {0}
EndStands a (Some ended) = IsTimedOut ended.answer ⊎ AnswerStands a ended

-- each entry is of an issued call's part, no part has two, and every answer but timed out is what the entries make
pub record Once (config : Config) (a : Account) : Type 0 where
  pub own : Each (IsOwn config a) a.history
  pub distinct : AreDistinct a.history
  pub answers : Each (λ (line : Line). EndStands a line.ended) a.lines

-- ---- ordered
-- the later part's call depends on the earlier part's
pub record DependsOn (a : Account) (c : ClientNo) (p q : Part) : Type 0 where
  pub earlier : p.call.0 < q.call.0
  pub depend : depends (issued a c) (p.call.0 - 1) (q.call.0 - 1) ≡ true

-- where the later part's call depends on the earlier part's, both of one client, its entry stands later
abbrev pub Precedes : Account → Entry → Entry → Type 0
Precedes a e later = e.client ≡ later.client → DependsOn a e.client e.part later.part → is_before later.line later.position e ≡ true

-- the entries of a client's dependent calls stand in order of issue
abbrev pub Ordered : Account → Type 0
Ordered a = Each (λ (e : Entry). Each (Precedes a e) a.history) a.history

-- ---- peeks
-- where the event is a peek, its line tells the run's memory there
abbrev pub ShowsMemory : Config → List Entry → Line → Event → Type 0
ShowsMemory config h line (event.Peek pid addr len) = line.texts ≡ (on_peek (memory_at config h line.number 0) pid addr len).texts
ShowsMemory config h line other = Unit {0}

-- every peek tells the run's memory on its line
abbrev pub Peeks : Config → Account → Type 0
Peeks config a = Each (λ (line : Line). ShowsMemory config a.history line line.event) a.lines
