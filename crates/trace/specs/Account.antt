-- The account of a schedule: its event lines, frames and history, and what they show before a line.
use Rattle.std.specs.Prelude.{ℕ, zero, suc, ◌+◌, ◌==◌, Bool, true, false, ◌&&◌, ◌||◌, not, nat_lt, List, [], ◌∷◌, ◌++◌, length, filter, sum_by, count_by, Option, None, slice_get}
use Rattle.std.specs.List.{list_any}
use Rattle.cl_types.specs.declared.config.Config.{Config}
use Rattle.cl_types.specs.declared.frame.End.{End}
use Rattle.cl_types.specs.declared.frame.End.TheVariants as to
use Rattle.cl_types.specs.declared.frame.Head.{Head}
use Rattle.cl_types.specs.declared.reply.Reply.{Reply}
use Rattle.cl_types.specs.declared.schedule.Event.{Event}
use Rattle.cl_types.specs.declared.schedule.Event.TheVariants as event
use Rattle.cl_types.specs.declared.line.Did.{Did}
use Rattle.cl_types.specs.declared.line.Did.TheVariants as did
use Rattle.cl_types.specs.declared.line.EndedCall.{EndedCall}
use Rattle.cl_types.specs.declared.line.Entry.{Entry}
use Rattle.cl_types.specs.declared.reply.Part.{Part}
use Rattle.flat_model.specs.State.{FlatState, opening}
use Rattle.frame_model.specs.Frames.{Item}
use Rattle.flat_model.specs.Run.{after, changing_of}

-- ---- what an account has
-- a line: the event, what it did, and the call that ended by it
pub record Line : Type 0 where
  pub number : ℕ
  pub moment : ℕ
  pub event : Event
  pub texts : List Did
  pub ended : Option EndedCall

-- an item of a frame for the node, with the part that it is
pub record Carried : Type 0 where
  pub part : Part
  pub item : Item

-- What a frame carries: items for the node, or a reply to an item, with the entries that are made where the reply is
-- taken. Its bytes spell it, so no rule reads them back.
pub data Load : Type 0 where
  Asks : (items : List Carried) → Load
  Answers : (head : Head) → (reply : Reply) → (if_taken : List Entry) → Load

-- a frame that was sent: when, what it carries, its bytes, and on which line
pub record Frame : Type 0 where
  pub moment : ℕ
  pub load : Load
  pub bytes : List ℕ
  pub line : ℕ

-- the items that a frame carries to the node
abbrev pub items_of : Load → List Carried
items_of (Asks items) = items
items_of (Answers head reply if_taken) = []

-- the entries that are made where the reply in the frame is taken
abbrev pub if_taken_of : Load → List Entry
if_taken_of (Asks items) = []
if_taken_of (Answers head reply if_taken) = if_taken

-- the end that a frame goes to
abbrev pub end_of : Frame → End
end_of f = elim f.load [ Asks items ↦ to.Node | Answers head reply if_taken ↦ to.Client head.client ]

-- what became of a schedule: its event lines, the frames as they were sent, and the history by line and position
pub record Account : Type 0 where
  pub lines : List Line
  pub frames : List Frame
  pub history : List Entry

-- the account before the first event
abbrev pub nothing_yet : Account
nothing_yet = record { lines = []; frames = []; history = [] }

-- ---- time
-- by how many ticks time goes on at an event
abbrev pub ticks_of : Event → ℕ
ticks_of (event.Tick by) = by
ticks_of other = 0

-- the moment of a line: the ticks on the lines before it
abbrev pub now : Account → ℕ → ℕ
now a l = sum_by (λ line. ticks_of line.event) (filter (λ line. nat_lt line.number l) a.lines)

-- ---- frames, numbered from 1 in the order in which they are sent
-- the frame of number k, where one was sent
abbrev pub frame_at : Account → ℕ → Option Frame
frame_at a zero = None
frame_at a (suc k) = slice_get a.frames k

-- the number of the next frame that is sent
abbrev pub next_frame_number : Account → ℕ
next_frame_number a = length a.frames + 1

-- the event asks for the next frame
abbrev pub asks_next : Event → Bool
asks_next event.DeliverNext = true
asks_next event.Drop = true
asks_next other = false

-- the text tells that there was no next frame
abbrev pub found_none : Did → Bool
found_none did.NoFrame = true
found_none other = false

-- how many lines asked for the next frame and found one
abbrev pub taken_in_order : Account → ℕ
taken_in_order a = count_by (λ line. asks_next line.event && not (list_any found_none line.texts)) a.lines

-- ---- the memory and the records before a position of a line
-- the entry stands before position q of line l
abbrev pub is_before : ℕ → ℕ → Entry → Bool
is_before l q e = nat_lt e.line l || e.line == l && nat_lt e.position q

-- the entries before position q of line l
abbrev pub entries_before : List Entry → ℕ → ℕ → List Entry
entries_before h l q = filter (is_before l q) h

-- the state of the flat machine before position q of line l
abbrev pub memory_at : Config → List Entry → ℕ → ℕ → FlatState
memory_at c h l q = after (opening c.node) (entries_before h l q)

-- the changing entries before position q of line l
abbrev pub recorded : List Entry → ℕ → ℕ → List Entry
recorded h l q = changing_of (entries_before h l q)

-- a history with this entry in its place, by line and position
abbrev pub with_entry : Entry → List Entry → List Entry
with_entry e [] = e ∷ []
with_entry e (x ∷ h) = elim (is_before e.line e.position x) [ true ↦ x ∷ with_entry e h | false ↦ e ∷ x ∷ h ]

-- a history with these entries in their places
abbrev pub with_entries : List Entry → List Entry → List Entry
with_entries [] h = h
with_entries (e ∷ es) h = with_entries es (with_entry e h)

-- ---- what an event brings to an account
-- what an event brings: texts, the call that ended by it, frames and entries
pub record Effect : Type 0 where
  pub texts : List Did
  pub ended : Option EndedCall
  pub frames : List Frame
  pub entries : List Entry

-- one text, and nothing else
abbrev pub says : Did → Effect
says text = record { texts = text ∷ []; ended = None; frames = []; entries = [] }

-- the account with the frames and entries of an effect
abbrev pub joined_by : Account → Effect → Account
joined_by a e = record a { frames = a.frames ++ e.frames; history = with_entries e.entries a.history }

-- the account after an event on line l: its line, frames and entries are joined
abbrev pub extended : Account → ℕ → Event → Effect → Account
extended a l event e = record (joined_by a e) {
  lines = a.lines ++ record { number = l; moment = now a l; event = event; texts = e.texts; ended = e.ended } ∷ [];
}
