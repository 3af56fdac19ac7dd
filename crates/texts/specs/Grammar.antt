-- The grammar of schedules, with their first bad line.
use Rattle.std.specs.Prelude.{ℕ, ◌+◌, ◌==◌, Bool, true, false, ◌&&◌, ◌||◌, not, leb, nat_lt, List, [], ◌∷◌, ◌++◌, length, if◌then◌else◌, Option, Some, None, Result, Ok, Err, option_map, codes, is_some, is_none}
use Rattle.std.specs.List.{list_any, list_all}
use Rattle.cl_types.specs.declared.numbers.ClientNo.{ClientNo}
use Rattle.cl_types.specs.declared.call.AtomicOp.TheVariants.{Lock, Unlock, Add, Cas}
use Rattle.cl_types.specs.declared.config.NodeConfig.{NodeConfig}
use Rattle.cl_types.specs.declared.config.OffloadConfig.{OffloadConfig}
use Rattle.cl_types.specs.declared.config.OffloadConfig.TheVariants.{Kv}
use Rattle.cl_types.specs.declared.schedule.CallText.{CallText}
use Rattle.cl_types.specs.declared.schedule.CallText.TheVariants as call
use Rattle.cl_types.specs.declared.schedule.Event.{Event}
use Rattle.cl_types.specs.declared.schedule.Event.TheVariants as event
use Rattle.cl_types.specs.declared.schedule.Schedule.{Schedule}
use Rattle.cl_types.specs.declared.schedule.What.{What}
use Rattle.cl_types.specs.declared.schedule.What.TheVariants.{BadByte, BadSpacing, NodeExpected, ClientExpected, OutOfPlace, UnknownWord, MissingWord, UnknownClient, ClientRepeated, TooManyClients, BadLength, AFrame}
use Rattle.texts.specs.Text.{Text, lines_in, words_in, first_word, is_skipped, is_text, is_empty}
use Rattle.frame_model.specs.Faults.{first_fault}
use Rattle.texts.specs.Words.{most_written, Argument, Number, Address, Permission, BytesWord, Value, N, A, P, B, arguments_in}
use Rattle.cl_types.specs.declared.limits.TheConstants.{PAGE_BYTES, PART_BYTES, MOST_CLIENTS, MOST_TICKS}
use Rattle.cl_types.specs.declared.numbers.TheConstants.{LAST_PID}
use Rattle.cl_types.specs.Pages.{offset_of}
use Rattle.cl_types.specs.Ranges.{is_good_address}
use Rattle.cl_types.specs.Written.{expanded}
use Rattle.frame_model.specs.Frames.{request_fault, reply_fault}

-- what a line that isn't skipped says
pub data Statement : Type 0 where
  Node : (pages buckets ring retry : ℕ) → Statement
  Offload : (config : OffloadConfig) → Statement
  Client : (number : ClientNo) → (pid : ℕ) → Statement
  Happens : (event : Event) → Statement

-- a form of line: its arguments, and what the line says with their values
pub record Form : Type 0 where
  pub arguments : List Argument
  pub says : List Value → Option Statement

-- the form with these arguments, of which the line says this
abbrev pub form : List Argument → (List Value → Option Statement) → Result Form What
form arguments says = Ok (record { arguments = arguments; says = says })

-- a number of 16 bits
abbrev pub u16 : Argument
u16 = Number 0 65535

-- a number of 32 bits
abbrev pub u32 : Argument
u32 = Number 0 4294967295

-- the number of a process
abbrev pub process_number : Argument
process_number = Number 1 LAST_PID

-- a number of 64 bits
abbrev pub u64 : Argument
u64 = Number 0 18446744073709551615

-- a node line gives pages, buckets, ring and retry
abbrev pub node_says : List Value → Option Statement
node_says (N pages ∷ N buckets ∷ N ring ∷ N retry ∷ []) = Some (Node pages buckets ring retry)
node_says values = None

-- an offload line of a key-value store gives its records
abbrev pub kv_says : List Value → Option Statement
kv_says (N records ∷ []) = Some (Offload (Kv records))
kv_says values = None

-- a client line gives the client's number and its process
abbrev pub client_says : List Value → Option Statement
client_says (N number ∷ N pid ∷ []) = Some (Client (record { 0 = number }) pid)
client_says values = None

-- the line of an event with no argument
abbrev pub bare : Event → List Value → Option Statement
bare e [] = Some (Happens e)
bare e values = None

-- the line of an event with one number
abbrev pub of_number : (ℕ → Event) → List Value → Option Statement
of_number make (N n ∷ []) = Some (Happens (make n))
of_number make values = None

-- a peek line gives process, address and number of bytes
abbrev pub peek_says : List Value → Option Statement
peek_says (N pid ∷ A addr ∷ N len ∷ []) = Some (Happens (event.Peek pid addr len))
peek_says values = None

-- a garbage line for the node gives the bytes
abbrev pub garbage_node_says : List Value → Option Statement
garbage_node_says (B bytes ∷ []) = Some (Happens (event.GarbageNode bytes))
garbage_node_says values = None

-- a garbage line for a client gives its number and the bytes
abbrev pub garbage_client_says : List Value → Option Statement
garbage_client_says (N number ∷ B bytes ∷ []) = Some (Happens (event.GarbageClient (record { 0 = number }) bytes))
garbage_client_says values = None

-- ---- the calls
-- a form of call: its arguments, and the call with their values
pub record CallForm : Type 0 where
  pub arguments : List Argument
  pub calls : List Value → Option CallText

-- an Alloc of so many pages with a permission
abbrev pub alloc_call : List Value → Option CallText
alloc_call (N pages ∷ P perm ∷ []) = Some (call.Alloc pages perm)
alloc_call values = None

-- a Free at an address of so many pages
abbrev pub free_call : List Value → Option CallText
free_call (A addr ∷ N pages ∷ []) = Some (call.Free addr pages)
free_call values = None

-- a Read at an address of so many bytes
abbrev pub read_call : List Value → Option CallText
read_call (A addr ∷ N len ∷ []) = Some (call.Read addr len)
read_call values = None

-- a Write of bytes at an address
abbrev pub write_call : List Value → Option CallText
write_call (A addr ∷ B bytes ∷ []) = Some (call.Write addr bytes)
write_call values = None

-- a Lock at an address
abbrev pub lock_call : List Value → Option CallText
lock_call (A addr ∷ []) = Some (call.Atomic addr Lock)
lock_call values = None

-- an Unlock at an address
abbrev pub unlock_call : List Value → Option CallText
unlock_call (A addr ∷ []) = Some (call.Atomic addr Unlock)
unlock_call values = None

-- an Add of a number at an address
abbrev pub add_call : List Value → Option CallText
add_call (A addr ∷ N n ∷ []) = Some (call.Atomic addr (Add n))
add_call values = None

-- a Cas at an address: what it expects, and what it puts
abbrev pub cas_call : List Value → Option CallText
cas_call (A addr ∷ N expected ∷ N put ∷ []) = Some (call.Atomic addr (Cas expected put))
cas_call values = None

-- an Offload: its number, its operation, how many bytes are asked for, and those that are sent
abbrev pub offload_call : List Value → Option CallText
offload_call (N number ∷ N op ∷ N out ∷ B bytes ∷ []) = Some (call.Offload number op out bytes)
offload_call values = None

-- a Fence, with no argument
abbrev pub fence_call : List Value → Option CallText
fence_call [] = Some call.Fence
fence_call values = None

-- the forms of calls by their words
abbrev pub call_forms : List (Text × CallForm)
call_forms =
    (codes "alloc", record { arguments = u32 ∷ Permission ∷ []; calls = alloc_call })
    ∷ (codes "free", record { arguments = Address ∷ u32 ∷ []; calls = free_call })
    ∷ (codes "read", record { arguments = Address ∷ Number 0 most_written ∷ []; calls = read_call })
    ∷ (codes "write", record { arguments = Address ∷ BytesWord ∷ []; calls = write_call })
    ∷ (codes "lock", record { arguments = Address ∷ []; calls = lock_call })
    ∷ (codes "unlock", record { arguments = Address ∷ []; calls = unlock_call })
    ∷ (codes "add", record { arguments = Address ∷ u64 ∷ []; calls = add_call })
    ∷ (codes "cas", record { arguments = Address ∷ u64 ∷ u64 ∷ []; calls = cas_call })
    ∷ (codes "offload", record { arguments = Number 0 255 ∷ Number 0 255 ∷ Number 0 most_written ∷ BytesWord ∷ []; calls = offload_call })
    ∷ (codes "fence", record { arguments = []; calls = fence_call })
    ∷ []

-- what stands under this word, where something does
abbrev pub by_word : {A : Type 0} → Text → List (Text × A) → Option A
by_word word [] = None
by_word word (f ∷ fs) = if is_text word f.0 then Some f.1 else by_word word fs

-- the line of a call: its client and then the call's arguments
abbrev pub of_client : (List Value → Option CallText) → List Value → Option Statement
of_client calls (N number ∷ values) = option_map (λ c. Happens (event.Call (record { 0 = number }) c)) (calls values)
of_client calls values = None

-- the form of a call's line where the call's word is known
abbrev pub call_form : Option CallForm → Result Form What
call_form None = Err UnknownWord
call_form (Some f) = form (u16 ∷ f.arguments) (of_client f.calls)

-- the form that the words begin, and the words that are its arguments
abbrev pub Begun : Type 0
Begun = Result Form What × List Text

-- a word of the line's form is missing
abbrev pub missing : Begun
missing = (Err MissingWord, [])

-- a call line, whose third word tells the call
abbrev pub in_call : List Text → Begun
in_call (number ∷ word ∷ ws) = (call_form (by_word word call_forms), number ∷ ws)
in_call ws = missing

-- an offload line, whose second word tells its kind
abbrev pub in_offload : List Text → Begun
in_offload [] = missing
in_offload (word ∷ ws) = if is_text word (codes "kv") then (form (u64 ∷ []) kv_says, ws) else (Err UnknownWord, ws)

-- a deliver line: of the next frame, or of a frame by its number
abbrev pub in_deliver : List Text → Begun
in_deliver [] = missing
in_deliver (word ∷ ws) =
    if is_text word (codes "next") then (form [] (bare event.DeliverNext), ws) else (form (Number 1 4294967295 ∷ []) (of_number event.Deliver), word ∷ ws)

-- a garbage line: for the node, or for a client by its number
abbrev pub in_garbage : List Text → Begun
in_garbage [] = missing
in_garbage (word ∷ ws) =
    if is_text word (codes "node") then (form (BytesWord ∷ []) garbage_node_says, ws) else (form (u16 ∷ BytesWord ∷ []) garbage_client_says, word ∷ ws)

-- the forms of lines by their first words, with the words that follow
abbrev pub line_forms : List Text → List (Text × Begun)
line_forms ws =
    (codes "node", (form (u64 ∷ u64 ∷ u64 ∷ u64 ∷ []) node_says, ws))
    ∷ (codes "offload", in_offload ws)
    ∷ (codes "client", (form (u16 ∷ process_number ∷ []) client_says, ws))
    ∷ (codes "call", in_call ws)
    ∷ (codes "poll", (form (u16 ∷ []) (of_number (λ n. event.Poll (record { 0 = n }))), ws))
    ∷ (codes "deliver", in_deliver ws)
    ∷ (codes "drop", (form [] (bare event.Drop), ws))
    ∷ (codes "tick", (form (Number 1 MOST_TICKS ∷ []) (of_number event.Tick), ws))
    ∷ (codes "peek", (form (process_number ∷ Address ∷ Number 1 PART_BYTES ∷ []) peek_says, ws))
    ∷ (codes "show", (form (Number 1 4294967295 ∷ []) (of_number event.Show), ws))
    ∷ (codes "stat", (form [] (bare event.Stat), ws))
    ∷ (codes "garbage", in_garbage ws)
    ∷ []

-- what a line says with these values, or what is wrong with one of them; each form says something of the values of its
-- arguments, so its third case never comes
abbrev pub said_by : (List Value → Option Statement) → Result (List Value) What → Result Statement What
said_by says (Err what) = Err what
said_by says (Ok values) = elim (says values) [ None ↦ Err UnknownWord | Some said ↦ Ok said ]

-- what a line says in the form that it begins, or what is wrong with it
abbrev pub said_in_form : Begun → Result Statement What
said_in_form (Err what, ws) = Err what
said_in_form (Ok f, ws) = said_by f.says (arguments_in f.arguments ws)

-- what the words of a line say, or what is wrong with them
abbrev pub said_by_words : List Text → Result Statement What
said_by_words [] = Err UnknownWord
said_by_words (word ∷ ws) = elim (by_word word (line_forms ws)) [ None ↦ Err UnknownWord | Some begun ↦ said_in_form begun ]

-- ---- what was read so far
-- what was read so far: the header as it stands, the node, the clients, and the events with their lines
pub record Reading : Type 0 where
  pub header : List ℕ
  pub node : Option NodeConfig
  pub clients : List (ClientNo × ℕ)
  pub events : List (ℕ × Event)
  -- whether a line after the header was read
  pub begun : Bool

-- what was read before the first line
abbrev pub nothing_read : Reading
nothing_read = record { header = []; node = None; clients = []; events = []; begun = false }

-- the faults of a line by its bytes and its spaces: whether each holds
abbrev pub byte_faults : Text → List (Bool × What)
byte_faults line = (not (list_all (λ b. leb 32 b && leb b 126) line), BadByte) ∷ (list_any is_empty (words_in line), BadSpacing) ∷ []

-- the faults of a line by its bytes, its spaces and its place, after what was read: whether each holds
abbrev pub place_faults : Reading → Text → Text → List (Bool × What)
place_faults r line word =
    byte_faults line
    ++ (is_none r.node && not (is_text word (codes "node")), NodeExpected)
    ∷ (is_some r.node && is_empty r.clients && not (is_text word (codes "offload")) && not (is_text word (codes "client")), ClientExpected)
    ∷ (
      is_some r.node && is_text word (codes "node")
          || not (is_empty r.clients) && is_text word (codes "offload")
          || r.begun && is_text word (codes "client"),
      OutOfPlace,
    )
    ∷ []

-- a client of this number was given
abbrev pub is_given : Reading → ClientNo → Bool
is_given r c = list_any (λ given. given.0.0 == c.0) r.clients

-- the faults of an event after what was read: whether each holds
abbrev pub event_faults : Reading → Event → List (Bool × What)
event_faults r (event.Call client call) = (not (is_given r client), UnknownClient) ∷ []
event_faults r (event.Poll client) = (not (is_given r client), UnknownClient) ∷ []
event_faults r (event.Peek pid addr len) = (not (is_good_address addr) || nat_lt PAGE_BYTES (offset_of addr + len), BadLength) ∷ []
event_faults r (event.GarbageNode bytes) = (is_none (request_fault (expanded bytes)), AFrame) ∷ []
event_faults r (event.GarbageClient client bytes) = (not (is_given r client), UnknownClient) ∷ (is_none (reply_fault (expanded bytes)), AFrame) ∷ []
event_faults r other = []

-- the faults of what a line says after what was read: whether each holds
abbrev pub said_faults : Reading → Statement → List (Bool × What)
said_faults r (Client number pid) = (is_given r number, ClientRepeated) ∷ (leb MOST_CLIENTS (length r.clients), TooManyClients) ∷ []
said_faults r (Happens event) = event_faults r event
said_faults r other = []

-- the node's configuration with one more offload
abbrev pub with_offload : OffloadConfig → Option NodeConfig → Option NodeConfig
with_offload o None = None
with_offload o (Some c) = Some (record c { offloads = c.offloads ++ o ∷ [] })

-- what was read, with one good line more
abbrev pub read_more : Reading → ℕ → Text → Statement → Reading
read_more r n line (Node pages buckets ring retry) = record r {
  header = r.header ++ line ++ 10 ∷ [];
  node = Some (record { pages = pages; buckets = buckets; ring = ring; retry = retry; offloads = [] });
}
read_more r n line (Offload o) = record r { header = r.header ++ line ++ 10 ∷ []; node = with_offload o r.node }
read_more r n line (Client number pid) = record r { header = r.header ++ line ++ 10 ∷ []; clients = r.clients ++ (number, pid) ∷ [] }
read_more r n line (Happens event) = record r { events = r.events ++ (n, event) ∷ []; begun = true }

-- a bad line, by its number and what is wrong with it
abbrev pub Fault : Type 0
Fault = ℕ × What

-- what was read with a line that says this, or the line's fault
abbrev pub judged_said : Reading → ℕ → Text → Result Statement What → Result Reading Fault
judged_said r n line (Err what) = Err (n, what)
judged_said r n line (Ok said) = elim (first_fault (said_faults r said)) [ Some what ↦ Err (n, what) | None ↦ Ok (read_more r n line said) ]

-- what was read with a line that isn't skipped, or the line's first fault
abbrev pub judged_line : Reading → ℕ → Text → Result Reading Fault
judged_line r n line = elim (first_fault (place_faults r line (first_word (words_in line)))) [
  | Some what ↦ Err (n, what)
  | None ↦ judged_said r n line (said_by_words (words_in line))
]

-- what was read with one line more, or the line's first fault
abbrev pub line_read : Reading → ℕ → Text → Result Reading Fault
line_read r n line = elim (is_skipped line) [ true ↦ Ok r | false ↦ judged_line r n line ]

-- the schedule at the end of the input; a node or a client that is missing is told at line n
abbrev pub at_end : ℕ → Reading → Option NodeConfig → Result Schedule Fault
at_end n r None = Err (n, NodeExpected)
at_end n r (Some node) =
    if is_empty r.clients then Err (n, ClientExpected)
    else Ok (record { header = r.header; config = record { node = node; clients = r.clients }; events = r.events })

-- the schedule with the lines from number n on, or the first bad line
abbrev pub schedule_from : Reading → ℕ → List Text → Result Schedule Fault
schedule_from r n [] = at_end n r r.node
schedule_from r n (line ∷ lines) = elim (line_read r n line) [ Err fault ↦ Err fault | Ok more ↦ schedule_from more (n + 1) lines ]

-- the schedule that the bytes spell, or their first bad line
abbrev pub schedule_of : List ℕ → Result Schedule Fault
schedule_of bytes = schedule_from nothing_read 1 (lines_in bytes)

-- ---- a client's script: lines that are a call each
-- the call with these values, or what is wrong with one of them; here too the third case never comes
abbrev pub called_by : (List Value → Option CallText) → Result (List Value) What → Result CallText What
called_by calls (Err what) = Err what
called_by calls (Ok values) = elim (calls values) [ None ↦ Err UnknownWord | Some call ↦ Ok call ]

-- the call in this form that words spell, or what is wrong with them
abbrev pub call_in_form : List Text → Option CallForm → Result CallText What
call_in_form texts None = Err UnknownWord
call_in_form texts (Some f) = called_by f.calls (arguments_in f.arguments texts)

-- the call that words spell, or what is wrong with them
abbrev pub call_in_words : List Text → Result CallText What
call_in_words [] = Err UnknownWord
call_in_words (word ∷ texts) = call_in_form texts (by_word word call_forms)

-- the call that a line of a script spells, or the line's first fault
abbrev pub script_line : Text → Result CallText What
script_line line = elim (first_fault (byte_faults line)) [ Some what ↦ Err what | None ↦ call_in_words (words_in line) ]

-- the call of line n in front of those of the later lines, or the first bad line
abbrev pub script_more : ℕ → Result CallText What → Result (List (ℕ × CallText)) Fault → Result (List (ℕ × CallText)) Fault
script_more n (Err what) rest = Err (n, what)
script_more n (Ok call) (Err fault) = Err fault
script_more n (Ok call) (Ok calls) = Ok ((n, call) ∷ calls)

-- the calls of the lines from number n on, with their lines, or the first bad line
abbrev pub script_from : ℕ → List Text → Result (List (ℕ × CallText)) Fault
script_from n [] = Ok []
script_from n (line ∷ lines) = elim (is_skipped line) [ true ↦ script_from (n + 1) lines | false ↦ script_more n (script_line line) (script_from (n + 1) lines) ]

-- the calls of a script with their lines, or its first bad line
abbrev pub script_of : List ℕ → Result (List (ℕ × CallText)) Fault
script_of bytes = script_from 1 (lines_in bytes)
