-- The texts of words, lines and entries.
use Rattle.std.specs.Prelude.{ℕ, ◌==◌, false, List, [], ◌∷◌, ◌++◌, Option, Some, None, if◌then◌else◌, decimal, codes}
use Rattle.std.specs.Fmt.{digits}
use Rattle.hex.specs.Hex.{encode_lower}
use Rattle.cl_types.specs.declared.numbers.Addr.{Addr}
use Rattle.cl_types.specs.declared.numbers.ClientNo.{ClientNo}
use Rattle.cl_types.specs.declared.call.Perm.{Perm}
use Rattle.cl_types.specs.declared.call.Perm.TheVariants.{ReadOnly, WriteOnly, ReadWrite}
use Rattle.cl_types.specs.declared.call.AtomicOp.{AtomicOp}
use Rattle.cl_types.specs.declared.call.AtomicOp.TheVariants.{Lock, Unlock, Add, Cas}
use Rattle.cl_types.specs.declared.frame.BadFrame.{BadFrame}
use Rattle.cl_types.specs.declared.frame.BadFrame.TheVariants as bad
use Rattle.cl_types.specs.declared.frame.FieldName.{FieldName}
use Rattle.cl_types.specs.declared.frame.FieldName.TheVariants as name
use Rattle.cl_types.specs.declared.frame.How.{How}
use Rattle.cl_types.specs.declared.frame.How.TheVariants.{Executed, Repeated, Looked}
use Rattle.cl_types.specs.declared.frame.IssueFault.{IssueFault}
use Rattle.cl_types.specs.declared.frame.IssueFault.TheVariants as fault
use Rattle.cl_types.specs.declared.request.Request.{Request}
use Rattle.cl_types.specs.declared.request.Request.TheVariants as request
use Rattle.cl_types.specs.declared.reply.Answer.{Answer}
use Rattle.cl_types.specs.declared.reply.Answer.TheVariants as answer
use Rattle.cl_types.specs.declared.reply.Part.{Part}
use Rattle.cl_types.specs.declared.reply.Refusal.{Refusal}
use Rattle.cl_types.specs.declared.reply.Refusal.TheVariants.{NoMapping, NoPermission, NoPage, NoRange, NoOffload, ObjectFull, NoKey, BadOp}
use Rattle.cl_types.specs.declared.reply.Reply.{Reply}
use Rattle.cl_types.specs.declared.reply.Reply.TheVariants as reply
use Rattle.cl_types.specs.declared.reply.Value.{Value}
use Rattle.cl_types.specs.declared.reply.Value.TheVariants as value
use Rattle.cl_types.specs.declared.line.Did.{Did}
use Rattle.cl_types.specs.declared.line.Did.TheVariants as did
use Rattle.cl_types.specs.declared.line.EndedCall.{EndedCall}
use Rattle.cl_types.specs.declared.line.Entry.{Entry}
use Rattle.cl_types.specs.declared.schedule.What.{What}
use Rattle.cl_types.specs.declared.schedule.What.TheVariants as what
use Rattle.cl_types.specs.declared.config.Field.{Field}
use Rattle.cl_types.specs.declared.config.Field.TheVariants as number
use Rattle.cl_types.specs.declared.open_fault.OpenFault.{OpenFault}
use Rattle.cl_types.specs.declared.open_fault.OpenFault.TheVariants.{BadConfig, NoRoom, NoMemory}
use Rattle.texts.specs.Text.{Text, words, dotted, line_of, line_end}
use Rattle.frame_model.specs.Frames.{refusal_in}

-- ---- words
-- bytes, or a dash for none
abbrev pub hex_or_dash : List ℕ → Text
hex_or_dash [] = codes "-"
hex_or_dash (b ∷ bs) = encode_lower (b ∷ bs)

-- an address: 0x and its digits
abbrev pub address : Addr → Text
address addr = codes "0x" ++ digits 16 false addr.0

-- a permission: r, w or rw
abbrev pub perm_text : Perm → Text
perm_text ReadOnly = codes "r"
perm_text WriteOnly = codes "w"
perm_text ReadWrite = codes "rw"

-- the name of a call, C.N: its client and its number
abbrev pub call_name : ClientNo → ℕ → Text
call_name c n = dotted (decimal c.0 ∷ decimal n ∷ [])

-- the name of a part, C.N.P: its client, its call's number, and its place in the call
abbrev pub part_name : ClientNo → Part → Text
part_name c p = dotted (decimal c.0 ∷ decimal p.call.0 ∷ decimal p.part ∷ [])

-- ---- what is refused, and what is wrong
-- the words of a refusal
abbrev pub refusal_text : Refusal → Text
refusal_text NoMapping = codes "no mapping"
refusal_text NoPermission = codes "no permission"
refusal_text NoPage = codes "no page"
refusal_text NoRange = codes "no range"
refusal_text NoOffload = codes "no offload"
refusal_text ObjectFull = codes "object full"
refusal_text NoKey = codes "no key"
refusal_text BadOp = codes "bad op"

-- 0 is ok, and any other status a refusal's
abbrev pub status_text : ℕ → Text
status_text status = if status == 0 then codes "ok" else refusal_text (refusal_in status)

-- the word for how a node came to a reply
abbrev pub how_text : How → Text
how_text Executed = codes "executed"
how_text Repeated = codes "repeated"
how_text Looked = codes "looked"

-- the words for why a call wasn't issued
abbrev pub fault_text : IssueFault → Text
fault_text fault.QueueFull = codes "queue full"
fault_text fault.Empty = codes "empty"
fault_text (fault.TooLong len) = codes "too long"
fault_text (fault.BadAddress addr len) = codes "bad address"
fault_text (fault.Misaligned addr) = codes "misaligned"

-- the word of a frame's field
abbrev pub field_text : FieldName → Text
field_text name.Pid = codes "pid"
field_text name.Id = codes "id"
field_text name.Orig = codes "orig"
field_text name.Body = codes "body"
field_text name.Pages = codes "pages"
field_text name.Perm = codes "perm"
field_text name.Addr = codes "addr"
field_text name.Len = codes "len"
field_text name.Op = codes "op"
field_text name.Status = codes "status"

-- the words of a fault of bytes, with the numbers that tell it
abbrev pub bad_text : BadFrame → Text
bad_text (bad.Short have need) = words (codes "bad short" ∷ decimal have ∷ decimal need ∷ [])
bad_text bad.Magic = codes "bad magic"
bad_text (bad.Version v) = words (codes "bad version" ∷ decimal v ∷ [])
bad_text (bad.Kind k) = words (codes "bad kind" ∷ decimal k ∷ [])
bad_text (bad.Long have need) = words (codes "bad long" ∷ decimal have ∷ decimal need ∷ [])
bad_text (bad.Field f) = words (codes "bad field" ∷ field_text f ∷ [])

-- ---- what an event did
-- the words for what an event did
abbrev pub did_text : Did → Text
did_text (did.Issued c n) = words (codes "issued" ∷ call_name c n.0 ∷ [])
did_text (did.NotIssued f) = words (codes "not issued" ∷ fault_text f ∷ [])
did_text (did.Sent k c p id) = words (codes "sent" ∷ decimal k ∷ part_name c p ∷ codes "id" ∷ decimal id ∷ [])
did_text (did.Again k c p id orig) = words (codes "again" ∷ decimal k ∷ part_name c p ∷ codes "id" ∷ decimal id ∷ codes "orig" ∷ decimal orig ∷ [])
did_text (did.GaveUp c p) = words (codes "gave up" ∷ part_name c p ∷ [])
did_text did.FenceEnded = codes "ended"
did_text did.Idle = codes "idle"
did_text (did.Handled k c p how status r) = words (how_text how ∷ decimal k ∷ part_name c p ∷ status_text status ∷ codes "reply" ∷ decimal r ∷ [])
did_text (did.Busy k c p oldest now) = words (codes "busy" ∷ decimal k ∷ part_name c p ∷ codes "oldest" ∷ decimal oldest ∷ codes "now" ∷ decimal now ∷ [])
did_text (did.Took k c p) = words (codes "took" ∷ decimal k ∷ part_name c p ∷ [])
did_text (did.Late k orig) = words (codes "late" ∷ decimal k ∷ codes "orig" ∷ decimal orig ∷ [])
did_text (did.Expired k sent) = words (codes "expired" ∷ decimal k ∷ codes "sent" ∷ decimal sent ∷ [])
did_text (did.Absent k) = words (codes "absent" ∷ decimal k ∷ [])
did_text did.NoFrame = codes "none"
did_text (did.Dropped k) = words (codes "dropped" ∷ decimal k ∷ [])
did_text (did.Now t) = words (codes "now" ∷ decimal t ∷ [])
did_text (did.Peeked bytes) = words (codes "peek" ∷ encode_lower bytes ∷ [])
did_text did.PeekNoMapping = codes "peek no mapping"
did_text (did.Shown k bytes) = words (codes "show" ∷ decimal k ∷ encode_lower bytes ∷ [])
did_text (did.ShownAbsent k) = words (codes "show" ∷ decimal k ∷ codes "absent" ∷ [])
did_text (did.Stat used retained) = words (codes "stat used" ∷ decimal used ∷ codes "retained" ∷ decimal retained ∷ [])
did_text (did.Bad f) = bad_text f

-- the words of a value, none where there is none
abbrev pub value_text : Value → List ℕ → List Text
value_text value.Nothing bytes = []
value_text (value.At addr) bytes = address addr ∷ []
value_text (value.Word n) bytes = decimal n ∷ []
value_text (value.Len n) bytes = hex_or_dash bytes ∷ []

-- a call's answer: done with its value, refused, or timed out with the two moments
abbrev pub answer_text : Answer → List ℕ → Text
answer_text (answer.Done v) bytes = words (codes "done" ∷ value_text v bytes)
answer_text (answer.Refused refusal) bytes = words (codes "refused" ∷ refusal_text refusal ∷ [])
answer_text (answer.TimedOut first_sent now) bytes = words (codes "timed out" ∷ decimal first_sent ∷ decimal now ∷ [])

-- how a line ends: with the call that ended, where one did
abbrev pub ending_text : Option EndedCall → Text
ending_text None = line_end
ending_text (Some e) = codes "; " ++ line_of (codes "answer" ∷ call_name e.client e.call.0 ∷ answer_text e.answer e.bytes ∷ [])

-- the texts of a line, with a semicolon and a space between each two
abbrev pub texts_text : List Did → Text
texts_text [] = []
texts_text (d ∷ []) = did_text d
texts_text (d ∷ e ∷ ds) = did_text d ++ codes "; " ++ texts_text (e ∷ ds)

-- the line of this number, with these texts and this ending
abbrev pub numbered_text : ℕ → List Did → Option EndedCall → Text
numbered_text number texts ended = words (decimal number ∷ (texts_text texts ++ ending_text ended) ∷ [])

-- ---- an entry of the history
-- an atomic, written as a call
abbrev pub op_text : Addr → AtomicOp → Text
op_text addr Lock = words (codes "lock" ∷ address addr ∷ [])
op_text addr Unlock = words (codes "unlock" ∷ address addr ∷ [])
op_text addr (Add n) = words (codes "add" ∷ address addr ∷ decimal n ∷ [])
op_text addr (Cas expect put) = words (codes "cas" ∷ address addr ∷ decimal expect ∷ decimal put ∷ [])

-- a request, written as a call with all its bytes
abbrev pub request_text : Request → Text
request_text (request.Alloc n perm) = words (codes "alloc" ∷ decimal n ∷ perm_text perm ∷ [])
request_text (request.Free addr n) = words (codes "free" ∷ address addr ∷ decimal n ∷ [])
request_text (request.Read addr n) = words (codes "read" ∷ address addr ∷ decimal n ∷ [])
request_text (request.Write addr bytes) = words (codes "write" ∷ address addr ∷ hex_or_dash bytes ∷ [])
request_text (request.Atomic addr op) = op_text addr op
request_text (request.Offload number op out bytes) = words (codes "offload" ∷ decimal number ∷ decimal op ∷ decimal out ∷ hex_or_dash bytes ∷ [])

-- a reply: ok with its value, or a refusal
abbrev pub reply_text : Reply → Text
reply_text (reply.Refused refusal) = refusal_text refusal
reply_text reply.Nothing = codes "ok"
reply_text (reply.At addr) = words (codes "ok" ∷ address addr ∷ [])
reply_text (reply.Word n) = words (codes "ok" ∷ decimal n ∷ [])
reply_text (reply.Got bytes) = words (codes "ok" ∷ hex_or_dash bytes ∷ [])

-- the line of an entry: h, its place, its part, its request and its reply
abbrev pub entry_text : Entry → Text
entry_text e =
    line_of (codes "h" ∷ decimal e.line ∷ decimal e.position ∷ part_name e.client e.part ∷ request_text e.request ∷ codes "=" ∷ reply_text e.reply ∷ [])

-- ---- the lines of faults
-- the words for what is wrong with a line
abbrev pub what_text : What → Text
what_text what.BadByte = codes "bad byte"
what_text what.BadSpacing = codes "bad spacing"
what_text what.NodeExpected = codes "node expected"
what_text what.ClientExpected = codes "client expected"
what_text what.OutOfPlace = codes "out of place"
what_text what.UnknownWord = codes "unknown word"
what_text what.MissingWord = codes "missing word"
what_text what.ExtraWord = codes "extra word"
what_text what.BadNumber = codes "bad number"
what_text what.BadAddress = codes "bad address"
what_text what.BadPermission = codes "bad permission"
what_text what.BadBytes = codes "bad bytes"
what_text what.UnknownClient = codes "unknown client"
what_text what.ClientRepeated = codes "client repeated"
what_text what.TooManyClients = codes "too many clients"
what_text what.BadLength = codes "bad length"
what_text what.AFrame = codes "a frame"
what_text what.EndExpected = codes "end expected"
what_text what.BadCount = codes "bad count"
what_text what.BadEntry = codes "bad entry"

-- the line that tells a bad line of the input, by its number
abbrev pub fault_line : ℕ × What → Text
fault_line fault = codes "line " ++ (decimal fault.0 ++ (codes ": " ++ (what_text fault.1 ++ line_end)))

-- the word of a number of a node's configuration
abbrev pub number_text : Field → Text
number_text number.Pages = codes "pages"
number_text number.Buckets = codes "buckets"
number_text number.Ring = codes "ring"
number_text number.Retry = codes "retry"
number_text number.Offloads = codes "offloads"
number_text number.Records = codes "records"

-- why a node doesn't open; want of memory has no line
abbrev pub open_fault_line : OpenFault → Text
open_fault_line (BadConfig field value) = line_of (codes "bad node:" ∷ number_text field ∷ decimal value ∷ [])
open_fault_line (NoRoom offload pages) =
    line_of (codes "bad node: offload" ∷ decimal offload ∷ codes "pages" ∷ decimal pages ∷ [])
open_fault_line NoMemory = []
