-- The grammar of a transcript that is read back: its header, its history and its end.
use Rattle.std.specs.Prelude.{ℕ, ◌+◌, ◌-◌, ◌^◌, ◌==◌, Bool, true, false, ◌&&◌, ◌||◌, nat_lt, List, [], ◌∷◌, ◌++◌, length, take, drop, slice_get, if◌then◌else◌, Option, Some, None, Result, Ok, Err, option_map, codes, find}
use Rattle.std.specs.List.{list_any, slice_split}
use Rattle.std.specs.Option.{option_and_then}
use Rattle.cl_types.specs.declared.numbers.ClientNo.{ClientNo}
use Rattle.cl_types.specs.declared.call.Kind.{Kind}
use Rattle.cl_types.specs.declared.config.Config.{Config}
use Rattle.cl_types.specs.declared.request.Request.{Request}
use Rattle.cl_types.specs.declared.request.Request.TheVariants as request
use Rattle.cl_types.specs.declared.reply.Part.{Part}
use Rattle.cl_types.specs.declared.reply.Refusal.{Refusal}
use Rattle.cl_types.specs.declared.reply.Refusal.TheVariants.{NoMapping, NoPermission, NoPage, NoRange, NoOffload, ObjectFull, NoKey, BadOp}
use Rattle.cl_types.specs.declared.reply.Reply.{Reply}
use Rattle.cl_types.specs.declared.reply.Reply.TheVariants as reply
use Rattle.cl_types.specs.declared.line.Entry.{Entry}
use Rattle.cl_types.specs.declared.schedule.CallText.{CallText}
use Rattle.cl_types.specs.declared.schedule.CallText.TheVariants as call
use Rattle.cl_types.specs.declared.schedule.Schedule.{Schedule}
use Rattle.cl_types.specs.declared.schedule.What.TheVariants.{EndExpected, BadCount, BadEntry, UnknownClient, UnknownWord}
use Rattle.cl_types.specs.Ranges.{is_in_range}
use Rattle.cl_types.specs.Written.{expanded}
use Rattle.frame_model.specs.Faults.{first_fault}
use Rattle.frame_model.specs.Frames.{kind_of, is_reply_of}
use Rattle.transcript_text.specs.declared.entry_words.EntryHead.{EntryHead}
use Rattle.texts.specs.Text.{Text, lines_in, words_in, first_word, is_skipped, is_text, line_end}
use Rattle.texts.specs.Words.{is_digit, number_in, address_in, written_in}
use Rattle.texts.specs.Texts.{refusal_text, entry_text}
use Rattle.texts.specs.Grammar.{Fault, Reading, nothing_read, at_end, call_in_words, line_read, place_faults}

-- ---- a request
-- the request that a call's text names, its bytes repeated; a Fence is none
abbrev pub request_of_call : CallText → Option Request
request_of_call (call.Alloc pages perm) = Some (request.Alloc pages perm)
request_of_call (call.Free addr pages) = Some (request.Free addr pages)
request_of_call (call.Read addr len) = Some (request.Read addr len)
request_of_call (call.Write addr bytes) = Some (request.Write addr (expanded bytes))
request_of_call (call.Atomic addr op) = Some (request.Atomic addr op)
request_of_call (call.Offload number op out bytes) = Some (request.Offload number op out (expanded bytes))
request_of_call call.Fence = None

-- the request, where a frame can carry it
abbrev pub if_in_range : Option Request → Option Request
if_in_range None = None
if_in_range (Some r) = if is_in_range r then Some r else None

-- the request that words encode as a call, where a frame can carry it
abbrev pub request_in_words : List Text → Option Request
request_in_words texts = elim (call_in_words texts) [ Ok call ↦ if_in_range (request_of_call call) | Err what ↦ None ]

-- ---- a reply
-- all refusals
abbrev pub refusals : List Refusal
refusals = NoMapping ∷ NoPermission ∷ NoPage ∷ NoRange ∷ NoOffload ∷ ObjectFull ∷ NoKey ∷ BadOp ∷ []

-- the refusal of this text
abbrev pub refusal_named : Text → Option Refusal
refusal_named text = find (λ refusal. is_text text (refusal_text refusal)) refusals

-- the bytes that a text encodes, repeated
abbrev pub bytes_in : Text → Option (List ℕ)
bytes_in text = option_map expanded (written_in text)

-- the reply that has no value, to a request of a kind that has none
abbrev pub reply_without_value : Request → Option Reply
reply_without_value (request.Free addr pages) = Some reply.Nothing
reply_without_value (request.Write addr bytes) = Some reply.Nothing
reply_without_value r = None

-- the reply with the value of this text, to a request of a kind that has one
abbrev pub reply_with_value : Request → Text → Option Reply
reply_with_value (request.Alloc pages perm) text = option_map (λ addr. reply.At addr) (address_in text)
reply_with_value (request.Atomic addr op) text = option_map (λ n. reply.Word n) (number_in 0 (2 ^ 64 - 1) text)
reply_with_value (request.Read addr len) text = option_map (λ bytes. reply.Got bytes) (bytes_in text)
reply_with_value (request.Offload number op out bytes) text = option_map (λ bytes. reply.Got bytes) (bytes_in text)
reply_with_value r text = None

-- the reply, where a frame of this kind can carry it
abbrev pub if_reply_of : Kind → Option Reply → Option Reply
if_reply_of kind None = None
if_reply_of kind (Some given) = if is_reply_of kind given then Some given else None

-- the reply to this request that a text encodes: ok, ok and a value, or a refusal
abbrev pub reply_in : Request → Text → Option Reply
reply_in r text =
    if is_text text (codes "ok") then reply_without_value r
    else if is_text (take 3 text) (codes "ok ") then if_reply_of (kind_of r) (reply_with_value r (drop 3 text))
    else option_map (λ refusal. reply.Refused refusal) (refusal_named text)

-- ---- an entry's line
-- the part of these three numbers, where all are good
abbrev pub part_of_numbers : Option ℕ → Option ℕ → Option ℕ → Option (ClientNo × Part)
part_of_numbers (Some c) (Some n) (Some p) = Some (record { 0 = c }, record { call = record { 0 = n }; part = p })
part_of_numbers c n p = None

-- a client and its part, C.N.P: any client, and any call and part that their types hold
abbrev pub part_in : List Text → Option (ClientNo × Part)
part_in (c ∷ n ∷ p ∷ []) = part_of_numbers (number_in 0 65535 c) (number_in 0 4294967295 n) (number_in 0 65535 p)
part_in texts = None

-- what precedes an entry's request, where its line, its position and its part are good
abbrev pub head_of_words : Option ℕ → Option ℕ → Option (ClientNo × Part) → Option EntryHead
head_of_words (Some line) (Some position) (Some named) =
    Some (record { line = line; position = position; client = named.0; part = named.1 })
head_of_words line position named = None

-- what precedes a request, in three words; the position is 0
abbrev pub head_in : Text → Text → Text → Option EntryHead
head_in line position name =
    head_of_words (number_in 0 4294967295 line) (number_in 0 0 position) (part_in (slice_split (λ b. b == 46) name))

-- the entry of these pieces; the line doesn't have its process, which is 1 here until its client is looked up
abbrev pub entry_at : EntryHead → Request → Reply → Entry
entry_at head r given =
    record {
      line = head.line;
      position = head.position;
      client = head.client;
      pid = 1;
      part = head.part;
      request = r;
      reply = given;
    }

-- the entry with this head, with the request of these words and the reply of this text
abbrev pub entry_after : List Text → Text → EntryHead → Option Entry
entry_after texts text head = option_and_then (λ r. option_map (entry_at head r) (reply_in r text)) (request_in_words texts)

-- the entry of the words before an equals sign, and of the reply's text
abbrev pub entry_in_words : List Text → Text → Option Entry
entry_in_words (_h ∷ line ∷ position ∷ name ∷ texts) text = option_and_then (entry_after texts text) (head_in line position name)
entry_in_words words text = None

-- the texts around an equals sign, without the spaces next to it, where there is one such sign
abbrev pub around_equals : List Text → Option (Text × Text)
around_equals (before ∷ behind ∷ []) = Some (take (length before - 1) before, drop 1 behind)
around_equals texts = None

-- the entry of the texts around the equals sign
abbrev pub entry_of_texts : Option (Text × Text) → Option Entry
entry_of_texts None = None
entry_of_texts (Some texts) = entry_in_words (words_in texts.0) texts.1

-- the entry, where printing it gives the line
abbrev pub if_printed : Text → Option Entry → Option Entry
if_printed line None = None
if_printed line (Some e) = if is_text (entry_text e) (line ++ line_end) then Some e else None

-- the entry that a line encodes, where it encodes one: printing it gives the line again
abbrev pub entry_in : Text → Option Entry
entry_in line = if_printed line (entry_of_texts (around_equals (slice_split (λ b. b == 61) line)))

-- ---- the lines
-- what was read so far: the header, the entries, and whether the end line came
pub record HistoryReading : Type 0 where
  pub reading : Reading
  pub entries : List Entry
  pub ended : Bool

-- the line begins with a digit, as an event's does, and is skipped too
abbrev pub is_event_line : Text → Bool
is_event_line [] = false
is_event_line (b ∷ bs) = is_digit b

-- the entry comes after this one
abbrev pub is_after : Entry → Entry → Bool
is_after last e = nat_lt last.line e.line || last.line == e.line && nat_lt last.position e.position

-- the entry comes after all of these, which rise
abbrev pub rises : List Entry → Entry → Bool
rises es e = elim (slice_get es (length es - 1)) [ None ↦ true | Some last ↦ is_after last e ]

-- the process of a client, where the client was given
abbrev pub process_of : List (ClientNo × ℕ) → ClientNo → Option ℕ
process_of clients c = option_map (λ given. given.1) (find (λ given. given.0.0 == c.0) clients)

-- what was read with this entry of a client of this process
abbrev pub with_process : HistoryReading → ℕ → Entry → Option ℕ → Result HistoryReading Fault
with_process h n e None = Err (n, UnknownClient)
with_process h n e (Some pid) =
    Ok (record h { reading = record h.reading { begun = true }; entries = h.entries ++ record e { pid = pid } ∷ [] })

-- what was read with this entry, or what is wrong with its line
abbrev pub with_entry : HistoryReading → ℕ → Option Entry → Result HistoryReading Fault
with_entry h n None = Err (n, BadEntry)
with_entry h n (Some e) =
    if rises h.entries e then with_process h n e (process_of h.reading.clients e.client) else Err (n, BadEntry)

-- what was read with an h line, or the line's first fault
abbrev pub entry_line : HistoryReading → ℕ → Text → Result HistoryReading Fault
entry_line h n line = elim (first_fault (place_faults h.reading line (first_word (words_in line)))) [
  | Some what ↦ Err (n, what)
  | None ↦ with_entry h n (entry_in line)
]

-- the number of an end line, where it has its form
abbrev pub count_in : Text → Option ℕ
count_in line = if is_text (take 4 line) (codes "end ") then number_in 0 4294967295 (drop 4 line) else None

-- what was read with an end line of this number, which must be that of the entries
abbrev pub with_count : HistoryReading → ℕ → Option ℕ → Result HistoryReading Fault
with_count h n None = Err (n, BadCount)
with_count h n (Some count) = if count == length h.entries then Ok (record h { ended = true }) else Err (n, BadCount)

-- what was read with an end line, or the line's first fault
abbrev pub end_line : HistoryReading → ℕ → Text → Result HistoryReading Fault
end_line h n line = elim (first_fault (place_faults h.reading line (first_word (words_in line)))) [
  | Some what ↦ Err (n, what)
  | None ↦ with_count h n (count_in line)
]

-- what was read with a header line, which is read as a schedule's
abbrev pub with_header : HistoryReading → Result Reading Fault → Result HistoryReading Fault
with_header h (Err fault) = Err fault
with_header h (Ok r) = Ok (record h { reading = r })

-- the first fault of a line that begins with no known word
abbrev pub other_line : HistoryReading → ℕ → Text → Result HistoryReading Fault
other_line h n line =
    elim (first_fault (place_faults h.reading line (first_word (words_in line)))) [
      | Some what ↦ Err (n, what)
      | None ↦ Err (n, UnknownWord)
    ]

-- the words that begin header lines
abbrev pub header_words : List Text
header_words = codes "node" ∷ codes "offload" ∷ codes "client" ∷ []

-- what was read with a line, by its first word, where the end line hasn't come
abbrev pub by_first_word : HistoryReading → ℕ → Text → Text → Result HistoryReading Fault
by_first_word h n line word =
    if is_text word (codes "h") then entry_line h n line
    else if is_text word (codes "end") then end_line h n line
    else if list_any (is_text word) header_words then with_header h (line_read h.reading n line)
    else other_line h n line

-- what was read with a line that isn't skipped; none may follow the end line
abbrev pub judged_history_line : HistoryReading → ℕ → Text → Result HistoryReading Fault
judged_history_line h n line = if h.ended then Err (n, EndExpected) else by_first_word h n line (first_word (words_in line))

-- what was read with one line more, or the line's first fault
abbrev pub history_line : HistoryReading → ℕ → Text → Result HistoryReading Fault
history_line h n line = if is_skipped line || is_event_line line then Ok h else judged_history_line h n line

-- the configuration and the entries of a history with this header; that the end line is missing is reported at line n
abbrev pub with_end : HistoryReading → ℕ → Result Schedule Fault → Result (Config × List Entry) Fault
with_end h n (Err fault) = Err fault
with_end h n (Ok header) = if h.ended then Ok (header.config, h.entries) else Err (n, EndExpected)

-- the configuration and the entries at the end of the input; a header that is not whole is reported as a schedule's
abbrev pub history_at_end : HistoryReading → ℕ → Result (Config × List Entry) Fault
history_at_end h n = with_end h n (at_end n h.reading h.reading.node)

-- the configuration and the entries with the lines from number n on, or the first bad line
abbrev pub history_from : HistoryReading → ℕ → List Text → Result (Config × List Entry) Fault
history_from h n [] = history_at_end h n
history_from h n (line ∷ lines) =
    elim (history_line h n line) [ Err fault ↦ Err fault | Ok more ↦ history_from more (n + 1) lines ]

-- what was read before the first line
abbrev pub no_history : HistoryReading
no_history = record { reading = nothing_read; entries = []; ended = false }

-- the configuration and the entries of a transcript, or its first bad line
abbrev pub history_of : List ℕ → Result (Config × List Entry) Fault
history_of bytes = history_from no_history 1 (lines_in bytes)
