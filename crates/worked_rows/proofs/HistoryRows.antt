-- The transcript of a worked schedule, read back: it is a run, and with one byte of its last reply changed it is none.
-- Then lines that can't be read, each with its fault.
use Rattle.std.proofs.Common.{◌≡◌, [], ◌∷◌, refl}
use Rattle.std.specs.Prelude.{ℕ, Bool, true, false, ◌&&◌, List, ◌++◌, Result, Ok, Err, codes}
use Rattle.std.specs.List.{list_all}
use Rattle.std.specs.Fmt.{digits}
use Rattle.hex.specs.Hex.{encode_with}
use Rattle.cl_types.specs.Bytes.{fresh_bytes}
use Rattle.cl_types.specs.Places.{home_of}
use Rattle.cl_types.specs.declared.call.Perm.TheVariants.{ReadWrite}
use Rattle.cl_types.specs.declared.config.Config.{Config}
use Rattle.cl_types.specs.declared.line.Entry.{Entry}
use Rattle.cl_types.specs.declared.numbers.Addr.{Addr}
use Rattle.cl_types.specs.declared.request.Request.{Request}
use Rattle.cl_types.specs.declared.request.Request.TheVariants as request
use Rattle.cl_types.specs.declared.reply.Reply.{Reply}
use Rattle.cl_types.specs.declared.reply.Reply.TheVariants as reply
use Rattle.cl_types.specs.declared.schedule.What.{What}
use Rattle.cl_types.specs.declared.schedule.What.TheVariants.{BadByte, BadSpacing, OutOfPlace, UnknownWord, BadNumber, UnknownClient, ClientRepeated, EndExpected, BadCount, BadEntry}
use Rattle.texts.specs.Text.{Text, is_text}
use Rattle.texts.specs.Texts.{fault_line}
use Rattle.texts.specs.Grammar.{Fault}
use Rattle.transcript_text.specs.HistoryGrammar.{history_of}
use Rattle.flat_model.specs.Run.{IsRun}
use Rattle.worked_rows.proofs.RowTexts.{text}

-- the shortest path, where its read gave these bytes
abbrev first_path : Text → List Text
first_path got =
    codes "node 16 8 4 4"
    ∷ codes "client 1 1"
    ∷ codes "3 issued 1.1"
    ∷ codes "4 sent 1 1.1.0 id 1"
    ∷ codes "5 executed 1 1.1.0 ok reply 2"
    ∷ codes "6 took 2 1.1.0; answer 1.1 done 0x1000"
    ∷ codes "7 issued 1.2"
    ∷ codes "8 sent 3 1.2.0 id 2"
    ∷ codes "9 executed 3 1.2.0 ok reply 4"
    ∷ codes "10 took 4 1.2.0; answer 1.2 done"
    ∷ codes "11 issued 1.3"
    ∷ codes "12 sent 5 1.3.0 id 3"
    ∷ codes "13 looked 5 1.3.0 ok reply 6"
    ∷ codes "14 took 6 1.3.0; answer 1.3 done 61626300"
    ∷ codes "15 peek 61626300"
    ∷ codes "h 5 0 1.1.0 alloc 1 rw = ok 0x1000"
    ∷ codes "h 9 0 1.2.0 write 0x1000 616263 = ok"
    ∷ (codes "h 13 0 1.3.0 read 0x1000 4 = ok " ++ got)
    ∷ codes "end 3"
    ∷ []

abbrev config : Config
config = record {
  node = record { pages = 16; buckets = 8; ring = 4; retry = 4; offloads = [] };
  clients = (record { 0 = 1 }, 1) ∷ [];
}

-- on this line, the one part of this call of client 1
abbrev entry : (line call : ℕ) → Request → Reply → Entry
entry line call asked given = record {
  line = line;
  position = 0;
  client = record { 0 = 1 };
  pid = 1;
  part = record { call = record { 0 = call }; part = 0 };
  request = asked;
  reply = given;
}

abbrev first_page : Addr
first_page = record { 0 = 4096 }

abbrev history : List ℕ → List Entry
history got =
    entry 5 1 (request.Alloc 1 ReadWrite) (reply.At first_page)
    ∷ entry 9 2 (request.Write first_page (97 ∷ 98 ∷ 99 ∷ [])) reply.Nothing
    ∷ entry 13 3 (request.Read first_page 4) (reply.Got got)
    ∷ []

-- the node, the client and three entries are read
it_is_read : history_of (text (first_path (codes "61626300"))) ≡ Ok (config, history (97 ∷ 98 ∷ 99 ∷ 0 ∷ []))
unfolding digits encode_with
it_is_read = refl

-- each entry is a step of the flat machine
it_is_a_run : IsRun config.node (history (97 ∷ 98 ∷ 99 ∷ 0 ∷ []))
unfolding home_of fresh_bytes
it_is_a_run = (
  record { in_range = refl; may = (refl, refl); after = refl },
  (record { in_range = refl; may = refl; after = refl }, (record { in_range = refl; may = refl; after = refl }, tt)),
)

-- with another last byte of the read it is still in the grammar
changed_it_is_read : history_of (text (first_path (codes "61626301"))) ≡ Ok (config, history (97 ∷ 98 ∷ 99 ∷ 1 ∷ []))
unfolding digits encode_with
changed_it_is_read = refl

-- and no run: a page that was fresh reads as zeros behind what was written
changed_it_is_no_run : IsRun config.node (history (97 ∷ 98 ∷ 99 ∷ 1 ∷ [])) → ⊥
unfolding home_of fresh_bytes
changed_it_is_no_run run = cc (run.1.1.0.may)

-- ---- one line between a header and an end
abbrev around : Text → List Text
around line = codes "node 16 8 4 4" ∷ codes "client 1 1" ∷ line ∷ codes "end 1" ∷ []

abbrev is_fault : What → Result (Config × List Entry) Fault → Bool
is_fault what (Ok read) = false
is_fault what (Err fault) = is_text (fault_line fault) (fault_line (3, what))

-- the third line is bad, by this fault
abbrev are_bad : What → List Text → Bool
are_bad what lines = list_all (λ line. is_fault what (history_of (text (around line)))) lines

abbrev is_read : Result (Config × List Entry) Fault → Bool
is_read (Ok read) = true
is_read (Err fault) = false

-- any line, call and part that their types hold are read, and answers that no step gives
good_entries : list_all (λ line. is_read (history_of (text (around line)))) (
    codes "h 0 0 1.0.0 free 0x0 1 = no mapping"
    ∷ codes "h 4294967295 0 1.4294967295.65535 free 0x0 1 = no mapping"
    ∷ codes "h 5 0 1.1.0 free 0xfc00000 1024 = ok"
    ∷ codes "h 5 0 1.1.0 alloc 1024 w = ok 0xffff000"
    ∷ codes "h 5 0 1.1.0 read 0x1000 4 = ok 61"
    ∷ codes "h 5 0 1.1.0 write 0x1fff 61 = bad op"
    ∷ codes "h 5 0 1.1.0 add 0xffffff8 18446744073709551615 = ok 18446744073709551615"
    ∷ codes "h 5 0 1.1.0 offload 255 255 0 - = ok 6162"
    ∷ codes "h 5 0 1.1.0 offload 0 1 1024 - = ok -"
    ∷ []
    ) ≡ true
unfolding digits encode_with
good_entries = refl

-- a line, a position or a name that no entry has
numbers_out_of_range : are_bad BadEntry (
    codes "h 4294967296 0 1.1.0 free 0x0 1 = no mapping"
    ∷ codes "h 5 1 1.1.0 free 0x0 1 = no mapping"
    ∷ codes "h 5 0 1.4294967296.0 free 0x0 1 = no mapping"
    ∷ codes "h 5 0 1.1.65536 free 0x0 1 = no mapping"
    ∷ codes "h 5 0 65536.1.0 free 0x0 1 = no mapping"
    ∷ codes "h 05 0 1.1.0 free 0x0 1 = no mapping"
    ∷ []
    ) ≡ true
unfolding digits encode_with
numbers_out_of_range = refl

-- a request that no frame can carry, or that is written otherwise than it is printed
requests_out_of_range : are_bad BadEntry (
    codes "h 5 0 1.1.0 fence = ok"
    ∷ codes "h 5 0 1.1.0 alloc 0 r = no range"
    ∷ codes "h 5 0 1.1.0 alloc 1025 r = no range"
    ∷ codes "h 5 0 1.1.0 free 0x1001 1 = no mapping"
    ∷ codes "h 5 0 1.1.0 free 0xffff000 2 = no mapping"
    ∷ codes "h 5 0 1.1.0 read 0x1000 0 = no mapping"
    ∷ codes "h 5 0 1.1.0 read 0x1000 1025 = no mapping"
    ∷ codes "h 5 0 1.1.0 read 0x1fff 2 = no mapping"
    ∷ codes "h 5 0 1.1.0 read 0x10000000 1 = no mapping"
    ∷ codes "h 5 0 1.1.0 write 0x1000 - = ok"
    ∷ codes "h 5 0 1.1.0 write 0x1000 61*2 = ok"
    ∷ codes "h 5 0 1.1.0 write 0x1fff 6162 = ok"
    ∷ codes "h 5 0 1.1.0 lock 0x1004 = ok 0"
    ∷ codes "h 5 0 1.1.0 offload 0 1 1025 - = ok -"
    ∷ []
    ) ≡ true
unfolding digits encode_with
requests_out_of_range = refl

-- a reply that none of its request's kind can be
replies_of_another_form : are_bad BadEntry (
    codes "h 5 0 1.1.0 alloc 1 rw = ok"
    ∷ codes "h 5 0 1.1.0 alloc 1 rw = ok 0x0"
    ∷ codes "h 5 0 1.1.0 alloc 1 rw = ok 0x1001"
    ∷ codes "h 5 0 1.1.0 alloc 1 rw = ok 0x10000000"
    ∷ codes "h 5 0 1.1.0 alloc 1 rw = ok 4096"
    ∷ codes "h 5 0 1.1.0 write 0x1000 61 = ok 5"
    ∷ codes "h 5 0 1.1.0 read 0x1000 4 = ok"
    ∷ codes "h 5 0 1.1.0 read 0x1000 4 = ok -"
    ∷ codes "h 5 0 1.1.0 lock 0x1000 = ok 0x0"
    ∷ codes "h 5 0 1.1.0 lock 0x1000 = ok 18446744073709551616"
    ∷ codes "h 5 0 1.1.0 offload 0 1 0 - = ok"
    ∷ codes "h 5 0 1.1.0 lock 0x1000 = no luck"
    ∷ codes "h 5 0 1.1.0 lock 0x1000 = no mapping = no mapping"
    ∷ codes "h 5 0 1.1.0 lock 0x1000 ="
    ∷ codes "h 5 0 1.1.0 lock 0x1000"
    ∷ codes "h"
    ∷ []
    ) ≡ true
unfolding digits encode_with
replies_of_another_form = refl

-- a bad entry is told before an unknown client
strange_clients :
    are_bad UnknownClient (codes "h 5 0 2.1.0 lock 0x1000 = ok 0" ∷ [])
    && are_bad BadEntry (codes "h 5 0 2.1.0 lock 0x1004 = ok 0" ∷ [])
    ≡ true
unfolding digits encode_with
strange_clients = refl

-- lines that are no entry
other_lines :
    are_bad BadByte ((104 ∷ 9 ∷ []) ∷ [])
    && are_bad BadSpacing (codes "h 5 0 1.1.0 lock 0x1000 = ok " ∷ codes "end  0" ∷ [])
    && are_bad OutOfPlace (codes "node 16 8 4 4" ∷ codes "offload kv 1" ∷ [])
    && are_bad UnknownWord (codes "poll 1" ∷ codes "H" ∷ codes "ends 0" ∷ [])
    && are_bad BadNumber (codes "client 2 0" ∷ [])
    && are_bad ClientRepeated (codes "client 1 2" ∷ [])
    && are_bad BadCount (codes "end" ∷ codes "end 1" ∷ codes "end 00" ∷ codes "end 0 0" ∷ [])
    ≡ true
unfolding digits encode_with
other_lines = refl

-- what is read of an entry on line 5 and these two lines behind it
abbrev behind_one : Text → Text → Result (Config × List Entry) Fault
behind_one second last =
    history_of (text (codes "node 16 8 4 4" ∷ codes "client 1 1" ∷ codes "h 5 0 1.1.0 lock 0x1000 = ok 0" ∷ second ∷ last ∷ []))

-- entries rise by line and position, which is judged before their clients
entries_rise : behind_one (codes "h 5 0 2.1.0 lock 0x1000 = ok 0") (codes "end 2") ≡ Err (4, BadEntry)
unfolding digits encode_with
entries_rise = refl

-- the end counts them all
entries_are_counted : behind_one (codes "h 6 0 1.2.0 lock 0x1000 = ok 0") (codes "end 1") ≡ Err (5, BadCount)
unfolding digits encode_with
entries_are_counted = refl

-- behind the end only lines stand that are skipped
nothing_behind_the_end :
    history_of (text (codes "node 16 8 4 4" ∷ codes "client 1 1" ∷ codes "end 0" ∷ codes "7 x" ∷ codes "#" ∷ [] ∷ codes " " ∷ []))
    ≡ Err (7, EndExpected)
nothing_behind_the_end = refl
