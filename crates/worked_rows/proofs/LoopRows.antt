-- Small runs of the loops that serve a node and drive a client, written by hand from their rules.
use Rattle.std.proofs.Common.{◌≡◌, [], ◌∷◌, refl, arith}
use Rattle.std.specs.Prelude.{ℕ, zero, suc, ◌<◌, Bool, true, false, List, map, flat_map, Option, Some, None, Result, Ok, Err, codes}
use Rattle.std.specs.Fmt.{digits}
use Rattle.std.specs.List.{range_with_len}
use Rattle.hex.specs.Hex.{encode_with}
use Rattle.cl_types.specs.Bytes.{fresh_bytes}
use Rattle.cl_types.specs.Places.{home_of}
use Rattle.cl_types.specs.declared.schedule.CallText.{CallText}
use Rattle.flat_model.specs.State.{least}
use Rattle.texts.specs.Text.{Text, lines_in}
use Rattle.wire_loop.specs.Printing.{printed_text}
use Rattle.texts.specs.Words.{bytes_of_pairs}
use Rattle.texts.specs.Grammar.{Fault, script_of}
use Rattle.wire_loop.specs.Outside.{ClockAnswers, Received, Datagram, NothingCame, ReceivingFailed, Sendings}
use Rattle.node_model.specs.Handling.{latest}
use Rattle.node_model.specs.Nodes.{opening_node}
use Rattle.client_model.specs.Client.{new_client}
use Rattle.wire_loop.specs.Serving.{Serving, serving_of, served_over}
use Rattle.wire_loop.specs.Driving.{Driving, driving_of, DriveStop, AllEnded, Stalled, WireFailed, DrivesTo, turns, stop_at}
use Rattle.worked_rows.proofs.RowTexts.{text}

-- ---- frames of client 1 of process 1: a page, three bytes put into it, four read; and the replies to them
abbrev asks_for_a_page : List ℕ
asks_for_a_page = bytes_of_pairs (codes "434c010100010001000000000000000100000000000000010003000103")

abbrev has_a_page : List ℕ
has_a_page = bytes_of_pairs (codes "434c0181000100010000000000000001000000000000000100050000001000")

-- the first again, under the next id
abbrev asks_again : List ℕ
asks_again = bytes_of_pairs (codes "434c010100010001000000000000000200000000000000010003000103")

abbrev puts_abc : List ℕ
puts_abc = bytes_of_pairs (codes "434c01040001000100000000000000020000000000000002000700001000616263")

abbrev has_put : List ℕ
has_put = bytes_of_pairs (codes "434c01840001000100000000000000020000000000000002000100")

abbrev reads_four : List ℕ
reads_four = bytes_of_pairs (codes "434c010300010001000000000000000300000000000000030006000010000004")

abbrev has_read : List ℕ
has_read = bytes_of_pairs (codes "434c0183000100010000000000000003000000000000000300050061626300")

-- a reply to another client
abbrev to_another : List ℕ
to_another = bytes_of_pairs (codes "434c018500020001000000000000000100000000000000010009000000000000000005")

-- a reply of another kind than the page was asked by
abbrev of_another_kind : List ℕ
of_another_kind = bytes_of_pairs (codes "434c01840001000100000000000000010000000000000001000100")

-- to a Lock under id 2: there is no mapping
abbrev has_no_mapping : List ℕ
has_no_mapping = bytes_of_pairs (codes "434c01850001000100000000000000020000000000000002000101")

-- two bytes that spell nothing
abbrev junk : List ℕ
junk = 67 ∷ 76 ∷ []

-- a clock that gives these and then this
abbrev ticks : List ℕ → ℕ → ClockAnswers
ticks answers then = record { answers = answers; repeats = then }

-- ---- serving
-- peers are numbers; these datagrams come from this one
abbrev asks : ℕ → Received ℕ
asks from = Datagram asks_for_a_page from

abbrev puts : ℕ → Received ℕ
puts from = Datagram puts_abc from

abbrev babbles : ℕ → Received ℕ
babbles from = Datagram junk from

-- a node of 16 pages that keeps so many replies and was last given this moment
abbrev lent : (retry last : ℕ) → ClockAnswers → Sendings → Serving ℕ
lent retry last clock sendings =
    serving_of (opening_node (record { pages = 16; buckets = 8; ring = 4; retry = retry; offloads = [] })) last clock sendings

-- it keeps four replies, its clock stands at 0, and each sending goes through
abbrev new_node : Serving ℕ
new_node = lent 4 0 (ticks [] 0) []

-- it keeps one reply, and its clock gives these moments and then this one
abbrev keeps_one : List ℕ → ℕ → Serving ℕ
keeps_one answers then = lent 1 0 (ticks answers then) []

-- what was sent, how many datagrams were served, how many turns in a row were idle, and whether the wire failed
abbrev shown : Serving ℕ → List (ℕ × List ℕ) × ℕ × ℕ × Bool
shown s = (s.sent, s.served, s.idles, s.failed)

-- each datagram is answered to where it came from, once each time that it comes, and junk is counted
datagrams_are_served :
    shown (served_over latest 3 1000 new_node (asks 9 ∷ babbles 9 ∷ asks 7 ∷ [])) ≡ ((9, has_a_page) ∷ (7, has_a_page) ∷ [], 3, 0, false)
unfolding home_of least
datagrams_are_served = refl

-- after so many datagrams nothing more is received
serving_ends_by_frames :
    shown (served_over latest 1 1000 new_node (asks 9 ∷ asks 9 ∷ ReceivingFailed ∷ [])) ≡ ((9, has_a_page) ∷ [], 1, 0, false)
unfolding home_of least
serving_ends_by_frames = refl

-- nor after so many idle turns in a row
serving_ends_by_idles : shown (served_over latest 3 2 new_node (NothingCame ∷ NothingCame ∷ asks 9 ∷ [])) ≡ ([], 0, 2, false)
serving_ends_by_idles = refl

-- any datagram, junk too, begins a new row of idle turns; where the wire has no more, each turn is idle
junk_ends_a_row_of_idles :
    shown (served_over latest 3 2 new_node (NothingCame ∷ babbles 9 ∷ NothingCame ∷ asks 9 ∷ [])) ≡ ((9, has_a_page) ∷ [], 2, 2, false)
unfolding home_of least
junk_ends_a_row_of_idles = refl

-- where the one kept reply is young the node is busy: nothing is sent, and the datagram is served
busy_sends_nothing : shown (served_over latest 2 1 (keeps_one (0 ∷ []) 399) (asks 9 ∷ puts 9 ∷ [])) ≡ ((9, has_a_page) ∷ [], 2, 0, false)
unfolding home_of least
busy_sends_nothing = refl

-- a tick later it is not
old_replies_make_room :
    shown (served_over latest 2 1 (keeps_one (0 ∷ []) 400) (asks 9 ∷ puts 9 ∷ [])) ≡ ((9, has_a_page) ∷ (9, has_put) ∷ [], 2, 0, false)
unfolding home_of least fresh_bytes
old_replies_make_room = refl

-- an idle turn asks no clock: the second datagram has the second answer, 399, and not the third
idle_turns_have_no_moment :
    shown (served_over latest 2 2 (keeps_one (0 ∷ 399 ∷ []) 400) (asks 9 ∷ NothingCame ∷ puts 9 ∷ [])) ≡ ((9, has_a_page) ∷ [], 2, 0, false)
unfolding home_of least
idle_turns_have_no_moment = refl

-- a clock that falls back leaves the moment, which junk has too
moments_never_fall :
    shown (served_over latest 3 2 (keeps_one (0 ∷ 400 ∷ []) 7) (asks 9 ∷ babbles 9 ∷ puts 9 ∷ []))
    ≡ ((9, has_a_page) ∷ (9, has_put) ∷ [], 3, 0, false)
unfolding home_of least fresh_bytes
moments_never_fall = refl

-- before the first datagram the moment is the node's last one
serving_begins_at_the_last_moment :
    map (λ r. r.moment) (served_over latest 1 1 (lent 4 500 (ticks [] 0) []) (asks 9 ∷ [])).node.records ≡ 500 ∷ []
unfolding home_of least
serving_begins_at_the_last_moment = refl

-- a sending that fails ends the run, and its datagram isn't counted
serving_ends_by_a_sending :
    shown (served_over latest 3 1000 (lent 4 0 (ticks [] 0) (true ∷ false ∷ [])) (asks 9 ∷ asks 9 ∷ asks 9 ∷ []))
    ≡ ((9, has_a_page) ∷ [], 1, 0, true)
unfolding home_of least
serving_ends_by_a_sending = refl

-- so does a receiving that fails
serving_ends_by_a_receiving :
    shown (served_over latest 3 1000 new_node (asks 9 ∷ ReceivingFailed ∷ asks 9 ∷ [])) ≡ ((9, has_a_page) ∷ [], 1, 0, true)
unfolding home_of least
serving_ends_by_a_receiving = refl

-- ---- driving
abbrev calls_in : Result (List (ℕ × CallText)) Fault → List (ℕ × CallText)
calls_in (Ok calls) = calls
calls_in (Err fault) = []

-- client 1 of process 1 before its first turn
abbrev start : List Text → ClockAnswers → List (Received ℕ) → Sendings → Driving ℕ
start script clock receives sendings =
    driving_of (new_client (record { 0 = 1 }) 1) (calls_in (script_of (text script))) clock receives sendings

-- the lines of a driven client's output
abbrev output : Driving ℕ → List Text
output d = lines_in (flat_map printed_text d.printed)

-- whether the run is over before each of the first turns, and how
abbrev stops : ℕ → Driving ℕ → List (Option DriveStop)
stops count d = map (λ k. stop_at (turns k d)) (range_with_len 0 count)

-- how many turns in a row were not fruitful, before each of the first turns
abbrev fruitless : ℕ → Driving ℕ → List ℕ
fruitless count d = map (λ k. (turns k d).fruitless) (range_with_len 0 count)

-- a script of one call
abbrev one_page : List Text
one_page = codes "alloc 1 rw" ∷ []

-- four calls, and the replies to those that are sent
abbrev four_calls : Driving ℕ
four_calls = start
    (codes "alloc 1 rw" ∷ codes "fence" ∷ codes "write 0x1000 616263" ∷ codes "read 0x1000 4" ∷ [])
    (ticks [] 0)
    (Datagram has_a_page 7 ∷ Datagram has_put 7 ∷ Datagram has_read 7 ∷ [])
    []

-- four calls, of which each waits for the one before, are driven in seven turns
four_calls_are_answered :
    output (turns 7 four_calls) ≡ codes "1 done 0x1000" ∷ codes "2 done" ∷ codes "3 done" ∷ codes "4 done 61626300" ∷ []
unfolding digits encode_with fresh_bytes
four_calls_are_answered = refl

-- a fence is never sent
four_calls_are_sent : (turns 7 four_calls).sent ≡ asks_for_a_page ∷ puts_abc ∷ reads_four ∷ []
four_calls_are_sent = refl

-- the run is over before none of these turns
four_calls_go_on : (k : ℕ) → k < 7 → stop_at (turns k four_calls) ≡ None
four_calls_go_on zero under = refl
four_calls_go_on (suc zero) under = refl
four_calls_go_on (suc (suc zero)) under = refl
four_calls_go_on (suc (suc (suc zero))) under = refl
four_calls_go_on (suc (suc (suc (suc zero)))) under = refl
four_calls_go_on (suc (suc (suc (suc (suc zero))))) under = refl
four_calls_go_on (suc (suc (suc (suc (suc (suc zero)))))) under = refl
four_calls_go_on (suc (suc (suc (suc (suc (suc (suc k))))))) under = absurd (omega arith)

-- and then all have ended
four_calls_end : DrivesTo four_calls (turns 7 four_calls) AllEnded
four_calls_end = record { count = 7; after = refl; stops = refl; goes_on = four_calls_go_on }

-- no call is left of an empty script
no_calls_end : stops 1 (start (codes "# nothing" ∷ []) (ticks [] 0) [] []) ≡ Some AllEnded ∷ []
no_calls_end = refl

-- a turn in which nothing came is not fruitful, and one that takes a reply is
idles_are_counted : fruitless 5 (start one_page (ticks [] 0) (NothingCame ∷ NothingCame ∷ Datagram has_a_page 7 ∷ []) []) ≡
    0 ∷ 0 ∷ 1 ∷ 2 ∷ 0 ∷ []
idles_are_counted = refl

-- two calls of which neither waits for the other, between them one that isn't taken, and what comes for them
abbrev two_calls : List (Received ℕ) → Driving ℕ
two_calls receives =
    start (codes "# two calls" ∷ codes "alloc 1 rw" ∷ codes "read 0x0 0" ∷ [] ∷ codes "lock 0x1000" ∷ []) (ticks [] 0) receives []

-- junk, a reply to another client, one of another kind, the reply, and the reply again
abbrev hears_strange_replies : Driving ℕ
hears_strange_replies = two_calls (
    Datagram junk 7 ∷ Datagram to_another 7 ∷ Datagram of_another_kind 7 ∷ Datagram has_a_page 7 ∷ Datagram has_a_page 7 ∷ []
    )

-- hearing what isn't taken is not fruitful
strange_replies_are_not_fruitful : fruitless 8 hears_strange_replies ≡ 0 ∷ 0 ∷ 0 ∷ 1 ∷ 2 ∷ 3 ∷ 0 ∷ 1 ∷ []
strange_replies_are_not_fruitful = refl

-- answers are told as they come, each by the line of its call
answers_are_told_as_they_come :
    output (turns 4 (two_calls (Datagram has_no_mapping 7 ∷ Datagram has_a_page 7 ∷ [])))
    ≡ codes "3 not issued empty" ∷ codes "5 refused no mapping" ∷ codes "2 done 0x1000" ∷ []
unfolding digits
answers_are_told_as_they_come = refl

-- a moment that grew is fruitful
time_is_fruitful : fruitless 5 (start one_page (ticks (0 ∷ 0 ∷ []) 5) [] []) ≡ 0 ∷ 0 ∷ 1 ∷ 0 ∷ 1 ∷ []
time_is_fruitful = refl

-- a script of which the one call has no bytes
abbrev no_bytes : Driving ℕ
no_bytes = start (codes "# one call" ∷ codes "read 0x0 0" ∷ []) (ticks [] 0) (Datagram junk 7 ∷ Datagram junk 7 ∷ []) []

-- a call that isn't taken is told at once
not_issued_is_told : output (turns 1 no_bytes) ≡ codes "2 not issued empty" ∷ []
unfolding digits
not_issued_is_told = refl

-- its turn still polls and receives once
not_issued_has_a_turn : (turns 1 no_bytes).receives ≡ Datagram junk 7 ∷ []
not_issued_has_a_turn = refl

-- such a turn is not fruitful: nor is a first answer 0 of the clock a moment that grew
not_issued_is_not_fruitful : fruitless 2 no_bytes ≡ 0 ∷ 1 ∷ []
not_issued_is_not_fruitful = refl

-- and no call is held after it
not_issued_ends : stops 2 no_bytes ≡ None ∷ Some AllEnded ∷ []
not_issued_ends = refl

-- the clock goes to 99 ticks and to 100, and the reply comes after an idle turn
abbrev reply_at_100 : Driving ℕ
reply_at_100 = start one_page (ticks (0 ∷ 99 ∷ []) 100) (NothingCame ∷ Datagram has_a_page 7 ∷ []) []

-- a part goes out again at 100 ticks and not before
sent_again : (turns 3 reply_at_100).sent ≡ asks_for_a_page ∷ asks_again ∷ []
sent_again = refl

-- in that turn nothing is received
not_received : (turns 3 reply_at_100).receives ≡ Datagram has_a_page 7 ∷ []
not_received = refl

-- it is given up at 400 ticks
given_up : output (turns 2 (start one_page (ticks (0 ∷ []) 400) [] [])) ≡ codes "1 timed out 0 400" ∷ []
unfolding digits
given_up = refl

-- a clock that falls back leaves the moment
driven_moments_never_fall : (turns 2 (start one_page (ticks (5 ∷ []) 3) [] [])).client.last ≡ 5
driven_moments_never_fall = refl

-- the first sending that fails ends the run
driving_ends_by_a_sending : stops 2 (start one_page (ticks [] 0) [] (false ∷ [])) ≡ None ∷ Some WireFailed ∷ []
driving_ends_by_a_sending = refl

-- so does the first receiving that fails
driving_ends_by_a_receiving : stops 3 (start one_page (ticks [] 0) (ReceivingFailed ∷ []) []) ≡ None ∷ None ∷ Some WireFailed ∷ []
driving_ends_by_a_receiving = refl

-- one call in flight at moment 6, after so many turns in a row that were not fruitful
abbrev waits : ℕ → Driving ℕ
waits count = record (turns 1 (start one_page (ticks [] 6) [] [])) { fruitless = count }

-- a million of them end the run
a_million_turns_stall : stop_at (waits 999999) ∷ stop_at (waits 1000000) ∷ [] ≡ None ∷ Some (Stalled 6) ∷ []
a_million_turns_stall = refl
