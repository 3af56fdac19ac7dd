-- What each line leaves of a client, by the client's machine alone.
use Rattle.std.specs.Prelude.{ℕ, ◌+◌, ◌≡◌, Bool, true, false, List, Option, Some, None, if◌then◌else◌}
use Rattle.cl_types.specs.declared.config.Config.{Config}
use Rattle.cl_types.specs.declared.line.Entry.{Entry}
use Rattle.cl_types.specs.declared.numbers.ClientNo.{ClientNo}
use Rattle.cl_types.specs.declared.reply.Reply.{Reply}
use Rattle.cl_types.specs.declared.schedule.Event.{Event}
use Rattle.cl_types.specs.declared.schedule.Event.TheVariants as event
use Rattle.cl_types.specs.Times.{is_live}
use Rattle.trace.specs.Account.{Account, Frame, Load, Asks, Answers, nothing_yet, now, frame_at, taken_in_order}
use Rattle.client_model.specs.Client.{ClientState, Sending, new_client, poll, after_poll, after_reply, flight_under, handed_out}
use Rattle.cl_types.specs.Parts.{same_client}
use Rattle.cl_types.specs.Written.{call_of}
use Rattle.trace.specs.Clients.{client_at, pid_of}
use Rattle.trace.specs.Events.{account_from, next_account}
use Rattle.client_model.specs.Issue.{issue_fault, after_judged}
use Rattle.client_laws.specs.ClientLines.{Told, Fresh}

-- before the first event a client that is read off the account is new
abbrev pub ClientsBegin : Type 0
ClientsBegin = (config : Config) (c : ClientNo) → client_at config nothing_yet c ≡ new_client c (pid_of config c)

-- a reply to the part in flight, where there is one
abbrev pub after_heard : Option Sending → Reply → ClientState → ClientState
after_heard None reply s = s
after_heard (Some f) reply s = handed_out (after_reply f.part reply s)

-- a live frame: a reply to this client is heard
abbrev pub after_load : Load → ClientState → ClientState
after_load (Asks items) s = s
after_load (Answers head reply if_taken) s =
    if same_client s.client head.client then after_heard (flight_under head.orig s) reply s else s

-- a frame that was delivered, live or not: only a live one is heard
abbrev pub after_delivered : Bool → Frame → ClientState → ClientState
after_delivered true frame s = after_load frame.load s
after_delivered false frame s = s

-- the frame of a delivery, where there is one
abbrev pub after_frame : ℕ → Option Frame → ClientState → ClientState
after_frame t None s = s
after_frame t (Some frame) s = after_delivered (is_live t frame.moment) frame s

-- The client after an event: its own calls and polls, and the live replies to it, are steps of the machine; all else
-- leaves it.
abbrev pub after_event : Account → ℕ → Event → ClientState → ClientState
after_event a l (event.Call client text) s =
    if same_client s.client client then after_judged (issue_fault s (call_of text)) (call_of text) s
    else s
after_event a l (event.Poll client) s =
    if same_client s.client client then handed_out (after_poll (now a l) (poll s (now a l)) s) else s
after_event a l (event.Deliver frame) s = after_frame (now a l) (frame_at a frame) s
after_event a l event.DeliverNext s = after_frame (now a l) (frame_at a (taken_in_order a + 1)) s
after_event a l other s = s

-- in the account of every list of events, each line leaves each client as its machine does
abbrev pub ClientsFollow : Type 0
ClientsFollow =
    (keep : List Entry → List Entry) (config : Config) (events : List (ℕ × Event))
    (l : ℕ) (event : Event) (c : ClientNo)
    → let a : Account = account_from keep config nothing_yet events in
    client_at config (next_account keep config a (l, event)) c
    ≡ after_event a l event (client_at config a c)

-- In every account each part that left flight tells what came of it, and of calls that were not issued nothing is
-- said.
abbrev pub AccountsTell : Type 0
AccountsTell =
    (keep : List Entry → List Entry) (config : Config) (events : List (ℕ × Event)) (c : ClientNo)
    → let a : Account = account_from keep config nothing_yet events in Told a c × Fresh a c
