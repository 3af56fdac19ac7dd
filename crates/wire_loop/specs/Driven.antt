-- One turn of driving, piece by piece. No public clause cites this module.
use Rattle.std.specs.Prelude.{◌≡◌, ◌⊎◌, ℕ, ◌+◌, ◌<◌, ◌≤◌, length, Bool, ◌||◌, true, false, List, [], ◌∷◌, ◌++◌, Option, None, Some, drop, map, Result, Ok, Err, decimal}
use Rattle.cl_outside.specs.Counts.{LastFailed, NoneFailed}
use Rattle.cl_outside.specs.Loops.{WroteFront}
use Rattle.cl_outside.specs.Told.{Added}
use Rattle.cl_outside.specs.Wire.{Message}
use Rattle.cl_outside.specs.declared.faults.Faults.{Faults}
use Rattle.cl_outside.specs.declared.wire.Peer.{Peer}
use Rattle.cl_types.specs.declared.call.Call.{Call}
use Rattle.cl_types.specs.declared.frame.IssueFault.{IssueFault}
use Rattle.cl_types.specs.declared.limits.TheConstants.{INPUT_LINES}
use Rattle.cl_types.specs.declared.reply.Answer.{Answer}
use Rattle.cl_types.specs.declared.schedule.CallText.{CallText}
use Rattle.client_model.specs.Client.{ClientState, counted, poll, told}
use Rattle.texts.specs.Text.{Text, line_of as text_line}
use Rattle.texts.specs.Texts.{answer_text}
use Rattle.wire_loop.specs.Driving.{Driving, Printed, NotIssued, Answered, driving_of, is_fruitful, issues, line_of, polls, receives_one, takes_reply, turn, with_fruit}
use Rattle.wire_loop.specs.Outside.{ClockAnswers, Received}
use Rattle.wire_loop.specs.Drives.{Drove, HasReceiving, message_to, next_poll, text_of}
use Rattle.wire_loop.specs.Serves.{Gave, GaveOne, Incoming, IsTold, Told}
use Rattle.wire_loop.specs.declared.driving.TurnFault.{TurnFault}
use Rattle.wire_loop.specs.declared.driving.TurnFault.TheVariants as turn_fault
use Rattle.wire_loop.specs.declared.driving.Fruit.{Fruit}
use Rattle.wire_loop.specs.declared.driving.Fruit.TheVariants as fruit

-- the last write failed where a write fault is returned, and no other did
abbrev pub CountsWritten : {A : Type 0} → Faults → Faults → Result A TurnFault → Type 0
CountsWritten before now (Err turn_fault.WriteFault) = LastFailed before now
CountsWritten before now other = NoneFailed before now

-- a client that is driven
abbrev pub driving : ClientState → List (ℕ × CallText) → List ℕ → ClockAnswers → List (Received Peer) → List Bool → List (List ℕ)
    → List Printed → ℕ → Bool → Driving Peer
driving client script lines clock receives sendings sent printed fruitless failed = record {
  client = client;
  script = script;
  lines = lines;
  clock = clock;
  receives = receives;
  sendings = sendings;
  sent = sent;
  printed = printed;
  fruitless = fruitless;
  failed = failed;
}

-- a client between two turns: of a script as long as an input may be the first calls were tried, and none waits to be handed out
abbrev pub IsBetweenTurns : List (ℕ × CallText) → ClientState → (next : ℕ) → Type 0
IsBetweenTurns calls s next = (length calls ≤ INPUT_LINES) × (next ≤ length calls) × (s.issued ≤ next) × (s.ended ≡ [])

-- ---- a call of the script
-- what is printed of a call that is tried
abbrev pub printed_by : ℕ → Option IssueFault → List Printed
printed_by line None = []
printed_by line (Some fault) = NotIssued line fault ∷ []

-- the lines of the issued calls after it
abbrev pub lines_by : ℕ → Option IssueFault → List ℕ → List ℕ
lines_by line None lines = lines ++ line ∷ []
lines_by line (Some fault) lines = lines

-- some calls were tried, and what the definition issues from before is what it issues from now
pub record Tried (calls : List (ℕ × CallText)) (old new : ClientState) (from to : ℕ) (lines lines' : List ℕ)
    (written written' : Option (List ℕ)) : Type 0 where
  pub printed : List Printed
  pub text : Added (text_of printed) written written'
  pub holds : (clock : ClockAnswers) (receives : List (Received Peer)) (sendings : List Bool) (sent : List (List ℕ))
      (others : List Printed) (fruitless : ℕ)
      → issues (drop from calls) (driving old (drop from calls) lines clock receives sendings sent others fruitless false)
      ≡ issues (drop to calls)
      (driving new (drop to calls) lines' clock receives sendings sent (others ++ printed) fruitless false)

-- the calls of the script were issued while there was room
pub record Issued (calls : List (ℕ × CallText)) (old new : ClientState) (from to : ℕ) (lines lines' : List ℕ)
    (written written' : Option (List ℕ)) : Type 0 where
  pub printed : List Printed
  pub text : Added (text_of printed) written written'
  pub holds : (clock : ClockAnswers) (receives : List (Received Peer)) (sendings : List Bool) (sent : List (List ℕ))
      (others : List Printed) (fruitless : ℕ)
      → issues (drop from calls) (driving old (drop from calls) lines clock receives sendings sent others fruitless false)
      ≡ driving new (drop to calls) lines' clock receives sendings sent (others ++ printed) fruitless false

-- it broke off in a call of the script
pub record BrokeIssuing (calls : List (ℕ × CallText)) (old : ClientState) (from : ℕ) (lines : List ℕ)
    (written written' : Option (List ℕ)) : Type 0 where
  pub printed : List Printed
  pub front : WroteFront (text_of printed) written written'
  pub holds : (clock : ClockAnswers) (receives : List (Received Peer)) (sendings : List Bool) (sent : List (List ℕ))
      (others : List Printed) (fruitless : ℕ)
      → (more : List Printed)
      × let d : Driving Peer = driving old (drop from calls) lines clock receives sendings sent others fruitless false in
      (issues (drop from calls) d).printed ≡ others ++ (printed ++ more)

-- ---- a poll
-- the wire failed
abbrev pub fails : Fruit → Bool
fails fruit.Failed = true
fails other = false

-- whether the turn was fruitful, where the wire didn't fail
abbrev pub IsFruit : Fruit → Bool → Type 0
IsFruit fruit.Fruitful b = b ≡ true
IsFruit fruit.Fruitless b = b ≡ false
IsFruit fruit.Failed b = Unit {0}

-- the last call of the wire failed where the turn says so, and no other did
abbrev pub CountsFruit : Faults → Faults → Fruit → Type 0
CountsFruit before now fruit.Failed = LastFailed before now
CountsFruit before now other = NoneFailed before now

-- the same of a turn that may have broken off
abbrev pub CountsWire : Faults → Faults → Result Fruit TurnFault → Type 0
CountsWire before now (Ok how) = CountsFruit before now how
CountsWire before now (Err fault) = NoneFailed before now

-- of so many steps there are fewer after a fruitful turn, and no more after another
abbrev pub TakesSteps : Fruit → (before after : ℕ) → Type 0
TakesSteps fruit.Fruitful before after = after < before
TakesSteps other before after = after ≤ before

-- the same of an idle poll's receiving, where the moment took a step already if it grew
abbrev pub HearsSteps : (grew : Bool) → Fruit → (before after : ℕ) → Type 0
HearsSteps true how before after = after ≤ before
HearsSteps false how before after = TakesSteps how before after

-- what a receiving of an idle poll gave was heard, as in the definition
pub record ReceivesOnce (old new : ClientState) (grew : Bool)
    (coming coming' : Incoming) (how : Fruit) : Type 0 where
  pub receive : Received Peer
  pub is_fruit : Bool
  pub gave : GaveOne receive coming coming'
  pub fruit : IsFruit how is_fruit
  pub holds : (script : List (ℕ × CallText)) (lines : List ℕ) (clock : ClockAnswers) (rest : List (Received Peer))
      (sendings : List Bool) (sent : List (List ℕ)) (printed : List Printed) (fruitless : ℕ)
      → receives_one (receive ∷ rest) (driving old script lines clock (receive ∷ rest) sendings sent printed fruitless false)
      ≡ driving new script lines clock rest sendings sent printed fruitless (fails how)
  pub fruitful : (rest : List (Received Peer)) → (grew || takes_reply old (receive ∷ rest)) ≡ is_fruit

-- the poll is the definition's, with what it sent and received
pub record PollsOnce (node : Peer) (old new : ClientState) (t : ℕ)
    (coming coming' : Incoming) (sent sent' : Option (List Message)) (how : Fruit) : Type 0 where
  pub receives : List (Received Peer)
  pub sendings : List Bool
  pub frames : List (List ℕ)
  pub is_fruit : Bool
  pub gave : Gave receives coming coming'
  pub messages : Added (map (message_to node) frames) sent sent'
  pub fruit : IsFruit how is_fruit
  pub holds : (script : List (ℕ × CallText)) (lines : List ℕ) (clock : ClockAnswers) (rest : List (Received Peer))
      (more : List Bool) (others : List (List ℕ)) (printed : List Printed) (fruitless : ℕ)
      → polls t (poll old t) (driving old script lines clock (receives ++ rest) (sendings ++ more) others printed fruitless false)
      ≡ driving new script lines clock rest more (others ++ frames) printed fruitless (fails how)
  pub fruitful : (script : List (ℕ × CallText)) (lines : List ℕ) (clock : ClockAnswers) (rest : List (Received Peer))
      (more : List Bool) (others : List (List ℕ)) (printed : List Printed) (fruitless : ℕ)
      → is_fruitful t (poll old t)
      (driving old script lines clock (receives ++ rest) (sendings ++ more) others printed fruitless false)
      ≡ is_fruit
  pub received : (rest : List (Received Peer)) → HasReceiving (poll old t) (receives ++ rest)

-- ---- what ended
-- what is printed of the calls that ended
abbrev pub answered_by : ClientState → List ℕ → List Printed
answered_by s lines = map (λ f. Answered (line_of lines f.number) (told s.client f)) s.ended

-- the line of a call that ended so
abbrev pub answered_text : ℕ → Answer → Call → Text
answered_text line answer call = text_line (decimal line ∷ answer_text answer (counted answer call) ∷ [])

-- of the calls that ended some were handed out, and their lines written
pub record Handed (old now : ClientState) (lines : List ℕ) (written written' : Option (List ℕ)) : Type 0 where
  pub printed : List Printed
  pub text : Added (text_of printed) written written'
  pub rest : answered_by old lines ≡ printed ++ answered_by now lines

-- ---- a turn
-- the turn is the definition's, over what wire and clock gave
pub record TurnsOnce (calls : List (ℕ × CallText)) (node : Peer) (old new : ClientState) (from to : ℕ) (lines lines' : List ℕ)
    (before after : Told) (written written' : Option (List ℕ)) (how : Fruit) : Type 0 where
  pub receives : List (Received Peer)
  pub sendings : List Bool
  pub frames : List (List ℕ)
  pub printed : List Printed
  pub is_fruit : Bool
  pub gave : Gave receives before.coming after.coming
  pub messages : Added (map (message_to node) frames) before.sent after.sent
  pub text : Added (text_of printed) written written'
  pub fruit : IsFruit how is_fruit
  pub holds : (clock : ClockAnswers) → IsTold clock after.moments → (first : ClockAnswers) × IsTold first before.moments
      × ((rest : List (Received Peer)) (more : List Bool) (others : List (List ℕ)) (said : List Printed) (fruitless : ℕ)
      → let d : Driving Peer =
      driving old (drop from calls) lines first (receives ++ rest) (sendings ++ more) others said fruitless false in
      (turn d ≡ with_fruit is_fruit
      (driving new (drop to calls) lines' clock rest more (others ++ frames) (said ++ printed) fruitless (fails how)))
      × HasReceiving (next_poll d) (receives ++ rest))

-- the wire and the clock stand as before the turn or as after it, with what was sent besides the others
abbrev pub Stood : Peer → Driving Peer → List (List ℕ) → Told → Told → Type 0
Stood node d others before after =
    ((d.receives ≡ []) × Added [] before.sent after.sent × IsTold d.clock after.moments)
    ⊎ (HasReceiving (next_poll d) d.receives × ((turn d).receives ≡ [])
    × ((frames : List (List ℕ)) × ((turn d).sent ≡ others ++ frames)
    × Added (map (message_to node) frames) before.sent after.sent)
    × IsTold (turn d).clock after.moments)

-- of what the turn prints besides the rest a front was written
abbrev pub PrintsFront : Driving Peer → List Printed → Option (List ℕ) → Option (List ℕ) → Type 0
PrintsFront d said written written' =
    (printed : List Printed) × ((turn d).printed ≡ said ++ printed) × WroteFront (text_of printed) written written'

-- a turn broke off, before its moment was taken or after its poll
pub record BrokeTurning (calls : List (ℕ × CallText)) (node : Peer) (old : ClientState) (from : ℕ) (lines : List ℕ)
    (before after : Told) (written written' : Option (List ℕ)) : Type 0 where
  pub clock : ClockAnswers
  pub receives : List (Received Peer)
  pub sendings : List Bool
  pub told : IsTold clock before.moments
  pub gave : Gave receives before.coming after.coming
  pub holds : (others : List (List ℕ)) (said : List Printed) (fruitless : ℕ)
      → let d : Driving Peer = driving old (drop from calls) lines clock receives sendings others said fruitless false in
      PrintsFront d said written written' × Stood node d others before after

-- ---- turn after turn
-- how many turns in a row were not fruitful, after one more
abbrev pub fruitless_by : Bool → ℕ → ℕ
fruitless_by true n = 0
fruitless_by false n = n + 1

-- from the start to now by turns of the definition, of which none goes on from a stop
pub record Ran (calls : List (ℕ × CallText)) (node : Peer) (start now : ClientState) (next : ℕ) (lines : List ℕ)
    (before after : Told) (written written' : Option (List ℕ)) (fruitless : ℕ) (failed : Bool) : Type 0 where
  pub receives : List (Received Peer)
  pub sendings : List Bool
  pub frames : List (List ℕ)
  pub printed : List Printed
  pub gave : Gave receives before.coming after.coming
  pub messages : Added (map (message_to node) frames) before.sent after.sent
  pub text : Added (text_of printed) written written'
  -- whatever the clock and the sendings give later, and whatever is received later
  pub holds : (clock : ClockAnswers) → IsTold clock after.moments → (first : ClockAnswers) × IsTold first before.moments
      × ((rest : List (Received Peer)) (more : List Bool) (end : Driving Peer)
      → Drove (driving now (drop next calls) lines clock rest more frames printed fruitless failed) end
      → Drove (driving_of start calls first (receives ++ rest) (sendings ++ more)) end)
