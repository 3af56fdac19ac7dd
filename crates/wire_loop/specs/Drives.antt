-- What driving a client does, as its wire, its clock and its sink show it.
use Rattle.std.specs.Prelude.{◌≡◌, ◌⊎◌, ℕ, ◌<◌, List, [], ◌∷◌, ◌++◌, Option, None, map, flat_map}
use Rattle.cl_outside.specs.Counts.{LastFailed, NoneFailed}
use Rattle.cl_outside.specs.Loops.{WroteFront}
use Rattle.cl_outside.specs.Told.{Added}
use Rattle.cl_outside.specs.Wire.{Message}
use Rattle.cl_outside.specs.declared.faults.Faults.{Faults}
use Rattle.cl_outside.specs.declared.wire.Peer.{Peer}
use Rattle.cl_types.specs.declared.limits.TheConstants.{STALL_TURNS}
use Rattle.cl_types.specs.declared.schedule.CallText.{CallText}
use Rattle.client_model.specs.Client.{ClientState, Polled, Idles, poll}
use Rattle.texts.specs.Text.{Text}
use Rattle.wire_loop.specs.Driving.{Driving, DrivesTo, Printed, DriveStop, AllEnded, Stalled, WireFailed, driving_of, issues, stop_at, turn, turns}
use Rattle.wire_loop.specs.Outside.{ClockAnswers, Received, Sendings, moment_of}
use Rattle.wire_loop.specs.Printing.{printed_text}
use Rattle.wire_loop.specs.Serves.{Gave, IsTold, Told}
use Rattle.wire_loop.specs.declared.driving.DriveEnd.{DriveEnd}
use Rattle.wire_loop.specs.declared.driving.DriveEnd.TheVariants as end

-- ---- what a sink and a wire show
-- the text of what was printed
abbrev pub text_of : List Printed → Text
text_of printed = flat_map printed_text printed

-- a frame that went to the node
abbrev pub message_to : Peer → List ℕ → Message
message_to node bytes = record { bytes = bytes; from = node }

-- ---- the turns
-- what the poll of the next turn does
abbrev pub next_poll : Driving Peer → Polled
next_poll d = let ready : Driving Peer = issues d.script d in poll ready.client (moment_of ready.clock ready.client.last)

-- an idle poll has something to receive
abbrev pub HasReceiving : Polled → List (Received Peer) → Type 0
HasReceiving Idles [] = ⊥
HasReceiving Idles (r ∷ rs) = Unit {0}
HasReceiving other rs = Unit {0}

-- turns lead from one to the other: none goes on from a stop, and each idle poll has something to receive
pub record Drove (d e : Driving Peer) : Type 0 where
  pub count : ℕ
  pub after : e ≡ turns count d
  pub goes_on : (k : ℕ) → k < count → stop_at (turns k d) ≡ None
  pub received : (k : ℕ) → k < count → HasReceiving (next_poll (turns k d)) (turns k d).receives

-- the wire and the clock stand as here: all that was received is taken, and this was sent
pub record StandsAt (node : Peer) (d : Driving Peer) (before after : Told) : Type 0 where
  pub all : d.receives ≡ []
  pub sent : Added (map (message_to node) d.sent) before.sent after.sent
  pub still : IsTold d.clock after.moments

-- ---- the ends
-- a client was driven up to a stop: it is the definition's, over what wire and clock gave, and all of its text was written
pub record Drives (old new : ClientState) (script : List (ℕ × CallText)) (node : Peer) (before after : Told)
    (written written' : Option (List ℕ)) (stop : DriveStop) : Type 0 where
  -- what the clock answers, whether each sending goes through, and what each receiving gave
  pub clock : ClockAnswers
  pub sendings : Sendings
  pub receives : List (Received Peer)
  pub at_end : Driving Peer
  pub told : IsTold clock before.moments
  pub gave : Gave receives before.coming after.coming
  -- the turns of the definition, none more and none less
  pub drives : DrivesTo (driving_of old script clock receives sendings) at_end stop
  pub received : (k : ℕ) → k < drives.count
      → let d : Driving Peer = turns k (driving_of old script clock receives sendings) in HasReceiving (next_poll d) d.receives
  pub stands : StandsAt node at_end before after
  pub client : new ≡ at_end.client
  pub text : Added (text_of at_end.printed) written written'

-- driving broke off in a turn, before its moment was taken or after its poll: of the text of this turn a front was written
pub record BreaksOff (old : ClientState) (script : List (ℕ × CallText)) (node : Peer) (before after : Told)
    (written written' : Option (List ℕ)) : Type 0 where
  pub clock : ClockAnswers
  pub sendings : Sendings
  pub receives : List (Received Peer)
  pub at : Driving Peer
  pub told : IsTold clock before.moments
  pub gave : Gave receives before.coming after.coming
  pub drove : Drove (driving_of old script clock receives sendings) at
  pub goes_on : stop_at at ≡ None
  pub stands : StandsAt node at before after
      ⊎ (HasReceiving (next_poll at) at.receives × StandsAt node (turn at) before after)
  pub printed : List Printed
  pub prints : (turn at).printed ≡ at.printed ++ printed
  pub between : Option (List ℕ)
  pub whole : Added (text_of at.printed) written between
  pub front : WroteFront (text_of printed) between written'

-- what came of driving a client that ended so
abbrev pub CameTo : ClientState → ClientState → List (ℕ × CallText) → Peer → Told → Told
    → Option (List ℕ) → Option (List ℕ) → DriveEnd → Type 0
CameTo old new script node before after written written' end.AllEnded =
    Drives old new script node before after written written' AllEnded
CameTo old new script node before after written written' (end.Stalled moment turns) =
    (turns ≡ STALL_TURNS) × Drives old new script node before after written written' (Stalled moment)
CameTo old new script node before after written written' end.WireFault =
    Drives old new script node before after written written' WireFailed
CameTo old new script node before after written written' end.WriteFault = BreaksOff old script node before after written written'
CameTo old new script node before after written written' end.NoMemory = BreaksOff old script node before after written written'

-- the last call of the wire or of the sink failed where the end says so, and no other call did
abbrev pub CountsDrive : Faults → Faults → Faults → Faults → DriveEnd → Type 0
CountsDrive wire wire' sink sink' end.WireFault = LastFailed wire wire' × NoneFailed sink sink'
CountsDrive wire wire' sink sink' end.WriteFault = NoneFailed wire wire' × LastFailed sink sink'
CountsDrive wire wire' sink sink' other = NoneFailed wire wire' × NoneFailed sink sink'
