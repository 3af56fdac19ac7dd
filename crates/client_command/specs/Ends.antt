-- How the command that drives a client ends, as its wire, its clock and its sink show it.
use Rattle.std.specs.Prelude.{◌≡◌, ◌⊎◌, ℕ, List, []}
use Rattle.std.specs.Option.{option_map}
use Rattle.std.specs.declared.option.Option.{Option}
use Rattle.std.specs.declared.option.Option.TheVariants.{Some}
use Rattle.cl_outside.specs.Counts.{LastFailed, NoneFailed}
use Rattle.cl_outside.specs.Loops.{WroteFront}
use Rattle.cl_outside.specs.Told.{Added}
use Rattle.cl_outside.specs.declared.faults.Faults.{Faults}
use Rattle.cl_outside.specs.declared.wire.Bound.{Bound}
use Rattle.cl_outside.specs.declared.wire.Bound.TheVariants as bound
use Rattle.cl_outside.specs.declared.wire.Peer.{Peer}
use Rattle.cl_types.specs.declared.limits.TheConstants.{STALL_TURNS}
use Rattle.cl_types.specs.declared.numbers.ClientNo.{ClientNo}
use Rattle.cl_types.specs.declared.schedule.CallText.{CallText}
use Rattle.client_model.specs.Client.{ClientState, new_client}
use Rattle.texts.specs.Text.{Text}
use Rattle.wire_loop.specs.Driving.{DriveStop, AllEnded, Stalled, WireFailed}
use Rattle.wire_loop.specs.Drives.{BreaksOff, Drives}
use Rattle.wire_loop.specs.Wired.{Wired, wire_fault_line}
use Rattle.client_command.specs.Lines.{stalled_line}
use Rattle.client_command.specs.declared.ends.ClientEnd.{ClientEnd}
use Rattle.client_command.specs.declared.ends.ClientEnd.TheVariants as end

-- ---- what is given, and what shows
-- the node that the client calls, the client before its first call, and its script
pub record Task : Type 0 where
  pub node : Peer
  pub client : ClientState
  pub script : List (ℕ × CallText)

-- the peer at this port of the same machine, 127.0.0.1
abbrev pub node_at : (port : ℕ) → Peer
node_at port = record { ip = 2130706433; port = port }

-- a node at this port of the same machine, and a new client of this number and process
abbrev pub task_of : (port : ℕ) → ClientNo → (process : ℕ) → List (ℕ × CallText) → Task
task_of port number process script = record {
  node = node_at port;
  client = new_client number process;
  script = script;
}

-- the last bind asked for any free port, and was answered so
abbrev pub BindsAny : Bound → Wired → Wired → Type 0
BindsAny answer before after =
    after.last_bind ≡ option_map (λ _. Some (record { asked = 0; answer = answer })) before.last_bind

-- ---- a stop
-- the line that is written at a stop
abbrev pub last_line : DriveStop → Text
last_line AllEnded = []
last_line (Stalled moment) = stalled_line moment STALL_TURNS
last_line WireFailed = wire_fault_line

-- of all calls of the wire the last alone failed, where the stop is for that, and else none
abbrev pub CountsStop : DriveStop → Faults → Faults → Type 0
CountsStop WireFailed before now = LastFailed before now
CountsStop other before now = NoneFailed before now

-- ---- how far a client comes
-- the bind failed: nothing was received or sent, and the clock was not asked
pub record Unbound (before after : Wired) : Type 0 where
  pub bound : BindsAny bound.Failed before after
  pub passed : after.told ≡ before.told
  pub wire : LastFailed before.wire_faults after.wire_faults

-- on a free port the client was driven to this stop: it is now this one, and its turns wrote the text up to here
pub record DrivenTo (t : Task) (client : ClientState) (stop : DriveStop) (before after : Wired)
    (printed : Option (List ℕ)) : Type 0 where
  pub port : ℕ
  pub bound : BindsAny (bound.Port port) before after
  -- what was received and sent, and what the clock answered
  pub drives : Drives t.client client t.script t.node before.told after.told before.written printed stop
  pub wire : CountsStop stop before.wire_faults after.wire_faults

-- on a free port the driving broke off in a turn, of whose text a front was written
pub record BrokenOff (t : Task) (before after : Wired) : Type 0 where
  pub port : ℕ
  pub bound : BindsAny (bound.Port port) before after
  pub breaks : BreaksOff t.client t.script t.node before.told after.told before.written after.written
  pub wire : NoneFailed before.wire_faults after.wire_faults

-- ---- a whole text
-- the client was driven to this stop, and all of its text was written, and the stop's line after it
pub record StopsAt (t : Task) (client : ClientState) (stop : DriveStop) (before after : Wired) : Type 0 where
  pub printed : Option (List ℕ)
  pub driven : DrivenTo t client stop before after printed
  pub line : Added (last_line stop) printed after.written
  pub sink : NoneFailed before.write_faults after.write_faults

-- the bind failed, and the line of that was written
pub record StopsUnbound (before after : Wired) : Type 0 where
  pub unbound : Unbound before after
  pub line : Added wire_fault_line before.written after.written
  pub sink : NoneFailed before.write_faults after.write_faults

-- ---- a text that was cut
-- a front of the text was written, up to somewhere in this
pub data CutIn (t : Task) (before after : Wired) : Type 0 where
  -- the line of a bind that failed
  FaultLine : (unbound : Unbound before after) → (front : WroteFront wire_fault_line before.written after.written)
      → CutIn t before after
  -- the text of a turn
  TurnText : (broken : BrokenOff t before after) → CutIn t before after
  -- the line of a stop
  LastLine : (client : ClientState) → (stop : DriveStop) → (printed : Option (List ℕ))
      → (driven : DrivenTo t client stop before after printed) → (front : WroteFront (last_line stop) printed after.written)
      → CutIn t before after

-- an allocation was refused: nothing was done, or the text was cut, and no call failed
pub record OutOfMemory (t : Task) (before after : Wired) : Type 0 where
  pub came : (after ≡ before) ⊎ CutIn t before after
  pub wire : NoneFailed before.wire_faults after.wire_faults
  pub sink : NoneFailed before.write_faults after.write_faults

-- ---- the end
-- a client was driven so, from what wire, clock and sink showed before to what they show after
abbrev pub ClientEnds : Task → Wired → Wired → ClientEnd → Type 0
ClientEnds t before after (end.Driven client) = StopsAt t client AllEnded before after
ClientEnds t before after end.Stalled =
    (client : ClientState) × (moment : ℕ) × StopsAt t client (Stalled moment) before after
ClientEnds t before after end.WireFault =
    StopsUnbound before after ⊎ ((client : ClientState) × StopsAt t client WireFailed before after)
ClientEnds t before after end.WriteFault = CutIn t before after × LastFailed before.write_faults after.write_faults
ClientEnds t before after end.NoMemory = OutOfMemory t before after
