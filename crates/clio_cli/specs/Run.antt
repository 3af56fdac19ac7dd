-- What the program does, as its source, its sink, its wire and its clock show it.
use Rattle.std.specs.Prelude.{◌≡◌, ◌⊎◌, ℕ, List, IfSome, IsTrue, Some, None}
use Rattle.std.specs.declared.option.Option.{Option}
use Rattle.cl_outside.specs.Counts.{LastFailed, NoneFailed}
use Rattle.cl_outside.specs.Told.{Added}
use Rattle.cl_outside.specs.Wire.{Binding}
use Rattle.cl_outside.specs.declared.faults.Faults.{Faults}
use Rattle.cl_types.specs.declared.numbers.ClientNo.{ClientNo}
use Rattle.cl_types.specs.declared.open_fault.OpenFault.{OpenFault}
use Rattle.cl_types.specs.declared.schedule.Schedule.{Schedule}
use Rattle.client_command.specs.Ends.{ClientEnds, task_of}
use Rattle.client_command.specs.declared.ends.ClientEnd.{ClientEnd}
use Rattle.client_command.specs.declared.ends.ClientEnd.TheVariants as client_end
use Rattle.flat_model.specs.Opening.{open_fault}
use Rattle.node_command.specs.Ends.{NodeEnds, NodeNumbers}
use Rattle.node_command.specs.declared.node_end.NodeEnd.{NodeEnd}
use Rattle.node_command.specs.declared.node_end.NodeEnd.TheVariants as node_end
use Rattle.texts.specs.Commands.{Command, Replay, Check, Storm, Serve, Drive, command_in}
use Rattle.texts.specs.Grammar.{schedule_of, script_of}
use Rattle.texts.specs.Text.{Text}
use Rattle.transcript_text.specs.HistoryGrammar.{history_of}
use Rattle.wire_loop.specs.Serves.{Told}
use Rattle.wire_loop.specs.Wired.{Wired, wired}
use Rattle.command_text.specs.Outputs.{AsksTranscript, AsksVerdict, Calls, HasBadEntry, HasBadNode, History, IsCheckable, IsRefused, IsReplayable, IsScript, IsTooLong, bad_words, history_fault, schedule_fault, storm_output}
use Rattle.command_text.specs.Status.{number_of}
use Rattle.command_text.specs.TextEnds.{reads_input, EndsInText}
use Rattle.command_text.specs.declared.output.Output.{Output}
use Rattle.command_text.specs.declared.status.Status.{Status}
use Rattle.command_text.specs.declared.status.Status.TheVariants as status
use Rattle.command_text.specs.Streams.{Streams, IsInput, IsUnread}

-- what wire and clock tell, the last bind, and which calls of the wire failed
pub record Network : Type 0 where
  pub told : Told
  pub last_bind : Option (Option Binding)
  pub faults : Faults

-- the same, of these
abbrev pub network : Told → Option (Option Binding) → Faults → Network
network told last_bind faults = record { told = told; last_bind = last_bind; faults = faults }

-- all that a command line is served with
pub record Outside : Type 0 where
  pub streams : Streams
  pub network : Network

-- the same, of these
abbrev pub outside : Streams → Network → Outside
outside streams network = record { streams = streams; network = network }

-- what a command over a wire is seen by
abbrev pub wired_of : Outside → Wired
wired_of o = wired o.network.told o.network.last_bind o.network.faults o.streams.written o.streams.write_faults

-- these are the calls of the script that the source gave, which was read to its end
pub record TookScript (calls : Calls) (before after : Streams) : Type 0 where
  pub bytes : List ℕ
  pub input : IsInput bytes before.left after.left
  pub script : IsScript bytes calls
  pub faults : NoneFailed before.read_faults after.read_faults

-- the status with which serving a node ends
abbrev pub node_status : NodeEnd → Status
node_status (node_end.Served node) = status.Ok
node_status node_end.BadNode = status.BadNode
node_status node_end.WireFault = status.WireFault
node_status node_end.WriteFault = status.WriteFault
node_status node_end.NoMemory = status.NoMemory

-- the status with which driving a client ends
abbrev pub client_status : ClientEnd → Status
client_status (client_end.Driven client) = status.Ok
client_status client_end.Stalled = status.Stalled
client_status client_end.WireFault = status.WireFault
client_status client_end.WriteFault = status.WriteFault
client_status client_end.NoMemory = status.NoMemory

-- how the program ends, with this status
pub data Ends (command : Option Command) (before after : Outside) (st : Status) : Type 0 where
  -- an output was to be written; wire and clock are as they were
  InText : (network : after.network ≡ before.network) → (end : EndsInText command before.streams after.streams st)
      → Ends command before after st
  -- a node was to be served
  OnNode : (n : NodeNumbers) → (asked : command ≡ Some (Serve n.port n.config n.frames n.idles))
      → (unread : IsUnread before.streams after.streams)
      → (how : NodeEnd) → (is : st ≡ node_status how) → (ends : NodeEnds n (wired_of before) (wired_of after) how)
      → Ends command before after st
  -- a client was to be driven through the script that was read
  OnScript : (port : ℕ) → (client : ClientNo) → (pid : ℕ) → (asked : command ≡ Some (Drive port client pid))
      → (calls : Calls) → (took : TookScript calls before.streams after.streams)
      → (how : ClientEnd) → (is : st ≡ client_status how)
      → (ends : ClientEnds (task_of port client pid calls) (wired_of before) (wired_of after) how)
      → Ends command before after st

-- the status of this number is one with which the program ends so
abbrev pub EndsWith : List Text → Outside → Outside → ℕ → Type 0
EndsWith words before after number = (status : Status) × (number ≡ number_of status) × Ends (command_in words) before after status

-- ---- when each status comes
-- of source, sink and wire none's last call failed
pub record NoFault (before after : Outside) : Type 0 where
  pub read : LastFailed before.streams.read_faults after.streams.read_faults → ⊥
  pub write : LastFailed before.streams.write_faults after.streams.write_faults → ⊥
  pub wire : LastFailed before.network.faults after.network.faults → ⊥

-- the number is this status's only from this cause, and from this cause it is, unless a call failed or there was no
-- memory
pub record Exactly (before after : Outside) (number : ℕ) (st : Status) (Cause : Type 0) : Type 0 where
  pub only : number ≡ number_of st → Cause
  pub always : Cause → NoFault before after → (number ≡ number_of st) ⊎ (number ≡ number_of status.NoMemory)

-- the same where the source tells its bytes, of which the cause is, by the command
abbrev pub ExactlyOf : List Text → Outside → Outside → ℕ → Status → (Option Command → List ℕ → Type 0) → Type 0
ExactlyOf words before after number st Cause =
    IfSome before.streams.left (λ bytes. Exactly before after number st (Cause (command_in words) bytes))

-- the command reads the input, which has too many bytes or lines
abbrev pub HasLongInput : Option Command → List ℕ → Type 0
HasLongInput command bytes = IsTrue (reads_input command) × IsTooLong bytes

-- a line of the input is bad in the grammar of the command
abbrev pub HasBadInput : Option Command → List ℕ → Type 0
HasBadInput (Some Replay) bytes = IsRefused Schedule schedule_of bytes
HasBadInput (Some Check) bytes = IsRefused History history_of bytes
HasBadInput (Some (Drive port client pid)) bytes = IsRefused Calls script_of bytes
HasBadInput other bytes = ⊥

-- the node of the input doesn't open
abbrev pub HasClosedNode : Option Command → List ℕ → Type 0
HasClosedNode (Some Replay) bytes = HasBadNode Schedule schedule_of schedule_fault bytes
HasClosedNode (Some Check) bytes = HasBadNode History history_of history_fault bytes
HasClosedNode other bytes = ⊥

-- the node doesn't open: that of the words, or that of the input
abbrev pub ExactlyClosed : Option Command → Outside → Outside → ℕ → Type 0
ExactlyClosed (Some (Serve port config frames idles)) before after number =
    Exactly before after number status.BadNode ((fault : OpenFault) × (open_fault config ≡ Some fault))
ExactlyClosed command before after number =
    IfSome before.streams.left (λ bytes. Exactly before after number status.BadNode (HasClosedNode command bytes))

-- the history that is checked is no run
abbrev pub HasNoRun : Option Command → List ℕ → Type 0
HasNoRun (Some Check) bytes = HasBadEntry bytes
HasNoRun other bytes = ⊥

-- the client was driven through its script to a stall, which was written
abbrev pub HasStalled : Option Command → Outside → Outside → Type 0
HasStalled (Some (Drive port client pid)) before after =
    (calls : Calls) × TookScript calls before.streams after.streams
    × ClientEnds (task_of port client pid calls) (wired_of before) (wired_of after) client_end.Stalled
HasStalled other before after = ⊥

-- ---- completeness
-- where no call failed the program ends with one of these, or there was no memory
abbrev pub EndsIn : Outside → Outside → ℕ → (ℕ → Type 0) → Type 0
EndsIn before after number Good = NoFault before after → Good number ⊎ (number ≡ number_of status.NoMemory)

-- an output of this kind was written, whole, with its status
abbrev pub Writes : Outside → Outside → (Output → Type 0) → ℕ → Type 0
Writes before after Wanted number =
    (output : Output) × Wanted output × (number ≡ number_of output.status) × Added output.text before.streams.written after.streams.written

-- by the command: a schedule whose node opens gets its whole transcript, a history whose node opens its verdict, and a
-- storm its counts; a node that opens is served to its end, and a client is driven to the end of its script, or stalls
abbrev pub CompleteOf : Option Command → Outside → Outside → ℕ → Type 0
CompleteOf (Some Replay) before after number =
    IfSome before.streams.left (λ bytes. (s : Schedule) → IsReplayable bytes s → EndsIn before after number (Writes before after (AsksTranscript s)))
CompleteOf (Some Check) before after number =
    IfSome before.streams.left (λ bytes. (h : History) → IsCheckable bytes h → EndsIn before after number (Writes before after (AsksVerdict h)))
CompleteOf (Some (Storm seed calls)) before after number =
    EndsIn before after number (Writes before after (λ output. output ≡ storm_output seed calls))
CompleteOf (Some (Serve port config frames idles)) before after number =
    open_fault config ≡ None → EndsIn before after number (λ n. n ≡ number_of status.Ok)
CompleteOf (Some (Drive port client pid)) before after number =
    IfSome before.streams.left (λ bytes. (calls : Calls) → IsScript bytes calls
    → EndsIn before after number (λ n. (n ≡ number_of status.Ok) ⊎ (n ≡ number_of status.Stalled)))
CompleteOf None before after number = EndsIn before after number (Writes before after (λ output. output ≡ bad_words))

-- the same, of a command line
abbrev pub Complete : List Text → Outside → Outside → ℕ → Type 0
Complete words before after number = CompleteOf (command_in words) before after number

-- ---- what is let be
-- a command that serves no node and drives no client leaves wire and clock as they were
abbrev pub LetsNetworkBe : Option Command → Outside → Outside → Type 0
LetsNetworkBe (Some (Serve port config frames idles)) before after = Unit {0}
LetsNetworkBe (Some (Drive port client pid)) before after = Unit {0}
LetsNetworkBe other before after = after.network ≡ before.network

-- ---- failures
-- the text that was to be written may lack its end
abbrev pub IsCutShort : ℕ → Type 0
IsCutShort number = (number ≡ number_of status.WriteFault) ⊎ (number ≡ number_of status.NoMemory)

-- The first failure ends the run: with the status of a read fault one read failed, and it was the last, and with any other
-- none did; and so it is with writes. With a wire fault one call of the wire failed, and it was the last; with any other
-- status none did, unless the line of a wire fault could not be written, or there was no memory for it.
pub record FaultsEndTheRun (before after : Outside) (number : ℕ) : Type 0 where
  pub read : number ≡ number_of status.ReadFault → LastFailed before.streams.read_faults after.streams.read_faults
  pub write : number ≡ number_of status.WriteFault → LastFailed before.streams.write_faults after.streams.write_faults
  pub wire : number ≡ number_of status.WireFault → LastFailed before.network.faults after.network.faults
  pub no_read : (number ≡ number_of status.ReadFault → ⊥) → NoneFailed before.streams.read_faults after.streams.read_faults
  pub no_write : (number ≡ number_of status.WriteFault → ⊥) → NoneFailed before.streams.write_faults after.streams.write_faults
  pub no_wire : (number ≡ number_of status.WireFault → ⊥) → NoneFailed before.network.faults after.network.faults
      ⊎ (LastFailed before.network.faults after.network.faults × IsCutShort number)
