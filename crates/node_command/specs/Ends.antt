-- How the command that serves a node ends, as its wire, its clock and its sink show it.
use Rattle.std.specs.Prelude.{◌≡◌, ◌⊎◌, ℕ, List, [], ◌++◌, Option, Some, None, option_map}
use Rattle.cl_outside.specs.Counts.{LastFailed, NoneFailed}
use Rattle.cl_outside.specs.Loops.{WroteFront}
use Rattle.cl_outside.specs.Told.{Added}
use Rattle.cl_outside.specs.declared.wire.Bound.{Bound}
use Rattle.cl_outside.specs.declared.wire.Bound.TheVariants.{Port, Failed}
use Rattle.cl_types.specs.declared.config.NodeConfig.{NodeConfig}
use Rattle.cl_types.specs.declared.open_fault.OpenFault.{OpenFault}
use Rattle.data_path.specs.Store.{no_entries}
use Rattle.flat_model.specs.Opening.{open_fault}
use Rattle.node_core.specs.Keeping.{KeptNode}
use Rattle.node_model.specs.Nodes.{opening_node}
use Rattle.texts.specs.Text.{Text}
use Rattle.texts.specs.Texts.{open_fault_line}
use Rattle.wire_loop.specs.Serves.{CountsServe, Serves}
use Rattle.wire_loop.specs.declared.serving.ServeEnd.{ServeEnd}
use Rattle.wire_loop.specs.declared.serving.ServeEnd.TheVariants as serve_end
use Rattle.wire_loop.specs.Wired.{Wired, wire_fault_line}
use Rattle.node_command.specs.Lines.{end_line, port_line}
use Rattle.node_command.specs.declared.node_end.NodeEnd.{NodeEnd}
use Rattle.node_command.specs.declared.node_end.NodeEnd.TheVariants as node_end

-- ---- what is asked, and what is seen
-- the port, the node, and after how many datagrams or idle turns serving ends
pub record NodeNumbers : Type 0 where
  pub port : ℕ
  pub config : NodeConfig
  pub frames : ℕ
  pub idles : ℕ

-- the same, of these
abbrev pub numbers : ℕ → NodeConfig → ℕ → ℕ → NodeNumbers
numbers port config frames idles = record { port = port; config = config; frames = frames; idles = idles }

-- the node before its first datagram
abbrev pub node_of : NodeConfig → KeptNode
node_of config = record { node = opening_node config; last = 0; cache = no_entries }

-- ---- stages
-- how far the command came
pub data Stage : Type 0 where
  NodeRefused : OpenFault → Stage
  BindFailed : Stage
  PortBound : (port : ℕ) → Stage
  ServingEnded : (port : ℕ) → (node : KeptNode) → ServeEnd → Stage

-- the line that is written at the stage
abbrev pub line_at : (frames : ℕ) → Stage → Text
line_at frames (NodeRefused fault) = open_fault_line fault
line_at frames BindFailed = wire_fault_line
line_at frames (PortBound port) = port_line port
line_at frames (ServingEnded port node how) = end_line frames how

-- the text of the stages before it
abbrev pub text_before : Stage → Text
text_before (ServingEnded port node how) = port_line port
text_before other = []

-- the end of the command by that of serving: success with the node, unless the wire failed
abbrev pub end_by : ServeEnd → KeptNode → NodeEnd
end_by (serve_end.WireFault served) node = node_end.WireFault
end_by other node = node_end.Served node

-- the end of the command, where the line of the stage was written; no command ends with its port's line
abbrev pub IsEndAt : Stage → NodeEnd → Type 0
IsEndAt (NodeRefused fault) end = end ≡ node_end.BadNode
IsEndAt BindFailed end = end ≡ node_end.WireFault
IsEndAt (PortBound port) end = ⊥
IsEndAt (ServingEnded port node how) end = end ≡ end_by how node

-- nothing was bound, received or sent, and the clock was not asked
pub record IsUntouched (before after : Wired) : Type 0 where
  pub told : after.told ≡ before.told
  pub last_bind : after.last_bind ≡ before.last_bind
  pub wire_faults : after.wire_faults ≡ before.wire_faults

-- the last bind asked for this port, and was answered so
abbrev pub Binds : ℕ → Bound → Wired → Wired → Type 0
Binds port answer before after =
    after.last_bind ≡ option_map (λ _. Some (record { asked = port; answer = answer })) before.last_bind

-- the node of these numbers opens, and the bind was answered so
pub record BoundSo (n : NodeNumbers) (answer : Bound) (before after : Wired) : Type 0 where
  pub opens : open_fault n.config ≡ None
  pub binds : Binds n.port answer before after

-- the command came so far, as the wire and the clock show it
abbrev pub Reaches : NodeNumbers → Wired → Wired → Stage → Type 0
-- the node doesn't open, for this reason
Reaches n before after (NodeRefused fault) = (open_fault n.config ≡ Some fault) × IsUntouched before after
-- the bind failed, as the last call of the wire, and nothing was received
Reaches n before after BindFailed =
    BoundSo n Failed before after × (after.told ≡ before.told) × LastFailed before.wire_faults after.wire_faults
-- this port is bound, and nothing was received yet
Reaches n before after (PortBound port) =
    BoundSo n (Port port) before after × (after.told ≡ before.told) × NoneFailed before.wire_faults after.wire_faults
-- this port is bound, and the node was served to this end
Reaches n before after (ServingEnded port node how) =
    BoundSo n (Port port) before after × Serves n.frames n.idles (node_of n.config) node before.told after.told how
    × CountsServe before.wire_faults after.wire_faults how

-- ---- ends
-- the command ended at a stage, and all text was written
pub record EndsWhole (n : NodeNumbers) (before after : Wired) (answer : NodeEnd) : Type 0 where
  pub stage : Stage
  pub reaches : Reaches n before after stage
  pub is_end : IsEndAt stage answer
  pub text : Added (text_before stage ++ line_at n.frames stage) before.written after.written
  pub writes : NoneFailed before.write_faults after.write_faults

-- a write failed in the line of a stage, as the last call of the sink, and a prefix of that line was written
pub record EndsCut (n : NodeNumbers) (before after : Wired) : Type 0 where
  pub stage : Stage
  pub reaches : Reaches n before after stage
  pub between : Option (List ℕ)
  pub text : Added (text_before stage) before.written between
  pub front : WroteFront (line_at n.frames stage) between after.written
  pub writes : LastFailed before.write_faults after.write_faults

-- there was no memory for the line of a stage, and the text before it was written
pub record EndsShort (n : NodeNumbers) (before after : Wired) : Type 0 where
  pub stage : Stage
  pub reaches : Reaches n before after stage
  pub text : Added (text_before stage) before.written after.written
  pub writes : NoneFailed before.write_faults after.write_faults

-- there was no memory for the node, and nothing was done
pub record EndsUnopened (before after : Wired) : Type 0 where
  pub wire : IsUntouched before after
  pub written : after.written ≡ before.written
  pub write_faults : after.write_faults ≡ before.write_faults

-- how the command ends
abbrev pub NodeEnds : NodeNumbers → Wired → Wired → NodeEnd → Type 0
NodeEnds n before after node_end.WriteFault = EndsCut n before after
NodeEnds n before after node_end.NoMemory = EndsUnopened before after ⊎ EndsShort n before after
NodeEnds n before after other = EndsWhole n before after other
