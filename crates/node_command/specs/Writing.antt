-- Writing a line of the command, and what a function of it starts from. No public clause cites this module.
use Rattle.std.specs.Prelude.{◌≡◌, ℕ, Bool, true, false, List, Option, None, Result, Ok, Err, MatchOption}
use Rattle.cl_outside.specs.Counts.{LastFailed, NoneFailed}
use Rattle.cl_outside.specs.Loops.{WroteFront}
use Rattle.cl_outside.specs.Told.{Added}
use Rattle.cl_outside.specs.Wire.{Binding}
use Rattle.cl_outside.specs.declared.faults.Faults.{Faults}
use Rattle.cl_outside.specs.declared.wire.Bound.TheVariants.{Port}
use Rattle.cl_types.specs.declared.config.NodeConfig.{NodeConfig}
use Rattle.cl_types.specs.declared.open_fault.OpenFault.{OpenFault}
use Rattle.cl_types.specs.declared.open_fault.OpenFault.TheVariants as open_fault
use Rattle.flat_model.specs.Opening as opening
use Rattle.texts.specs.Text.{Text}
use Rattle.node_core.specs.Keeping.{KeptNode}
use Rattle.node_command.specs.Ends.{BoundSo, NodeEnds, NodeNumbers, end_by, node_of, numbers}
use Rattle.node_command.specs.declared.node_end.NodeEnd.{NodeEnd}
use Rattle.node_command.specs.declared.node_end.NodeEnd.TheVariants as node_end
use Rattle.wire_loop.specs.Serves.{Told}
use Rattle.wire_loop.specs.declared.serving.ServeEnd.{ServeEnd}
use Rattle.wire_loop.specs.Wired.{Wired, wired}
use Rattle.node_command.specs.declared.node_end.Cut.{Cut}
use Rattle.node_command.specs.declared.node_end.Cut.TheVariants as cut

-- the line was written, or a write failed in it, or there was no memory for it
abbrev pub WritesLine : Text → (before after : Option (List ℕ)) → (faults faults' : Faults) → Result (Unit {0}) Cut → Type 0
WritesLine line before after faults faults' (Ok done) = Added line before after × NoneFailed faults faults'
WritesLine line before after faults faults' (Err cut.WriteFault) = WroteFront line before after × LastFailed faults faults'
WritesLine line before after faults faults' (Err cut.NoMemory) = (after ≡ before) × (faults' ≡ faults)

-- the end of a command whose text was cut
abbrev pub cut_end : Cut → NodeEnd
cut_end cut.WriteFault = node_end.WriteFault
cut_end cut.NoMemory = node_end.NoMemory

-- the end of a command whose node was served to this end, or whose text was cut
abbrev pub ends_by : Result ServeEnd Cut → KeptNode → NodeEnd
ends_by (Ok how) node = end_by how node
ends_by (Err reason) node = cut_end reason

-- the reason is that there was no memory
abbrev pub is_memory : OpenFault → Bool
is_memory open_fault.NoMemory = true
is_memory other = false

-- the node doesn't open for this reason, of which memory is one
abbrev pub IsRefusedFor : NodeConfig → OpenFault → Type 0
IsRefusedFor config fault = MatchOption (opening.open_fault config) (fault ≡ open_fault.NoMemory) (λ found. fault ≡ found)

-- from before until now this port was bound, and nothing else was done
pub record IsBound (n : NodeNumbers) (port : ℕ) (before now : Wired) : Type 0 where
  pub so : BoundSo n (Port port) before now
  pub told : now.told ≡ before.told
  pub wire_faults : NoneFailed before.wire_faults now.wire_faults
  pub written : now.written ≡ before.written
  pub write_faults : now.write_faults ≡ before.write_faults

-- wherever a port was bound so far for the node of some numbers, the command ends so from now on
abbrev pub EndsFrom : (port : ℕ) → KeptNode → (frames idles : ℕ) → (now after : Wired) → NodeEnd → Type 0
EndsFrom port node frames idles now after answer =
    (asked : ℕ) (config : NodeConfig) (before : Wired) → node ≡ node_of config
    → IsBound (numbers asked config frames idles) port before now
    → NodeEnds (numbers asked config frames idles) before after answer

-- wherever the node of a configuration that opens is to be served on this port, the command ends so
abbrev pub EndsOn : (port : ℕ) → KeptNode → (frames idles : ℕ) → (before after : Wired) → NodeEnd → Type 0
EndsOn port node frames idles before after answer =
    (config : NodeConfig) → node ≡ node_of config → opening.open_fault config ≡ None
    → NodeEnds (numbers port config frames idles) before after answer

-- wherever a node of some numbers doesn't open for this reason, the command ends so, whatever the wire and the clock show
abbrev pub EndsRefused : OpenFault → (before after : Option (List ℕ)) → (faults faults' : Faults) → NodeEnd → Type 0
EndsRefused fault before after faults faults' answer =
    (n : NodeNumbers) (told : Told) (last_bind : Option (Option Binding)) (wire_faults : Faults) → IsRefusedFor n.config fault
    → NodeEnds n (wired told last_bind wire_faults before faults) (wired told last_bind wire_faults after faults') answer
