-- What a client asks of its input, and how serving a command ends. No public clause cites this module.
use Rattle.std.specs.Prelude.{◌≡◌, ℕ, List, Option}
use Rattle.texts.specs.Commands.{Command}
use Rattle.client_command.specs.Ends.{ClientEnds, Task}
use Rattle.client_command.specs.declared.ends.ClientEnd.{ClientEnd}
use Rattle.client_command.specs.declared.ends.ClientEnd.TheVariants as client_end
use Rattle.node_command.specs.Ends.{NodeEnds, NodeNumbers}
use Rattle.node_command.specs.declared.node_end.NodeEnd.{NodeEnd}
use Rattle.node_command.specs.declared.node_end.NodeEnd.TheVariants as node_end
use Rattle.wire_loop.specs.Wired.{Wired}
use Rattle.clio_cli.specs.Succeeds.{Succeeds}
use Rattle.command_text.specs.Outputs.{IsScript, RefusesScript}
use Rattle.clio_cli.specs.Run.{Ends, Outside, client_status, node_status}
use Rattle.command_text.specs.Streams.{Gave, IsInput}
use Rattle.command_text.specs.declared.left.Left.{Left}
use Rattle.command_text.specs.declared.left.Left.TheVariants as left
use Rattle.command_text.specs.declared.status.Status.{Status}
use Rattle.command_text.specs.declared.status.Status.TheVariants as status
use Rattle.clio_cli.specs.declared.script.WantedScript.{WantedScript}
use Rattle.clio_cli.specs.declared.script.WantedScript.TheVariants as wanted_script

-- ---- a script
-- these bytes ask for this: the output that says why they are refused, or the script that they are
abbrev pub IsScriptedBy : List ℕ → WantedScript → Type 0
IsScriptedBy bytes (wanted_script.Refused output) = RefusesScript bytes output
IsScriptedBy bytes (wanted_script.Scripted script) = IsScript bytes script.calls

-- what a source gave asks for this
abbrev pub IsScriptedOf : Option (List ℕ) → Option (List ℕ) → WantedScript → Type 0
IsScriptedOf before after (wanted_script.Refused output) = (bytes : List ℕ) × Gave bytes before after × RefusesScript bytes output
IsScriptedOf before after (wanted_script.Scripted script) = (bytes : List ℕ) × IsInput bytes before after × IsScript bytes script.calls

-- what is left of serving a node
abbrev pub node_left : NodeEnd → Left
node_left (node_end.Served node) = left.Served node
node_left other = left.Nothing

-- how a node was served: with which status it ends, and what is left
pub record ServesNode (n : NodeNumbers) (before after : Wired) (kept : Left) (st : Status) : Type 0 where
  pub how : NodeEnd
  pub is : st ≡ node_status how
  pub keeps : kept ≡ node_left how
  pub ends : NodeEnds n before after how

-- what is left of driving a client
abbrev pub client_left : ClientEnd → Left
client_left (client_end.Driven client) = left.Driven client
client_left other = left.Nothing

-- how a client was driven: with which status it ends, and what is left
pub record DrivesClient (t : Task) (before after : Wired) (kept : Left) (st : Status) : Type 0 where
  pub how : ClientEnd
  pub is : st ≡ client_status how
  pub keeps : kept ≡ client_left how
  pub ends : ClientEnds t before after how

-- what is left: with success what the command worked with, and else nothing
abbrev pub Keeps : Option Command → Outside → Outside → Left → Status → Type 0
Keeps command before after kept status.Ok = Succeeds command before after kept
Keeps command before after kept other = kept ≡ left.Nothing

-- how a command was served: with which status it ends, and what is left
pub record Serves (command : Option Command) (before after : Outside) (kept : Left) (st : Status) : Type 0 where
  pub ends : Ends command before after st
  pub keeps : Keeps command before after kept st
