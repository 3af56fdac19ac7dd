-- What a command leaves that succeeds.
use Rattle.std.specs.Prelude.{◌≡◌, ℕ, List, Option, Some}
use Rattle.client_command.specs.Ends.{ClientEnds, Task, task_of}
use Rattle.client_command.specs.declared.ends.ClientEnd.TheVariants as client_end
use Rattle.client_model.specs.Client.{ClientState}
use Rattle.node_command.specs.Ends.{NodeEnds, NodeNumbers, numbers}
use Rattle.node_command.specs.declared.node_end.NodeEnd.TheVariants as node_end
use Rattle.node_core.specs.Keeping.{KeptNode}
use Rattle.wire_loop.specs.Wired.{Wired}
use Rattle.texts.specs.Commands.{Command, Serve, Drive, command_in}
use Rattle.texts.specs.Text.{Text}
use Rattle.command_text.specs.Outputs.{Calls}
use Rattle.clio_cli.specs.Run.{Outside, TookScript, wired_of}
use Rattle.command_text.specs.Status.{number_of}
use Rattle.command_text.specs.declared.left.Left.{Left}
use Rattle.command_text.specs.declared.left.Left.TheVariants as left
use Rattle.command_text.specs.declared.status.Status.TheVariants as status
use Rattle.command_text.specs.Headline.{SucceedsInText}

-- the node of these numbers was served to its end, and is left
abbrev pub KeepsNode : NodeNumbers → Wired → Wired → Left → Type 0
KeepsNode n before after kept = (node : KeptNode) × (kept ≡ left.Served node) × NodeEnds n before after (node_end.Served node)

-- the client of this task was driven to the end of its script, and is left
abbrev pub KeepsClient : Task → Wired → Wired → Left → Type 0
KeepsClient t before after kept = (client : ClientState) × (kept ≡ left.Driven client) × ClientEnds t before after (client_end.Driven client)

-- with success this came about, by the command
abbrev pub Succeeds : Option Command → Outside → Outside → Left → Type 0
Succeeds (Some (Serve port config frames idles)) before after kept =
    KeepsNode (numbers port config frames idles) (wired_of before) (wired_of after) kept
Succeeds (Some (Drive port client pid)) before after kept =
    (calls : Calls) × TookScript calls before.streams after.streams × KeepsClient (task_of port client pid calls) (wired_of before) (wired_of after) kept
Succeeds command before after kept = SucceedsInText command before.streams after.streams kept

-- the same, of a command line and the number of its status
abbrev pub EndsInHeadline : List Text → Outside → Outside → Left → ℕ → Type 0
EndsInHeadline words before after kept number = number ≡ number_of status.Ok → Succeeds (command_in words) before after kept

-- with any other status nothing is left
abbrev pub LeavesNothing : Left → ℕ → Type 0
LeavesNothing kept number = (number ≡ number_of status.Ok → ⊥) → kept ≡ left.Nothing
