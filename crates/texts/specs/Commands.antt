-- The commands of the program, by the words of its command line.
use Rattle.std.specs.Prelude.{ℕ, List, [], ◌∷◌, Option, Some, None, Result, Ok, Err, codes}
use Rattle.cl_types.specs.declared.numbers.ClientNo.{ClientNo}
use Rattle.cl_types.specs.declared.config.NodeConfig.{NodeConfig}
use Rattle.cl_types.specs.declared.schedule.What.{What}
use Rattle.texts.specs.Text.{Text}
use Rattle.texts.specs.Words.{Argument, Number, Value, N, arguments_in}
use Rattle.texts.specs.Grammar.{u16, u64, process_number, by_word}

-- what the program is asked to do, with its numbers
pub data Command : Type 0 where
  Replay : Command
  Check : Command
  Storm : (seed calls : ℕ) → Command
  Serve : (port : ℕ) → (config : NodeConfig) → (frames idles : ℕ) → Command
  Drive : (port : ℕ) → (client : ClientNo) → (pid : ℕ) → Command

-- a command: its arguments, and what they make
pub record CommandForm : Type 0 where
  pub arguments : List Argument
  pub makes : List Value → Option Command

-- a command with no argument
abbrev pub plain : Command → List Value → Option Command
plain command [] = Some command
plain command values = None

-- a generated schedule by its seed and its number of calls
abbrev pub storm_command : List Value → Option Command
storm_command (N seed ∷ N calls ∷ []) = Some (Storm seed calls)
storm_command values = None

-- a node: its port, its configuration, and after how many frames or idle turns it ends
abbrev pub node_command : List Value → Option Command
node_command (N port ∷ N pages ∷ N buckets ∷ N ring ∷ N retry ∷ N frames ∷ N idles ∷ []) =
    Some (Serve port (record { pages = pages; buckets = buckets; ring = ring; retry = retry; offloads = [] }) frames idles)
node_command values = None

-- a client: the node's port, its number and its process
abbrev pub client_command : List Value → Option Command
client_command (N port ∷ N client ∷ N pid ∷ []) = Some (Drive port (record { 0 = client }) pid)
client_command values = None

-- a number of frames or of turns: 1 to 4,294,967,295
abbrev pub counts : Argument
counts = Number 1 4294967295

-- the commands by their words, with the ranges of their numbers
abbrev pub command_forms : List (Text × CommandForm)
command_forms =
    (codes "replay", record { arguments = []; makes = plain Replay })
    ∷ (codes "check", record { arguments = []; makes = plain Check })
    ∷ (codes "storm", record { arguments = u64 ∷ Number 0 100000 ∷ []; makes = storm_command })
    ∷ (codes "node", record { arguments = u16 ∷ u64 ∷ u64 ∷ u64 ∷ u64 ∷ counts ∷ counts ∷ []; makes = node_command })
    ∷ (codes "client", record { arguments = Number 1 65535 ∷ u16 ∷ process_number ∷ []; makes = client_command })
    ∷ []

-- the command with these values, where they are good
abbrev pub made : (List Value → Option Command) → Result (List Value) What → Option Command
made makes (Ok values) = makes values
made makes (Err what) = None

-- the command in this form that words spell, where they spell one
abbrev pub in_form : List Text → Option CommandForm → Option Command
in_form words None = None
in_form words (Some f) = made f.makes (arguments_in f.arguments words)

-- the command that the words are, where they are one
abbrev pub command_in : List Text → Option Command
command_in [] = None
command_in (word ∷ words) = in_form words (by_word word command_forms)
