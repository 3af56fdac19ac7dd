-- What a command line asks for, as a value of the program.
use Rattle.std.specs.Prelude.{◌≤◌, ℕ, [], Option, Some, None}
use Rattle.cl_types.specs.declared.config.NodeConfig.{NodeConfig}
use Rattle.client_command.specs.Ends.{Task, task_of}
use Rattle.node_command.specs.Ends.{NodeNumbers, numbers}
use Rattle.storm_gen.specs.declared.limits.TheConstants.{MOST_CALLS}
use Rattle.texts.specs.Commands.{Command, Replay, Check, Storm, Serve, Drive}
use Rattle.command_text.specs.Outputs.{Calls}
use Rattle.clio_cli.specs.declared.words.Asked.{Asked}
use Rattle.clio_cli.specs.declared.words.Asked.TheVariants as asked
use Rattle.clio_cli.specs.declared.words.ClientWords.{ClientWords}
use Rattle.clio_cli.specs.declared.words.NodeWords.{NodeWords}

-- the configuration of a node that is served: it has no offloads
abbrev pub config_of : NodeWords → NodeConfig
config_of w = record { pages = w.pages; buckets = w.buckets; ring = w.ring; retry = w.retry; offloads = [] }

-- what is asked of a node that is served
abbrev pub node_numbers : NodeWords → NodeNumbers
node_numbers w = numbers w.port (config_of w) w.frames w.idles

-- what is asked of a client that is driven
abbrev pub client_task : ClientWords → Calls → Task
client_task w calls = task_of w.port w.client w.pid calls

-- what is asked, as a command
abbrev pub command_of : Asked → Command
command_of asked.Replay = Replay
command_of asked.Check = Check
command_of (asked.Storm seed calls) = Storm seed calls
command_of (asked.Serve w) = Serve w.port (config_of w) w.frames w.idles
command_of (asked.Drive w) = Drive w.port w.client w.pid

-- the storm of a seed and a number of calls, where both are numbers
abbrev pub storm_of : Option ℕ → Option ℕ → Option Asked
storm_of (Some seed) (Some calls) = Some (asked.Storm seed calls)
storm_of seed calls = None

-- the client of three numbers, where all are
abbrev pub drive_of : Option ℕ → Option ℕ → Option ℕ → Option Asked
drive_of (Some port) (Some client) (Some pid) = Some (asked.Drive (record { port = port; client = record { 0 = client }; pid = pid }))
drive_of port client pid = None

-- the node of seven numbers, where all are
abbrev pub serve_of : (port pages buckets ring retry frames idles : Option ℕ) → Option Asked
serve_of (Some port) (Some pages) (Some buckets) (Some ring) (Some retry) (Some frames) (Some idles) =
    Some (asked.Serve (record { port = port; pages = pages; buckets = buckets; ring = ring; retry = retry; frames = frames; idles = idles }))
serve_of port pages buckets ring retry frames idles = None

-- no more calls are asked for than are generated, and a node is to serve at least one datagram or idle turn
abbrev pub IsWithinLimits : Asked → Type 0
IsWithinLimits (asked.Storm seed calls) = calls ≤ MOST_CALLS
IsWithinLimits (asked.Serve w) = (1 ≤ w.frames) × (1 ≤ w.idles)
IsWithinLimits other = Unit {0}
