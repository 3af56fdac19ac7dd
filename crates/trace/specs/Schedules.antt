-- What the laws ask of the events of a schedule.
use Rattle.std.specs.Prelude.{ℕ, ◌+◌, ◌≤◌, ◌≡◌, true, List, [], ◌∷◌, ◌^◌, ◌<◌, ◌==◌, Bool}
use Rattle.std.specs.List.{AllByRecursion as Each, list_any}
use Rattle.cl_types.specs.declared.schedule.Event.{Event}
use Rattle.cl_types.specs.Ranges.{is_typed}
use Rattle.cl_types.specs.declared.config.Config.{Config}
use Rattle.cl_types.specs.declared.numbers.ClientNo.{ClientNo}
use Rattle.cl_types.specs.declared.numbers.TheConstants.{LAST_PID}
use Rattle.cl_types.specs.declared.schedule.Event.TheVariants as event

-- the numbers of the lines rise, from l on
abbrev pub IsRisingFrom : ℕ → List (ℕ × Event) → Type 0
IsRisingFrom l [] = Unit {0}
IsRisingFrom l (e ∷ es) = (l ≤ e.0) × IsRisingFrom (e.0 + 1) es

-- the numbers of the calls are those of their types
abbrev pub AreTyped : List (ℕ × Event) → Type 0
AreTyped events = Each (λ (e : ℕ × Event). is_typed e.1 ≡ true) events

-- one of the clients has this number
abbrev pub has_client : List (ClientNo × ℕ) → ClientNo → Bool
has_client clients c = list_any (λ given. given.0.0 == c.0) clients

-- the client that the event names, where it names one, is one of these
abbrev pub is_of_clients : List (ClientNo × ℕ) → Event → Bool
is_of_clients clients (event.Call client call) = has_client clients client
is_of_clients clients (event.Poll client) = has_client clients client
is_of_clients clients (event.GarbageClient client bytes) = has_client clients client
is_of_clients clients other = true

-- the numbers of a client and of its process are such as a frame's head can carry
pub record IsClient (given : ClientNo × ℕ) : Type 0 where
  pub number : given.0.0 < 2 ^ 16
  pub process : (1 ≤ given.1) × (given.1 ≤ LAST_PID)

-- the clients that the events name are these
abbrev pub AreOfClients : List (ClientNo × ℕ) → List (ℕ × Event) → Type 0
AreOfClients clients events = Each (λ (e : ℕ × Event). is_of_clients clients e.1 ≡ true) events

-- what the laws of the account, and those of its frames, ask of a schedule
pub record IsGood (config : Config) (events : List (ℕ × Event)) : Type 0 where
  -- the lines of the events rise, from the first line on
  pub rising : IsRisingFrom 1 events
  -- their calls have numbers of their types
  pub typed : AreTyped events
  -- their clients are those of the configuration
  pub known : AreOfClients config.clients events
  pub clients : Each IsClient config.clients
