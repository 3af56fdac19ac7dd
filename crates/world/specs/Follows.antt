-- A world stands for the events of a schedule, and each event leaves it standing.
use Rattle.std.specs.Prelude.{ℕ, ◌+◌, ◌<◌, ◌≤◌, ◌≡◌, ◌^◌, false, List, [], ◌∷◌, ◌++◌, length, map, Some, None}
use Rattle.cl_types.specs.declared.config.Config.{Config}
use Rattle.cl_types.specs.declared.line.EventLine.{EventLine}
use Rattle.cl_types.specs.declared.schedule.Event.{Event}
use Rattle.link_sim.specs.LinkFrames.{SentFrame}
use Rattle.trace.specs.Account.{Account, Carried, Frame, Load, Asks, Answers, end_of, taken_in_order}
use Rattle.client_model.specs.Client.{new_client}
use Rattle.trace.specs.Clients.{client_at, pid_of}
use Rattle.trace.specs.Events.{account_of_latest, effect}
use Rattle.node_model.specs.Handling.{latest}
use Rattle.node_model.specs.Nodes.{opening_node}
use Rattle.trace.specs.Summaries.{summary_of}
use Rattle.trace_laws.specs.NodeLines.{node_at}
use Rattle.trace.specs.Schedules.{IsGood}
use Rattle.trace_laws.specs.Times.{clock}
use Rattle.world.specs.declared.note.Note.{Note}
use Rattle.world.specs.Running.{Running}
use Rattle.world.specs.Summed.{nothing_counted}
use Rattle.world.specs.Worlds.{WorldState, Stepped, step}

-- ---- when a world stands for events
-- a frame of the account, as the link has it
abbrev pub sent_as : Frame → SentFrame
sent_as f = record { moment = f.moment; end = end_of f; bytes = f.bytes; line = f.line }

-- the note tells the part of a request frame; of a reply frame the part and request of the entry that waits, or that none does
abbrev pub IsNoteOf : Load → Note → Type 0
IsNoteOf (Asks items) note = ((i : Carried) → items ≡ i ∷ [] → note.part ≡ i.part) × (note.looked ≡ None)
IsNoteOf (Answers head reply []) note = note.looked ≡ None
IsNoteOf (Answers head reply (e ∷ entries)) note = (note.part ≡ e.part) × (note.looked ≡ Some e.request)

-- each frame has its note
abbrev pub HaveNotes : List Frame → List Note → Type 0
HaveNotes [] [] = Unit {0}
HaveNotes (f ∷ frames) (note ∷ notes) = IsNoteOf f.load note × HaveNotes frames notes
HaveNotes frames notes = ⊥

-- the world is what is read off an account
pub record IsReadOff (config : Config) (a : Account) (w : WorldState) : Type 0 where
  pub moment : w.moment ≡ clock a
  pub node : w.node ≡ node_at config a
  pub clients : w.clients ≡ map (λ given. client_at config a given.0) config.clients
  pub frames : w.link.frames ≡ map sent_as a.frames
  pub handed_out : w.link.handed_out ≡ taken_in_order a
  pub notes : HaveNotes a.frames w.notes
  pub history : w.history ≡ a.history

-- the world in which nothing has happened
abbrev pub new_world : Config → WorldState
new_world config = record {
  moment = 0;
  node = opening_node config.node;
  clients = map (λ given. new_client given.0 (pid_of config given.0)) config.clients;
  link = record { frames = []; handed_out = 0 };
  notes = [];
  history = [];
}

-- it stands for no event
abbrev pub WorldsBegin : Type 0
WorldsBegin = (config : Config) → IsReadOff config (account_of_latest config []) (new_world config)

-- ---- what an event leaves
-- the step is what the account tells of the event, and leaves the world standing for one event more
pub record StandsOn (config : Config) (events : List (ℕ × Event)) (l : ℕ) (event : Event) (s : Stepped) : Type 0 where
  pub told : (effect (latest config.node.retry) config (account_of_latest config events) l event).texts ≡ s.did ∷ []
  pub ended : (effect (latest config.node.retry) config (account_of_latest config events) l event).ended ≡ s.ended
  pub stands : IsReadOff config (account_of_latest config (events ++ (l, event) ∷ [])) s.world

-- a world that stands for events stands, after a step, for these and one more, and the step tells its line
abbrev pub WorldsFollow : Type 0
WorldsFollow =
    (config : Config) (events : List (ℕ × Event)) (l : ℕ) (event : Event) (w : WorldState)
    → 1 ≤ config.node.retry → IsGood config (events ++ (l, event) ∷ []) → length events + 1 < 2 ^ 64
    → IsReadOff config (account_of_latest config events) w
    → StandsOn config events l event (step w l event)

-- ---- a running world
-- the world of a configuration at its opening
abbrev pub opened : Config → Running
opened config = record { world = new_world config; summary = nothing_counted; line = 0; spent = false }

-- the line of the last of these events, 0 where there is none
abbrev pub last_line : List (ℕ × Event) → ℕ
last_line [] = 0
last_line (e ∷ []) = e.0
last_line (e ∷ f ∷ events) = last_line (f ∷ events)

-- the world stands for these events: its node may keep a record, it is read off their account, its counts are the
-- account's, its line is the last of theirs, and it isn't spent
pub record StandsFor (config : Config) (events : List (ℕ × Event)) (w : Running) : Type 0 where
  pub keeps : 1 ≤ config.node.retry
  pub stands : IsReadOff config (account_of_latest config events) w.world
  pub summary : w.summary ≡ summary_of (account_of_latest config events)
  pub line : w.line ≡ last_line events
  pub unspent : w.spent ≡ false

-- the line of an event after these is that of their account
pub record TellsLine (config : Config) (events : List (ℕ × Event)) (l : ℕ) (event : Event) (told : EventLine) : Type 0 where
  pub texts : (effect (latest config.node.retry) config (account_of_latest config events) l event).texts ≡ told.did ∷ []
  pub ended : (effect (latest config.node.retry) config (account_of_latest config events) l event).ended ≡ told.ended
