-- The text of a schedule's events, line by line, on its way to a sink. No public clause cites this module.
use Rattle.std.specs.Prelude.{◌≡◌, false, ℕ, List, [], ◌∷◌, ◌++◌, Option, codes, decimal, flat_map, length}
use Rattle.cl_types.specs.declared.line.Entry.{Entry}
use Rattle.cl_types.specs.declared.schedule.Event.{Event}
use Rattle.cl_types.specs.declared.schedule.Schedule.{Schedule}
use Rattle.trace.specs.Events.{account_of_latest}
use Rattle.texts.specs.Text.{Text, line_of}
use Rattle.texts.specs.Texts.{entry_text, numbered_text}
use Rattle.trace_texts.specs.Transcripts.{line_text}
use Rattle.trace.specs.Schedules.{IsRisingFrom}
use Rattle.world.specs.Running.{Running, summed_on}
use Rattle.world.specs.Worlds.{Stepped, WorldState, step}
use Rattle.replay_command.specs.Gathered.{Gathered, WroteAll}
use Rattle.command_text.specs.Working.{Reached}

-- the line that a step of a world tells
abbrev pub step_text : ℕ → Stepped → Text
step_text number s = numbered_text number (s.did ∷ []) s.ended

-- the line of an event in this world
unfoldable pub event_text : WorldState → ℕ → Event → Text
event_text w number event = step_text number (step w number event)

-- the last line, with the number of entries
abbrev pub end_text : ℕ → Text
end_text count = line_of (codes "end" ∷ decimal count ∷ [])

-- the lines of the entries, and the last line
abbrev pub history_text : List Entry → Text
history_text history = flat_map entry_text history ++ end_text (length history)

-- the header, and the lines of these events
unfoldable pub text_of_events : Schedule → List (ℕ × Event) → Text
text_of_events s done = s.header ++ flat_map line_text (account_of_latest s.config done).lines

-- and of their text all but what is held was written
pub record After (s : Schedule) (i : ℕ) (w : Running) (held : Text) (before now : Option (List ℕ)) : Type 0 where
  pub reached : Reached s i w
  pub gathered : Gathered (text_of_events s reached.done) held before now

-- an event happened in a world: it is the one after the step, at the event's line, with one event more counted, and not spent
pub record HasHappened (old new : Running) (number : ℕ) (event : Event) : Type 0 where
  pub world : new.world ≡ (step old.world number event).world
  pub summary : new.summary ≡ summed_on (step old.world number event) old.summary
  pub line : new.line ≡ number
  pub unspent : new.spent ≡ false

-- the lines of all events before the world's latest line were written, and perhaps more
pub record WroteLines (s : Schedule) (w : Running) (before now : Option (List ℕ)) : Type 0 where
  pub done : List (ℕ × Event)
  pub rest : List (ℕ × Event)
  pub split : s.events ≡ done ++ rest
  -- the others are not before that line
  pub late : IsRisingFrom w.line rest
  pub written : WroteAll (text_of_events s done) before now
