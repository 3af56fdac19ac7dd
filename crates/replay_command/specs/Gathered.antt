-- Text on its way to a sink: what was written, and what is held. No public clause cites this module.
use Rattle.std.specs.Prelude.{◌≡◌, ℕ, ◌++◌, List, Option, Result, Ok, Err}
use Rattle.cl_outside.specs.Counts.{LastFailed, NoneFailed}
use Rattle.cl_outside.specs.Told.{Added}
use Rattle.cl_outside.specs.declared.faults.Faults.{Faults}
use Rattle.texts.specs.Text.{Text}
use Rattle.replay_command.specs.declared.gather.Cut.{Cut}
use Rattle.replay_command.specs.declared.gather.Cut.TheVariants as cut

-- of the text so far all but what is held was written
pub record Gathered (text held : Text) (before now : Option (List ℕ)) : Type 0 where
  pub gone : Text
  pub split : text ≡ gone ++ held
  pub written : Added gone before now

-- all of this text was written, and perhaps more
abbrev pub WroteAll : Text → (before now : Option (List ℕ)) → Type 0
WroteAll text before now = (more : Text) × Added (text ++ more) before now

-- of the writes that were made the last alone failed, where a failed write breaks a text off, and else none
abbrev pub CountsBreak : Faults → Faults → Cut → Type 0
CountsBreak before now cut.WriteFault = LastFailed before now
CountsBreak before now cut.NoMemory = NoneFailed before now

-- the same of a text that may be whole
abbrev pub CountsCut : {A : Type 0} → Faults → Faults → Result A Cut → Type 0
CountsCut before now (Ok value) = NoneFailed before now
CountsCut before now (Err why) = CountsBreak before now why
