-- What is promised of serving a command line.
use Rattle.std.specs.Prelude.{◌≡◌, ℕ, List, None}
use Rattle.texts.specs.Commands.{command_in}
use Rattle.texts.specs.Text.{Text}
use Rattle.clio_cli.specs.Succeeds.{EndsInHeadline, LeavesNothing}
use Rattle.clio_cli.specs.Run.{Complete, EndsWith, Exactly, ExactlyClosed, ExactlyOf, FaultsEndTheRun, HasBadInput, HasLongInput, HasNoRun, HasStalled, LetsNetworkBe, Outside}
use Rattle.command_text.specs.Status.{number_of}
use Rattle.command_text.specs.declared.left.Left.{Left}
use Rattle.command_text.specs.declared.status.Status.TheVariants as status

-- a command line was served: from what source, sink, wire and clock showed before to what they show after, with this
-- left, and with the status of this number
pub record Runs (words : List Text) (before after : Outside) (kept : Left) (number : ℕ) : Type 0 where
  -- what was read, written, bound, received and sent, by the status
  pub ends : EndsWith words before after number
  -- an input whose node opens gets its whole transcript or verdict, and a storm its counts; a node is served to its
  -- end, and a client driven to its own
  pub complete : Complete words before after number
  -- with success a transcript or a storm keeps the headline, and the world is left that stands for its events; a
  -- history that was checked is a run; and the node that was served, or the client that was driven, is left
  pub headline : EndsInHeadline words before after kept number
  -- with any other status nothing is left
  pub left : LeavesNothing kept number
  -- each status that says why a command was refused comes from its cause alone, and from it always
  pub bad_words : Exactly before after number status.BadWords (command_in words ≡ None)
  pub bad_input : ExactlyOf words before after number status.BadInput HasBadInput
  pub too_long : ExactlyOf words before after number status.TooLong HasLongInput
  pub bad_node : ExactlyClosed (command_in words) before after number
  -- a check ends so exactly where its history is no run
  pub not_run : ExactlyOf words before after number status.NotRun HasNoRun
  -- only a client ends so, that stalled
  pub stalled : number ≡ number_of status.Stalled → HasStalled (command_in words) before after
  -- wire and clock are let be by a command that serves no node and drives no client
  pub network : LetsNetworkBe (command_in words) before after
  -- the first failure of a call ends the run
  pub faults : FaultsEndTheRun before after number
