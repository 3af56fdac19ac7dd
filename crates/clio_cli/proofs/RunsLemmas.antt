-- What is promised of a command line, by how it was served.
use Rattle.std.proofs.Common.{◌≡◌, ◌∙◌, ℕ, List, subst, sym}
use Rattle.texts.specs.Commands.{command_in}
use Rattle.texts.specs.Text.{Text}
use Rattle.clio_cli.specs.Succeeds.{EndsInHeadline, LeavesNothing}
use Rattle.clio_cli.specs.Run.{EndsWith, Outside}
use Rattle.clio_cli.specs.Runs.{Runs}
use Rattle.command_text.specs.Status.{number_of}
use Rattle.clio_cli.specs.Wanted.{Keeps, Serves}
use Rattle.command_text.specs.declared.left.Left.{Left}
use Rattle.command_text.specs.declared.status.Status.{Status}
use Rattle.command_text.specs.declared.status.Status.TheVariants as status
use Rattle.clio_cli.proofs.RunLemmas.{bad_input_exactly, bad_node_exactly, bad_words_exactly, completely, faults_end, network_is, not_run_exactly, one_status, stalled_only, too_long_exactly}

module _ (words : List Text) (before after : Outside) (kept : Left) (number : ℕ) where
  -- with success the command did what it is for
  ends_in_headline : (st : Status) → number ≡ number_of st → Keeps (command_in words) before after kept st → EndsInHeadline words before after kept number
  ends_in_headline st is keeps same = subst (Keeps (command_in words) before after kept) (one_status st status.Ok (sym is ∙ same)) keeps

  -- with any other status nothing is left
  leaves_nothing : (st : Status) → number ≡ number_of st → Keeps (command_in words) before after kept st → LeavesNothing kept number
  leaves_nothing status.Ok is keeps other = absurd (other is)
  leaves_nothing status.BadWords is keeps other = keeps
  leaves_nothing status.BadInput is keeps other = keeps
  leaves_nothing status.ReadFault is keeps other = keeps
  leaves_nothing status.WriteFault is keeps other = keeps
  leaves_nothing status.NoMemory is keeps other = keeps
  leaves_nothing status.WireFault is keeps other = keeps
  leaves_nothing status.NotRun is keeps other = keeps
  leaves_nothing status.Stalled is keeps other = keeps
  leaves_nothing status.TooLong is keeps other = keeps
  leaves_nothing status.BadNode is keeps other = keeps

  -- what is promised of a command line that was served
  pub runs : (st : Status) → number ≡ number_of st → Serves (command_in words) before after kept st → Runs words before after kept number
  runs st is serves = record {
    ends = end;
    complete = completely before after number (command_in words) end;
    headline = ends_in_headline st is serves.keeps;
    left = leaves_nothing st is serves.keeps;
    bad_words = bad_words_exactly (command_in words) before after number end;
    bad_input = bad_input_exactly (command_in words) before after number end;
    too_long = too_long_exactly (command_in words) before after number end;
    bad_node = bad_node_exactly before after number (command_in words) end;
    not_run = not_run_exactly (command_in words) before after number end;
    stalled = stalled_only (command_in words) before after number end;
    network = network_is (command_in words) before after number end;
    faults = faults_end (command_in words) before after number st is serves.ends;
  } where
    end : EndsWith words before after number
    end = (st, is, serves.ends)
