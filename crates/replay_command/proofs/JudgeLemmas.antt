-- What the bytes of an input ask of a replay.
use Rattle.std.proofs.Common.{◌≡◌, List, ℕ, None, Ok, sym, ap, subst, ◌∙◌}
use Rattle.cl_types.specs.declared.schedule.Schedule.{Schedule}
use Rattle.schedule_text.specs.Reading.{too_long_of}
use Rattle.texts.specs.Grammar.{schedule_of}
use Rattle.world.specs.Follows.{opened}
use Rattle.command_text.specs.Outputs.{IsReplayable, schedule_fault}
use Rattle.replay_command.specs.Wanted.{IsOpened, IsWantedBy}
use Rattle.replay_command.specs.declared.judge.Wanted.{Wanted}
use Rattle.replay_command.specs.declared.judge.Wanted.TheVariants as wanted
use Rattle.command_text.proofs.InputLemmas.{on_bad_node}

-- ---- a replay
pub opened_wanted : (bytes : List ℕ) (s : Schedule) → too_long_of bytes ≡ None → schedule_of bytes ≡ Ok s → (w : Wanted) → IsOpened s w → IsWantedBy bytes w
opened_wanted bytes s short encoded (wanted.Refused output) (fault, closed, is) =
    on_bad_node Schedule schedule_of schedule_fault (λ value o. ⊥) bytes output s fault short encoded closed is
opened_wanted bytes s short encoded (wanted.Opened schedule world) (same, opens, is) = (
  subst (IsReplayable bytes) (sym same) (record { short = short; encoded = encoded; opens = opens }),
  is ∙ ap (λ (t : Schedule). opened t.config) (sym same),
)
