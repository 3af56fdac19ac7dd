use Rattle.std.proofs.lemmas.Result.{IfOk-weaker}
use Rattle.texts.specs.Grammar.{schedule_of}
use Rattle.cl_types.specs.declared.schedule.Schedule.{Schedule}
use Rattle.command_text.specs.Outputs.{schedule_fault}
use Rattle.replay_command.proofs.JudgeLemmas.{opened_wanted}
use Rattle.command_text.proofs.InputLemmas.{unread_input}
use Rattle.command_text.proofs.SuitedLemmas.{schedules_suited}
use Rattle.replay_command.proofs.judge.judge.Goals as goal

pub judge_schedule-requires : goal.judge_schedule-requires
judge_schedule-requires c = (schedules_suited c.args.bytes.now c.in-Ok.schedule c.in-Ok.ensures.0 c.in-Ok.ensures.1).apart

pub returns-in-Ok : goal.returns-in-Ok
returns-in-Ok c =
    IfOk-weaker c.judge_schedule.result _ _ (opened_wanted c.args.bytes.now c.in-Ok.schedule c.in-Ok.ensures.0 c.in-Ok.ensures.1) c.judge_schedule.ensures

pub returns-in_ok-refuse-in-Err : goal.returns-in_ok-refuse-in-Err
returns-in_ok-refuse-in-Err c =
    unread_input Schedule schedule_of schedule_fault (λ s o. ⊥) c.args.bytes.now c.in_ok-refuse-in-Err.field-0 c.in-Err.fault c.in-Err.ensures c.in_ok-refuse-in-Err.ensures
