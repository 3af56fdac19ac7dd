use Rattle.std.proofs.Common.{List, subst}
use Rattle.std.proofs.lemmas.Result.{IfOk-weaker}
use Rattle.cl_types.specs.declared.line.Entry.{Entry}
use Rattle.transcript_text.specs.HistoryGrammar.{history_of}
use Rattle.command_text.specs.Outputs.{AsksVerdict, History, history_fault}
use Rattle.check_command.specs.Judged.{IsJudged}
use Rattle.check_command.proofs.CheckLemmas.{judged_answers}
use Rattle.command_text.proofs.InputLemmas.{unread_input}
use Rattle.check_command.proofs.judge.judge_history.Goals as goal

pub returns-in-Ok : goal.returns-in-Ok
returns-in-Ok c =
    IfOk-weaker c.judge_entries.result _ _
    (λ output judged. judged_answers c.args.bytes.items (c.in-Ok.config, c.in-Ok.entries) c.in-Ok.ensures.reads.0 c.in-Ok.ensures.reads.1 output (subst (λ (es : List Entry). IsJudged (c.in-Ok.config, es) output) c.as_slice.ensures judged))
    c.judge_entries.ensures

pub returns-in-Err : goal.returns-in-Err
returns-in-Err c =
    IfOk-weaker c.refuse.result _ _
    (λ output. unread_input History history_of history_fault AsksVerdict c.args.bytes.items output c.in-Err.fault c.in-Err.ensures.reads) c.refuse.ensures
