use Rattle.std.proofs.Common.{decimal}
use Rattle.transcript_text.proofs.FrontLemmas.{front_byte, front_first, front_next, on_err_front}
use Rattle.transcript_text.proofs.called.print_answered.Goals as goal

pub returns-in_err-print_answer-clause-front : goal.returns-in_err-print_answer-clause-front
returns-in_err-print_answer-clause-front c =
    on_err_front _ _ _ _
    (front_next _ (decimal c.args.line) _ _ _ (rw c.from.ensures at c.in_ok-print_number.ensures.printed) (front_byte _ _ _ _ _ c.in_ok-append.ensures.appended (front_first _ _ _ _ c.in_err-print_answer.ensures.front)))
