use Rattle.std.proofs.Common.{[], ◌∷◌, codes}
use Rattle.transcript_text.proofs.FrontLemmas.{front_first, front_fourth, on_err_front}
use Rattle.transcript_text.proofs.line.print_ended.Goals as goal

pub returns-in_err-print_answer-clause-front : goal.returns-in_err-print_answer-clause-front
returns-in_err-print_answer-clause-front c =
    on_err_front _ _ _ _
    (front_fourth _ (codes "; answer ") _ (32 ∷ []) _ _ _ _ _ c.in_ok-append.ensures.appended c.in_ok-print_call.ensures.printed c.in_ok-append-2.ensures.appended (front_first _ _ _ _ (rw c.as_slice.ensures at c.in_err-print_answer.ensures.front)))
