-- The number, a space, and then a front of the rest.
use Rattle.std.proofs.Common.{[], ◌∷◌}
use Rattle.transcript_text.proofs.FrontLemmas.{front_first, front_third, on_err_front, on_err_next}
use Rattle.transcript_text.proofs.line.print_line.Goals as goal

pub returns-in_err-print_did-clause-front : goal.returns-in_err-print_did-clause-front
returns-in_err-print_did-clause-front c =
    on_err_front _ _ _ _
    (front_third _ _ (32 ∷ []) _ _ _ _ (rw c.from.ensures at c.in_ok-print_number.ensures.printed) c.in_ok-append.ensures.appended (front_first _ _ _ _ c.in_err-print_did.ensures.front))

pub returns-clause-front : goal.returns-clause-front
returns-clause-front c =
    on_err_next _ _ _ _ _ _ (rw c.from.ensures at c.in_ok-print_number.ensures.printed)
    (on_err_next _ _ (32 ∷ []) _ _ _ c.in_ok-append.ensures.appended
    (on_err_next _ _ _ _ _ _ c.in_ok-print_did.ensures.printed c.print_ending.ensures.front))
