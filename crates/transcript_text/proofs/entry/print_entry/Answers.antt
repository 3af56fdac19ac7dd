-- The four words of the entry's name, a space, and then a front of the rest.
use Rattle.std.proofs.Common.{[], ◌∷◌, codes}
use Rattle.transcript_text.proofs.FrontLemmas.{front_first, front_next, front_none, front_after_four, on_err_after_four, on_err_front, on_err_next}
use Rattle.transcript_text.proofs.entry.print_entry.Goals as goal

pub returns-in_err-print_words-clause-front : goal.returns-in_err-print_words-clause-front
returns-in_err-print_words-clause-front c =
    on_err_front _ _ _ _ (front_after_four _ (codes "h") _ _ _ _ _ (front_first _ _ _ _ (rw (c.from.ensures, c.from-2.ensures) at c.in_err-print_words.ensures.front)))

pub returns-in_err-append-clause-front : goal.returns-in_err-append-clause-front
returns-in_err-append-clause-front c =
    on_err_front _ _ _ _
    (front_after_four _ (codes "h") _ _ _ _ _
    (front_next _ _ _ _ _ (rw (c.from.ensures, c.from-2.ensures) at c.in_ok-print_words.ensures.printed) (rw c.in_err-append.ensures.unchanged (front_none _ _))))

pub returns-clause-front : goal.returns-clause-front
returns-clause-front c =
    on_err_after_four _ _ (codes "h") _ _ _ _ _
    (on_err_next _ _ _ _ _ _ (rw (c.from.ensures, c.from-2.ensures) at c.in_ok-print_words.ensures.printed)
    (on_err_next _ _ (32 ∷ []) _ _ _ c.in_ok-append.ensures.appended c.print_exchange.ensures.front))
