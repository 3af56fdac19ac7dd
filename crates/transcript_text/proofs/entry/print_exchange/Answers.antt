use Rattle.std.proofs.Common.{codes}
use Rattle.transcript_text.proofs.FrontLemmas.{front_first, front_third, on_err_front}
use Rattle.transcript_text.proofs.entry.print_exchange.Goals as goal

pub returns-in_err-print_reply-clause-front : goal.returns-in_err-print_reply-clause-front
returns-in_err-print_reply-clause-front c =
    on_err_front _ _ _ _
    (front_third _ _ (codes " = ") _ _ _ _ c.in_ok-print_request.ensures.printed c.in_ok-append.ensures.appended (front_first _ _ _ _ c.in_err-print_reply.ensures.front))
