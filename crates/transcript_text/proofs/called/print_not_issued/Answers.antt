use Rattle.std.proofs.Common.{◌++◌, [], ◌∷◌, ap, ◌∙◌, append_assoc, codes, decimal}
use Rattle.std.proofs.lemmas.Result.{on_ok_weaker}
use Rattle.texts.specs.Text.{Text, words}
use Rattle.texts.specs.Texts.{fault_text}
use Rattle.transcript_text.proofs.FrontLemmas.{front_in_line, on_err_front, on_err_line, three_words}
use Rattle.transcript_text.proofs.called.print_not_issued.Goals as goal

pub returns-in_err-print_words-clause-front : goal.returns-in_err-print_words-clause-front
returns-in_err-print_words-clause-front c =
    on_err_front _ _ _ _
    (front_in_line _ (decimal c.args.line) (codes "not issued") (fault_text c.args.fault) _ (rw (c.from.ensures, c.fault_name.ensures) at c.in_err-print_words.ensures.front))

pub returns : goal.returns
returns c =
    let text : Text = words (decimal c.args.line ∷ codes "not issued" ∷ fault_text c.args.fault ∷ []) in record {
      printed = on_ok_weaker c.append.result
          (λ is. is ∙ ap (λ (t : Text). t ++ 10 ∷ []) (rw (c.from.ensures, c.fault_name.ensures) at c.in_ok-print_words.ensures.printed) ∙ append_assoc c.args.to.now text (10 ∷ [])
          ∙ ap (λ (t : Text). c.args.to.now ++ t) (three_words (decimal c.args.line) (codes "not issued") (fault_text c.args.fault))) c.append.ensures.appended;
      front = on_err_line c.append.result c.args.to.now (decimal c.args.line) (codes "not issued") (fault_text c.args.fault) _ _ (rw (c.from.ensures, c.fault_name.ensures) at c.in_ok-print_words.ensures.printed) c.append.ensures.unchanged;
    }
