use Rattle.std.proofs.Common.{[], ◌∷◌, arith, rules}
use Rattle.schedule_text.proofs.ArgumentLemmas.{arguments_fault}
use Rattle.schedule_text.proofs.StopLemmas.{line_stops}
use Rattle.texts.specs.Words.{Number}
use Rattle.texts.specs.Grammar.{client_says, u16}
use Rattle.schedule_text.specs.Parts.{words_left}
use Rattle.schedule_text.proofs.said.client_line.Goals as goal

pub returns-in_err-number : goal.returns-in_err-number
returns-in_err-number c =
    line_stops (u16 ∷ Number 1 65279 ∷ []) client_says (words_left c.args.rest) _ c.from_residual.result (search rules) c.in_err-number.ensures.fault

pub returns-in_err-number-2 : goal.returns-in_err-number-2
returns-in_err-number-2 c = grind (arith, arguments_fault)

pub returns-in_err-pid : goal.returns-in_err-pid
returns-in_err-pid c = grind (arith, arguments_fault)

pub returns : goal.returns
returns c = grind (arith, arguments_fault)
