use Rattle.std.proofs.Common.{[], ◌∷◌, arith, rules}
use Rattle.schedule_text.proofs.ArgumentLemmas.{arguments_fault}
use Rattle.schedule_text.proofs.StopLemmas.{line_stops}
use Rattle.texts.specs.Words.{Address, Number}
use Rattle.texts.specs.Grammar.{peek_says}
use Rattle.schedule_text.specs.Parts.{words_left}
use Rattle.schedule_text.proofs.said.peek_line.Goals as goal

pub returns-in_err-pid : goal.returns-in_err-pid
returns-in_err-pid c =
    line_stops (Number 1 65279 ∷ Address ∷ Number 1 1024 ∷ []) peek_says (words_left c.args.rest) _ c.from_residual.result (search rules) c.in_err-pid.ensures.fault

pub returns-in_err-pid-2 : goal.returns-in_err-pid-2
returns-in_err-pid-2 c = grind (arith, arguments_fault)

pub returns-in_err-addr : goal.returns-in_err-addr
returns-in_err-addr c = grind (arith, arguments_fault)

pub returns-in_err-len : goal.returns-in_err-len
returns-in_err-len c = grind (arith, arguments_fault)

pub returns : goal.returns
returns c = grind (arith, arguments_fault)
