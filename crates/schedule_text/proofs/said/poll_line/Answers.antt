use Rattle.std.proofs.Common.{[], ◌∷◌, arith, rules}
use Rattle.schedule_text.proofs.ArgumentLemmas.{arguments_fault}
use Rattle.schedule_text.proofs.StopLemmas.{line_stops}
use Rattle.cl_types.specs.declared.schedule.Event.TheVariants as event
use Rattle.texts.specs.Grammar.{of_number, u16}
use Rattle.schedule_text.specs.Parts.{words_left}
use Rattle.schedule_text.proofs.said.poll_line.Goals as goal

pub returns-in_err-one : goal.returns-in_err-one
returns-in_err-one c =
    line_stops (u16 ∷ []) (of_number (λ n. event.Poll (record { 0 = n }))) (words_left c.args.rest) _ c.from_residual.result (search rules) c.in_err-one.ensures.fault

pub returns-in_err-client : goal.returns-in_err-client
returns-in_err-client c = grind (arith, arguments_fault)

pub returns : goal.returns
returns c = grind (arith, arguments_fault)
