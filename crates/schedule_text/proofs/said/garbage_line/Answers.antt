use Rattle.std.proofs.Common.{arith}
use Rattle.schedule_text.proofs.ArgumentLemmas.{arguments_fault}
use Rattle.schedule_text.proofs.said.garbage_line.Goals as goal

pub returns-in_err-one : goal.returns-in_err-one
returns-in_err-one c = grind (arith, arguments_fault)

pub returns-in_err-client : goal.returns-in_err-client
returns-in_err-client c = grind (arith, arguments_fault)

pub returns-in_err-client-2 : goal.returns-in_err-client-2
returns-in_err-client-2 c = grind (arith, arguments_fault)

pub returns : goal.returns
returns c = grind (arith, arguments_fault)
