use Rattle.std.proofs.Common.{arith}
use Rattle.schedule_text.proofs.ArgumentLemmas.{arguments_fault}
use Rattle.schedule_text.proofs.said.deliver_line.Goals as goal

pub returns-in_err-none : goal.returns-in_err-none
returns-in_err-none c = grind (arith, arguments_fault)

pub returns-in_err-frame : goal.returns-in_err-frame
returns-in_err-frame c = grind (arith, arguments_fault)

pub returns : goal.returns
returns c = grind (arith, arguments_fault)
