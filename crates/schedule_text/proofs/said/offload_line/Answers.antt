use Rattle.std.proofs.Common.{arith}
use Rattle.schedule_text.proofs.ArgumentLemmas.{arguments_fault}
use Rattle.schedule_text.proofs.said.offload_line.Goals as goal

pub returns-in_err-one : goal.returns-in_err-one
returns-in_err-one c = grind (arith, arguments_fault)

pub returns-in_err-records : goal.returns-in_err-records
returns-in_err-records c = grind (arith, arguments_fault)

pub returns : goal.returns
returns c = grind (arith, arguments_fault)
