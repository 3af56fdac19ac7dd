use Rattle.std.proofs.Common.{arith, rules}
use Rattle.schedule_text.proofs.ArgumentLemmas.{arguments_fault}
use Rattle.schedule_text.proofs.StopLemmas.{call_stops}
use Rattle.schedule_text.specs.Calls.{form_of}
use Rattle.schedule_text.specs.Parts.{words_left}
use Rattle.schedule_text.specs.declared.calls.CallWord.TheVariants.{Offload}
use Rattle.schedule_text.proofs.calls.offload_call.Goals as goal

pub returns-in_err-no : goal.returns-in_err-no
returns-in_err-no c =
    call_stops (form_of Offload) c.args.before (words_left c.args.rest) _ c.from_residual.result (search rules) c.in_err-no.ensures.fault

pub returns-in_err-no-2 : goal.returns-in_err-no-2
returns-in_err-no-2 c = grind (arith, arguments_fault)

pub returns-in_err-op : goal.returns-in_err-op
returns-in_err-op c = grind (arith, arguments_fault)

pub returns-in_err-out : goal.returns-in_err-out
returns-in_err-out c = grind (arith, arguments_fault)

pub returns : goal.returns
returns c = grind (arith, arguments_fault)

pub returns-in_err-bytes : goal.returns-in_err-bytes
returns-in_err-bytes c = grind (arith, arguments_fault)
