use Rattle.std.proofs.Common.{arith, rules}
use Rattle.schedule_text.proofs.ArgumentLemmas.{arguments_fault}
use Rattle.schedule_text.proofs.StopLemmas.{call_stops}
use Rattle.schedule_text.specs.Calls.{form_of}
use Rattle.schedule_text.specs.Parts.{words_left}
use Rattle.schedule_text.specs.declared.calls.CallWord.TheVariants.{Write}
use Rattle.schedule_text.proofs.calls.write_call.Goals as goal

pub returns-in_err-addr : goal.returns-in_err-addr
returns-in_err-addr c =
    call_stops (form_of Write) c.args.before (words_left c.args.rest) _ c.from_residual.result (search rules) c.in_err-addr.ensures.fault

pub returns-in_err-addr-2 : goal.returns-in_err-addr-2
returns-in_err-addr-2 c = grind (arith, arguments_fault)

pub returns : goal.returns
returns c = search rules
