use Rattle.std.proofs.Common.{arith, rules}
use Rattle.schedule_text.proofs.ArgumentLemmas.{arguments_fault}
use Rattle.schedule_text.proofs.StopLemmas.{call_stops}
use Rattle.schedule_text.specs.Calls.{form_of}
use Rattle.schedule_text.specs.Parts.{words_left}
use Rattle.schedule_text.specs.declared.calls.CallWord.TheVariants.{Lock}
use Rattle.schedule_text.proofs.calls.lock_call.Goals as goal

pub returns-in_err-one : goal.returns-in_err-one
returns-in_err-one c =
    call_stops (form_of Lock) c.args.before (words_left c.args.rest) _ c.from_residual.result (search rules) c.in_err-one.ensures.fault

pub returns-in_err-addr : goal.returns-in_err-addr
returns-in_err-addr c = grind (arith, arguments_fault)
