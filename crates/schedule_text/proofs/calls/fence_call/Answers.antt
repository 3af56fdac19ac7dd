use Rattle.std.proofs.Common.{rules}
use Rattle.schedule_text.proofs.StopLemmas.{call_stops}
use Rattle.schedule_text.specs.Calls.{form_of}
use Rattle.schedule_text.specs.Parts.{words_left}
use Rattle.schedule_text.specs.declared.calls.CallWord.TheVariants.{Fence}
use Rattle.schedule_text.proofs.calls.fence_call.Goals as goal

pub returns-in_err-none : goal.returns-in_err-none
returns-in_err-none c =
    call_stops (form_of Fence) c.args.before (words_left c.args.rest) _ c.from_residual.result (search rules) c.in_err-none.ensures.fault
