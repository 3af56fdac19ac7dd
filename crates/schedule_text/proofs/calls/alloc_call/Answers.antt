use Rattle.std.proofs.Common.{arith, rules}
use Rattle.schedule_text.proofs.ArgumentLemmas.{arguments_fault}
use Rattle.schedule_text.proofs.StopLemmas.{call_stops}
use Rattle.schedule_text.specs.Calls.{form_of}
use Rattle.schedule_text.specs.Parts.{words_left}
use Rattle.schedule_text.specs.declared.calls.CallWord.TheVariants.{Alloc}
use Rattle.schedule_text.proofs.calls.alloc_call.Goals as goal

pub returns-in_err-pages : goal.returns-in_err-pages
returns-in_err-pages c =
    call_stops (form_of Alloc) c.args.before (words_left c.args.rest) _ c.from_residual.result (search rules) c.in_err-pages.ensures.fault

pub returns-in_err-pages-2 : goal.returns-in_err-pages-2
returns-in_err-pages-2 c = grind (arith, arguments_fault)

pub returns-in_err-perm : goal.returns-in_err-perm
returns-in_err-perm c = grind (arith, arguments_fault)
