use Rattle.std.proofs.Common.{[], rules}
use Rattle.schedule_text.proofs.StopLemmas.{line_stops}
use Rattle.cl_types.specs.declared.schedule.Event.TheVariants as event
use Rattle.texts.specs.Grammar.{bare}
use Rattle.schedule_text.specs.Parts.{words_left}
use Rattle.schedule_text.proofs.said.drop_line.Goals as goal

pub returns-in_err-none : goal.returns-in_err-none
returns-in_err-none c =
    line_stops [] (bare event.Drop) (words_left c.args.rest) _ c.from_residual.result (search rules) c.in_err-none.ensures.fault
