use Rattle.std.proofs.Common.{List, subst, sym}
use Rattle.cl_types.specs.declared.line.Entry.{Entry}
use Rattle.flat_model.specs.Run.{IsRun}
use Rattle.storm_command.proofs.StormLemmas.{worked_run}
use Rattle.storm_command.proofs.command.worked.Goals as goal

pub confirm-requires-clause-run : goal.confirm-requires-clause-run
confirm-requires-clause-run c =
    subst (λ (h : List Entry). IsRun c.args.schedule.now.config.node h) (sym c.history.ensures.entries)
    (worked_run c.args.schedule.now c.requires.served c.work.new.world c.in_ok-work-in-Ok.ensures)
