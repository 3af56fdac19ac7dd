use Rattle.std.proofs.Common.{◌∙◌, ◌++◌, List, ℕ, ap, subst, sym}
use Rattle.cl_types.specs.declared.schedule.Schedule.{Schedule}
use Rattle.storm_gen.specs.SummaryTexts.{summary_text}
use Rattle.world.specs.Follows.{StandsFor}
use Rattle.command_text.specs.Working.{IsServed}
use Rattle.storm_command.proofs.StormLemmas.{generated_served, storm_text}
use Rattle.storm_command.proofs.command.storm_output.Goals as goal

pub worked-requires-clause-served : goal.worked-requires-clause-served
worked-requires-clause-served c = subst IsServed (sym c.in_ok-schedule.ensures) (generated_served c.args.seed c.args.calls c.requires.few)

pub returns-clause-output : goal.returns-clause-output
returns-clause-output c =
    storm_text c.args.seed c.args.calls c.requires.few c.in_ok-world.world
    (subst (λ (s : Schedule). StandsFor s.config s.events c.in_ok-world.world) c.in_ok-schedule.ensures c.in_ok-world.ensures)
    c.counts.new.to (c.in_ok-counts.ensures ∙ ap (λ (t : List ℕ). t ++ summary_text c.finish.result) c.create-text.ensures ∙ ap summary_text c.finish.ensures)

pub returns-clause-stands : goal.returns-clause-stands
returns-clause-stands c = subst (λ (s : Schedule). StandsFor s.config s.events c.in_ok-world.world) c.in_ok-schedule.ensures c.in_ok-world.ensures
