use Rattle.std.proofs.Common.{◌++◌, ◌∙◌, List, ℕ, ap, subst}
use Rattle.std.proofs.lemmas.Result.{on_err_weaker, on_ok_weaker}
use Rattle.transcript_text.specs.Fronts.{IsFront}
use Rattle.world.specs.Running.{summed_on}
use Rattle.world.specs.Worlds.{Stepped}
use Rattle.world.proofs.Results.{on_ok_always}
use Rattle.replay_command.proofs.ReplayLemmas.{told_good, told_text, told_world}
use Rattle.replay_command.proofs.replay.happen.Goals as goal

pub print_line-requires : goal.print_line-requires
print_line-requires c = told_good c.args.world.now.world c.event.new.self.world c.args.number c.args.event.now c.in_ok-told.told c.in_ok-told.ensures.step

pub returns-clause-printed : goal.returns-clause-printed
returns-clause-printed c =
    on_ok_weaker c.print_line.result
    (λ printed. printed ∙ ap (λ (text : List ℕ). c.args.held.now ++ text) (told_text c.args.world.now.world c.event.new.self.world c.args.number c.args.event.now c.in_ok-told.told c.in_ok-told.ensures.step))
    c.print_line.ensures.printed

pub returns-clause-happened : goal.returns-clause-happened
returns-clause-happened c =
    on_ok_always c.print_line.result
    (record {
      world = told_world c.args.world.now.world c.event.new.self.world c.args.number c.args.event.now c.in_ok-told.told c.in_ok-told.ensures.step;
      summary = c.in_ok-told.ensures.summary ∙ ap (λ (s : Stepped). summed_on s c.args.world.now.summary) c.in_ok-told.ensures.step;
      line = c.in_ok-told.ensures.line;
      unspent = c.in_ok-told.ensures.ready;
    })

pub returns-clause-front : goal.returns-clause-front
returns-clause-front c =
    on_err_weaker c.print_line.result
    (subst (λ (text : List ℕ). IsFront c.args.held.now text c.print_line.new.to)
    (told_text c.args.world.now.world c.event.new.self.world c.args.number c.args.event.now c.in_ok-told.told c.in_ok-told.ensures.step))
    c.print_line.ensures.front
