use Rattle.std.proofs.Common.{rules, ◌≡◌, ◌+◌, ◌∷◌, [], refl, ap, ◌∙◌}
use Rattle.daemon.specs.Counts.{counted}
use Rattle.daemon.proofs.service.serve_until_stopped.Goals as goal

pub loop-turns-init : goal.loop-turns-init
loop-turns-init g c = record {
  made = record { turns = []; ran = (refl, refl); counts_are = search rules; count_is = refl };
  bind = refl;
  few = search rules;
}

pub loop-turns-preserved : goal.loop-turns-preserved
loop-turns-preserved g c =
    let made = c.loop-turns.invariant.made in record {
      made = record {
        turns = c.take_turn-turn.result ∷ made.turns;
        ran = (c.loop-turns.node, _, made.ran, c.take_turn-turn.ensures.turn);
        counts_are = c.with-counts.ensures ∙ ap (counted c.take_turn-turn.result) made.counts_are;
        count_is = ap (λ n. n + 1) made.count_is ∙ search rules;
      };
      bind = c.take_turn-turn.ensures.bind ∙ c.loop-turns.invariant.bind;
      few = search rules;
    }
