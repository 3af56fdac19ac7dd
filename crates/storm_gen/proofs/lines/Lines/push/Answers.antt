use Rattle.storm_gen.proofs.LineLemmas.{numbered_on_push}
use Rattle.storm_gen.proofs.lines.Lines.push.Goals as goal

pub invariant_of-self-2 : goal.invariant_of-self-2
invariant_of-self-2 c =
    numbered_on_push c.self.inside.events c.push.new.self c.self.inside.next c.args.event c.self.invariant
    c.in_ok-push.ensures.pushed
