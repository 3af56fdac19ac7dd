use Rattle.std.proofs.Common.{ap, arith, ◌-◌, ◌<◌, ◌≤◌}
use Rattle.world.specs.Worlds.{Stepped}
use Rattle.world.proofs.Beginning.{are_later, sound_after}
use Rattle.world.proofs.Results.{on_ok_from}
use Rattle.world.proofs.whole.Whole.happen.Goals as goal

pub dispatch-requires-clause-ready : goal.dispatch-requires-clause-ready
dispatch-requires-clause-ready c =
    let small : c.args.line - 1 ≤ 536870911 = omega (arith, c.requires.few) in
    are_later (c.args.line - 1) 536870911 c.args.self.now small c.requires.sound

pub returns-clause-sound : goal.returns-clause-sound
returns-clause-sound c =
    let more : c.args.line - 1 < c.args.line = omega (arith, c.requires.some) in
    on_ok_from _ _ _ c.dispatch.result
    (λ told is timely. sound_after (c.args.line - 1) c.args.line c.args.self.now c.dispatch.new.self c.args.event.now more c.requires.sound c.requires.fair (ap (λ (s : Stepped). s.world) is) timely)
    c.dispatch.ensures.step c.dispatch.ensures.node
