use Rattle.std.proofs.Common.{ap, arith, ◌∙◌}
use Rattle.cl_types.specs.declared.line.Summary.{Summary}
use Rattle.world.specs.Summed.{ended_count, with_ended}
use Rattle.world.proofs.SummaryLemmas.{ended_room}
use Rattle.world.proofs.summary.summed.Goals as goal

pub with_unended-requires-clause-room : goal.with_unended-requires-clause-room
with_unended-requires-clause-room c =
    let same = ap ended_count (c.with_ended-summary.ensures ∙ ap (λ (s : Summary). with_ended c.args.told.now.ended s) c.with_did-summary.ensures) in
    omega (arith, same, ended_room c.args.told.now.did c.args.told.now.ended c.args.summary c.requires.room)
