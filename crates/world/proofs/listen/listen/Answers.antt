use Rattle.std.proofs.Common.{inl, inr}
use Rattle.world.proofs.ListenLemmas.{faultless}
use Rattle.world.proofs.listen.listen.Goals as goal

pub took-requires : goal.took-requires
took-requires c = faultless c.args.client.now c.args.frame.now c.in-Took.part (inl c.in-Took.ensures.answer)

pub took-requires-in-Ended : goal.took-requires-in-Ended
took-requires-in-Ended c = faultless c.args.client.now c.args.frame.now c.in-Ended.part (inr c.in-Ended.ensures.answer)
