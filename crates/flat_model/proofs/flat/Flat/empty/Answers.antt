use Rattle.flat_model.proofs.FourLemmas.{opening_in_order}
use Rattle.flat_model.proofs.flat.Flat.empty.Goals as goal

pub invariant_of-result : goal.invariant_of-result
invariant_of-result c = opening_in_order _ _ c.args.held.items c.args.buckets c.new.ensures.items c.new-2.ensures.items c.requires.homes c.requires.four
