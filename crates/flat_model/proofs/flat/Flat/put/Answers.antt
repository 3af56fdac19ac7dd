use Rattle.flat_model.proofs.FourLemmas.{four_same}
use Rattle.flat_model.proofs.flat.Flat.put.Goals as goal

pub invariant_of-self-2 : goal.invariant_of-self-2
invariant_of-self-2 c = record {
  mapped = c.in_ok-put_in_row.ensures.order;
  allocated = c.self.invariant.allocated;
  homes = c.self.invariant.homes;
  four = four_same c.self.inside.buckets c.self.inside.map.items c.put_in_row.new.map.items c.self.inside.held.items c.in_ok-put_in_row.ensures.keys c.self.invariant.four;
}
