use Rattle.std.proofs.Common.{◌/◌, not}
use Rattle.flat_model.specs.Step.{is_among}
use Rattle.flat_model.proofs.FourLemmas.{four_kept}
use Rattle.flat_model.proofs.flat.Flat.unmap.Goals as goal

pub invariant_of-self : goal.invariant_of-self
invariant_of-self c = record {
  mapped = c.take_out_pages.ensures.order c.self.invariant.mapped;
  allocated = c.take_out.ensures.order c.self.invariant.allocated;
  homes = c.self.invariant.homes;
  four = four_kept c.self.inside.buckets (λ place. not (is_among c.args.pid (c.args.addr.0 / 4096) c.args.pages place)) c.self.inside.map.items c.take_out_pages.new.entries.items
      c.self.inside.held.items c.take_out_pages.ensures.kept c.self.invariant.four;
}
