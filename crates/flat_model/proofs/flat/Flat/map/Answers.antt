use Rattle.std.proofs.Common.{◌≡◌, ◌∙◌, List, true, sym, ap, subst}
use Rattle.cl_types.specs.Places.{Place}
use Rattle.flat_model.specs.State.{FlatState, Page, fits, places, places_of}
use Rattle.flat_model.specs.Step.{with_fresh}
use Rattle.flat_model.specs.contracts.flat.Flat.{the_view}
use Rattle.flat_model.proofs.FourLemmas.{four_fresh}
use Rattle.flat_model.proofs.flat.Flat.map.Goals as goal

pub invariant_of-self-2 : goal.invariant_of-self-2
invariant_of-self-2 c = record {
  mapped = c.put_fresh.ensures.order;
  allocated = c.put.ensures.order;
  homes = c.self.invariant.homes;
  four = four_fresh (the_view c.self.inside) c.args.perm c.args.pid c.args.start c.args.n c.put_fresh.new.map.items c.self.invariant.homes
      (subst (λ (s : FlatState). fits s.buckets (places s) c.args.pid c.args.start c.args.n ≡ true) (sym c.self.view_is) c.requires)
      (c.put_fresh.ensures.put ∙ ap (λ (es : List (Place × Page)). with_fresh c.args.perm (places_of c.args.pid c.args.start c.args.n) es) c.reserve.ensures.items);
}
