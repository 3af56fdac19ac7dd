-- What a function that draws events leaves.
use Rattle.std.specs.Prelude.{◌≡◌, List, ◌++◌}
use Rattle.rand_pcg.specs.Lcg.{Lcg}
use Rattle.cl_types.specs.declared.schedule.Event.{Event}
use Rattle.storm_gen.specs.Generated.{Drawn}

-- the drawn events come after the old ones, and the generator is the one after the draws
pub record Adds (old : List Event) (drawn : Drawn (List Event)) (new : List Event) (after : Lcg) : Type 0 where
  pub events : new ≡ old ++ drawn.0
  pub rest : after ≡ drawn.1
