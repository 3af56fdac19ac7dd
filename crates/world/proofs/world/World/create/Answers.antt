use Rattle.std.proofs.Common.{Ok, ap, false, refl, subst, sym, []}
use Rattle.flat_model.specs.Opening.{open_fault}
use Rattle.world.specs.Fields.{world_of}
use Rattle.world.specs.Follows.{StandsFor}
use Rattle.world.specs.Running.{Running}
use Rattle.world.specs.Summed.{nothing_counted}
use Rattle.world.specs.Worlds.{WorldState}
use Rattle.world.proofs.Beginning.{stands_for_none, faulted}
use Rattle.world.proofs.world.World.create.Goals as goal

pub returns-clause-stands : goal.returns-clause-stands
returns-clause-stands c =
    let same = ap (λ (w : WorldState). record { world = w; summary = nothing_counted; line = 0; spent = false }) c.in_ok-whole.ensures.opened in
    subst (StandsFor c.args.config.now []) (sym same) (stands_for_none c.args.config.now c.in_ok-whole.ensures.keeps)

pub returns-clause-fault : goal.returns-clause-fault
returns-clause-fault c =
    faulted {B = Running} (open_fault c.args.config.now.node) c.in_ok-whole.whole (Ok c.in_ok-whole.whole)
    (Ok (record { world = world_of c.in_ok-whole.whole; summary = nothing_counted; line = 0; spent = false })) refl c.in_ok-whole.ensures.fault tt
