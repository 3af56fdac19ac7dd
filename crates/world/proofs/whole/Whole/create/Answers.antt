use Rattle.std.proofs.Common.{◌≤◌, List, Ok, ap, map, refl, subst, sym, ℕ, ◌∙◌}
use Rattle.cl_types.specs.declared.numbers.ClientNo.{ClientNo}
use Rattle.client_model.specs.Apart.{AreApart}
use Rattle.flat_model.specs.Opening.{open_fault}
use Rattle.node_core.specs.Keeping.{KeptNode}
use Rattle.world.specs.Fields.{world_around}
use Rattle.world.proofs.Beginning.{begun, faulted, whole_sound}
use Rattle.world.proofs.Results.{if_ok_two, if_ok_weaker, on_ok_always}
use Rattle.world.proofs.whole.Whole.create.Goals as goal

pub around-requires : goal.around-requires
around-requires c = subst (λ (given : List (ClientNo × ℕ)). AreApart (map (λ (g : ClientNo × ℕ). g.0.0) given)) (sym c.as_slice.ensures) c.requires

pub returns-clause-opened : goal.returns-clause-opened
returns-clause-opened c =
    if_ok_weaker _ _ c.around.result
    (λ w is. is ∙ ap (world_around c.in_ok-node.node.node) c.as_slice.ensures ∙ begun c.args.config.now c.in_ok-node.node c.requires c.in_ok-node.ensures.opened)
    c.around.ensures.world

pub returns-clause-sound : goal.returns-clause-sound
returns-clause-sound c =
    if_ok_two _ _ _ c.around.result
    (λ w is last. whole_sound c.args.config.now w c.requires
    (is ∙ ap (world_around c.in_ok-node.node.node) c.as_slice.ensures ∙ begun c.args.config.now c.in_ok-node.node c.requires c.in_ok-node.ensures.opened)
    (last ∙ ap (λ (k : KeptNode). k.last) c.in_ok-node.ensures.opened))
    c.around.ensures.world c.around.ensures.last

pub returns-clause-keeps : goal.returns-clause-keeps
returns-clause-keeps c =
    let node = c.in_ok-node.ensures in
    on_ok_always c.around.result (subst (λ (k : KeptNode). 1 ≤ k.node.retry) node.opened node.set_up.some)

pub returns-clause-fault : goal.returns-clause-fault
returns-clause-fault c = faulted (open_fault c.args.config.now.node) c.in_ok-node.node (Ok c.in_ok-node.node) c.around.result refl c.in_ok-node.ensures.fault c.around.ensures.memory
