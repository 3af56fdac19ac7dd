use Rattle.std.proofs.Common.{◌+◌, ◌*◌, ◌≡◌, ◌≤◌, List, [], ◌∷◌, ◌++◌, length, length-append, arith, ap, ◌∙◌}
use Rattle.std.specs.Prelude.{flat_map}
use Rattle.cl_types.specs.declared.schedule.Event.{Event}
use Rattle.storm_gen.specs.Generated.{allocates, generator, rounds}
use Rattle.storm_gen.proofs.RoundLemmas.{length-rounds}
use Rattle.storm_gen.proofs.schedule.events.Goals as goal

pub settle_all-requires : goal.settle_all-requires
settle_all-requires c =
    let drawn = rounds 1 c.args.calls (generator c.args.seed) in
    let few : length drawn ≤ 8 * c.args.calls = length-rounds 1 c.args.calls (generator c.args.seed) in
    let first = flat_map allocates (1 ∷ 2 ∷ 3 ∷ 4 ∷ []) in
    let all : c.allocate_all.new.lines ≡ first
    = c.in_ok-allocate_all.ensures ∙ ap (λ (lines : List Event). lines ++ first) c.create-lines.ensures in
    let before : length c.allocate_all.new.lines ≡ 16 = ap length all in
    let longer : length (c.allocate_all.new.lines ++ drawn) ≡ length c.allocate_all.new.lines + length drawn
    = length-append c.allocate_all.new.lines drawn in
    let same : length c.rounds.new.lines ≡ length (c.allocate_all.new.lines ++ drawn) = ap length c.in_ok-rounds.ensures in
    omega arith
