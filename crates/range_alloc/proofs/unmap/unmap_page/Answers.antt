use Rattle.std.proofs.Common.{◌∙◌, sym}
use Rattle.range_alloc.proofs.Frames.{taken_left, still_released, still_same}
use Rattle.range_alloc.proofs.unmap.unmap_page.Goals as goal
use Rattle.range_alloc.proofs.unmap.unmap_page.Goals.{in-Some, in_default}

pub release-requires : goal.release-requires
release-requires c = c.requires.taken.taken (c.args.space.0, c.args.vpn.0) c.in-Some.frame.0 (sym c.in-Some.ensures)

pub returns-clause-taken : goal.returns-clause-taken
returns-clause-taken c =
    taken_left c.args.table.now c.args.pool.now (c.args.space.0, c.args.vpn.0) c.requires.taken c.remove.new.self c.match-frame.pool c.remove.ensures.entries
    (elim c.match-frame.branch [
      | in-Some w ↦ still_released c.args.table.now c.args.pool.now (c.args.space.0, c.args.vpn.0) c.requires.taken w.in-Some.frame.0 c.match-frame.pool (sym w.in-Some.ensures) (w.pool-is ∙ w.release.ensures.dirty)
      | in_default w ↦ still_same c.args.table.now c.args.pool.now (c.args.space.0, c.args.vpn.0) c.requires.taken c.match-frame.pool w.pool-is
    ])
