use Rattle.std.proofs.Common.{◌∙◌, sym, ap, subst}
use Rattle.cl_types.specs.Places.{Place}
use Rattle.hash_buckets.specs.PageMap.{entry_of, with_entry}
use Rattle.data_path.specs.declared.store.PageStore.{PageStore}
use Rattle.data_path.specs.Laying.{IsLaid}
use Rattle.data_path.proofs.Laying.{Placed, placed_entry, absent_behind, laid_placed, rows_placed}
use Rattle.data_path.proofs.store.PageStore.add_page.Goals as goal

pub insert-requires-clause-unmapped : goal.insert-requires-clause-unmapped
insert-requires-clause-unmapped c =
    ap (λ (s : PageStore). entry_of s.table (c.args.space.0, c.args.vpn.0)) c.take_frame-frame.ensures.rest
    ∙ absent_behind (c.args.space.0, c.args.vpn.0) c.args.self.now.table.entries c.requires.behind

-- what the calls gave
placed : (c : goal.After-insert) → Placed c.args.self.now (c.args.space.0, c.args.vpn.0) c.args.span c.take_frame-frame.result c.insert.new.self c.take_frame-frame.new.self.pool c.take_frame-frame.new.self.arena
placed c =
    let s = c.args.self.now in
    let place : Place = (c.args.space.0, c.args.vpn.0) in
    let took = c.take_frame-frame.ensures in
    record {
      laid = c.requires.laid;
      behind = c.requires.behind;
      less = c.requires.free;
      good = c.requires.good;
      front = took.free;
      kept = took.pages;
      ready = took.ready;
      long = took.arena;
      zero = took.zero;
      zeros = took.zeros;
      others = took.others;
      is = c.insert.ensures.entries ∙ ap (λ (t : PageStore). with_entry t.table place (placed_entry s place c.args.span c.take_frame-frame.result c.insert.new.self c.take_frame-frame.new.self.pool c.take_frame-frame.new.self.arena)) took.rest;
      valid = c.insert.ensures.valid;
    }

pub returns-clause-laid : goal.returns-clause-laid
returns-clause-laid c =
    let s = c.args.self.now in
    subst (λ (t : PageStore). IsLaid (record { table = c.insert.new.self; pool = c.take_frame-frame.new.self.pool; arena = c.take_frame-frame.new.self.arena; cache = t.cache; spaces = t.spaces; ranges = t.ranges })) (sym c.take_frame-frame.ensures.rest)
    (laid_placed s (c.args.space.0, c.args.vpn.0) c.args.span c.take_frame-frame.result c.insert.new.self c.take_frame-frame.new.self.pool c.take_frame-frame.new.self.arena (placed c))

pub returns-clause-rows : goal.returns-clause-rows
returns-clause-rows c =
    rows_placed c.args.self.now (c.args.space.0, c.args.vpn.0) c.args.span c.take_frame-frame.result c.insert.new.self c.take_frame-frame.new.self.pool c.take_frame-frame.new.self.arena (placed c)
