use Rattle.std.proofs.Common.{◌≡◌, Some, refl, sym, subst}
use Rattle.cl_types.specs.Places.{Place}
use Rattle.hash_buckets.specs.PageMap.{with_entry, IsValid}
use Rattle.data_path.specs.Store.{IsFit, IsWhole}
use Rattle.data_path.specs.Access.{IsFramed}
use Rattle.data_path.proofs.Framing.{framed_already, out_of_pages, not_taken, Given, cached_put, fit_framed, whole_framed, is_framed, ring_first}
use Rattle.data_path.proofs.store.PageStore.frame_of.Goals as goal

pub returns-in-Some-clause-framed : goal.returns-in-Some-clause-framed
returns-in-Some-clause-framed g c = framed_already c.args.self.now (c.args.space.0, c.args.vpn.0) c.args.pte c.in-Some.frame c.requires.fit c.requires.mapped c.in-Some.is

pub returns-in_err-frame-clause-none : goal.returns-in_err-frame-clause-none
returns-in_err-frame-clause-none g c = rw c.from_residual.ensures (out_of_pages c.args.self.now c.args.pte c.requires.fit c.in_default.is (c.in_err-frame.ensures.none.0 refl))

pub returns-in_err-frame-clause-fit : goal.returns-in_err-frame-clause-fit
returns-in_err-frame-clause-fit g c =
    let same = not_taken c.args.self.now c.take.new.self c.in_err-frame.ensures.rest (c.in_err-frame.ensures.none.0 refl) in
    subst (λ pool. IsFit (record c.args.self.now { pool = pool })) (sym same) c.requires.fit

pub returns-in_err-frame-clause-whole : goal.returns-in_err-frame-clause-whole
returns-in_err-frame-clause-whole g c whole =
    let same = not_taken c.args.self.now c.take.new.self c.in_err-frame.ensures.rest (c.in_err-frame.ensures.none.0 refl) in
    subst (λ pool. IsWhole (record c.args.self.now { pool = pool })) (sym same) whole

pub returns-clause-framed : goal.returns-clause-framed
returns-clause-framed g c =
    let s = c.args.self.now in
    let k : Place = (c.args.space.0, c.args.vpn.0) in
    let frame = c.in_ok-frame.frame in
    let pte = c.args.pte in
    let table : c.set_frame.new.self ≡ with_entry s.table k (record pte { frame = Some frame }) = rw c.requires.mapped at c.set_frame.ensures.frame in
    let given : Given s k pte frame c.take.new.self c.refill.new.self c.refill.new.arena c.note.new.self = record {
      whole = c.requires.fit;
      there = c.requires.mapped;
      fresh = c.in_default.is;
      front = c.in_ok-frame.ensures.free;
      taken = c.in_ok-frame.ensures.taken;
      rest = c.in_ok-frame.ensures.rest;
      free = c.refill.ensures.free;
      kept = c.refill.ensures.kept;
      long = c.refill.ensures.pages;
      others = c.refill.ensures.others;
      zero = c.refill.ensures.zero;
      first = ring_first s.pool.ring s.pool.clean frame.0 c.in_ok-frame.ensures.page;
      valid = subst IsValid table c.set_frame.ensures.valid;
      cached = cached_put k (record pte { frame = Some frame }) s.cache c.note.new.self s.table c.requires.fit.cached c.note.ensures.here c.note.ensures.others;
    } in
    subst (λ t. IsFramed s (record { table = t; pool = c.refill.new.self; arena = c.refill.new.arena; cache = c.note.new.self; spaces = s.spaces; ranges = s.ranges }) k pte frame) (sym table)
    (is_framed s k pte frame c.take.new.self c.refill.new.self c.refill.new.arena c.note.new.self given)

pub returns-clause-fit : goal.returns-clause-fit
returns-clause-fit g c =
    let s = c.args.self.now in
    let k : Place = (c.args.space.0, c.args.vpn.0) in
    let frame = c.in_ok-frame.frame in
    let pte = c.args.pte in
    let table : c.set_frame.new.self ≡ with_entry s.table k (record pte { frame = Some frame }) = rw c.requires.mapped at c.set_frame.ensures.frame in
    let given : Given s k pte frame c.take.new.self c.refill.new.self c.refill.new.arena c.note.new.self = record {
      whole = c.requires.fit;
      there = c.requires.mapped;
      fresh = c.in_default.is;
      front = c.in_ok-frame.ensures.free;
      taken = c.in_ok-frame.ensures.taken;
      rest = c.in_ok-frame.ensures.rest;
      free = c.refill.ensures.free;
      kept = c.refill.ensures.kept;
      long = c.refill.ensures.pages;
      others = c.refill.ensures.others;
      zero = c.refill.ensures.zero;
      first = ring_first s.pool.ring s.pool.clean frame.0 c.in_ok-frame.ensures.page;
      valid = subst IsValid table c.set_frame.ensures.valid;
      cached = cached_put k (record pte { frame = Some frame }) s.cache c.note.new.self s.table c.requires.fit.cached c.note.ensures.here c.note.ensures.others;
    } in
    subst (λ t. IsFit (record { table = t; pool = c.refill.new.self; arena = c.refill.new.arena; cache = c.note.new.self; spaces = s.spaces; ranges = s.ranges })) (sym table)
    (fit_framed s k pte frame c.take.new.self c.refill.new.self c.refill.new.arena c.note.new.self given)

pub returns-clause-whole : goal.returns-clause-whole
returns-clause-whole g c whole =
    let s = c.args.self.now in
    let k : Place = (c.args.space.0, c.args.vpn.0) in
    let frame = c.in_ok-frame.frame in
    let pte = c.args.pte in
    let table : c.set_frame.new.self ≡ with_entry s.table k (record pte { frame = Some frame }) = rw c.requires.mapped at c.set_frame.ensures.frame in
    let given : Given s k pte frame c.take.new.self c.refill.new.self c.refill.new.arena c.note.new.self = record {
      whole = c.requires.fit;
      there = c.requires.mapped;
      fresh = c.in_default.is;
      front = c.in_ok-frame.ensures.free;
      taken = c.in_ok-frame.ensures.taken;
      rest = c.in_ok-frame.ensures.rest;
      free = c.refill.ensures.free;
      kept = c.refill.ensures.kept;
      long = c.refill.ensures.pages;
      others = c.refill.ensures.others;
      zero = c.refill.ensures.zero;
      first = ring_first s.pool.ring s.pool.clean frame.0 c.in_ok-frame.ensures.page;
      valid = subst IsValid table c.set_frame.ensures.valid;
      cached = cached_put k (record pte { frame = Some frame }) s.cache c.note.new.self s.table c.requires.fit.cached c.note.ensures.here c.note.ensures.others;
    } in
    subst (λ t. IsWhole (record { table = t; pool = c.refill.new.self; arena = c.refill.new.arena; cache = c.note.new.self; spaces = s.spaces; ranges = s.ranges })) (sym table)
    (whole_framed s k pte frame c.take.new.self c.refill.new.self c.refill.new.arena c.note.new.self given whole)
