use Rattle.std.proofs.Common.{◌≡◌, ◌-◌, ◌==◌, ◌∙◌, ◌++◌, ℕ, Bool, true, length, sym, ap, subst, arith}
use Rattle.std.proofs.lemmas.Bool.{eq-eqb}
use Rattle.hash_buckets.specs.PageMap.{PageMap, IsValid}
use Rattle.page_arena.specs.Arena.{page_at}
use Rattle.page_pool.specs.PoolPages.{PoolPages, AreZero}
use Rattle.range_alloc.specs.Ranges.{AreRanges, AreTaken, frames_of, span_at, without_range}
use Rattle.range_alloc.specs.RangeSets.{drop_start, has_start, ranges_in}
use Rattle.range_alloc.proofs.Entries.{sorted_table}
use Rattle.range_alloc.proofs.Fitting.{some_pages}
use Rattle.range_alloc.proofs.Ranges.{page_mapped}
use Rattle.data_path.specs.declared.store.PageStore.{PageStore}
use Rattle.data_path.specs.Store.{memory_of, spans_in, IsWhole}
use Rattle.data_path.proofs.Listing.{listed_left, some_begins}
use Rattle.data_path.proofs.Ranging.{Freed, span_found, whole_freed, memory_freed}
use Rattle.data_path.proofs.Spans.{sorted_spans}
use Rattle.data_path.proofs.store.PageStore.take_out.Goals as goal

pub forget-requires : goal.forget-requires
forget-requires c =
    let some = some_pages c.args.pages c.requires.pages in
    let last = page_mapped c.args.self.now.table c.args.space.0 c.args.start.0 c.args.pages c.requires.whole.fit.ranges c.requires.stands some (c.args.pages - 1) (omega (arith, some)) in
    omega (arith, some, c.requires.whole.fit.ranges.within _ _ last)

pub unmap_range-requires-clause-ranges : goal.unmap_range-requires-clause-ranges
unmap_range-requires-clause-ranges c = subst (λ (t : PageStore). AreRanges t.table) (sym c.forget.ensures.rest) c.requires.whole.fit.ranges

pub unmap_range-requires-clause-taken : goal.unmap_range-requires-clause-taken
unmap_range-requires-clause-taken c = subst (λ (t : PageStore). AreTaken t.table t.pool) (sym c.forget.ensures.rest) c.requires.whole.fit.taken

-- the cache alone changed before, so what the table and the pool say is what they said
module _ (s forgot : PageStore) (rest : forgot ≡ (let t : PageStore = record s { cache = forgot.cache } in t)) (space start n : ℕ) (spanned : span_at s.table (space, start) ≡ n)
    (result : Bool) (told : result ≡ (span_at forgot.table (space, start) == n)) (table : PageMap) (pool : PoolPages) where
  stood : result ≡ true
  stood = told ∙ ap (λ (t : PageStore). span_at t.table (space, start) == n) rest ∙ eq-eqb (span_at s.table (space, start)) n spanned

  cut : (result ≡ true → table ≡ without_range forgot.table space start n) → table ≡ without_range s.table space start n
  cut gone = gone stood ∙ ap (λ (t : PageStore). without_range t.table space start n) rest

  released : (result ≡ true → pool ≡ record forgot.pool { dirty = forgot.pool.dirty ++ frames_of forgot.table space start n })
      → pool ≡ record s.pool { dirty = s.pool.dirty ++ frames_of s.table space start n }
  released out = out stood ∙ ap (λ (t : PageStore). let p : PoolPages = record t.pool { dirty = t.pool.dirty ++ frames_of t.table space start n } in p) rest

pub drop_range-requires : goal.drop_range-requires
drop_range-requires c = record {
  stands = ap (λ (t : PageStore). has_start c.args.start.0 (ranges_in t.ranges c.args.space.0)) c.forget.ensures.rest
      ∙ some_begins c.args.start.0 c.args.pages _ (c.requires.whole.listed.named c.args.space.0 c.args.start.0 c.requires.process
      ∙ span_found c.args.self.now c.args.space.0 c.args.start.0 c.args.pages c.requires.whole.fit (some_pages c.args.pages c.requires.pages) c.requires.stands);
}

pub refill-requires-clause-arena : goal.refill-requires-clause-arena
refill-requires-clause-arena c =
    let s = c.args.self.now in
    let out = released s c.forget.new.self c.forget.ensures.rest c.args.space.0 c.args.start.0 c.args.pages c.requires.stands c.unmap_range.result c.unmap_range.ensures.stands c.unmap_range.new.table c.unmap_range.new.pool c.unmap_range.ensures.pool in
    ap (λ (t : PageStore). length t.arena) c.forget.ensures.rest ∙ c.requires.whole.fit.arena ∙ sym (ap (λ (p : PoolPages). p.pages) out)

pub refill-requires-clause-zero : goal.refill-requires-clause-zero
refill-requires-clause-zero c =
    let s = c.args.self.now in
    let out = released s c.forget.new.self c.forget.ensures.rest c.args.space.0 c.args.start.0 c.args.pages c.requires.stands c.unmap_range.result c.unmap_range.ensures.stands c.unmap_range.new.table c.unmap_range.new.pool c.unmap_range.ensures.pool in
    subst (λ (p : PoolPages). AreZero c.forget.new.self.arena (p.ring ++ p.clean)) (sym out)
    (subst (λ (t : PageStore). AreZero t.arena (s.pool.ring ++ s.pool.clean)) (sym c.forget.ensures.rest) c.requires.whole.fit.zero)

-- the table without the range
gone : (c : goal.After-refill) → c.unmap_range.new.table ≡ without_range c.args.self.now.table c.args.space.0 c.args.start.0 c.args.pages
gone c = cut c.args.self.now c.forget.new.self c.forget.ensures.rest c.args.space.0 c.args.start.0 c.args.pages c.requires.stands c.unmap_range.result c.unmap_range.ensures.stands c.unmap_range.new.table c.unmap_range.new.pool c.unmap_range.ensures.gone

-- the store at the end
ends : (c : goal.After-refill) → c.refill.new.self
    ≡ (let s : PageStore = record { table = c.unmap_range.new.table; pool = c.refill.new.self.pool; arena = c.refill.new.self.arena; cache = c.forget.new.self.cache; spaces = c.args.self.now.spaces; ranges = c.drop_range.new.self } in s)
ends c = c.refill.ensures.rest
    ∙ (λ i. record (c.forget.ensures.rest i) { table = c.unmap_range.new.table; pool = c.refill.new.self.pool; arena = c.refill.new.self.arena; ranges = c.drop_range.new.self })

-- what the calls of the parts gave
freed : (c : goal.After-refill) → Freed c.args.self.now c.args.space.0 c.args.start.0 c.args.pages c.requires.whole (some_pages c.args.pages c.requires.pages) c.requires.process c.requires.stands
    c.unmap_range.new.pool c.refill.new.self.pool c.refill.new.self.arena c.forget.new.self.cache c.drop_range.new.self
freed c =
    let s = c.args.self.now in
    let space = c.args.space.0 in
    let rest = c.forget.ensures.rest in
    let dropped = c.drop_range.ensures in
    record {
      valid = subst IsValid (gone c) c.unmap_range.ensures.valid;
      ranges = subst AreRanges (gone c) c.unmap_range.ensures.ranges;
      taken = subst (λ (t : PageMap). AreTaken t c.unmap_range.new.pool) (gone c) c.unmap_range.ensures.taken;
      released = released s c.forget.new.self rest space c.args.start.0 c.args.pages c.requires.stands c.unmap_range.result c.unmap_range.ensures.stands c.unmap_range.new.table c.unmap_range.new.pool c.unmap_range.ensures.pool;
      free = c.refill.ensures.free;
      kept = c.refill.ensures.kept;
      long = c.refill.ensures.arena ∙ ap (λ (t : PageStore). length t.arena) rest;
      others = λ p isnt. c.refill.ensures.taken p isnt ∙ ap (λ (t : PageStore). page_at t.arena p) rest;
      zero = c.refill.ensures.zero;
      gone = c.forget.ensures.gone;
      stays = c.forget.ensures.others;
      listed = listed_left s.ranges c.drop_range.new.self (spans_in s.table.entries) s.table.buckets space c.args.start.0 c.args.pages c.requires.whole.listed c.requires.process
          (sorted_spans s.table.entries (sorted_table s.table c.requires.whole.fit.valid))
          (λ other low ne. dropped.others other low ne ∙ ap (λ (t : PageStore). ranges_in t.ranges other) rest)
          (dropped.nodes ∙ ap (λ (t : PageStore). t.ranges.nodes) rest)
          (dropped.gone ∙ ap (λ (t : PageStore). drop_start c.args.start.0 (ranges_in t.ranges space)) rest)
          (dropped.count ∙ ap (λ (t : PageStore). t.ranges.count) rest)
          (span_found s space c.args.start.0 c.args.pages c.requires.whole.fit (some_pages c.args.pages c.requires.pages) c.requires.stands);
    }

pub returns-clause-memory : goal.returns-clause-memory
returns-clause-memory c =
    let s = c.args.self.now in
    ap memory_of (ends c)
    ∙ ap (λ (t : PageMap). memory_of (record { table = t; pool = c.refill.new.self.pool; arena = c.refill.new.self.arena; cache = c.forget.new.self.cache; spaces = s.spaces; ranges = c.drop_range.new.self })) (gone c)
    ∙ memory_freed s c.args.space.0 c.args.start.0 c.args.pages c.requires.whole (some_pages c.args.pages c.requires.pages) c.requires.process c.requires.stands
    c.unmap_range.new.pool c.refill.new.self.pool c.refill.new.self.arena c.forget.new.self.cache c.drop_range.new.self (freed c)

pub returns-clause-whole : goal.returns-clause-whole
returns-clause-whole c =
    let s = c.args.self.now in
    subst IsWhole (sym (ends c))
    (subst (λ (t : PageMap). IsWhole (record { table = t; pool = c.refill.new.self.pool; arena = c.refill.new.self.arena; cache = c.forget.new.self.cache; spaces = s.spaces; ranges = c.drop_range.new.self })) (sym (gone c))
    (whole_freed s c.args.space.0 c.args.start.0 c.args.pages c.requires.whole (some_pages c.args.pages c.requires.pages) c.requires.process c.requires.stands
    c.unmap_range.new.pool c.refill.new.self.pool c.refill.new.self.arena c.forget.new.self.cache c.drop_range.new.self (freed c)))
