use Rattle.std.proofs.Common.{◌≡◌, ◌+◌, ◌∙◌, ℕ, List, is_some, sym, ap, subst, arith, append-nil}
use Rattle.page_pool.specs.PoolPages.{PoolPages}
use Rattle.range_alloc.specs.Ranges.{AreRanges, without_range}
use Rattle.range_alloc.proofs.Entries.{range_shrinks, range_whole, next_entry}
use Rattle.range_alloc.proofs.Fitting.{some_pages}
use Rattle.range_alloc.proofs.Frames.{dirty_more}
use Rattle.range_alloc.proofs.Ranges.{ranges_without, page_mapped}
use Rattle.range_alloc.proofs.unmap.unmap_range.Goals as goal

pub loop-i-init : goal.loop-i-init
loop-i-init c = record {
  gone = range_whole c.args.table.now c.args.space.0 c.args.start.0 c.span.ensures.valid;
  dirty = ap (λ (frames : List ℕ). let pool : PoolPages = record c.args.pool.now { dirty = frames } in pool) (sym (append-nil c.args.pool.now.dirty));
  taken = c.requires.taken;
  valid = c.span.ensures.valid;
}

pub overflow_add-start : goal.overflow_add-start
overflow_add-start c =
    let stands = sym c.span.ensures.span ∙ c.if-span-pages.false in
    let mapped = page_mapped c.args.table.now c.args.space.0 c.args.start.0 c.args.pages c.requires.ranges stands (some_pages c.args.pages c.requires.pages) c.loop-i.i c.loop-i-test.true in
    omega (arith, c.requires.ranges.within c.args.space.0 (c.args.start.0 + c.loop-i.i) mapped)

pub unmap_page-requires-clause-mapped : goal.unmap_page-requires-clause-mapped
unmap_page-requires-clause-mapped c =
    let stands = sym c.span.ensures.span ∙ c.if-span-pages.false in
    ap is_some (next_entry c.args.table.now c.loop-i.table c.args.space.0 c.args.start.0 c.loop-i.i c.loop-i.invariant.gone)
    ∙ page_mapped c.args.table.now c.args.space.0 c.args.start.0 c.args.pages c.requires.ranges stands (some_pages c.args.pages c.requires.pages) c.loop-i.i c.loop-i-test.true

pub loop-i-preserved : goal.loop-i-preserved
loop-i-preserved c = record {
  gone = range_shrinks c.args.table.now c.loop-i.table c.unmap_page.new.table c.args.space.0 c.args.start.0 c.loop-i.i c.span.ensures.valid c.unmap_page.ensures.valid c.loop-i.invariant.gone c.unmap_page.ensures.gone;
  dirty = dirty_more c.args.table.now c.loop-i.table c.args.pool.now c.loop-i.pool c.unmap_page.new.pool c.args.space.0 c.args.start.0 c.loop-i.i
      (next_entry c.args.table.now c.loop-i.table c.args.space.0 c.args.start.0 c.loop-i.i c.loop-i.invariant.gone) c.loop-i.invariant.dirty c.unmap_page.ensures.pool;
  taken = c.unmap_page.ensures.taken;
  valid = c.unmap_page.ensures.valid;
}

pub returns-clause-ranges : goal.returns-clause-ranges
returns-clause-ranges c =
    let stands = sym c.span.ensures.span ∙ c.if-span-pages.false in
    let left : c.loop-i.table ≡ without_range c.args.table.now c.args.space.0 c.args.start.0 c.args.pages =
    c.loop-i.invariant.gone ∙ ap (without_range c.args.table.now c.args.space.0 c.args.start.0) (omega arith) in
    subst AreRanges (sym left) (ranges_without c.args.table.now c.args.space.0 c.args.start.0 c.args.pages c.requires.ranges stands (some_pages c.args.pages c.requires.pages))
