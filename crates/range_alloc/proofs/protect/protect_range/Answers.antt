use Rattle.std.proofs.Common.{◌+◌, ◌∙◌, is_some, sym, ap, subst, arith}
use Rattle.hash_buckets.specs.PageMap.{PageMap}
use Rattle.range_alloc.specs.Ranges.{AreRanges, frame_at, span_at}
use Rattle.range_alloc.proofs.Fitting.{some_pages}
use Rattle.range_alloc.proofs.Perms.{perms_none, perms_step, next_perm, perms_frames, perms_spans, perms_ranges}
use Rattle.range_alloc.proofs.Ranges.{page_mapped}
use Rattle.range_alloc.proofs.protect.protect_range.Goals as goal

pub loop-i-init : goal.loop-i-init
loop-i-init c = record {
  perms = perms_none c.args.table.now c.args.space.0 c.args.start.0 c.args.perm c.span.ensures.valid;
  valid = c.span.ensures.valid;
}

pub overflow_add-start : goal.overflow_add-start
overflow_add-start c =
    let stands = sym c.span.ensures.span ∙ c.if-span-pages.false in
    let mapped = page_mapped c.args.table.now c.args.space.0 c.args.start.0 c.args.pages c.requires.ranges stands (some_pages c.args.pages c.requires.pages) c.loop-i.i c.loop-i-test.true in
    omega (arith, c.requires.ranges.within c.args.space.0 (c.args.start.0 + c.loop-i.i) mapped)

pub set_perm-requires : goal.set_perm-requires
set_perm-requires c =
    let stands = sym c.span.ensures.span ∙ c.if-span-pages.false in
    ap is_some (next_perm c.args.table.now c.loop-i.table c.args.space.0 c.args.start.0 c.loop-i.i c.args.perm c.loop-i.invariant.perms)
    ∙ page_mapped c.args.table.now c.args.space.0 c.args.start.0 c.args.pages c.requires.ranges stands (some_pages c.args.pages c.requires.pages) c.loop-i.i c.loop-i-test.true

pub loop-i-preserved : goal.loop-i-preserved
loop-i-preserved c =
    let stands = sym c.span.ensures.span ∙ c.if-span-pages.false in
    let mapped = ap is_some (next_perm c.args.table.now c.loop-i.table c.args.space.0 c.args.start.0 c.loop-i.i c.args.perm c.loop-i.invariant.perms)
    ∙ page_mapped c.args.table.now c.args.space.0 c.args.start.0 c.args.pages c.requires.ranges stands (some_pages c.args.pages c.requires.pages) c.loop-i.i c.loop-i-test.true in
    record {
      perms = perms_step c.args.table.now c.loop-i.table c.set_perm.new.self c.args.space.0 c.args.start.0 c.loop-i.i c.args.perm c.span.ensures.valid c.set_perm.ensures.valid c.loop-i.invariant.perms
          mapped c.set_perm.ensures.perm;
      valid = c.set_perm.ensures.valid;
    }

pub returns-clause-frames : goal.returns-clause-frames
returns-clause-frames c place =
    ap (λ (t : PageMap). frame_at t place) c.loop-i.invariant.perms ∙ perms_frames c.args.table.now c.args.space.0 c.args.start.0 c.loop-i.i c.args.perm place

pub returns-clause-spans : goal.returns-clause-spans
returns-clause-spans c place =
    ap (λ (t : PageMap). span_at t place) c.loop-i.invariant.perms ∙ perms_spans c.args.table.now c.args.space.0 c.args.start.0 c.loop-i.i c.args.perm place

pub returns-clause-ranges : goal.returns-clause-ranges
returns-clause-ranges c =
    subst AreRanges (sym c.loop-i.invariant.perms) (perms_ranges c.args.table.now c.args.space.0 c.args.start.0 c.loop-i.i c.args.perm c.requires.ranges)
