use Rattle.std.proofs.Common.{◌≡◌, ◌+◌, ◌<◌, ◌≤◌, ◌∙◌, is_some, refl, sym, ap, subst, arith}
use Rattle.hash_buckets.specs.PageMap.{PageMap, entry_of, without_entry}
use Rattle.flat_model.specs.Rows.{keys}
use Rattle.flat_model.specs.State.{least_from}
use Rattle.flat_model.proofs.LeastLemmas.{least_is, least_here, least_next, least_past}
use Rattle.range_alloc.specs.Ranges.{AreRanges, frame_at, with_range}
use Rattle.range_alloc.proofs.Fitting.{some_pages}
use Rattle.range_alloc.proofs.Ranges.{ranges_with, frames_with}
use Rattle.range_alloc.proofs.Window.{IsWindow, join_within, window_empty, window_is_first, window_joined, window_next, window_skips, window_to, window_within, window_mapped, window_fits, window_blocks, window_range}
use Rattle.range_alloc.proofs.map.map_range.Goals as goal

pub loop-start-init : goal.loop-start-init
loop-start-init c =
    let skips = c.next_start-start.ensures.skips refl in
    record {
      window = window_empty c.args.table.now c.args.space.0 c.args.perm c.next_start-start.result c.buckets.ensures.valid;
      search = least_is _ _ _ _ ∙ skips.same;
      low = skips.onward;
      few = omega arith;
      high = omega (arith, skips.inside);
    }

-- all pages of the range have joined
whole : (c : goal.After-set_span) → IsWindow c.args.table.now c.loop-start.table c.args.space.0 c.args.perm c.loop-start.start c.args.pages
whole c = subst (λ n. IsWindow c.args.table.now c.loop-start.table c.args.space.0 c.args.perm c.loop-start.start n) (c.if-joined-from.true ∙ c.from.ensures) c.loop-start.invariant.window

within : (c : goal.After-set_span) → c.loop-start.start + c.args.pages ≤ 65536
within c = omega (arith, c.loop-start.invariant.high, c.if-joined-from.true, c.from.ensures)

mapped : (c : goal.After-set_span) → c.set_span.new.table ≡ with_range c.args.table.now c.args.space.0 c.loop-start.start c.args.pages c.args.perm
mapped c = window_range _ _ _ _ _ _ (whole c) c.set_span.new.table (some_pages c.args.pages c.requires.pages) c.set_span.ensures.spanned c.set_span.ensures.valid

pub set_span-requires-clause-mapped : goal.set_span-requires-clause-mapped
set_span-requires-clause-mapped c =
    window_mapped _ _ _ _ _ _ c.loop-start.invariant.window (omega (arith, c.if-joined-from.true, c.from.ensures, some_pages c.args.pages c.requires.pages))

pub leave-joined-requires-clause-mapped : goal.leave-joined-requires-clause-mapped
leave-joined-requires-clause-mapped c some =
    ap (λ (t : PageMap). is_some (entry_of t (c.args.space.0, c.loop-start.start))) (c.if-join.ensures.unchanged refl)
    ∙ window_mapped _ _ _ _ _ _ c.loop-start.invariant.window some

pub returns-then-joined-from-clause-start : goal.returns-then-joined-from-clause-start
returns-then-joined-from-clause-start c =
    sym (c.loop-start.invariant.search ∙ least_here _ _ _ _ c.loop-start.start _ (omega (arith, c.loop-start-test.true)) (window_fits _ _ _ _ _ _ (whole c) c.loop-start.invariant.low (within c)))

pub returns-then-joined-from-clause-some : goal.returns-then-joined-from-clause-some
returns-then-joined-from-clause-some c = mapped c

pub returns-then-joined-from-clause-ranges : goal.returns-then-joined-from-clause-ranges
returns-then-joined-from-clause-ranges c =
    subst AreRanges (sym (mapped c)) (ranges_with _ _ _ _ _ c.requires.ranges (some_pages c.args.pages c.requires.pages) (within c) (whole c).unmapped)

pub returns-then-joined-from-clause-frames : goal.returns-then-joined-from-clause-frames
returns-then-joined-from-clause-frames c place =
    ap (λ (t : PageMap). frame_at t place) (mapped c) ∙ frames_with _ _ _ _ _ c.requires.ranges (some_pages c.args.pages c.requires.pages) (within c) (whole c).unmapped place

pub loop-start-preserved-then-join : goal.loop-start-preserved-then-join
loop-start-preserved-then-join c =
    let below : c.loop-start.start + c.loop-start.joined < 65536 = join_within c.loop-start.table c.args.space.0 _ c.if-join.ensures.joins in
    record {
      window = window_joined _ _ _ _ _ _ c.loop-start.invariant.window c.join.new.table (sym c.if-join.ensures.joins) (c.if-join.ensures.joined refl) c.join.ensures.valid;
      search = c.loop-start.invariant.search;
      low = c.loop-start.invariant.low;
      few = omega (arith, c.loop-start.invariant.few, c.if-joined-from.false, c.from.ensures);
      high = omega (arith, below);
    }

-- the window without its first page
left : (c : goal.After-leave-joined) → IsWindow c.args.table.now c.leave-joined.new.table c.args.space.0 c.args.perm (c.loop-start.start + 1) c.leave-joined.result
left c =
    let same : c.join.new.table ≡ c.loop-start.table = c.if-join.ensures.unchanged refl in
    window_next _ _ _ _ _ _ c.loop-start.invariant.window c.leave-joined.new.table c.leave-joined.result c.leave-joined.ensures.left
    (λ some. c.leave-joined.ensures.first some ∙ ap (λ (t : PageMap). without_entry t (c.args.space.0, c.loop-start.start)) same) (λ none. c.leave-joined.ensures.unchanged none ∙ same) c.leave-joined.ensures.valid

pub next_start-start-requires-else-join-clause-ranges : goal.next_start-start-requires-else-join-clause-ranges
next_start-start-requires-else-join-clause-ranges c none = subst AreRanges (sym (window_is_first _ _ _ _ _ _ (left c) none)) c.requires.ranges

pub loop-start-preserved : goal.loop-start-preserved
loop-start-preserved c =
    let short : c.loop-start.joined < c.args.pages = omega (arith, c.loop-start.invariant.few, c.if-joined-from.false, c.from.ensures) in
    let inside : c.loop-start.start + 1 ≤ 65536 = omega (arith, c.loop-start-test.true) in
    let to = c.next_start-start-else-join in
    let skips = window_skips _ _ _ _ _ _ (left c.before) c.args.pages to.result inside to.ensures.stays to.ensures.skips in
    record {
      window = window_to _ _ _ _ _ _ (left c.before) to.result to.ensures.stays;
      search = c.loop-start.invariant.search
          ∙ least_next _ _ _ _ c.loop-start.start _ (omega (arith, c.loop-start-test.true)) (window_blocks _ _ _ _ _ _ c.loop-start.invariant.window c.args.pages short (sym c.if-join.ensures.joins))
          ∙ ap (least_from c.args.table.now.buckets (keys c.args.table.now.entries) c.args.space.0 c.args.pages (c.loop-start.start + 1)) (omega arith)
          ∙ skips.same;
      low = omega (arith, to.ensures.onward);
      few = omega (arith, c.leave-joined.ensures.left, c.loop-start.invariant.few);
      high = window_within _ _ _ _ _ _ (left c.before) to.result (omega (arith, c.leave-joined.ensures.left, c.loop-start.invariant.high, c.loop-start-test.true)) skips.inside to.ensures.stays;
    }

pub returns-clause-none : goal.returns-clause-none
returns-clause-none c = window_is_first _ _ _ _ _ _ c.loop-start.invariant.window (omega (arith, c.loop-start.invariant.high))

pub returns-clause-ranges : goal.returns-clause-ranges
returns-clause-ranges c = subst AreRanges (sym (window_is_first _ _ _ _ _ _ c.loop-start.invariant.window (omega (arith, c.loop-start.invariant.high)))) c.requires.ranges

pub returns-clause-start : goal.returns-clause-start
returns-clause-start c = sym (c.loop-start.invariant.search ∙ least_past _ _ _ _ c.loop-start.start _ (omega (arith, c.loop-start-test.false)))
