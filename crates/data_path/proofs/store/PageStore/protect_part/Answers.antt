use Rattle.std.proofs.Common.{◌≡◌, ◌-◌, ◌==◌, ◌∙◌, ℕ, true, false, sym, ap, subst, arith}
use Rattle.std.proofs.lemmas.Bool.{eq-eqb, ne_eqb}
use Rattle.hash_buckets.specs.PageMap.{PageMap, IsValid}
use Rattle.range_alloc.specs.Ranges.{AreRanges, span_at, with_perms}
use Rattle.range_alloc.proofs.Fitting.{some_pages}
use Rattle.range_alloc.proofs.Ranges.{page_mapped}
use Rattle.flat_model.specs.Step.{Transition}
use Rattle.data_path.specs.declared.store.PageStore.{PageStore}
use Rattle.data_path.specs.Protecting.{protected}
use Rattle.data_path.specs.Store.{memory_of, IsWhole}
use Rattle.data_path.proofs.Protected.{memory_protected, whole_protected, protect_is}
use Rattle.data_path.proofs.store.PageStore.protect_part.Goals as goal

pub returns-then-span-pages-clause-reply : goal.returns-then-span-pages-clause-reply
returns-then-span-pages-clause-reply c =
    let differs = ne_eqb (span_at c.args.self.now.table (c.args.space.0, c.page_of-first.result.0)) c.args.pages (λ e. c.if-span-pages.true (c.span.ensures.span ∙ e)) in
    sym (ap (λ (o : Transition). o.reply) (protect_is c.args.self.now c.args.space.0 c.args.addr c.args.pages c.args.perm c.page_of-first.result.0 false c.requires.whole (some_pages c.args.pages c.requires.pages) c.page_of-first.ensures differs))

pub returns-then-span-pages-clause-memory : goal.returns-then-span-pages-clause-memory
returns-then-span-pages-clause-memory c =
    let differs = ne_eqb (span_at c.args.self.now.table (c.args.space.0, c.page_of-first.result.0)) c.args.pages (λ e. c.if-span-pages.true (c.span.ensures.span ∙ e)) in
    sym (ap (λ (o : Transition). o.state) (protect_is c.args.self.now c.args.space.0 c.args.addr c.args.pages c.args.perm c.page_of-first.result.0 false c.requires.whole (some_pages c.args.pages c.requires.pages) c.page_of-first.ensures differs))

pub forget-requires : goal.forget-requires
forget-requires c =
    let some = some_pages c.args.pages c.requires.pages in
    let span = sym c.span.ensures.span ∙ c.if-span-pages.false in
    let last = page_mapped c.args.self.now.table c.args.space.0 c.page_of-first.result.0 c.args.pages c.requires.whole.fit.ranges span some (c.args.pages - 1) (omega (arith, some)) in
    omega (arith, some, c.requires.whole.fit.ranges.within _ _ last)

-- the range has so many pages
spanned : (c : goal.After-protect_range) → (span_at c.args.self.now.table (c.args.space.0, c.page_of-first.result.0) == c.args.pages) ≡ true
spanned c = eq-eqb (span_at c.args.self.now.table (c.args.space.0, c.page_of-first.result.0)) c.args.pages (sym c.span.ensures.span ∙ c.if-span-pages.false)

-- the table at the end
perms : (c : goal.After-protect_range) → c.protect_range.new.table ≡ with_perms c.args.self.now.table c.args.space.0 c.page_of-first.result.0 c.args.pages c.args.perm
perms c =
    let same = ap (λ (s : PageStore). s.table) c.forget.ensures.rest in
    let stands = c.protect_range.ensures.stands ∙ ap (λ (t : PageMap). span_at t (c.args.space.0, c.page_of-first.result.0) == c.args.pages) same ∙ spanned c in
    c.protect_range.ensures.perms stands ∙ ap (λ (t : PageMap). with_perms t c.args.space.0 c.page_of-first.result.0 c.args.pages c.args.perm) same

pub returns-clause-reply : goal.returns-clause-reply
returns-clause-reply c =
    sym (ap (λ (o : Transition). o.reply) (protect_is c.args.self.now c.args.space.0 c.args.addr c.args.pages c.args.perm c.page_of-first.result.0 true c.requires.whole (some_pages c.args.pages c.requires.pages) c.page_of-first.ensures (spanned c)))

pub returns-clause-memory : goal.returns-clause-memory
returns-clause-memory c =
    let s = c.args.self.now in
    (λ i. memory_of (record (c.forget.ensures.rest i) { table = perms c i }))
    ∙ memory_protected c.args.space.0 c.page_of-first.result.0 c.args.pages c.args.perm s
    ∙ ap (λ (start : ℕ). protected (memory_of s) c.args.space.0 start c.args.pages c.args.perm) c.page_of-first.ensures
    ∙ sym (ap (λ (o : Transition). o.state) (protect_is s c.args.space.0 c.args.addr c.args.pages c.args.perm c.page_of-first.result.0 true c.requires.whole (some_pages c.args.pages c.requires.pages) c.page_of-first.ensures (spanned c)))

pub returns-clause-whole : goal.returns-clause-whole
returns-clause-whole c =
    let s = c.args.self.now in
    let ends : (let t : PageStore = record c.forget.new.self { table = c.protect_range.new.table } in t)
    ≡ (let t : PageStore = record s { table = with_perms s.table c.args.space.0 c.page_of-first.result.0 c.args.pages c.args.perm; cache = c.forget.new.self.cache } in t) =
    λ i. record (c.forget.ensures.rest i) { table = perms c i } in
    subst IsWhole (sym ends)
    (whole_protected s c.args.space.0 c.page_of-first.result.0 c.args.pages c.args.perm c.requires.whole c.requires.process c.forget.new.self.cache
    (subst IsValid (perms c) c.protect_range.ensures.valid) (subst AreRanges (perms c) c.protect_range.ensures.ranges) c.forget.ensures.gone c.forget.ensures.others)
