use Rattle.std.proofs.Common.{◌≡◌, ◌<◌, ◌==◌, ◌∙◌, ℕ, Bool, true, false, sym, ap}
use Rattle.std.proofs.lemmas.Bool.{eq-eqb, ne_eqb}
use Rattle.cl_types.specs.declared.numbers.Addr.{Addr}
use Rattle.range_alloc.specs.Ranges.{span_at}
use Rattle.range_alloc.proofs.Fitting.{some_pages}
use Rattle.cl_types.specs.Pages.{page_of}
use Rattle.flat_model.specs.Step.{Transition, free, free_if, unmapped}
use Rattle.data_path.specs.declared.store.PageStore.{PageStore}
use Rattle.data_path.specs.Store.{memory_of, IsWhole}
use Rattle.data_path.proofs.Ranging.{range_is}
use Rattle.data_path.proofs.store.PageStore.free_range.Goals as goal

-- what the machine does, by whether the range stands
free_is : (s : PageStore) (space : ℕ) (addr : Addr) (n start : ℕ) (stands : Bool) → IsWhole s → 0 < n → start ≡ page_of addr → (span_at s.table (space, start) == n) ≡ stands
    → free (memory_of s) space addr n ≡ free_if (memory_of s) space (page_of addr) n stands
free_is s space addr n start stands whole some is by =
    ap (free_if (memory_of s) space (page_of addr) n) (range_is s space (page_of addr) n whole.fit some ∙ ap (λ p. span_at s.table (space, p) == n) (sym is) ∙ by)

pub returns-then-span-pages-clause-reply : goal.returns-then-span-pages-clause-reply
returns-then-span-pages-clause-reply c =
    let differs = ne_eqb (span_at c.args.self.now.table (c.args.space.0, c.page_of-start.result.0)) c.args.pages (λ e. c.if-span-pages.true (c.span.ensures.span ∙ e)) in
    sym (ap (λ (o : Transition). o.reply) (free_is c.args.self.now c.args.space.0 c.args.addr c.args.pages c.page_of-start.result.0 false c.requires.whole (some_pages c.args.pages c.requires.pages) c.page_of-start.ensures differs))

pub returns-then-span-pages-clause-memory : goal.returns-then-span-pages-clause-memory
returns-then-span-pages-clause-memory c =
    let differs = ne_eqb (span_at c.args.self.now.table (c.args.space.0, c.page_of-start.result.0)) c.args.pages (λ e. c.if-span-pages.true (c.span.ensures.span ∙ e)) in
    sym (ap (λ (o : Transition). o.state) (free_is c.args.self.now c.args.space.0 c.args.addr c.args.pages c.page_of-start.result.0 false c.requires.whole (some_pages c.args.pages c.requires.pages) c.page_of-start.ensures differs))

-- the range stands
stands : (c : goal.After-take_out) → (span_at c.args.self.now.table (c.args.space.0, c.page_of-start.result.0) == c.args.pages) ≡ true
stands c = eq-eqb (span_at c.args.self.now.table (c.args.space.0, c.page_of-start.result.0)) c.args.pages (sym c.span.ensures.span ∙ c.if-span-pages.false)

pub returns-clause-reply : goal.returns-clause-reply
returns-clause-reply c =
    sym (ap (λ (o : Transition). o.reply) (free_is c.args.self.now c.args.space.0 c.args.addr c.args.pages c.page_of-start.result.0 true c.requires.whole (some_pages c.args.pages c.requires.pages) c.page_of-start.ensures (stands c)))

pub returns-clause-memory : goal.returns-clause-memory
returns-clause-memory c =
    c.take_out.ensures.memory
    ∙ ap (λ (start : ℕ). unmapped (memory_of c.args.self.now) c.args.space.0 start c.args.pages) c.page_of-start.ensures
    ∙ sym (ap (λ (o : Transition). o.state) (free_is c.args.self.now c.args.space.0 c.args.addr c.args.pages c.page_of-start.result.0 true c.requires.whole (some_pages c.args.pages c.requires.pages) c.page_of-start.ensures (stands c)))
