use Rattle.std.proofs.Common.{◌∙◌, Some, sym, ap, subst, arith, IsTrue, ℕ, length}
use Rattle.cl_types.specs.Ranges.{is_page_count}
use Rattle.flat_model.specs.State.{FlatState}
use Rattle.data_path.specs.Exiting.{exited}
use Rattle.data_path.specs.Store.{memory_of}
use Rattle.data_path.proofs.Exited.{exited-unmapped, first_stands, none_first, none_left, one_fewer}
use Rattle.data_path.proofs.store.PageStore.exit_space.Goals as goal

pub take_out-requires-clause-pages : goal.take_out-requires-clause-pages
take_out-requires-clause-pages c =
    let first = first_stands c.loop-first.self c.loop-first.invariant.whole c.args.space.0 c.requires.process c.in-Some.first.0 c.in-Some.ensures in
    subst (λ (n : ℕ). IsTrue (is_page_count n)) (sym c.span-pages.ensures.span) first.count

pub loop-first-preserved : goal.loop-first-preserved
loop-first-preserved c = record {
  memory = ap (λ (m : FlatState). exited m c.args.space.0) c.take_out.ensures.memory ∙ exited-unmapped (memory_of c.loop-first.self) c.args.space.0 c.in-Some.first.0 c.span-pages.result ∙ c.loop-first.invariant.memory;
  whole = c.take_out.ensures.whole;
  ready = c.take_out.ensures.ready;
  spaces = c.take_out.ensures.spaces ∙ c.loop-first.invariant.spaces;
}

pub loop-first-smaller : goal.loop-first-smaller
loop-first-smaller c =
    let first = first_stands c.loop-first.self c.loop-first.invariant.whole c.args.space.0 c.requires.process c.in-Some.first.0 c.in-Some.ensures in
    let fewer = one_fewer c.loop-first.self c.loop-first.invariant.whole c.args.space.0 c.requires.process c.in-Some.first.0 c.span-pages.result (first.listed ∙ ap (λ (n : ℕ). Some n) (sym c.span-pages.ensures.span)) in
    let is = ap (λ (m : FlatState). length m.ranges) c.take_out.ensures.memory in
    omega (arith, fewer, is)

pub returns-clause-memory : goal.returns-clause-memory
returns-clause-memory c =
    sym (none_left c.loop-first.self c.loop-first.invariant.whole c.args.space.0 c.requires.process (none_first _ c.in_default.ensures)) ∙ c.loop-first.invariant.memory
