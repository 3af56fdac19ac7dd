use Rattle.std.proofs.Common.{sym, refl, ◌∙◌}
use Rattle.retry_buffer.proofs.Looks.{passed-first, passed-after, rest_smaller, nothing_found, something_found, read_there}
use Rattle.retry_buffer.proofs.retry.Retry.look.Goals as goal

pub loop-at-init : goal.loop-at-init
loop-at-init c = rw c.first-at.ensures.first (passed-first _ _ _)

pub returns-then-is_of : goal.returns-then-is_of
returns-then-is_of c =
    let stands = rw c.in-Some.is at c.loop-at.invariant in
    let here = read_there c.self.invariant.chained c.chain_of-chain.result c.in-Some.place _ stands c.index-noted.ensures in
    rw (← c.self.view_is, something_found c.self.invariant _ c.in-Some.place _ here (sym c.is_of.ensures ∙ c.if-is_of.true)) refl

pub loop-at-smaller : goal.loop-at-smaller
loop-at-smaller c =
    let stands = rw c.in-Some.is at c.loop-at.invariant in
    rw (c.next-at.ensures.next c.chain_of-chain.result stands.within, c.in-Some.is) (rest_smaller c.in-Some.place stands (c.next-at.ensures.valid.distinct c.chain_of-chain.result))

pub loop-at-preserved : goal.loop-at-preserved
loop-at-preserved c =
    let stands = rw c.in-Some.is at c.loop-at.invariant in
    let here = read_there c.self.invariant.chained c.chain_of-chain.result c.in-Some.place _ stands c.index-noted.ensures in
    rw (c.next-at.ensures.next c.chain_of-chain.result stands.within)
    (passed-after c.in-Some.place _ stands (c.next-at.ensures.valid.distinct c.chain_of-chain.result) here (sym c.is_of.ensures ∙ c.if-is_of.false))

pub returns : goal.returns
returns c = rw (← c.self.view_is, nothing_found c.self.invariant _ c.chain_of-chain.result c.chain_of-chain.ensures.chain (rw c.in_default.is at c.loop-at.invariant)) refl
