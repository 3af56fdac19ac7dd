use Rattle.std.proofs.Common.{◌≡◌, ℕ, zero, suc, ◌-◌, List, [], ◌++◌, take, replicate, Option, None, refl, ◌∙◌, arith}
use Rattle.index_lists.proofs.Changes.{create_done}
use Rattle.index_lists.proofs.lists.Lists.create.Goals as goal

-- what `resize` leaves of an empty vector
resized : (n m : ℕ) (xs : List (Option ℕ)) → xs ≡ [] → m ≡ 0 → take n xs ++ replicate (n - m) None ≡ replicate n None
resized zero m xs e z = rw z refl
resized (suc n) m xs e z = let same : suc n - m ≡ suc n = omega arith in rw (e, same) refl

pub invariant_of-result : goal.invariant_of-result
invariant_of-result c = (create_done c.in_ok-links.ensures.next c.in_ok-links.ensures.prev (c.in_ok-resize.ensures.items ∙ resized _ _ _ c.new-owner.ensures.items c.new-owner.ensures.len)).sound

pub returns : goal.returns
returns c =
    let done = create_done c.in_ok-links.ensures.next c.in_ok-links.ensures.prev (c.in_ok-resize.ensures.items ∙ resized _ _ _ c.new-owner.ensures.items c.new-owner.ensures.len) in
    record { empty = done.seen; valid = done.valid }
