-- The fields of an order that has no calls yet.
use Rattle.std.proofs.Common.{◌≡◌, ℕ, zero, suc, ◌+◌, ◌-◌, take, true, List, [], ◌++◌, length, replicate, refl, sym, ap, ◌∙◌, arith}
use Rattle.std.proofs.lemmas.List.{length-replicate}
use Rattle.std.proofs.lemmas.List.FromFn.{length-range_with_len}
use Rattle.index_lists.specs.NodeLists.{NodeLists, has, list_at, IsValid}
use Rattle.dep_order.specs.declared.row.WaitRow.{WaitRow}
use Rattle.dep_order.specs.WaitLists.{AreFit, row_at, no_row}
use Rattle.dep_order.specs.Fields.{IsSound}
use Rattle.index_lists.proofs.Free.{with_free, no_list}

same_row : (n p : ℕ) → row_at (replicate n no_row) p ≡ no_row
same_row zero p = refl
same_row (suc n) zero = refl
same_row (suc n) (suc p) = same_row n p

none_fit : AreFit no_row.pages
none_fit = record { from = omega arith; end = omega arith; few = omega arith }

module _ (rows : List WaitRow) (places waits : NodeLists) (n k m : ℕ) (er : rows ≡ replicate n no_row) (ep : places ≡ with_free 256 n) (vp : IsValid places)
    (ew : waits ≡ record { nodes = k; lists = replicate m [] }) (vw : IsValid waits) where
  none_held : (p : ℕ) → has (list_at places 0) p ≡ true → ⊥
  none_held p h = let none = sym (ap (λ v. has (list_at v 0) p) ep) ∙ h in cc

  pub made_sound : n ≡ 256 → k ≡ 5120 → m ≡ 1537 → IsSound rows places waits
  made_sound en ek em = record {
    row_count = ap (length {A = WaitRow}) er ∙ length-replicate {A = WaitRow} n no_row ∙ en;
    fit = λ p. let is = ap (λ rs. row_at rs p) er ∙ same_row n p in rw is none_fit;
    place_count = ap (λ v. v.nodes) ep;
    two_lists = ap (λ v. length v.lists) ep;
    places_valid = vp;
    all_listed = ap (λ v. length (list_at v 0) + length (list_at v 1)) ep ∙ omega (arith, length-range_with_len 0 n);
    rising = rw ep tt;
    node_count = ap (λ v. v.nodes) ew ∙ ek;
    list_count = ap (λ v. length v.lists) ew ∙ length-replicate {A = List ℕ} m [] ∙ em;
    waits_valid = vw;
    stands = λ p h. absurd (none_held p h);
    used = λ l p h. absurd (let none = sym (ap (λ v. has (list_at v l) p) ew ∙ ap (λ xs. has xs p) (no_list m l)) ∙ h in cc);
    in_order = λ l. let none = ap (λ v. list_at v l) ew ∙ no_list m l in rw none tt;
  }

-- the rows of a vector that was empty, and was filled up
pub filled_up : (n len : ℕ) (old new : List WaitRow) → old ≡ [] → len ≡ 0 → new ≡ take n old ++ replicate (n - len) no_row → new ≡ replicate n no_row
filled_up n len old new e l is = is ∙ ap (λ rs. take n rs ++ replicate (n - len) no_row) e ∙ nothing n (replicate (n - len) no_row) ∙ ap (λ k. replicate k no_row) (omega arith)
  where
    nothing : (n : ℕ) (rs : List WaitRow) → take n (let none : List WaitRow = [] in none) ++ rs ≡ rs
    nothing zero rs = refl
    nothing (suc n) rs = refl
