-- Two lists, of which the first has no number and the second those below k: places that are free, put in one by one.
use Rattle.std.proofs.Common.{◌≡◌, ℕ, zero, suc, ◌+◌, List, [], ◌∷◌, ◌++◌, replicate, refl, sym, ap, ◌∙◌, arith, get_or}
use Rattle.std.specs.List.{range_with_len}
use Rattle.std.proofs.lemmas.Bool.{false_from_ne_true}
use Rattle.index_lists.specs.NodeLists.{NodeLists, list_at, IsFree, with_list}
use Rattle.index_lists.proofs.Changes.{range_more}
use Rattle.index_lists.proofs.Members.{has-range}

-- list 0 empty, and the places below k in list 1
abbrev pub with_free : ℕ → ℕ → NodeLists
with_free nodes k = record { nodes = nodes; lists = [] ∷ range_with_len 0 k ∷ [] }

pub next_free : (nodes k : ℕ) → IsFree (with_free nodes k) k
next_free nodes k zero = refl
next_free nodes k (suc zero) = false_from_ne_true _ (λ h. let within = has-range 0 k k h in omega (arith, within.1))
next_free nodes k (suc (suc l)) = refl

-- one place more
pub free_more : (nodes : ℕ) (places : NodeLists) (k : ℕ) (new : NodeLists) → places ≡ with_free nodes k → new ≡ with_list places 1 (list_at places 1 ++ k ∷ []) → new ≡ with_free nodes (k + 1)
free_more nodes places k new e is = is ∙ ap (λ v. with_list v 1 (list_at v 1 ++ k ∷ [])) e ∙ ap (λ (xs : List ℕ). record { nodes = nodes; lists = [] ∷ xs ∷ [] }) (sym (range_more k))

-- each of n empty lists is empty
pub no_list : (n l : ℕ) → get_or (replicate n (let none : List ℕ = [] in none)) l [] ≡ []
no_list zero l = refl
no_list (suc n) zero = refl
no_list (suc n) (suc l) = no_list n l
