-- The lists of objects and versions that the links give.
use Rattle.std.proofs.Common.{◌≡◌, ◌≢◌, ℕ, zero, suc, ◌+◌, ◌<◌, ◌≤◌, List, [], ◌∷◌, ◌++◌, length, Some, inl, inr, refl, sym, ap, ◌∙◌, arith, length-append, slice_get, slice_set}
use Rattle.std.proofs.lemmas.Bool.{cases_lt}
use Rattle.std.proofs.lemmas.List.{set-append_left}
use Rattle.std.proofs.lemmas.List.Sums.{sum_by_push}
use Rattle.std.proofs.Math.Seq.{set-append_seam}
use Rattle.lemmas.proofs.Lists.{slice_get-append}
use Rattle.mv_offload.specs.Versions.{version_count}
use Rattle.mv_offload.specs.Stored.{list_of, versions_to}

-- the first item of a list that is appended
pub slice_get_seam : {A : Type 0} (xs : List A) (y : A) (ys : List A) → slice_get (xs ++ y ∷ ys) (length xs) ≡ Some y
slice_get_seam [] y ys = refl
slice_get_seam (x ∷ xs) y ys = slice_get_seam xs y ys

-- ---- the values of a function below a number
module _ {A : Type 0} where
  -- there are as many as the number says
  pub length-list_of : (n : ℕ) (f : ℕ → A) → length (list_of n f) ≡ n
  length-list_of zero f = refl
  length-list_of (suc n) f = length-append (list_of n f) (f n ∷ []) ∙ (let h = length-list_of n f in omega arith)

  -- the value at a place below the number
  pub get-list_of : (n : ℕ) (f : ℕ → A) (i : ℕ) → i < n → slice_get (list_of n f) i ≡ Some (f i)
  get-list_of zero f i less = absurd (omega arith)
  get-list_of (suc n) f i less =
      let long = length-list_of n f in
      elim (cases_lt i n) [
        | inl below ↦ slice_get-append (list_of n f) (f n ∷ []) i (f i) (get-list_of n f i below)
        | inr above ↦
            let e : i ≡ length (list_of n f) = omega arith in
            let e' : n ≡ i = omega arith in
            ap (slice_get (list_of n f ++ f n ∷ [])) e ∙ slice_get_seam (list_of n f) (f n) [] ∙ ap (λ m. Some (f m)) e'
      ]

  -- equal functions have equal values
  pub list_of-same : (n : ℕ) (f g : ℕ → A) → ((i : ℕ) → i < n → f i ≡ g i) → list_of n f ≡ list_of n g
  list_of-same zero f g same = refl
  list_of-same (suc n) f g same =
      ap (λ xs. xs ++ f n ∷ []) (list_of-same n f g (λ i less. same i (omega arith)))
      ∙ ap (λ x. list_of n g ++ x ∷ []) (same n (omega arith))

  -- one value more
  pub list_of-more : (n : ℕ) (f : ℕ → A) → list_of (n + 1) f ≡ list_of n f ++ f n ∷ []
  list_of-more n f = let e : n + 1 ≡ suc n = omega arith in ap (λ m. list_of m f) e

  -- another value at one number
  pub list_of-set : (n : ℕ) (f g : ℕ → A) (i : ℕ) → i < n → ((j : ℕ) → j < n → j ≢ i → g j ≡ f j) → list_of n g ≡ slice_set (list_of n f) i (g i)
  list_of-set zero f g i less others = absurd (omega arith)
  list_of-set (suc n) f g i less others =
      let long = length-list_of n f in
      elim (cases_lt i n) [
        | inl below ↦
            ap (λ xs. xs ++ g n ∷ []) (list_of-set n f g i below (λ j lt ne. others j (omega arith) ne))
            ∙ ap (λ x. slice_set (list_of n f) i (g i) ++ x ∷ []) (others n (omega arith) (λ e. omega (arith, e)))
            ∙ sym (set-append_left (list_of n f) (f n ∷ []) i (g i) (omega arith))
        | inr above ↦
            let e : length (list_of n f) ≡ i = omega arith in
            let e' : n ≡ i = omega arith in
            ap (λ xs. xs ++ g n ∷ []) (list_of-same n g f (λ j lt. others j (omega arith) (λ z. omega (arith, z))))
            ∙ ap (λ m. list_of n f ++ g m ∷ []) e'
            ∙ sym (set-append_seam (list_of n f) (f n) [] (g i))
            ∙ ap (λ m. slice_set (list_of n f ++ f n ∷ []) m (g i)) e
      ]

-- one list longer by one, and all others as long: one more over all
pub count-list_of : (n : ℕ) (f g : ℕ → List (List ℕ)) (i : ℕ) → i < n → length (g i) ≡ length (f i) + 1 → ((j : ℕ) → j < n → j ≢ i → g j ≡ f j)
    → version_count (list_of n g) ≡ version_count (list_of n f) + 1
count-list_of zero f g i less longer others = absurd (omega arith)
count-list_of (suc n) f g i less longer others =
    let new = sum_by_push (λ (versions : List (List ℕ)). length versions) (list_of n g) (g n) in
    let old = sum_by_push (λ (versions : List (List ℕ)). length versions) (list_of n f) (f n) in
    elim (cases_lt i n) [
      | inl below ↦
          let same = ap length (others n (omega arith) (λ e. omega (arith, e))) in
          let rest = count-list_of n f g i below longer (λ j lt ne. others j (omega arith) ne) in
          omega (arith, new, old, same, rest)
      | inr above ↦
          let e : i ≡ n = omega arith in
          let one : length (g n) ≡ length (f n) + 1 = ap (λ m. length (g m)) (sym e) ∙ longer ∙ ap (λ m. length (f m) + 1) e in
          let rest = ap version_count (list_of-same n g f (λ j lt. others j (omega arith) (λ z. omega (arith, z)))) in
          omega (arith, new, old, one, rest)
    ]

-- an object has at most as many versions as there are over all
pub few-list_of : (n : ℕ) (f : ℕ → List (List ℕ)) (i : ℕ) → i < n → length (f i) ≤ version_count (list_of n f)
few-list_of zero f i less = absurd (omega arith)
few-list_of (suc n) f i less =
    let all = sum_by_push (λ (versions : List (List ℕ)). length versions) (list_of n f) (f n) in
    elim (cases_lt i n) [
      | inl below ↦ let h = few-list_of n f i below in omega (arith, all, h)
      | inr above ↦ let e : i ≡ n = omega arith in let h = ap (λ m. length (f m)) e in omega (arith, all, h)
    ]

-- ---- the versions along the links
-- links that lead down give the same versions if they and the records are the same, however many are followed
pub same_versions : (link link' : ℕ → ℕ) (bytes bytes' : ℕ → List ℕ) (count : ℕ) → ((slot : ℕ) → slot < count → link slot ≤ slot)
    → ((slot : ℕ) → slot < count → link' slot ≡ link slot) → ((slot : ℕ) → slot < count → bytes' slot ≡ bytes slot)
    → (fuel fuel' node : ℕ) → node ≤ count → node ≤ fuel → node ≤ fuel' → versions_to link' bytes' fuel' node ≡ versions_to link bytes fuel node
same_versions link link' bytes bytes' count down links texts fuel fuel' zero low enough enough' = refl
same_versions link link' bytes bytes' count down links texts zero fuel' (suc slot) low enough enough' = absurd (omega arith)
same_versions link link' bytes bytes' count down links texts (suc fuel) zero (suc slot) low enough enough' = absurd (omega arith)
same_versions link link' bytes bytes' count down links texts (suc fuel) (suc fuel') (suc slot) low enough enough' =
    let lower = down slot (omega arith) in
    ap (λ node. versions_to link' bytes' fuel' node ++ bytes' slot ∷ []) (links slot (omega arith))
    ∙ ap (λ text. versions_to link' bytes' fuel' (link slot) ++ text ∷ []) (texts slot (omega arith))
    ∙ ap (λ versions. versions ++ bytes slot ∷ []) (same_versions link link' bytes bytes' count down links texts fuel fuel' (link slot) (omega arith) (omega arith) (omega arith))
