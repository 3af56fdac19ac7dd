-- The latest records tell of what is young enough what all records tell.
use Rattle.std.proofs.Common.{◌≡◌, ℕ, zero, suc, ◌+◌, ◌-◌, ◌<◌, ◌≤◌, List, [], ◌∷◌, refl, sym, ap, ◌∙◌, subst, Bool, true, false, cond, arith, Some, None, Option, length, length-append, drop, ◌++◌, ◌⊎◌, inl, inr, ⊎_elim}
use Rattle.std.specs.Prelude.{find, slice_get, leb, nat_lt}
use Rattle.std.proofs.lemmas.Bool.Decides.{nat_tests}
use Rattle.std.proofs.lemmas.List.{length-drop, drop-append-le, drop-drop}
use Rattle.std.specs.List.{AllByRecursion as Each}
use Rattle.cl_types.specs.declared.limits.TheConstants.{SPAN}
use Rattle.cl_types.specs.Times.{is_young}
use Rattle.node_model.specs.Handling.{latest, oldest_of}
use Rattle.lemmas.proofs.Lists.{each_slice_get, slice_get_within, slice_get_there}

module _ {X : Type 0} (moment : X → ℕ) (R : ℕ) where
  -- a record stands at least the span after the one that is so many places before it
  abbrev pub Spaced : List X → Type 0
  Spaced xs = (k : ℕ) (x y : X) → slice_get xs k ≡ Some x → slice_get xs (k + R) ≡ Some y → moment x + SPAN ≤ moment y

  spaced_rest : (x : X) (xs : List X) → Spaced (x ∷ xs) → Spaced xs
  spaced_rest x xs s k y z e f = s (suc k) y z e (subst (λ n. slice_get (x ∷ xs) n ≡ Some z) (let z : suc (k + R) ≡ suc k + R = omega arith in z) f)

  -- what is found among all, made less than the span ago, is found among the latest
  pub window : (test : X → Bool) (t : ℕ) (xs : List X) (x : X) → Spaced xs → Each (λ (x : X). moment x ≤ t) xs → find test xs ≡ Some x → t < moment x + SPAN → find test (latest R xs) ≡ Some x
  window test t [] x s low e h = grind arith
  window test t (y ∷ xs) x s low e h = ⊎_elim
      (λ (few : length (y ∷ xs) ≤ R). subst (λ n. find test (drop n (y ∷ xs)) ≡ Some x) (let z : 0 ≡ length (y ∷ xs) - R = omega arith in z) e)
      (λ (many : R < length (y ∷ xs)).
      subst (λ n. find test (drop n (y ∷ xs)) ≡ Some x) (let z : suc (length xs - R) ≡ length (y ∷ xs) - R = omega arith in z)
      (go (test y) e many (window test t xs x (spaced_rest y xs s) low.1)))
      (let c : (length (y ∷ xs) ≤ R) ⊎ (R < length (y ∷ xs)) = grind arith in c)
    where
      go : (b : Bool) → cond b (Some y) (find test xs) ≡ Some x → R < length (y ∷ xs) → (find test xs ≡ Some x → t < moment x + SPAN → find test (drop (length xs - R) xs) ≡ Some x) → find test (drop (length xs - R) xs) ≡ Some x
      go true e many rec =
          let same : y ≡ x = cc in
          let z = slice_get_there (y ∷ xs) R many in
          let far : moment y + SPAN ≤ moment z.0 = s 0 y z.0 refl (subst (λ n. slice_get (y ∷ xs) n ≡ Some z.0) (let w : R ≡ 0 + R = omega arith in w) z.1) in
          let old : moment z.0 ≤ t = each_slice_get (λ (x : X). moment x ≤ t) (y ∷ xs) R z.0 low z.1 in
          let now : t < moment y + SPAN = subst (λ w. t < moment w + SPAN) (sym same) h in
          absurd (omega arith)
      go false e many rec = rec e h

  none_later : (test : X → Bool) (xs : List X) (n : ℕ) → find test xs ≡ None → find test (drop n xs) ≡ None
  none_later test xs zero e = e
  none_later test [] (suc n) e = refl
  none_later test (y ∷ xs) (suc n) e = go (test y) e (none_later test xs n)
    where
      go : (b : Bool) → ◌≡◌ {A = Option X} (cond b (Some y) (find test xs)) None → (find test xs ≡ None → find test (drop n xs) ≡ None) → find test (drop n xs) ≡ None
      go true e rec = grind arith
      go false e rec = rec e

  pub window_none : (test : X → Bool) (xs : List X) → find test xs ≡ None → find test (latest R xs) ≡ None
  window_none test xs e = none_later test xs (length xs - R) e

-- ---- the oldest
-- the oldest of the latest, so many, stands so many places before the end
pub oldest_at : {X : Type 0} (R : ℕ) (xs : List X) → 1 ≤ R → R ≤ length xs → oldest_of R xs ≡ slice_get xs (length xs - R)
oldest_at zero xs some many = absurd (omega arith)
oldest_at {X} (suc n) xs some many = go (leb (suc n) (length xs)) (grind (arith, nat_tests)) where
  go : (b : Bool) → b ≡ true → ◌≡◌ {A = Option X} (cond b (slice_get xs (length xs - suc n)) None) (slice_get xs (length xs - suc n))
  go true e = refl
  go false e = grind arith

oldest_none : {X : Type 0} (R : ℕ) (xs : List X) → length xs < R → ◌≡◌ {A = Option X} (oldest_of R xs) None
oldest_none zero xs few = refl
oldest_none {X} (suc n) xs few = go (leb (suc n) (length xs)) (grind (arith, nat_tests)) where
  go : (b : Bool) → b ≡ false → ◌≡◌ {A = Option X} (cond b (slice_get xs (length xs - suc n)) None) None
  go true e = grind arith
  go false e = refl

slice_get-drop : {X : Type 0} (n : ℕ) (xs : List X) (i : ℕ) → slice_get (drop n xs) i ≡ slice_get xs (n + i)
slice_get-drop zero xs i = ap (slice_get xs) (let z : i ≡ 0 + i = omega arith in z)
slice_get-drop (suc n) [] i = refl
slice_get-drop (suc n) (x ∷ xs) i = slice_get-drop n xs i ∙ ap (slice_get (x ∷ xs)) (let z : suc (n + i) ≡ suc n + i = omega arith in z)

-- it is the same in a list and in its latest
pub oldest_latest : {X : Type 0} (R : ℕ) (xs : List X) → 1 ≤ R → oldest_of R (latest R xs) ≡ oldest_of R xs
oldest_latest {X} R xs some = ⊎_elim
    (λ (few : length xs < R). ap (oldest_of R) (ap (λ n. drop n xs) (let z : length xs - R ≡ 0 = omega arith in z)))
    (λ (many : R ≤ length xs).
    let len : length (drop (length xs - R) xs) ≡ length xs - (length xs - R) = length-drop (length xs - R) xs in
    let all : length (drop (length xs - R) xs) ≡ R = omega arith in
    oldest_at R (drop (length xs - R) xs) some (omega arith)
    ∙ slice_get-drop (length xs - R) xs (length (drop (length xs - R) xs) - R)
    ∙ ap (slice_get xs) (let z : length xs - R + (length (drop (length xs - R) xs) - R) ≡ length xs - R = omega arith in z)
    ∙ sym (oldest_at R xs some many))
    (let c : (length xs < R) ⊎ (R ≤ length xs) = grind arith in c)

-- ---- one more at the end
last_of_more : {X : Type 0} (xs : List X) (y z : X) (n : ℕ) → slice_get (xs ++ y ∷ []) n ≡ Some z → (slice_get xs n ≡ Some z) ⊎ ((n ≡ length xs) × (y ≡ z))
last_of_more [] y z zero e = inr (refl, cc)
last_of_more [] y z (suc n) e = grind arith
last_of_more (x ∷ xs) y z zero e = inl e
last_of_more (x ∷ xs) y z (suc n) e =
    ⊎_elim (λ (h : slice_get xs n ≡ Some z). inl h) (λ (h : (n ≡ length xs) × (y ≡ z)). let m : n ≡ length xs = h.0 in inr (omega arith, h.1)) (last_of_more xs y z n e)

module _ {X : Type 0} (moment : X → ℕ) (R : ℕ) where
  -- the oldest of the latest, so many, isn't young
  abbrev pub IsOld : ℕ → List X → Type 0
  IsOld t xs = (x : X) → oldest_of R xs ≡ Some x → is_young t (moment x) ≡ false

  old_enough : (t : ℕ) (xs : List X) (k : ℕ) (x : X) → 1 ≤ R → IsOld t xs → slice_get xs k ≡ Some x → k + R ≡ length xs → moment x + SPAN ≤ t
  old_enough t xs k x some old at_place far =
      let place : slice_get xs (length xs - R) ≡ Some x = subst (λ n. slice_get xs n ≡ Some x) (let z : k ≡ length xs - R = omega arith in z) at_place in
      late (old x (oldest_at R xs some (omega arith) ∙ place))
    where
      late : nat_lt (t - moment x) SPAN ≡ false → moment x + SPAN ≤ t
      late h = grind (arith, nat_tests)

  -- so one more at the end stands far enough behind
  pub spaced_more : (xs : List X) (n : X) → 1 ≤ R → IsOld (moment n) xs → Spaced moment R xs → Spaced moment R (xs ++ n ∷ [])
  spaced_more xs n some old s k x y at_place far = ⊎_elim
      (λ (h : slice_get xs (k + R) ≡ Some y). ⊎_elim
      (λ (i : slice_get xs k ≡ Some x). s k x y i h)
      (λ (i : (k ≡ length xs) × (n ≡ x)). let w : k + R < length xs = slice_get_within xs (k + R) y h in let j : k ≡ length xs = i.0 in absurd (omega arith))
      (last_of_more xs n x k at_place))
      (λ (h : (k + R ≡ length xs) × (n ≡ y)). ⊎_elim
      (λ (i : slice_get xs k ≡ Some x). subst (λ (z : X). moment x + SPAN ≤ moment z) h.1 (old_enough (moment n) xs k x some old i h.0))
      (λ (i : (k ≡ length xs) × (n ≡ x)). let j : k ≡ length xs = i.0 in let m : k + R ≡ length xs = h.0 in absurd (omega arith))
      (last_of_more xs n x k at_place))
      (last_of_more xs n y (k + R) far)

-- the latest of the latest and one more are the latest of all
pub latest_more : {X : Type 0} (R : ℕ) (xs : List X) (y : X) → latest R (latest R xs ++ y ∷ []) ≡ latest R (xs ++ y ∷ [])
latest_more {X} R xs y = ⊎_elim
    (λ (few : length xs ≤ R). ap (λ zs. latest R (zs ++ y ∷ [])) (ap (λ n. drop n xs) (let z : length xs - R ≡ 0 = omega arith in z)))
    (λ (many : R < length xs).
    let len : length (drop (length xs - R) xs) ≡ length xs - (length xs - R) = length-drop (length xs - R) xs in
    let more : length (drop (length xs - R) xs ++ y ∷ []) ≡ length (drop (length xs - R) xs) + 1 = length-append (drop (length xs - R) xs) (y ∷ []) in
    let all : length (xs ++ y ∷ []) ≡ length xs + 1 = length-append xs (y ∷ []) in
    ap (λ n. drop n (drop (length xs - R) xs ++ y ∷ [])) (let z : length (drop (length xs - R) xs ++ y ∷ []) - R ≡ 1 = omega arith in z)
    ∙ ap (drop 1) (sym (drop-append-le (length xs - R) xs (y ∷ []) (omega arith)))
    ∙ drop-drop 1 (length xs - R) (xs ++ y ∷ [])
    ∙ ap (λ n. drop n (xs ++ y ∷ [])) (let z : length xs - R + 1 ≡ length (xs ++ y ∷ []) - R = omega arith in z))
    (let c : (length xs ≤ R) ⊎ (R < length xs) = grind arith in c)
