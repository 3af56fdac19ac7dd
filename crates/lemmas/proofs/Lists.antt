-- Lemmas on lists.
use Rattle.std.proofs.Common.{◌≡◌, ℕ, zero, suc, ◌+◌, List, [], ◌∷◌, ◌++◌, refl, ap, ◌∙◌, subst, Some, None, Option, map, Bool, true, false, cond, arith, length, ◌<◌, ◌≤◌}
use Rattle.std.specs.Prelude.{filter_map, flat_map, find, filter, option_map, option_and_then, slice_get}
use Rattle.std.specs.List.{cons_option, enumerate_from, AllByRecursion as Each}

-- ---- each
pub each_append : {X : Type 0} (P : X → Type 0) (xs ys : List X) → Each P xs → Each P ys → Each P (xs ++ ys)
each_append P [] ys h k = k
each_append P (x ∷ xs) ys h k = (h.0, each_append P xs ys h.1 k)

pub each_weaker : {X : Type 0} (P Q : X → Type 0) → ((x : X) → P x → Q x) → (xs : List X) → Each P xs → Each Q xs
each_weaker P Q f [] h = tt
each_weaker P Q f (x ∷ xs) h = (f x h.0, each_weaker P Q f xs h.1)

pub each_weaker_with : {X : Type 0} (P Q R : X → Type 0) → ((x : X) → P x → Q x → R x) → (xs : List X) → Each P xs → Each Q xs → Each R xs
each_weaker_with P Q R f [] h k = tt
each_weaker_with P Q R f (x ∷ xs) h k = (f x h.0 k.0, each_weaker_with P Q R f xs h.1 k.1)

pub each_always : {X : Type 0} (P : X → Type 0) → ((x : X) → P x) → (xs : List X) → Each P xs
each_always P f [] = tt
each_always P f (x ∷ xs) = (f x, each_always P f xs)

pub each_map : {X Y : Type 0} (P : Y → Type 0) (f : X → Y) → (xs : List X) → Each (λ x. P (f x)) xs → Each P (map f xs)
each_map P f [] h = tt
each_map P f (x ∷ xs) h = (h.0, each_map P f xs h.1)

-- ---- options
pub option_map_some : {X Y : Type 0} (f : X → Y) (o : Option X) (y : Y) → option_map f o ≡ Some y → (x : X) × (o ≡ Some x) × (f x ≡ y)
option_map_some f None y e = grind arith
option_map_some f (Some x) y e = (x, refl, grind arith)

-- where a mapped option is there, what is to hold of it holds of what it was mapped from
pub case_of_map : {X Y : Type 0} (P : Y → Type 0) (f : X → Y) (o : Option X) → ((x : X) → o ≡ Some x → P (f x)) → (y : Y) → option_map f o ≡ Some y → P y
case_of_map P f None go y e = grind arith
case_of_map P f (Some x) go y e = let r : f x ≡ y = cc in subst P r (go x refl)

-- ---- find
found : {X : Type 0} (P : X → Type 0) (test : X → Bool) (y x : X) (xs : List X) (b : Bool) → test y ≡ b → P y → (find test xs ≡ Some x → P x × (test x ≡ true)) → cond b (Some y) (find test xs) ≡ Some x → P x × (test x ≡ true)
found P test y x xs true t p go e = let r : y ≡ x = cc in (rw r at p, rw r at t)
found P test y x xs false t p go e = go e

pub find_some : {X : Type 0} (P : X → Type 0) (test : X → Bool) (xs : List X) (x : X) → Each P xs → find test xs ≡ Some x → P x × (test x ≡ true)
find_some P test [] x h e = grind arith
find_some P test (y ∷ ys) x h e = found P test y x ys (test y) refl h.0 (λ q. find_some P test ys x h.1 q) e

-- ---- filter_map
cons_each : {Y : Type 0} (P : Y → Type 0) (o : Option Y) (ys : List Y) → ((y : Y) → o ≡ Some y → P y) → Each P ys → Each P (cons_option o ys)
cons_each P None ys g h = h
cons_each P (Some y) ys g h = (g y refl, h)

pub each_filter_map : {X Y : Type 0} (P : Y → Type 0) (f : X → Option Y) → ((x : X) (y : Y) → f x ≡ Some y → P y) → (xs : List X) → Each P (filter_map f xs)
each_filter_map P f g [] = tt
each_filter_map P f g (x ∷ xs) = cons_each P (f x) (filter_map f xs) (g x) (each_filter_map P f g xs)

-- ---- slices
pub each_slice_get : {X : Type 0} (P : X → Type 0) (xs : List X) (i : ℕ) (x : X) → Each P xs → slice_get xs i ≡ Some x → P x
each_slice_get P [] i x h e = grind arith
each_slice_get P (y ∷ xs) zero x h e = let r : y ≡ x = cc in rw r at h.0
each_slice_get P (y ∷ xs) (suc i) x h e = each_slice_get P xs i x h.1 e

pub each_filter : {X : Type 0} (P : X → Type 0) (test : X → Bool) → ((x : X) → test x ≡ true → P x) → (xs : List X) → Each P (filter test xs)
each_filter P test f [] = tt
each_filter {X} P test f (x ∷ xs) = go (test x) (f x) (each_filter P test f xs)
  where
    go : (b : Bool) → (b ≡ true → P x) → Each P (filter test xs) → Each P (cond b (x ∷ filter test xs) (filter test xs))
    go true h k = (h refl, k)
    go false h k = k

pub each_filter_from : {X : Type 0} (P : X → Type 0) (test : X → Bool) → (xs : List X) → Each P xs → Each P (filter test xs)
each_filter_from P test [] h = tt
each_filter_from {X} P test (x ∷ xs) h = go (test x) (each_filter_from P test xs h.1)
  where
    go : (b : Bool) → Each P (filter test xs) → Each P (cond b (x ∷ filter test xs) (filter test xs))
    go true k = (h.0, k)
    go false k = k

pub each_filter_map_from : {X Y : Type 0} (P : Y → Type 0) (Q : X → Type 0) (f : X → Option Y) → ((x : X) (y : Y) → Q x → f x ≡ Some y → P y) → (xs : List X) → Each Q xs → Each P (filter_map f xs)
each_filter_map_from P Q f g [] h = tt
each_filter_map_from P Q f g (x ∷ xs) h = cons_each P (f x) (filter_map f xs) (λ y. g x y h.0) (each_filter_map_from P Q f g xs h.1)

pub each_enumerate : {X : Type 0} (P : X → Type 0) → (n : ℕ) (xs : List X) → Each P xs → Each (λ (q : ℕ × X). P q.1) (enumerate_from n xs)
each_enumerate P n [] h = tt
each_enumerate P n (x ∷ xs) h = (h.0, each_enumerate P (n + 1) xs h.1)

pub each_flat_map : {X Y : Type 0} (P : Y → Type 0) (Q : X → Type 0) (f : X → List Y) → ((x : X) → Q x → Each P (f x)) → (xs : List X) → Each Q xs → Each P (flat_map f xs)
each_flat_map P Q f g [] h = tt
each_flat_map P Q f g (x ∷ xs) h = each_append P (f x) (flat_map f xs) (g x h.0) (each_flat_map P Q f g xs h.1)

pub slice_get-append : {X : Type 0} (xs ys : List X) (i : ℕ) (x : X) → slice_get xs i ≡ Some x → slice_get (xs ++ ys) i ≡ Some x
slice_get-append [] ys i x e = grind arith
slice_get-append (y ∷ xs) ys zero x e = e
slice_get-append (y ∷ xs) ys (suc i) x e = slice_get-append xs ys i x e

pub and_then_some : {X Y : Type 0} (f : X → Option Y) (o : Option X) (y : Y) → option_and_then f o ≡ Some y → (x : X) × (o ≡ Some x) × (f x ≡ Some y)
and_then_some f None y e = grind arith
and_then_some f (Some x) y e = (x, refl, e)

-- nothing is read where no element tells anything
pub none_read : {X Y : Type 0} (f : X → Option Y) (xs : List X) → Each (λ (x : X). f x ≡ None) xs → filter_map f xs ≡ []
none_read f [] none = refl
none_read f (x ∷ xs) none = ap (λ o. cons_option o (filter_map f xs)) none.0 ∙ none_read f xs none.1

-- no option is both
pub none_some : {X : Type 0} (x : X) → ◌≡◌ {A = Option X} None (Some x) → ⊥
none_some x e = grind arith

-- ---- places
pub slice_get_within : {X : Type 0} (xs : List X) (i : ℕ) (x : X) → slice_get xs i ≡ Some x → i < length xs
slice_get_within [] i x e = grind arith
slice_get_within (y ∷ xs) zero x e = omega arith
slice_get_within (y ∷ xs) (suc i) x e = let n : i < length xs = slice_get_within xs i x e in omega arith

pub slice_get_there : {X : Type 0} (xs : List X) (i : ℕ) → i < length xs → (x : X) × (slice_get xs i ≡ Some x)
slice_get_there [] i h = absurd (omega arith)
slice_get_there (y ∷ xs) zero h = (y, refl)
slice_get_there (y ∷ xs) (suc i) h = slice_get_there xs i (omega arith)

pub earlier_there : {X : Type 0} (xs : List X) (i n : ℕ) (y : X) → i ≤ n → slice_get xs n ≡ Some y → (x : X) × (slice_get xs i ≡ Some x)
earlier_there xs i n y low e = slice_get_there xs i (let w : n < length xs = slice_get_within xs n y e in omega arith)
