-- Entries in order, those that pass a test of their keys and the others.
use Rattle.std.proofs.Common.{◌≡◌, ℕ, ◌+◌, Bool, true, false, not, cond, ◌||◌, inl, inr, List, [], ◌∷◌, ◌++◌, length, Option, Some, None, refl, sym, ap, ◌∙◌, arith}
use Rattle.std.specs.List.{list_any, count_by, AllByRecursion}
use Rattle.std.specs.FinMap.Entries.{find, put, where_key, is_sorted, find-put, is_sorted-put, find-where_key, is_sorted-where_key, same_entries}
use Rattle.std.proofs.lemmas.Bool.{cases_Bool}
use Rattle.std.proofs.lemmas.List.Folds.{list_any-append}
use Rattle.std.proofs.lemmas.List.Sums.{sum_by-append, sum_by-cons}
use Rattle.cl_types.specs.Places.{Place, place_cmp}
use Rattle.cl_types.proofs.PlaceLemmas.{place_total, place_exact, same_place, split_place}
use Rattle.flat_model.specs.Rows.{keys}
use Rattle.flat_model.proofs.PutLemmas.{T_of, of_T}

-- the entries whose keys pass
abbrev pub where_place : {V : Type 0} → (Place → Bool) → List (Place × V) → List (Place × V)
where_place test es = where_key place_cmp test es

abbrev pub InOrder : {V : Type 0} → List (Place × V) → Type 0
InOrder es = is_sorted place_cmp es ≡ true

-- ---- what is found
pub find-where : {V : Type 0} (test : Place → Bool) (q : Place) (es : List (Place × V)) → find place_cmp q (where_place test es) ≡ cond (test q) (find place_cmp q es) None
find-where test q es = find-where_key place_cmp test q (λ x equal. ap test (sym (place_exact q x equal))) es

pub sorted-where : {V : Type 0} (test : Place → Bool) (es : List (Place × V)) → InOrder es → InOrder (where_place test es)
sorted-where test es sorted = of_T _ (is_sorted-where_key place_cmp test es (T_of _ sorted))

pub sorted-put : {V : Type 0} (k : Place) (v : V) (es : List (Place × V)) → InOrder es → InOrder (put place_cmp k v es)
sorted-put k v es sorted = of_T _ (is_sorted-put place_cmp place_total k v es (T_of _ sorted))

-- entries in order are one where they say the same of each place
pub same_map : {V : Type 0} (es fs : List (Place × V)) → InOrder es → InOrder fs → ((q : Place) → find place_cmp q es ≡ find place_cmp q fs) → es ≡ fs
same_map es fs left right same = same_entries place_cmp place_total place_exact es fs (T_of _ left) (T_of _ right) same

-- ---- an entry is put
-- where its key passes
pub where-put : {V : Type 0} (test : Place → Bool) (k : Place) (v : V) (es : List (Place × V)) → InOrder es → test k ≡ true
    → where_place test (put place_cmp k v es) ≡ put place_cmp k v (where_place test es)
where-put {V} test k v es sorted passes =
    same_map _ _ (sorted-where test (put place_cmp k v es) (sorted-put k v es sorted)) (sorted-put k v (where_place test es) (sorted-where test es sorted))
    (λ q. find-where test q (put place_cmp k v es) ∙ ap (λ (o : Option V). cond (test q) o None) (find-put place_cmp place_total q k v es) ∙ at q
    ∙ ap (cond (same_place q k) (Some v)) (sym (find-where test q es)) ∙ sym (find-put place_cmp place_total q k v (where_place test es)))
  where
    at : (q : Place) → cond (test q) (cond (same_place q k) (Some v) (find place_cmp q es)) None ≡ cond (same_place q k) (Some v) (cond (test q) (find place_cmp q es) None)
    at q = elim (split_place q k) [
      | inl one ↦ (let here : test q ≡ true = ap test one.0 ∙ passes in rw (one.1, here) refl)
      | inr two ↦ rw two.1 refl
    ]

-- where its key doesn't pass
pub where-put_other : {V : Type 0} (test : Place → Bool) (k : Place) (v : V) (es : List (Place × V)) → InOrder es → test k ≡ false
    → where_place test (put place_cmp k v es) ≡ where_place test es
where-put_other {V} test k v es sorted fails =
    same_map _ _ (sorted-where test (put place_cmp k v es) (sorted-put k v es sorted)) (sorted-where test es sorted)
    (λ q. find-where test q (put place_cmp k v es) ∙ ap (λ (o : Option V). cond (test q) o None) (find-put place_cmp place_total q k v es) ∙ at q
    ∙ sym (find-where test q es))
  where
    at : (q : Place) → cond (test q) (cond (same_place q k) (Some v) (find place_cmp q es)) None ≡ cond (test q) (find place_cmp q es) None
    at q = elim (split_place q k) [
      | inl one ↦ (let here : test q ≡ false = ap test one.0 ∙ fails in rw here refl)
      | inr two ↦ rw two.1 refl
    ]

-- ---- two tests
-- they may be asked in either order
pub where-twice : {V : Type 0} (p q : Place → Bool) (es : List (Place × V)) → where_place p (where_place q es) ≡ where_place q (where_place p es)
where-twice p q [] = refl
where-twice p q (e ∷ es) = elim (cases_Bool (p e.0)) [
  | inl a ↦ elim (cases_Bool (q e.0)) [
    | inl b ↦ rw (a, b, a) (ap (λ l. e ∷ l) (where-twice p q es))
    | inr b ↦ rw (a, b) (where-twice p q es)
  ]
  | inr a ↦ elim (cases_Bool (q e.0)) [
    | inl b ↦ rw (a, b, a) (where-twice p q es)
    | inr b ↦ rw (a, b) (where-twice p q es)
  ]
]

-- the second changes nothing where the first passes no more than it
pub where-within : {V : Type 0} (p q : Place → Bool) (es : List (Place × V)) → ((k : Place) → p k ≡ true → q k ≡ true) → where_place p (where_place q es) ≡ where_place p es
where-within p q [] within = refl
where-within p q (e ∷ es) within = elim (cases_Bool (p e.0)) [
  | inl a ↦ rw (within e.0 a, a) (ap (λ l. e ∷ l) (where-within p q es within))
  | inr a ↦ elim (cases_Bool (q e.0)) [
    | inl b ↦ rw (a, b, a) (where-within p q es within)
    | inr b ↦ rw (a, b) (where-within p q es within)
  ]
]

-- ---- those that pass, and the others
-- a test of keys passes as often
pub count-parts : {V : Type 0} (test p : Place → Bool) (es : List (Place × V))
    → count_by p (keys (where_place test es) ++ keys (where_place (λ k. not (test k)) es)) ≡ count_by p (keys es)
count-parts test p es =
    sum_by-append (λ k. cond (p k) 1 0) (keys (where_place test es)) (keys (where_place (λ k. not (test k)) es)) ∙ count-both test p es
  where
    count-both : {V : Type 0} (test p : Place → Bool) (es : List (Place × V))
        → count_by p (keys (where_place test es)) + count_by p (keys (where_place (λ k. not (test k)) es)) ≡ count_by p (keys es)
    count-both test p [] = refl
    count-both test p (e ∷ es) = elim (cases_Bool (test e.0)) [
      | inl a ↦ rw a (omega (arith, count-both test p es, sum_by-cons (λ k. cond (p k) 1 0) e.0 (keys (where_place test es)), sum_by-cons (λ k. cond (p k) 1 0) e.0 (keys es)))
      | inr a ↦ rw a (omega (arith, count-both test p es, sum_by-cons (λ k. cond (p k) 1 0) e.0 (keys (where_place (λ k. not (test k)) es)), sum_by-cons (λ k. cond (p k) 1 0) e.0 (keys es)))
    ]

-- a key is among either
pub any-parts : {V : Type 0} (test p : Place → Bool) (es : List (Place × V))
    → list_any p (keys (where_place test es) ++ keys (where_place (λ k. not (test k)) es)) ≡ list_any p (keys es)
any-parts test p es = list_any-append p (keys (where_place test es)) (keys (where_place (λ k. not (test k)) es)) ∙ any-both test p es
  where
    turned : (a b c : Bool) → (a || (b || c)) ≡ (b || (a || c))
    turned true true c = refl
    turned true false c = refl
    turned false b c = refl

    joined : (a b c : Bool) → ((a || b) || c) ≡ (a || (b || c))
    joined true b c = refl
    joined false b c = refl

    any-both : {V : Type 0} (test p : Place → Bool) (es : List (Place × V))
        → (list_any p (keys (where_place test es)) || list_any p (keys (where_place (λ k. not (test k)) es))) ≡ list_any p (keys es)
    any-both test p [] = refl
    any-both test p (e ∷ es) = elim (cases_Bool (test e.0)) [
      | inl a ↦ rw a (joined (p e.0) (list_any p (keys (where_place test es))) (list_any p (keys (where_place (λ k. not (test k)) es))) ∙ ap (λ b. p e.0 || b) (any-both test p es))
      | inr a ↦ rw a (turned (list_any p (keys (where_place test es))) (p e.0) (list_any p (keys (where_place (λ k. not (test k)) es))) ∙ ap (λ b. p e.0 || b) (any-both test p es))
    ]

-- where each entry that fails passes another test of its value, the entries that pass it are those among the first, and the others
pub count-backed : {V : Type 0} (test : Place → Bool) (p : V → Bool) (es : List (Place × V)) → AllByRecursion (λ e. test e.0 ≡ false → p e.1 ≡ true) es
    → count_by (λ e. p e.1) (where_place test es) + length (keys (where_place (λ k. not (test k)) es)) ≡ count_by (λ e. p e.1) es
count-backed test p [] backed = refl
count-backed test p (e ∷ es) backed = elim (cases_Bool (test e.0)) [
  | inl a ↦ rw a (omega (arith, count-backed test p es backed.1, sum_by-cons (λ x. cond (p x.1) 1 0) e (where_place test es), sum_by-cons (λ x. cond (p x.1) 1 0) e es))
  | inr a ↦ (let full : p e.1 ≡ true = backed.0 a in
      let one : ◌≡◌ {A = ℕ} (cond (p e.1) 1 0) 1 = ap (λ b. cond b 1 0) full in
      rw a (omega (arith, count-backed test p es backed.1, one, sum_by-cons (λ x. cond (p x.1) 1 0) e es)))
]
