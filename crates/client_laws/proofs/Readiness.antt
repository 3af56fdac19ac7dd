-- What is ready by the calls that have not ended is what is ready by all that were issued.
use Rattle.std.proofs.Common.{◌≡◌, ℕ, zero, suc, ◌+◌, ◌-◌, ◌<◌, ◌≤◌, List, [], ◌∷◌, refl, sym, ◌∙◌, subst, Some, Bool, true, false, arith, take, drop}
use Rattle.std.specs.Prelude.{◌||◌, slice_get, nat_lt}
use Rattle.std.proofs.lemmas.Bool.Decides.{nat_tests}
use Rattle.std.specs.List.{list_any, slice_range}
use Rattle.cl_types.specs.declared.call.Call.{Call}
use Rattle.client_model.specs.Order.{conflict, both_conflict, is_fence, footprint, collide, waits_for}
use Rattle.client_laws.specs.Readiness.{WaitsForNone, FencesLast, DependsOnNone, ReadyLaw}
use Rattle.lemmas.proofs.Lists.{earlier_there}

-- none of a range passes the test
none_of : {X : Type 0} (test : X → Bool) (xs : List X) (i many : ℕ) → ((f : ℕ) (x : X) → slice_get xs f ≡ Some x → i ≤ f → f < i + many → test x ≡ false) → list_any test (take many (drop i xs)) ≡ false
none_of test xs i zero h = refl
none_of test [] zero (suc many) h = refl
none_of test [] (suc i) (suc many) h = refl
none_of test (x ∷ xs) zero (suc many) h = both (test x) (list_any test (take many xs)) (h zero x refl (omega arith) (omega arith)) (none_of test xs zero many (λ f y e l m. h (suc f) y e (omega arith) (omega arith)))
  where
    both : (a b : Bool) → a ≡ false → b ≡ false → (a || b) ≡ false
    both true b e f = grind arith
    both false b e f = f
none_of test (x ∷ xs) (suc i) (suc many) h = none_of test xs i (suc many) (λ f y e l m. h (suc f) y e (omega arith) (omega arith))

-- what waiting for nothing says
no_conflict : (a b : Call) → waits_for (footprint a) (footprint b) ≡ false → conflict a b ≡ false
no_conflict a b h = go (collide (footprint a) (footprint b)) (is_fence a) (is_fence b) h
  where
    go : (x y z : Bool) → (x || y || z) ≡ false → x ≡ false
    go true y z e = grind arith
    go false y z e = refl

no_fence : (a b : Call) → waits_for (footprint a) (footprint b) ≡ false → (is_fence a ≡ false) × (is_fence b ≡ false)
no_fence a b h = go (collide (footprint a) (footprint b)) (is_fence a) (is_fence b) h
  where
    go : (x y z : Bool) → (x || y || z) ≡ false → (y ≡ false) × (z ≡ false)
    go true y z e = grind arith
    go false true z e = grind arith
    go false false z e = (refl, e)

pub ready_means : (calls : List Call) (still : ℕ → Bool) (n : ℕ) (k : Call) → slice_get calls n ≡ Some k → FencesLast calls still → WaitsForNone calls still n k → DependsOnNone calls still n
ready_means calls still n k at last waits m less runs = both (both_conflict (slice_get calls m) (slice_get calls n)) (list_any is_fence (slice_range calls m (n + 1))) apart no_fences
  where
    both : (a b : Bool) → a ≡ false → b ≡ false → (a || b) ≡ false
    both true b e f = grind arith
    both false b e f = f

    x : (x : Call) × (slice_get calls m ≡ Some x)
    x = earlier_there calls m n k (omega arith) at

    free : waits_for (footprint x.0) (footprint k) ≡ false
    free = waits m x.0 x.1 less runs

    apart : both_conflict (slice_get calls m) (slice_get calls n) ≡ false
    apart = (λ i. both_conflict (x.1 i) (at i)) ∙ no_conflict x.0 k free

    differ : (b : Bool) → b ≡ true → b ≡ false → ⊥
    differ true e f = grind arith
    differ false e f = grind arith

    not_true : (b : Bool) → (b ≡ true → ⊥) → b ≡ false
    not_true true h = absurd (h refl)
    not_true false h = refl

    ends : (f n m : ℕ) → nat_lt f n ≡ false → f < m + (n + 1 - m) → m < n → f ≡ n
    ends f n m l h less = let k : n ≤ f = grind (arith, nat_tests) in omega arith

    begins : (m f : ℕ) → m ≤ f → nat_lt m f ≡ false → m ≡ f
    begins m f l h = let k : f ≤ m = grind (arith, nat_tests) in omega arith

    at_place : (f : ℕ) (y : Call) → slice_get calls f ≡ Some y → m ≤ f → f < m + (n + 1 - m) → is_fence y ≡ false
    at_place f y e low high = not_true (is_fence y) (λ fence. by (still f) refl fence)
      where
        same : (z : Call) → slice_get calls f ≡ Some z → y ≡ z
        same z h = let p : Some y ≡ Some z = sym e ∙ h in cc

        by : (b : Bool) → still f ≡ b → is_fence y ≡ true → ⊥
        by true s fence = place (nat_lt f n) refl
          where
            place : (b : Bool) → nat_lt f n ≡ b → ⊥
            place true l = differ (is_fence y) fence (no_fence y k (waits f y e (grind (arith, nat_tests)) s)).0
            place false l =
                let fn : f ≡ n = ends f n m l high less in
                differ (is_fence k) (subst (λ z. is_fence z ≡ true) (same k (subst (λ z. slice_get calls z ≡ Some k) (sym fn) at)) fence) (no_fence x.0 k free).1
        by false s fence = place (nat_lt m f) refl
          where
            place : (b : Bool) → nat_lt m f ≡ b → ⊥
            place true l = differ (still m) runs (last f y e fence s m (grind (arith, nat_tests)))
            place false l = differ (still m) runs (subst (λ z. still z ≡ false) (sym (begins m f low l)) s)

    no_fences : list_any is_fence (slice_range calls m (n + 1)) ≡ false
    no_fences = none_of is_fence calls m (n + 1 - m) at_place

-- ---- and back
some_of : {X : Type 0} (test : X → Bool) (xs : List X) (i many f : ℕ) (x : X) → list_any test (take many (drop i xs)) ≡ false → slice_get xs f ≡ Some x → i ≤ f → f < i + many → test x ≡ false
some_of test xs i zero f x h e l m = absurd (omega arith)
some_of test [] i (suc many) f x h e l m = grind arith
some_of {X} test (y ∷ xs) zero (suc many) zero x h e l m = let same : y ≡ x = cc in subst (λ (z : X). test z ≡ false) same (left (test y) (list_any test (take many xs)) h)
  where
    left : (a b : Bool) → (a || b) ≡ false → a ≡ false
    left true b e = e
    left false b e = refl
some_of test (y ∷ xs) zero (suc many) (suc f) x h e l m = some_of test xs zero many f x (right (test y) (list_any test (take many xs)) h) e (omega arith) (omega arith)
  where
    right : (a b : Bool) → (a || b) ≡ false → b ≡ false
    right true b e = grind arith
    right false b e = e
some_of test (y ∷ xs) (suc i) (suc many) zero x h e l m = absurd (omega arith)
some_of test (y ∷ xs) (suc i) (suc many) (suc f) x h e l m = some_of test xs i (suc many) f x h e (omega arith) (omega arith)

pub means_ready : (calls : List Call) (still : ℕ → Bool) (n : ℕ) (k : Call) → slice_get calls n ≡ Some k → DependsOnNone calls still n → WaitsForNone calls still n k
means_ready calls still n k at none m x e less runs =
    all (collide (footprint x) (footprint k)) (is_fence x) (is_fence k) apart
    (some_of is_fence calls m (n + 1 - m) m x ranges e (omega arith) (omega arith))
    (some_of is_fence calls m (n + 1 - m) n k ranges at (omega arith) (omega arith))
  where
    left : (a b : Bool) → (a || b) ≡ false → a ≡ false
    left true b e = e
    left false b e = refl

    right : (a b : Bool) → (a || b) ≡ false → b ≡ false
    right true b e = grind arith
    right false b e = e

    ranges : list_any is_fence (slice_range calls m (n + 1)) ≡ false
    ranges = right (both_conflict (slice_get calls m) (slice_get calls n)) (list_any is_fence (slice_range calls m (n + 1))) (none m less runs)

    apart : collide (footprint x) (footprint k) ≡ false
    apart = sym (λ i. both_conflict (e i) (at i)) ∙ left (both_conflict (slice_get calls m) (slice_get calls n)) (list_any is_fence (slice_range calls m (n + 1))) (none m less runs)

    all : (a b c : Bool) → a ≡ false → b ≡ false → c ≡ false → (a || b || c) ≡ false
    all true b c x y z = grind arith
    all false true c x y z = grind arith
    all false false c x y z = z

pub ready_law : ReadyLaw
ready_law calls still n k at last = (λ waits. ready_means calls still n k at last waits, λ none. means_ready calls still n k at none)
