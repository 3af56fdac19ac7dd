-- Looking for calls among those that are held.
use Rattle.std.proofs.Common.{◌≡◌, ℕ, zero, suc, ◌+◌, ◌<◌, ◌≤◌, List, [], ◌∷◌, ◌++◌, refl, ap, sym, ◌∙◌, subst, Some, None, Option, Bool, true, false, cond, arith, map, drop, length}
use Rattle.std.specs.Prelude.{◌==◌, ◌||◌, ◌&&◌, find, slice_get, option_map, is_some}
use Rattle.std.specs.List.{AllByRecursion as Each, All, list_any}
use Rattle.std.proofs.lemmas.List.Elements.{All-from_recursion}
use Rattle.client_model.specs.Order.{Footprint, may_go, ready_in}
use Rattle.std.proofs.lemmas.Bool.Decides.{nat_tests}
use Rattle.client_core.specs.Valid.{AreRising}
use Rattle.client_core.specs.Held.{Held, held_at, print_of, next_part, may_send, part_to_send}
use Rattle.client_core.proofs.Basics.{none_some}
use Rattle.lemmas.proofs.SameParts.{eqb_same}
use Rattle.lemmas.proofs.Lists.{each_map}
use Rattle.std.proofs.lemmas.List.{drop_all}

-- ---- a search from a place of a list on
pub find_from : {X : Type 0} (test : X → Bool) (xs : List X) (i : ℕ) (x : X) → slice_get xs i ≡ Some x → find test (drop i xs) ≡ cond (test x) (Some x) (find test (drop (i + 1) xs))
find_from test [] i x e = none_some x e
find_from {X} test (y ∷ xs) zero x e = let same : y ≡ x = cc in ap (λ (z : X). cond (test z) (Some z) (find test xs)) same
find_from test (y ∷ xs) (suc i) x e = find_from test xs i x e ∙ ap (λ k. cond (test x) (Some x) (find test (drop k (y ∷ xs)))) (let z : suc (i + 1) ≡ suc i + 1 = omega arith in z)

pub found_here : {X : Type 0} (test : X → Bool) (xs : List X) (i : ℕ) (x : X) → find test (drop i xs) ≡ find test xs → slice_get xs i ≡ Some x → test x ≡ true → Some x ≡ find test xs
found_here test xs i x inv e t = sym (sym inv ∙ find_from test xs i x e ∙ ap (λ b. cond b (Some x) (find test (drop (i + 1) xs))) t)

pub found_next : {X : Type 0} (test : X → Bool) (xs : List X) (i : ℕ) (x : X) → find test (drop i xs) ≡ find test xs → slice_get xs i ≡ Some x → test x ≡ false → find test (drop (i + 1) xs) ≡ find test xs
found_next test xs i x inv e t = sym (find_from test xs i x e ∙ ap (λ b. cond b (Some x) (find test (drop (i + 1) xs))) t) ∙ inv

pub found_end : {X : Type 0} (test : X → Bool) (xs : List X) (i : ℕ) → find test (drop i xs) ≡ find test xs → length xs ≤ i → find test xs ≡ None
found_end test xs i inv h = sym inv ∙ ap (find test) (drop_all i xs h)

-- ---- prints
or_right : (a b : Bool) → b ≡ true → (a || b) ≡ true
or_right true b e = refl
or_right false b e = e

pub any_print : (n : ℕ) (hs : List Held) → list_any (λ (k : ℕ × Footprint). k.0 == n) (map print_of hs) ≡ list_any (λ h. h.number == n) hs
any_print n [] = refl
any_print n (h ∷ hs) = ap (λ b. h.number == n || b) (any_print n hs)

number_there : (hs : List Held) (i : ℕ) (h : Held) → slice_get hs i ≡ Some h → list_any (λ (g : Held). g.number == h.number) hs ≡ true
number_there [] i h e = none_some h e
number_there (g ∷ hs) zero h e = let same : g ≡ h = cc in ap (λ (z : Held). z.number == h.number || list_any (λ (g : Held). g.number == h.number) hs) same ∙ ap (λ b. b || list_any (λ (g : Held). g.number == h.number) hs) (eqb_same h.number)
number_there (g ∷ hs) (suc i) h e = or_right (g.number == h.number) _ (number_there hs i h e)

pub has_number : (hs : List Held) (calls : List (ℕ × Footprint)) (i : ℕ) (h : Held) → calls ≡ map print_of hs → slice_get hs i ≡ Some h → list_any (λ k. k.0 == h.number) calls ≡ true
has_number hs calls i h is e = ap (list_any (λ (k : ℕ × Footprint). k.0 == h.number)) is ∙ any_print h.number hs ∙ number_there hs i h e

pub not_ready : (n : ℕ) (calls : List (ℕ × Footprint)) → list_any (λ k. k.0 == n) calls ≡ false → ready_in calls n ≡ false
not_ready n calls h = go (may_go calls) calls h
  where
    go : (test : ℕ × Footprint → Bool) (ks : List (ℕ × Footprint)) → list_any (λ k. k.0 == n) ks ≡ false → list_any (λ k. k.0 == n && test k) ks ≡ false
    go test [] h = refl
    go test (k ∷ ks) h = split (k.0 == n) h (go test ks)
      where
        split : (b : Bool) → (b || list_any (λ (k : ℕ × Footprint). k.0 == n) ks) ≡ false → (list_any (λ k. k.0 == n) ks ≡ false → list_any (λ k. k.0 == n && test k) ks ≡ false) → (b && test k || list_any (λ (k : ℕ × Footprint). k.0 == n && test k) ks) ≡ false
        split true h rec = absurd cc
        split false h rec = rec h

pub prints_below : (n : ℕ) (hs : List Held) → Each (λ h. h.number < n) hs → All (λ k. k.0 < n) (map print_of hs)
prints_below n hs h = All-from_recursion (λ (k : ℕ × Footprint). k.0 < n) (map print_of hs) (each_map (λ (k : ℕ × Footprint). k.0 < n) print_of hs h)

-- ---- the first part that may be sent
pub sends_here : (order : List (ℕ × Footprint)) (hs : List Held) (i : ℕ) (h : Held) → order ≡ map print_of hs → find (may_send order) (drop i hs) ≡ find (may_send order) hs → slice_get hs i ≡ Some h → may_send order h ≡ true → Some (next_part h) ≡ part_to_send hs
sends_here order hs i h is inv e t = ap (option_map next_part) (found_here (may_send order) hs i h inv e t ∙ ap (λ ks. find (may_send ks) hs) is)

pub sends_none : (order : List (ℕ × Footprint)) (hs : List Held) (i : ℕ) → order ≡ map print_of hs → find (may_send order) (drop i hs) ≡ find (may_send order) hs → length hs ≤ i → None ≡ part_to_send hs
sends_none order hs i is inv le = ap (option_map next_part) (sym (found_end (may_send order) hs i inv le) ∙ ap (λ ks. find (may_send ks) hs) is)

-- ---- whether a call is there
pub there_in : (order : List (ℕ × Footprint)) (hs hs1 : List Held) (n : ℕ) (b : Bool) → order ≡ map print_of hs → b ≡ list_any (λ h. h.number == n) hs1 → hs1 ≡ hs → b ≡ true → list_any (λ k. k.0 == n) order ≡ true
there_in order hs hs1 n b is found same t = ap (list_any (λ (k : ℕ × Footprint). k.0 == n)) is ∙ any_print n hs ∙ ap (list_any (λ (h : Held). h.number == n)) (sym same) ∙ sym found ∙ t

pub not_there : (hs hs1 : List Held) (n : ℕ) (b : Bool) → b ≡ list_any (λ h. h.number == n) hs1 → hs1 ≡ hs → b ≡ false → b ≡ ready_in (map print_of hs) n
not_there hs hs1 n b found same f = f ∙ sym (not_ready n (map print_of hs) (any_print n hs ∙ ap (list_any (λ (h : Held). h.number == n)) (sym same) ∙ sym found ∙ f))

pub same_number : (a b n : ℕ) → a ≡ b → a ≡ n → (b == n) ≡ true
same_number a b n x y = grind (arith, nat_tests)

pub numbers_below : (m last : ℕ) (hs : List Held) → AreRising m last (map (λ h. h.number) hs) → (m ≤ last) × Each (λ h. h.number < last + 1) hs
numbers_below m last [] r = (r, tt)
numbers_below m last (h ∷ hs) r =
    let rest = numbers_below h.number last hs r.1 in
    let less : m < h.number = r.0 in let le : h.number ≤ last = rest.0 in
    (omega arith, (omega arith, rest.1))
