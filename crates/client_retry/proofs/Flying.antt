-- The parts in flight, as the parts at places.
use Rattle.std.proofs.Common.{◌≡◌, ◌≢◌, ℕ, suc, ◌+◌, inl, inr, Bool, true, false, ◌==◌, eqb, not, cond, List, [], ◌∷◌, map, filter, find, Some, None, option_map, refl, sym, ap, ◌∙◌, arith}
use Rattle.std.specs.List.{insert, position_or_len, list_any}
use Rattle.std.proofs.lemmas.Bool.{cases_Bool, or_left, or_right, or_parts, eq-eqb, ne_eqb}
use Rattle.index_lists.specs.NodeLists.{has, without}
use Rattle.index_lists.proofs.Linking.{split_eq}
use Rattle.client_retry.specs.declared.flown.Flown.{Flown}
use Rattle.client_retry.specs.Flights.{is_before, with_flown, again, sent_again}

-- ---- what a search finds
-- the same found among the parts as among their places
pub find_there : (at : ℕ → Flown) (wanted : ℕ → Bool) (test : Flown → Bool) (xs : List ℕ) → ((p : ℕ) → has xs p ≡ true → wanted p ≡ test (at p)) → find test (map at xs) ≡ option_map at (find wanted xs)
find_there at wanted test [] h = refl
find_there at wanted test (x ∷ xs) h =
    let here = h x (or_left (eqb x x) (has xs x) (eq-eqb x x refl)) in
    elim (cases_Bool (wanted x)) [
      | inl t ↦ let t' = sym here ∙ t in rw (t, t') refl
      | inr f ↦ let f' = sym here ∙ f in rw (f, f') (find_there at wanted test xs (λ p there. h p (or_right (eqb p x) (has xs p) there)))
    ]

-- ---- the parts after a change at their places
map_there : (at at' : ℕ → Flown) (xs : List ℕ) → ((p : ℕ) → has xs p ≡ true → at' p ≡ at p) → map at' xs ≡ map at xs
map_there at at' [] h = refl
map_there at at' (x ∷ xs) h =
    ap (λ (f : Flown). f ∷ map at' xs) (h x (or_left (eqb x x) (has xs x) (eq-eqb x x refl)))
    ∙ ap (λ (fs : List Flown). at x ∷ fs) (map_there at at' xs (λ p there. h p (or_right (eqb p x) (has xs p) there)))

-- a part more, put in where it comes
pub insert_there : (at at' : ℕ → Flown) (wanted : ℕ → Bool) (n : ℕ) (f : Flown) (xs : List ℕ) → at' n ≡ f
    → ((p : ℕ) → has xs p ≡ true → (at' p ≡ at p) × (wanted p ≡ is_before f.part (at p).part))
    → map at' (insert xs (position_or_len wanted xs) n) ≡ with_flown f (map at xs)
insert_there at at' wanted n f [] new h = ap (λ (g : Flown). g ∷ []) new
insert_there at at' wanted n f (x ∷ xs) new h =
    let here = h x (or_left (eqb x x) (has xs x) (eq-eqb x x refl)) in
    elim (cases_Bool (wanted x)) [
      | inl t ↦
          let first : is_before f.part (at x).part ≡ true = sym here.1 ∙ t in
          let same : map at' (x ∷ xs) ≡ map at (x ∷ xs) = map_there at at' (x ∷ xs) (λ p there. (h p there).0) in
          rw (t, first, with_flown) (ap (λ (g : Flown). g ∷ map at' (x ∷ xs)) new ∙ ap (λ (gs : List Flown). f ∷ gs) same)
      | inr e ↦
          let later : is_before f.part (at x).part ≡ false = sym here.1 ∙ e in
          let more : 1 + position_or_len wanted xs ≡ suc (position_or_len wanted xs) = omega arith in
          rw (e, later, with_flown) (rw more (
          ap (λ (g : Flown). g ∷ map at' (insert xs (position_or_len wanted xs) n)) here.0
          ∙ ap (λ (gs : List Flown). at x ∷ gs) (insert_there at at' wanted n f xs new (λ p there. h p (or_right (eqb p x) (has xs p) there)))))
    ]

-- a part less
pub without_there : (at at' : ℕ → Flown) (n orig : ℕ) (xs : List ℕ) → (at n).orig ≡ orig → ((p : ℕ) → has xs p ≡ true → p ≢ n → (at' p ≡ at p) × ((at p).orig ≢ orig))
    → map at' (without n xs) ≡ filter (λ f. not (f.orig == orig)) (map at xs)
without_there at at' n orig [] gone h = refl
without_there at at' n orig (x ∷ xs) gone h =
    let rest = without_there at at' n orig xs gone (λ p there. h p (or_right (eqb p x) (has xs p) there)) in
    elim (split_eq n x) [
      | inl t ↦ let its : eqb (at x).orig orig ≡ true = eq-eqb (at x).orig orig (ap (λ p. (at p).orig) (sym t.0) ∙ gone) in rw (t.1, its) rest
      | inr f ↦
          let here = h x (or_left (eqb x x) (has xs x) (eq-eqb x x refl)) (λ e. f.0 (sym e)) in
          let other : eqb (at x).orig orig ≡ false = ne_eqb (at x).orig orig here.1 in
          rw (f.1, other) (ap (λ (g : Flown). g ∷ map at' (without n xs)) here.0 ∙ ap (λ (gs : List Flown). at x ∷ gs) rest)
    ]

-- a part sent again
pub again_there : (at at' : ℕ → Flown) (orig t : ℕ) (xs : List ℕ) → ((p : ℕ) → has xs p ≡ true → at' p ≡ again orig t (at p)) → map at' xs ≡ sent_again orig t (map at xs)
again_there at at' orig t [] h = refl
again_there at at' orig t (x ∷ xs) h =
    ap (λ (f : Flown). f ∷ map at' xs) (h x (or_left (eqb x x) (has xs x) (eq-eqb x x refl)))
    ∙ ap (λ (fs : List Flown). again orig t (at x) ∷ fs) (again_there at at' orig t xs (λ p there. h p (or_right (eqb p x) (has xs p) there)))

-- where no part has the orig
pub without_none : (orig : ℕ) (fs : List Flown) → find (λ f. f.orig == orig) fs ≡ None → filter (λ f. not (f.orig == orig)) fs ≡ fs
without_none orig [] h = refl
without_none orig (f ∷ fs) h = elim (cases_Bool (eqb f.orig orig)) [
  | inl t ↦ absurd (let here : Some f ≡ None = rw t at h in cc)
  | inr e ↦ let rest : find (λ f. f.orig == orig) fs ≡ None = rw e at h in rw e (ap (λ (gs : List Flown). f ∷ gs) (without_none orig fs rest))
]

-- an orig that none of the parts has
pub absent : (orig : ℕ) (fs : List Flown) → find (λ f. f.orig == orig) fs ≡ None → list_any (λ f. f.orig == orig) fs ≡ false
absent orig [] h = refl
absent orig (f ∷ fs) h = elim (cases_Bool (eqb f.orig orig)) [
  | inl t ↦ absurd (let here : Some f ≡ None = rw t at h in cc)
  | inr e ↦ let rest : find (λ f. f.orig == orig) fs ≡ None = rw e at h in rw e (absent orig fs rest)
]

pub none_has : (at : ℕ → Flown) (orig : ℕ) (xs : List ℕ) → list_any (λ f. f.orig == orig) (map at xs) ≡ false → (p : ℕ) → has xs p ≡ true → (at p).orig ≢ orig
none_has at orig [] h p there = absurd cc
none_has at orig (x ∷ xs) h p there =
    let both = or_parts (eqb (at x).orig orig) (list_any (λ f. f.orig == orig) (map at xs)) h in
    elim (split_eq p x) [
      | inl e ↦ λ its. let t = eq-eqb (at x).orig orig (ap (λ q. (at q).orig) (sym e.0) ∙ its) in let f = both.0 in cc
      | inr ne ↦ let behind : has xs p ≡ true = rw ne.1 at there in none_has at orig xs both.1 p behind
    ]

-- a part of the orig, with its last moment made t
pub again_here : (orig t : ℕ) (f : Flown) → f.orig ≡ orig → record f { last = t } ≡ again orig t f
again_here orig t f e = ap (λ b. record f { last = cond b t f.last }) (sym (eq-eqb f.orig orig e))
