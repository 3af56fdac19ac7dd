-- The slab and the keys after a part was put at a place or taken out of it.
use Rattle.std.proofs.Common.{◌≡◌, ◌≢◌, ℕ, zero, suc, ◌+◌, ◌<◌, ◌≤◌, List, [], ◌∷◌, length, map, set, Option, Some, None, refl, sym, ap, ◌∙◌, arith, inl, inr, is_some, is_none, cond, replicate, count_by}
use Rattle.std.proofs.lemmas.Bool.{cases_eq, cases_lt}
use Rattle.std.proofs.lemmas.List.{length-set, get_or-set_same, get_or-set_other, get_or-map, get_or_past, length-map}
use Rattle.std.proofs.lemmas.List.Sums.{sum_by-set}
use Rattle.std.proofs.lemmas.List.Folds.{sum_by-replicate}
use Rattle.slab.specs.Slab.{Slab, get, slab_len, HasRoomFor, Updates}
use Rattle.client_retry.specs.declared.flown.Flown.{Flown}
use Rattle.client_retry.specs.Slots.{slot_at, slot_under, key_at, IsKept}

-- ---- a list that is mapped, one item changed
map_agree : (f g : Option ℕ → Option Flown) (xs : List (Option ℕ)) → ((j : ℕ) → g (key_at xs j) ≡ f (key_at xs j)) → map g xs ≡ map f xs
map_agree f g [] h = refl
map_agree f g (x ∷ xs) h = ap (λ (y : Option Flown). y ∷ map g xs) (h 0) ∙ ap (λ (ys : List (Option Flown)). f x ∷ ys) (map_agree f g xs (λ j. h (suc j)))

map_set_at : (f g : Option ℕ → Option Flown) (xs : List (Option ℕ)) (i : ℕ) (a : Option ℕ) (b : Option Flown) → g a ≡ b → ((j : ℕ) → j ≢ i → g (key_at xs j) ≡ f (key_at xs j))
    → map g (set xs i a) ≡ set (map f xs) i b
map_set_at f g [] i a b e h = refl
map_set_at f g (x ∷ xs) zero a b e h = ap (λ (y : Option Flown). y ∷ map g xs) e ∙ ap (λ (ys : List (Option Flown)). b ∷ ys) (map_agree f g xs (λ j. h (suc j) (λ e. omega arith)))
map_set_at f g (x ∷ xs) (suc i) a b e h =
    ap (λ (y : Option Flown). y ∷ map g (set xs i a)) (h 0 (λ e. omega arith)) ∙ ap (λ (ys : List (Option Flown)). f x ∷ ys) (map_set_at f g xs i a b e (λ j ne. h (suc j) (λ e. ne (omega arith))))

-- how many keys are missing, where one is put in or taken out
abbrev missing : Option ℕ → ℕ
missing key = cond (is_none key) 1 0

none_filled : (keys : List (Option ℕ)) (i key : ℕ) → i < length keys → key_at keys i ≡ None → count_by is_none (set keys i (Some key)) + 1 ≡ count_by is_none keys
none_filled keys i key within at = omega (arith, sum_by-set missing keys i (Some key) None within, ap missing at)

none_emptied : (keys : List (Option ℕ)) (i key : ℕ) → i < length keys → key_at keys i ≡ Some key → count_by is_none (set keys i None) ≡ count_by is_none keys + 1
none_emptied keys i key within at = omega (arith, sum_by-set missing keys i None None within, ap missing at)

-- ---- what a place has
-- the part at a place is the one under its key
seen_at : (parts : Slab Flown) (keys : List (Option ℕ)) (p : ℕ) → slot_at (map (slot_under parts) keys) p ≡ slot_under parts (key_at keys p)
seen_at parts keys p = elim (cases_lt p (length keys)) [
  | inl h ↦ get_or-map (slot_under parts) keys p None None h
  | inr h ↦ get_or_past (map (slot_under parts) keys) p None (omega (arith, length-map keys (slot_under parts))) ∙ sym (ap (slot_under parts) (get_or_past keys p None h))
]

module _ (parts : Slab Flown) (keys : List (Option ℕ)) (kept : IsKept parts keys) where
  -- a place without a part has no key
  no_key : (p : ℕ) (key : Option ℕ) → key_at keys p ≡ key → slot_at (map (slot_under parts) keys) p ≡ None → key ≡ None
  no_key p None is none = refl
  no_key p (Some key) is none =
      absurd (let nothing = ap is_some (sym (ap (slot_under parts) is) ∙ sym (seen_at parts keys p) ∙ none) in let something = sym nothing ∙ kept.held p key is in cc)

  pub vacant_key : (p : ℕ) → slot_at (map (slot_under parts) keys) p ≡ None → key_at keys p ≡ None
  vacant_key p none = no_key p (key_at keys p) refl none

  -- there is room in the slab while a place has no part
  pub room_left : (p : ℕ) → p < 64 → slot_at (map (slot_under parts) keys) p ≡ None → HasRoomFor parts 1
  room_left p within none = omega (arith, kept.room, none_filled keys p 0 (omega (arith, kept.size)) (vacant_key p none))

  -- a part is put at a place
  module _ (new : Slab Flown) (p key : ℕ) (part : Flown) (within : p < 64) (none : slot_at (map (slot_under parts) keys) p ≡ None) (vacant : get parts key ≡ None)
      (updates : Updates parts new key (Some part)) where
    -- the other keys are other ones, and keep their parts
    other_kept : (q k : ℕ) → key_at keys q ≡ Some k → get new k ≡ get parts k
    other_kept q k is = updates.others k (λ e. let nothing = ap (λ j. is_some (get parts j)) e ∙ ap is_some vacant in let both = sym nothing ∙ kept.held q k is in cc)

    other_slot : (q : ℕ) (k : Option ℕ) → key_at keys q ≡ k → slot_under new k ≡ slot_under parts k
    other_slot q None is = refl
    other_slot q (Some k) is = other_kept q k is

    pub put_seen : map (slot_under new) (set keys p (Some key)) ≡ set (map (slot_under parts) keys) p (Some part)
    put_seen = map_set_at (slot_under parts) (slot_under new) keys p (Some key) (Some part) updates.changed (λ q ne. other_slot q (key_at keys q) refl)

    in_keys : p < length keys
    in_keys = omega (arith, kept.size)

    pub put_kept : slab_len new ≡ slab_len parts + 1 → new.capacity ≡ parts.capacity → IsKept new (set keys p (Some key))
    put_kept len cap = record {
      size = length-set keys p (Some key) ∙ kept.size;
      held = λ q k is. elim (cases_eq q p) [
        | inl e ↦ let here : Some key ≡ Some k = sym (get_or-set_same keys p (Some key) None in_keys) ∙ ap (key_at (set keys p (Some key))) (sym e) ∙ is in let same : key ≡ k = cc in ap is_some (ap (get new) (sym same) ∙ updates.changed)
        | inr ne ↦ let old = sym (get_or-set_other keys p q (Some key) None ne) ∙ is in ap is_some (other_kept q k old) ∙ kept.held q k old
      ];
      apart = λ q r k is is'. elim (cases_eq q p) [
        | inl e ↦ elim (cases_eq r p) [
          | inl e' ↦ e ∙ sym e'
          | inr ne' ↦
              let here : Some key ≡ Some k = sym (get_or-set_same keys p (Some key) None in_keys) ∙ ap (key_at (set keys p (Some key))) (sym e) ∙ is in
              let old = sym (get_or-set_other keys p r (Some key) None ne') ∙ is' in
              absurd (let same : key ≡ k = cc in let nothing = ap (λ j. is_some (get parts j)) (sym same) ∙ ap is_some vacant in let both = sym nothing ∙ kept.held r k old in cc)
        ]
        | inr ne ↦ elim (cases_eq r p) [
          | inl e' ↦
              let here : Some key ≡ Some k = sym (get_or-set_same keys p (Some key) None in_keys) ∙ ap (key_at (set keys p (Some key))) (sym e') ∙ is' in
              let old = sym (get_or-set_other keys p q (Some key) None ne) ∙ is in
              absurd (let same : key ≡ k = cc in let nothing = ap (λ j. is_some (get parts j)) (sym same) ∙ ap is_some vacant in let both = sym nothing ∙ kept.held q k old in cc)
          | inr ne' ↦ kept.apart q r k (sym (get_or-set_other keys p q (Some key) None ne) ∙ is) (sym (get_or-set_other keys p r (Some key) None ne') ∙ is')
        ]
      ];
      room = omega (arith, kept.room, len, cap, none_filled keys p key in_keys (vacant_key p none));
    }

  -- the part at a place is taken out
  module _ (new : Slab Flown) (p key : ℕ) (here : key_at keys p ≡ Some key) (updates : Updates parts new key None) where
    left_kept : (q k : ℕ) → q ≢ p → key_at keys q ≡ Some k → get new k ≡ get parts k
    left_kept q k ne is = updates.others k (λ e. ne (kept.apart q p k is (here ∙ ap Some (sym e))))

    left_slot : (q : ℕ) (k : Option ℕ) → q ≢ p → key_at keys q ≡ k → slot_under new k ≡ slot_under parts k
    left_slot q None ne is = refl
    left_slot q (Some k) ne is = left_kept q k ne is

    pub take_seen : map (slot_under new) (set keys p None) ≡ set (map (slot_under parts) keys) p None
    take_seen = map_set_at (slot_under parts) (slot_under new) keys p None None refl (λ q ne. left_slot q (key_at keys q) ne refl)

    key_within : p < length keys
    key_within = elim (cases_lt p (length keys)) [ inl h ↦ h | inr h ↦ absurd (let past = sym (get_or_past keys p None h) ∙ here in cc) ]

    pub take_kept : slab_len new + 1 ≡ slab_len parts → new.capacity ≡ parts.capacity → IsKept new (set keys p None)
    take_kept len cap = record {
      size = length-set keys p None ∙ kept.size;
      held = λ q k is. elim (cases_eq q p) [
        | inl e ↦ absurd (let none = sym (get_or-set_same keys p None None key_within) ∙ ap (key_at (set keys p None)) (sym e) ∙ is in cc)
        | inr ne ↦ let old = sym (get_or-set_other keys p q None None ne) ∙ is in ap is_some (left_kept q k ne old) ∙ kept.held q k old
      ];
      apart = λ q r k is is'. elim (cases_eq q p) [
        | inl e ↦ absurd (let none = sym (get_or-set_same keys p None None key_within) ∙ ap (key_at (set keys p None)) (sym e) ∙ is in cc)
        | inr ne ↦ elim (cases_eq r p) [
          | inl e' ↦ absurd (let none = sym (get_or-set_same keys p None None key_within) ∙ ap (key_at (set keys p None)) (sym e') ∙ is' in cc)
          | inr ne' ↦ kept.apart q r k (sym (get_or-set_other keys p q None None ne) ∙ is) (sym (get_or-set_other keys p r None None ne') ∙ is')
        ]
      ];
      room = omega (arith, kept.room, len, cap, none_emptied keys p key key_within here);
    }

-- before any part
no_keys : (n p : ℕ) → key_at (replicate n None) p ≡ None
no_keys zero p = refl
no_keys (suc n) zero = refl
no_keys (suc n) (suc p) = no_keys n p

count_none : (n : ℕ) → count_by is_none (replicate n (let none : Option ℕ = None in none)) ≡ n
count_none n = sum_by-replicate missing n None ∙ omega arith

pub none_kept : (parts : Slab Flown) → parts.slots ≡ [] → 64 ≤ parts.capacity → IsKept parts (replicate 64 None)
none_kept parts none cap = record {
  size = refl;
  held = λ p k is. absurd (let nothing = sym (no_keys 64 p) ∙ is in cc);
  apart = λ p q k is is'. absurd (let nothing = sym (no_keys 64 p) ∙ is in cc);
  room = omega (arith, cap, ap (count_by (is_some {T = Flown})) none, count_none 64);
}
