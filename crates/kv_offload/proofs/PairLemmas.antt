-- The pairs of the slots, before and after one slot changes.
use Rattle.std.proofs.Common.{◌≡◌, ◌≢◌, ℕ, zero, suc, ◌+◌, ◌<◌, Bool, true, false, not, cond, T, ◌⊎◌, inl, inr, List, [], ◌∷◌, length, Option, Some, None, is_some, refl, sym, ap, ◌∙◌, arith}
use Rattle.std.specs.Ordering.{eq_by_cmp, is_eq}
use Rattle.std.specs.FinMap.Entries.{find, put, where_key, is_sorted, find-put, is_sorted-put, find-where_key, is_sorted-where_key, same_entries, length-put, length_without}
use Rattle.std.proofs.lemmas.Bool.{cases_Bool, cases_eq}
use Rattle.std.proofs.lemmas.Cmp.{tied_itself}
use Rattle.std.proofs.lemmas.Map.Views.{tells_apart}
use Rattle.flat_model.specs.Objects.{Pairs, key_cmp}
use Rattle.flat_model.proofs.KeyLemmas.{key_total, key_exact}
use Rattle.kv_offload.specs.Stored.{with_pair, pairs_of}

-- whether two keys are one
abbrev pub same_key : List ℕ → List ℕ → Bool
same_key a b = eq_by_cmp key_cmp a b

pub same_key-self : (a : List ℕ) → same_key a a ≡ true
same_key-self a = ap is_eq (tied_itself key_total a)

-- two keys are one or two, with what the test gives
pub split_key : (a b : List ℕ) → ((a ≡ b) × (same_key a b ≡ true)) ⊎ ((a ≢ b) × (same_key a b ≡ false))
split_key a b = elim (cases_Bool (same_key a b)) [
  | inl same ↦ inl (tells_apart key_exact a b same, same)
  | inr other ↦ inr ((λ equal. let same = sym (ap (same_key a) equal) ∙ same_key-self a in cc), other)
]

-- what one more slot says of a key: its value, or what was said before
abbrev pub look_with : List ℕ → List ℕ → List ℕ → Option (List ℕ) → Option (List ℕ)
look_with [] value q before = before
look_with (byte ∷ bytes) value q before = cond (same_key q (byte ∷ bytes)) (Some value) before

-- what so many slots say of a key
pub look : (ℕ → List ℕ) → (ℕ → List ℕ) → List ℕ → ℕ → Option (List ℕ)
look key value q zero = None
look key value q (suc slot) = look_with (key slot) (value slot) q (look key value q slot)

find-with_pair : (key value q : List ℕ) (pairs : Pairs) → find key_cmp q (with_pair key value pairs) ≡ look_with key value q (find key_cmp q pairs)
find-with_pair [] value q pairs = refl
find-with_pair (byte ∷ bytes) value q pairs = find-put key_cmp key_total q (byte ∷ bytes) value pairs

pub find-pairs : (key value : ℕ → List ℕ) (q : List ℕ) (slots : ℕ) → find key_cmp q (pairs_of key value slots) ≡ look key value q slots
unfolding pairs_of look
find-pairs key value q zero = refl
find-pairs key value q (suc slot) =
    find-with_pair (key slot) (value slot) q (pairs_of key value slot)
    ∙ ap (look_with (key slot) (value slot) q) (find-pairs key value q slot)

is_sorted-with_pair : (key value : List ℕ) (pairs : Pairs) → T (is_sorted key_cmp pairs) → T (is_sorted key_cmp (with_pair key value pairs))
is_sorted-with_pair [] value pairs h = h
is_sorted-with_pair (byte ∷ bytes) value pairs h = is_sorted-put key_cmp key_total (byte ∷ bytes) value pairs h

pub is_sorted-pairs : (key value : ℕ → List ℕ) (slots : ℕ) → T (is_sorted key_cmp (pairs_of key value slots))
unfolding pairs_of
is_sorted-pairs key value zero = tt
is_sorted-pairs key value (suc slot) = is_sorted-with_pair (key slot) (value slot) (pairs_of key value slot) (is_sorted-pairs key value slot)

-- a slot with another key says nothing of this one
look_other : (key value q : List ℕ) (before : Option (List ℕ)) → key ≢ q → look_with key value q before ≡ before
look_other [] value q before ne = refl
look_other (byte ∷ bytes) value q before ne = elim (split_key q (byte ∷ bytes)) [ inl t ↦ absurd (ne (sym t.0)) | inr f ↦ rw f.1 refl ]

look_here : (key value q : List ℕ) (before : Option (List ℕ)) → q ≢ [] → key ≡ q → look_with key value q before ≡ Some value
look_here [] value q before some same = absurd (some (sym same))
look_here (byte ∷ bytes) value q before some same = let e : same_key q (byte ∷ bytes) ≡ true = rw same (same_key-self q) in rw e refl

-- the only slot with a key says its value
pub look_found : (key value : ℕ → List ℕ) (q : List ℕ) (at slots : ℕ) → q ≢ [] → at < slots → key at ≡ q
    → ((other : ℕ) → other < slots → other ≢ at → key other ≢ q) → look key value q slots ≡ Some (value at)
unfolding look
look_found key value q at zero some lt here others = absurd (omega arith)
look_found key value q at (suc slot) some lt here others = elim (cases_eq at slot) [
  | inl e ↦ look_here (key slot) (value slot) q (look key value q slot) some (ap key (sym e) ∙ here) ∙ ap (λ (s : ℕ). Some (value s)) (sym e)
  | inr ne ↦
      look_other (key slot) (value slot) q (look key value q slot) (others slot (omega arith) (λ e. ne (sym e)))
      ∙ look_found key value q at slot some (omega (arith, ne)) here (λ other less. others other (omega arith))
]

-- no slot has the key
pub look_none : (key value : ℕ → List ℕ) (q : List ℕ) (slots : ℕ) → ((slot : ℕ) → slot < slots → key slot ≢ q) → look key value q slots ≡ None
unfolding look
look_none key value q zero others = refl
look_none key value q (suc slot) others =
    look_other (key slot) (value slot) q (look key value q slot) (others slot (omega arith))
    ∙ look_none key value q slot (λ other less. others other (omega arith))

-- slots that say the same, or nothing before and after
pub look_same : (key value key' value' : ℕ → List ℕ) (q : List ℕ) (slots : ℕ)
    → ((slot : ℕ) → slot < slots → ((key' slot ≡ key slot) × (value' slot ≡ value slot)) ⊎ ((key slot ≢ q) × (key' slot ≢ q)))
    → look key' value' q slots ≡ look key value q slots
unfolding look
look_same key value key' value' q zero same = refl
look_same key value key' value' q (suc slot) same =
    let before : look key' value' q slot ≡ look key value q slot = look_same key value key' value' q slot (λ other less. same other (omega arith)) in
    elim (same slot (omega arith)) [
      | inl both ↦ rw (both.0, both.1, before) refl
      | inr neither ↦
          look_other (key' slot) (value' slot) q (look key' value' q slot) neither.1
          ∙ before
          ∙ sym (look_other (key slot) (value slot) q (look key value q slot) neither.0)
    ]

pub pairs_same : (key value : ℕ → List ℕ) (slots : ℕ) (pairs : Pairs) → T (is_sorted key_cmp pairs)
    → ((q : List ℕ) → look key value q slots ≡ find key_cmp q pairs) → pairs_of key value slots ≡ pairs
pairs_same key value slots pairs sorted same =
    same_entries key_cmp key_total key_exact (pairs_of key value slots) pairs (is_sorted-pairs key value slots) sorted
    (λ q. find-pairs key value q slots ∙ same q)

-- no slot says anything of the key with no bytes
look_empty : (key value : ℕ → List ℕ) (slots : ℕ) → look key value [] slots ≡ None
unfolding look
look_empty key value zero = refl
look_empty key value (suc slot) = empty_with (key slot) (value slot) (look key value [] slot) ∙ look_empty key value slot
  where
    empty_with : (k v : List ℕ) (before : Option (List ℕ)) → look_with k v [] before ≡ before
    empty_with [] v before = refl
    empty_with (byte ∷ bytes) v before = refl

-- a slot changes that has this key or is free, before and after
pub record Changes (key value key' value' : ℕ → List ℕ) (k : List ℕ) (at slots : ℕ) : Type 0 where
  pub some : k ≢ []
  pub within : at < slots
  pub was : (key at ≡ k) ⊎ (key at ≡ [])
  pub is : (key' at ≡ k) ⊎ (key' at ≡ [])
  pub keys : (other : ℕ) → other < slots → other ≢ at → key' other ≡ key other
  pub values : (other : ℕ) → other < slots → other ≢ at → value' other ≡ value other
  pub apart : (other : ℕ) → other < slots → other ≢ at → key other ≢ k

module _ {key value key' value' : ℕ → List ℕ} {k : List ℕ} {at slots : ℕ} (c : Changes key value key' value' k at slots) where
  not_this : (q has : List ℕ) → q ≢ k → q ≢ [] → (has ≡ k) ⊎ (has ≡ []) → has ≢ q
  not_this q has ne full was e = elim was [ inl same ↦ ne (sym e ∙ same) | inr free ↦ full (sym e ∙ free) ]

  look_full : (q : List ℕ) → q ≢ k → q ≢ [] → look key' value' q slots ≡ look key value q slots
  look_full q ne full = look_same key value key' value' q slots (λ slot less. elim (cases_eq slot at) [
    | inl e ↦ inr (not_this q (key slot) ne full (rw e c.was), not_this q (key' slot) ne full (rw e c.is))
    | inr other ↦ inl (c.keys slot less other, c.values slot less other)
  ])

  -- of the other keys the slots say what they said
  look_others : (q : List ℕ) → q ≢ k → look key' value' q slots ≡ look key value q slots
  look_others [] ne = look_empty key' value' slots ∙ sym (look_empty key value slots)
  look_others (byte ∷ bytes) ne = look_full (byte ∷ bytes) ne (λ e. absurd (cc))

  says_put : key' at ≡ k → (q : List ℕ) → look key' value' q slots ≡ cond (same_key q k) (Some (value' at)) (look key value q slots)
  says_put here q = elim (split_key q k) [
    | inl t ↦ rw t.1 (look_found key' value' q at slots (λ e. c.some (sym t.0 ∙ e)) c.within (here ∙ sym t.0) (λ other less ne e. c.apart other less ne (sym (c.keys other less ne) ∙ e ∙ t.0)))
    | inr f ↦ rw f.1 (look_others q f.0)
  ]

  -- the slot has the key now
  pub pairs-put : (v : List ℕ) → key' at ≡ k → value' at ≡ v → pairs_of key' value' slots ≡ put key_cmp k v (pairs_of key value slots)
  pairs-put v here there =
      pairs_same key' value' slots (put key_cmp k v (pairs_of key value slots))
      (is_sorted-put key_cmp key_total k v (pairs_of key value slots) (is_sorted-pairs key value slots))
      (λ q. says_put here q ∙ sym (find-put key_cmp key_total q k v (pairs_of key value slots) ∙ both q))
    where
      both : (q : List ℕ) → cond (same_key q k) (Some v) (find key_cmp q (pairs_of key value slots)) ≡ cond (same_key q k) (Some (value' at)) (look key value q slots)
      both q = rw (there, find-pairs key value q slots) refl

  says_without : key' at ≡ [] → (q : List ℕ) → look key' value' q slots ≡ cond (not (same_key k q)) (look key value q slots) None
  says_without free q = elim (split_key k q) [
    | inl t ↦ rw t.1 (look_none key' value' q slots (λ slot less e. elim (cases_eq slot at) [
      | inl same ↦ c.some (t.0 ∙ sym e ∙ ap key' same ∙ free)
      | inr other ↦ c.apart slot less other (sym (c.keys slot less other) ∙ e ∙ sym t.0)
    ]))
    | inr f ↦ rw f.1 (look_others q (λ e. f.0 (sym e)))
  ]

  -- the slot has no key now
  pub pairs-without : key' at ≡ [] → pairs_of key' value' slots ≡ where_key key_cmp (λ other. not (eq_by_cmp key_cmp k other)) (pairs_of key value slots)
  pairs-without free =
      pairs_same key' value' slots (where_key key_cmp (λ other. not (same_key k other)) (pairs_of key value slots))
      (is_sorted-where_key key_cmp (λ other. not (same_key k other)) (pairs_of key value slots) (is_sorted-pairs key value slots))
      (λ q. says_without free q ∙ sym (
      find-where_key key_cmp (λ other. not (same_key k other)) q (λ x e. ap (λ y. not (same_key k y)) (sym (key_exact q x e))) (pairs_of key value slots)
      ∙ ap (λ (found : Option (List ℕ)). cond (not (same_key k q)) found None) (find-pairs key value q slots)))

-- what is found of a key that one slot has, and of one that none has
pub find-found : (key value : ℕ → List ℕ) (q : List ℕ) (at slots : ℕ) → q ≢ [] → at < slots → key at ≡ q
    → ((other : ℕ) → other < slots → other ≢ at → key other ≢ q) → find key_cmp q (pairs_of key value slots) ≡ Some (value at)
find-found key value q at slots some within here others = find-pairs key value q slots ∙ look_found key value q at slots some within here others

pub find-none : (key value : ℕ → List ℕ) (q : List ℕ) (slots : ℕ) → ((slot : ℕ) → slot < slots → key slot ≢ q)
    → find key_cmp q (pairs_of key value slots) ≡ None
find-none key value q slots others = find-pairs key value q slots ∙ look_none key value q slots others

-- slots that say the same hold the same pairs
pub pairs_agree : (key value key' value' : ℕ → List ℕ) (slots : ℕ) → ((slot : ℕ) → slot < slots → key' slot ≡ key slot)
    → ((slot : ℕ) → slot < slots → value' slot ≡ value slot) → pairs_of key' value' slots ≡ pairs_of key value slots
unfolding pairs_of
pairs_agree key value key' value' zero keys values = refl
pairs_agree key value key' value' (suc slot) keys values =
    let before : pairs_of key' value' slot ≡ pairs_of key value slot = pairs_agree key value key' value' slot (λ other less. keys other (omega arith)) (λ other less. values other (omega arith)) in
    rw (keys slot (omega arith), values slot (omega arith), before) refl

-- free slots hold no pairs
pub pairs_none : (key value : ℕ → List ℕ) (slots : ℕ) → ((slot : ℕ) → slot < slots → key slot ≡ []) → pairs_of key value slots ≡ []
unfolding pairs_of
pairs_none key value zero free = refl
pairs_none key value (suc slot) free = rw (free slot (omega arith)) (pairs_none key value slot (λ other less. free other (omega arith)))

pub length-pairs_put : (k v : List ℕ) (pairs : Pairs) → T (is_sorted key_cmp pairs) → find key_cmp k pairs ≡ None → length (put key_cmp k v pairs) ≡ length pairs + 1
length-pairs_put k v pairs sorted none = length-put key_cmp key_total k v pairs sorted ∙ rw none refl

pub length-pairs_kept : (k v old : List ℕ) (pairs : Pairs) → T (is_sorted key_cmp pairs) → find key_cmp k pairs ≡ Some old → length (put key_cmp k v pairs) ≡ length pairs
length-pairs_kept k v old pairs sorted there = length-put key_cmp key_total k v pairs sorted ∙ rw there refl

one_more : (found : Option (List ℕ)) (old : List ℕ) (n m : ℕ) → found ≡ Some old → cond (is_some found) 1 0 + n ≡ m → n + 1 ≡ m
one_more None old n m there all = absurd cc
one_more (Some value) old n m there all = omega (arith, all)

pub length-pairs_without : (k old : List ℕ) (pairs : Pairs) → T (is_sorted key_cmp pairs) → find key_cmp k pairs ≡ Some old
    → length (where_key key_cmp (λ other. not (eq_by_cmp key_cmp k other)) pairs) + 1 ≡ length pairs
length-pairs_without k old pairs sorted there =
    one_more (find key_cmp k pairs) old (length (where_key key_cmp (λ other. not (eq_by_cmp key_cmp k other)) pairs)) (length pairs) there (length_without key_cmp key_total k pairs sorted)
