-- The fields after a record is noted.
use Rattle.std.proofs.Common.{◌≡◌, ℕ, ◌+◌, ◌<◌, ◌≤◌, inl, inr, List, [], ◌∷◌, ◌++◌, length, set, drop, Some, None, refl, sym, ◌∙◌, subst, arith, slice_get}
use Rattle.std.proofs.lemmas.List.{length-append, length-set, append-nil, length-drop}
use Rattle.index_lists.specs.NodeLists as lists
use Rattle.index_lists.specs.NodeLists.{NodeLists, list_at, with_list, without}
use Rattle.index_lists.proofs.Linking.{split_eq}
use Rattle.retry_buffer.specs.declared.noted.Noted.{Noted}
use Rattle.retry_buffer.specs.Kept.{Kept, IsValid, name_of, noted_as, AreNotedBy}
use Rattle.retry_buffer.specs.Chains.{chain_of}
use Rattle.retry_buffer.specs.Fields.{IsSound, kept_in, in_turn}
use Rattle.retry_buffer.proofs.Records.{AreApart-push, AreInOrder-push, AreApart-tail, AreInOrder-tail, AreNotedBy-tail, none_found-tail}
use Rattle.retry_buffer.proofs.Turns.{place_after, in_turn-set, length-in_turn}
use Rattle.retry_buffer.proofs.Places.{slice_get-within}
use Rattle.retry_buffer.proofs.Chained.{chained-push, chained-set, place_held, rest, rest_free}

-- a record that is noted after valid ones of other names leaves them valid, where there may be so many
valid-push : (kept : Kept) (r : Noted) → IsValid kept → length kept.records < kept.capacity → AreNotedBy r.moment kept.records → noted_as (name_of r) kept.records ≡ None
    → IsValid (record kept { records = kept.records ++ r ∷ [] })
valid-push kept r valid space later apart = record {
  few = omega (arith, length-append kept.records (r ∷ []));
  in_order = AreInOrder-push kept.records r valid.in_order later;
  apart = AreApart-push kept.records r valid.apart apart;
}

-- and so do they without the oldest
valid-turn : (kept : Kept) (r : Noted) → IsValid kept → 1 ≤ kept.capacity → AreNotedBy r.moment kept.records → noted_as (name_of r) kept.records ≡ None
    → IsValid (record kept { records = drop 1 kept.records ++ r ∷ [] })
valid-turn kept r valid some later apart =
    let fewer : IsValid (record kept { records = drop 1 kept.records }) = record {
      few = omega (arith, length-drop 1 kept.records, valid.few);
      in_order = AreInOrder-tail kept.records valid.in_order;
      apart = AreApart-tail kept.records valid.apart;
    } in
    valid-push (record kept { records = drop 1 kept.records }) r fewer (omega (arith, length-drop 1 kept.records, valid.few))
    (AreNotedBy-tail r.moment kept.records later) (none_found-tail (name_of r) kept.records apart)

module _ {slots : List Noted} {oldest capacity space : ℕ} {chains : NodeLists} (s : IsSound slots oldest capacity space chains) where
  -- ---- at the first place that isn't filled
  pub sound-push : (r : Noted) (space' l place : ℕ) (slots' : List Noted) (chains' : NodeLists)
      → length (in_turn oldest slots) < capacity → AreNotedBy r.moment (in_turn oldest slots) → noted_as (name_of r) (in_turn oldest slots) ≡ None
      → capacity ≤ space' → l ≡ chain_of capacity (name_of r) → l < capacity + 7 → place ≡ length slots
      → chains' ≡ with_list chains l (place ∷ list_at chains l) → lists.IsValid chains' → slots' ≡ slots ++ r ∷ [] → IsSound slots' oldest capacity space' chains'
  sound-push r space' l place slots' chains' few later apart reserved is below there new valid added =
      let unfilled : length slots < capacity = omega (arith, length-in_turn oldest slots) in
      let first : oldest ≡ 0 = s.turns unfilled in
      let pushed : in_turn oldest slots ++ r ∷ [] ≡ in_turn oldest (slots ++ r ∷ []) = rw (first, append-nil slots, append-nil (slots ++ r ∷ [])) refl in
      rw added (record {
        some = s.some;
        most = s.most;
        reserved = reserved;
        oldest_in = s.oldest_in;
        turns = λ h. first;
        chained = chained-push s.chained r l chains' is below (rw there at new) valid;
        valid = subst (λ (rs : List Noted). IsValid (record { capacity = capacity; records = rs })) pushed
            (valid-push (kept_in capacity oldest slots) r s.valid few later apart);
      })

  -- ---- at the place of the oldest
  module _ (full : length (in_turn oldest slots) ≡ capacity) where
    filled : length slots ≡ capacity
    filled = sym (length-in_turn oldest slots) ∙ full

    oldest_there : (r : Noted) × (slice_get slots oldest ≡ Some r)
    oldest_there = slice_get-within slots oldest (omega (arith, filled, s.oldest_in))

    -- the latest of the records and a further one
    pub turned_is : (r : Noted) → in_turn (place_after oldest capacity) (set slots oldest r) ≡ drop 1 (in_turn oldest slots) ++ r ∷ []
    turned_is r = rw (← filled) (in_turn-set slots oldest r (omega (arith, s.oldest_in, filled)))

    -- its place is in a chain
    pub oldest_held : lists.IsHeld chains oldest
    oldest_held = place_held s.chained oldest oldest_there.0 oldest_there.1

    module _ {mid : NodeLists} (removed : (l : ℕ) → lists.IsIn chains l oldest → mid ≡ with_list chains l (without oldest (list_at chains l))) where
      removed_is : mid ≡ rest s.chained oldest oldest_there.0 oldest_there.1
      removed_is = removed (chain_of capacity (name_of oldest_there.0)) (s.chained.chained oldest oldest_there.0 oldest_there.1)

      -- and then in none
      pub oldest_free : lists.IsFree mid oldest
      oldest_free = rw removed_is (rest_free s.chained oldest oldest_there.0 oldest_there.1)

      pub sound-set : (r : Noted) (l : ℕ) (chains' : NodeLists) → AreNotedBy r.moment (in_turn oldest slots) → noted_as (name_of r) (in_turn oldest slots) ≡ None
          → l ≡ chain_of capacity (name_of r) → l < capacity + 7 → chains' ≡ with_list mid l (oldest ∷ list_at mid l) → lists.IsValid chains'
          → IsSound (set slots oldest r) (place_after oldest capacity) capacity space chains'
      sound-set r l chains' later apart is below new valid = record {
        some = s.some;
        most = s.most;
        reserved = s.reserved;
        oldest_in = elim (split_eq (oldest + 1) capacity) [ inl t ↦ rw t.1 (omega (arith, s.some)) | inr f ↦ rw f.1 (omega (arith, f.0, s.oldest_in)) ];
        turns = λ h. absurd (omega (arith, length-set slots oldest r, filled));
        chained = chained-set s.chained oldest oldest_there.0 oldest_there.1 r l chains' is below (rw removed_is at new) valid;
        valid = subst (λ (rs : List Noted). IsValid (record { capacity = capacity; records = rs })) (sym (turned_is r))
            (valid-turn (kept_in capacity oldest slots) r s.valid s.some later apart);
      }
