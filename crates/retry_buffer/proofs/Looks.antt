-- What `look` finds along a chain.
use Rattle.std.proofs.Common.{◌≡◌, ℕ, ◌<◌, true, false, ◌⊎◌, inl, inr, List, ◌∷◌, length, get_or, Option, Some, None, refl, sym, ap, ◌∙◌, arith, slice_get, nat_eq}
use Rattle.std.specs.List.{IsDistinct}
use Rattle.std.proofs.lemmas.Bool.{cases_Bool}
use Rattle.std.proofs.lemmas.Option.{slice_get_read}
use Rattle.index_lists.specs.NodeLists.{NodeLists, has, list_at, after, IsIn}
use Rattle.index_lists.proofs.Linking.{split_eq}
use Rattle.node_model.specs.Nodes.{Name, same_name}
use Rattle.retry_buffer.specs.declared.noted.Noted.{Noted}
use Rattle.retry_buffer.specs.Kept.{name_of, noted_as}
use Rattle.retry_buffer.specs.Chains.{chain_of}
use Rattle.retry_buffer.specs.Fields.{in_turn, AreChained, IsSound}
use Rattle.retry_buffer.proofs.Names.{same_name_is}
use Rattle.retry_buffer.proofs.Records.{one_of_place, place_of_one, one_found, none_found}
use Rattle.retry_buffer.proofs.Turns.{one_in_turn, one_at_place}
use Rattle.index_lists.proofs.Walks.{rest_from, IsWithin, first_within, after_within, rest_from-first, rest_from-after}

-- the walk along these places stands here, and what it has passed has other names
pub record IsPassed (slots : List Noted) (name : Name) (places : List ℕ) (at : Option ℕ) : Type 0 where
  pub within : IsWithin at places
  pub passed : (place : ℕ) (r : Noted) → has places place ≡ true → slice_get slots place ≡ Some r
      → (has (rest_from at places) place ≡ true) ⊎ (same_name name (name_of r) ≡ false)

-- it begins with all before it
pub passed-first : (slots : List Noted) (name : Name) (places : List ℕ) → IsPassed slots name places (slice_get places 0)
passed-first slots name places = record {
  within = first_within places;
  passed = λ place r h at. inl (rw (rest_from-first places) h);
}

-- and steps on where the record has another name
pub passed-after : {slots : List Noted} {name : Name} {places : List ℕ} (place : ℕ) (r : Noted) → IsPassed slots name places (Some place) → IsDistinct nat_eq places
    → slice_get slots place ≡ Some r → same_name name (name_of r) ≡ false → IsPassed slots name places (after place places)
passed-after {slots} {name} {places} place r p distinct here other = record {
  within = after_within place places;
  passed = λ q s h at. elim (p.passed q s h at) [
    | inr apart ↦ inr apart
    | inl ahead ↦
        let split : has (place ∷ rest_from (after place places) places) q ≡ true = ap (λ ps. has ps q) (sym (rest_from-after place places distinct p.within)) ∙ ahead in
        elim (split_eq q place) [
          | inl t ↦ inr (let same : r ≡ s = let both = sym here ∙ rw t.0 at at in cc in rw (← same) other)
          | inr f ↦ inl (rw f.1 at split)
        ]
  ];
}

-- what the walk has before it grows less
pub rest_smaller : {slots : List Noted} {name : Name} {places : List ℕ} (place : ℕ) → IsPassed slots name places (Some place) → IsDistinct nat_eq places
    → length (rest_from (after place places) places) < length (rest_from (Some place) places)
rest_smaller {places = places} place p distinct = rw (rest_from-after place places distinct p.within) (omega arith)

-- what is read at the place where it stands
pub read_there : {slots : List Noted} {capacity : ℕ} {chains : NodeLists} {name : Name} → AreChained slots capacity chains → (l place : ℕ) (r : Noted)
    → IsPassed slots name (list_at chains l) (Some place) → r ≡ get_or slots place r → slice_get slots place ≡ Some r
read_there {slots} c l place r p read = slice_get_read slots (length slots) place r refl (c.used l place p.within) read

module _ {slots : List Noted} {oldest capacity space : ℕ} {chains : NodeLists} (s : IsSound slots oldest capacity space chains) (name : Name) where
  -- a walk that has passed all finds what there is: nothing
  pub nothing_found : (l : ℕ) → l ≡ chain_of capacity name → IsPassed slots name (list_at chains l) None → noted_as name (in_turn oldest slots) ≡ None
  nothing_found l is p = none_found name (in_turn oldest slots) (λ r one.
      let there = place_of_one slots r (one_at_place slots oldest r one) in
      elim (cases_Bool (same_name name (name_of r))) [
        | inr other ↦ other
        | inl same ↦
            let here : IsIn chains l there.0 = rw (is, same_name_is name (name_of r) same) (s.chained.chained there.0 r there.1) in
            elim (p.passed there.0 r here there.1) [ inl ahead ↦ absurd cc | inr other ↦ other ]
      ])

  -- a record of the name, at whatever place, is the one that there is
  pub something_found : (place : ℕ) (r : Noted) → slice_get slots place ≡ Some r → same_name name (name_of r) ≡ true
      → noted_as name (in_turn oldest slots) ≡ Some r
  something_found place r at same = one_found name (in_turn oldest slots) r s.valid.apart (one_in_turn slots oldest r (one_of_place slots place r at)) same
