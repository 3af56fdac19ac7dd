-- That the chains hold the places of the records, after a record is noted.
use Rattle.std.proofs.Common.{◌≡◌, ℕ, ◌+◌, ◌<◌, inl, inr, List, [], ◌∷◌, ◌++◌, length, set, Some, sym, ◌∙◌, subst, arith, slice_get}
use Rattle.std.proofs.lemmas.List.{length-set, length-append}
use Rattle.std.proofs.lemmas.Option.{slice_get_within}
use Rattle.index_lists.specs.NodeLists as lists
use Rattle.index_lists.specs.NodeLists.{NodeLists, list_at, without, with_list, IsIn, IsFree}
use Rattle.index_lists.proofs.Linking.{split_eq}
use Rattle.retry_buffer.specs.declared.noted.Noted.{Noted}
use Rattle.retry_buffer.specs.Kept.{name_of}
use Rattle.retry_buffer.specs.Chains.{chain_of}
use Rattle.retry_buffer.specs.Fields.{AreChained}
use Rattle.retry_buffer.proofs.Places.{slice_get-push, slice_get-set_same, slice_get-set_other}
use Rattle.retry_buffer.proofs.Links.{in_front, in_front_kept, in_front_cases, out_kept, out_back, out_free}

module _ {slots : List Noted} {capacity : ℕ} {chains : NodeLists} (c : AreChained slots capacity chains) where
  -- a record is put at the end, and its place in front of its chain
  pub chained-push : (r : Noted) (l : ℕ) (chains' : NodeLists) → l ≡ chain_of capacity (name_of r) → l < capacity + 7
      → chains' ≡ with_list chains l (length slots ∷ list_at chains l) → lists.IsValid chains' → AreChained (slots ++ r ∷ []) capacity chains'
  chained-push r l chains' is below new valid =
      let there : l < length chains.lists = omega (arith, c.count) in
      rw new (record {
        nodes = c.nodes;
        count = length-set chains.lists l _ ∙ c.count;
        valid = subst lists.IsValid new valid;
        chained = λ place s at. elim (slice_get-push slots r place s at) [
          | inl last ↦ rw (last.0, ← last.1, ← is) (in_front chains l there (length slots))
          | inr before ↦ in_front_kept chains l there (length slots) _ place (c.chained place s before)
        ];
        used = λ m place h. elim (in_front_cases chains l there (length slots) m place h) [
          | inl last ↦ omega (arith, last, length-append slots (r ∷ []))
          | inr before ↦ omega (arith, c.used m place before, length-append slots (r ∷ []))
        ];
      })

  -- a record's place is taken out of the record's chain
  module _ (place : ℕ) (old : Noted) (at : slice_get slots place ≡ Some old) where
    -- the list in which the place is
    pub place_held : lists.IsHeld chains place
    place_held = (chain_of capacity (name_of old), c.chained place old at)

    -- the chains without the place
    abbrev pub rest : NodeLists
    rest = with_list chains (chain_of capacity (name_of old)) (without place (list_at chains (chain_of capacity (name_of old))))

    in_chains : chain_of capacity (name_of old) < length chains.lists
    in_chains = (c.valid.in_range _ place (c.chained place old at)).0

    pub rest_free : IsFree rest place
    rest_free = out_free chains (chain_of capacity (name_of old)) in_chains place c.valid (c.chained place old at)

    -- another record is put there, and the place in front of its chain
    pub chained-set : (r : Noted) (l : ℕ) (chains' : NodeLists) → l ≡ chain_of capacity (name_of r) → l < capacity + 7
        → chains' ≡ with_list rest l (place ∷ list_at rest l) → lists.IsValid chains' → AreChained (set slots place r) capacity chains'
    chained-set r l chains' is below new valid =
        let count : length rest.lists ≡ capacity + 7 = length-set chains.lists _ _ ∙ c.count in
        let there : l < length rest.lists = omega (arith, count) in
        rw new (record {
          nodes = c.nodes;
          count = length-set rest.lists l _ ∙ count;
          valid = subst lists.IsValid new valid;
          chained = λ q s there_q. elim (split_eq q place) [
            | inl t ↦
                let same : r ≡ s = slice_get-set_same slots r place s (rw t.0 at there_q) in
                rw (t.0, ← same, ← is) (in_front rest l there place)
            | inr f ↦
                let before : slice_get slots q ≡ Some s = sym (slice_get-set_other slots r place q f.0) ∙ there_q in
                in_front_kept rest l there place _ q (out_kept chains _ in_chains place _ q f.0 (c.chained q s before))
          ];
          used = λ m q h. elim (in_front_cases rest l there place m q h) [
            | inl same ↦ omega (arith, same, slice_get_within slots place old at, length-set slots place r)
            | inr before ↦ omega (arith, c.used m q (out_back chains _ in_chains place m q before), length-set slots place r)
          ];
        })
