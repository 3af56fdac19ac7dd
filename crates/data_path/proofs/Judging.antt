-- What a configuration gives that opens.
use Rattle.std.proofs.Common.{◌≡◌, ℕ, zero, suc, ◌+◌, ◌<◌, ◌≤◌, Bool, true, false, not, cond, leb, inl, inr, List, [], ◌∷◌, ◌++◌, map, take, get_or, length, Option, Some, None, option_map, refl, sym, ap, ◌∙◌, subst, arith}
use Rattle.std.specs.List.{find, range_with_len}
use Rattle.std.proofs.lemmas.Bool.{cases_Bool, and_parts, not-false}
use Rattle.std.proofs.lemmas.Bool.Decides.{nat_tests}
use Rattle.cl_types.specs.declared.config.Field.{Field}
use Rattle.cl_types.specs.declared.config.NodeConfig.{NodeConfig}
use Rattle.cl_types.specs.declared.config.OffloadConfig.{OffloadConfig}
use Rattle.std.proofs.lemmas.List.{length-map, length-take, take_all}
use Rattle.cl_types.specs.Config.{bad_number_of, first_bad, judged_offload, offload_pages}
use Rattle.cl_types.specs.declared.open_fault.OpenFault.{OpenFault}
use Rattle.flat_model.specs.Opening.{first_without_room, has_room, held_by, if_none_bad, open_fault, room_fault}
use Rattle.flat_model.specs.Rows.{AreFourAtMost}
use Rattle.flat_model.proofs.OpeningLemmas.{few_offloads, few_read, four_held, good_offload}
use Rattle.data_path.specs.Store.{held_places}
use Rattle.data_path.proofs.Opened.{held-map}

neither : (number : Option (Field × ℕ)) (fault : Option OpenFault) → if_none_bad number fault ≡ None → (number ≡ None) × (fault ≡ None)
neither None fault none = (refl, none)
neither (Some number) fault none = absurd cc

pub no_bad_number : (c : NodeConfig) → open_fault c ≡ None → bad_number_of c ≡ None
no_bad_number c none = (neither (bad_number_of c) (room_fault c) none).0

unmapped_none : {A B : Type 0} (f : A → B) (o : Option A) → option_map f o ≡ None → o ≡ None
unmapped_none f None none = refl
unmapped_none f (Some x) none = absurd cc

not_found : (test : ℕ → Bool) (start n k : ℕ) → find test (range_with_len start n) ≡ None → k < n → test (start + k) ≡ false
not_found test start zero k none within = absurd (omega (arith, within))
not_found test start (suc n) zero none within = elim (cases_Bool (test start)) [
  | inl t ↦ absurd (let found = ap (λ (b : Bool). cond b (Some start) (find test (range_with_len (start + 1) n))) t in let both = sym found ∙ none in cc)
  | inr f ↦ ap test (let e : start + 0 ≡ start = omega arith in e) ∙ f
]
not_found test start (suc n) (suc k) none within = elim (cases_Bool (test start)) [
  | inl t ↦ absurd (let found = ap (λ (b : Bool). cond b (Some start) (find test (range_with_len (start + 1) n))) t in let both = sym found ∙ none in cc)
  | inr f ↦
      let rest = sym (ap (λ (b : Bool). cond b (Some start) (find test (range_with_len (start + 1) n))) f) ∙ none in
      ap test (let e : start + suc k ≡ (start + 1) + k = omega arith in e) ∙ not_found test (start + 1) n k rest (omega (arith, within))
]

room_there : (c : NodeConfig) (k : ℕ) → open_fault c ≡ None → k < length c.offloads → has_room c (held_by c (k + 1)) ≡ true
room_there c k none within =
    let first : first_without_room c ≡ None = unmapped_none _ (first_without_room c) (neither (bad_number_of c) (room_fault c) none).1 in
    let lacks : ℕ → Bool = λ j. not (has_room c (held_by c (j + 1))) in
    not-false (has_room c (held_by c (k + 1))) (ap lacks (let e : k ≡ 0 + k = omega arith in e) ∙ not_found lacks 0 (length c.offloads) k first within)

pub spaces_next : (offloads : List OffloadConfig) (k : ℕ) (d : OffloadConfig) → k < length offloads
    → map offload_pages (take k offloads) ++ offload_pages (get_or offloads k d) ∷ [] ≡ map offload_pages (take (k + 1) offloads)
spaces_next [] k d within = absurd (omega (arith, within))
spaces_next (offload ∷ offloads) zero d within = refl
spaces_next (offload ∷ offloads) (suc k) d within =
    ap (λ l. offload_pages offload ∷ l) (spaces_next offloads k d (omega (arith, within)))
    ∙ ap (λ m. map offload_pages (take m (offload ∷ offloads))) (let e : suc (k + 1) ≡ suc k + 1 = omega arith in e)

module _ (c : NodeConfig) (k : ℕ) (spaces : List ℕ) (none : open_fault c ≡ None) (within : k < length c.offloads) (are : spaces ≡ map offload_pages (take (k + 1) c.offloads)) where
  held_is : held_places 0 spaces ≡ held_by c (k + 1)
  held_is = ap (held_places 0) are ∙ held-map 0 (take (k + 1) c.offloads)

  -- the pages up to those of this offload go into the buckets
  pub four_there : (buckets : ℕ) → buckets ≡ c.buckets → AreFourAtMost buckets (held_places 0 spaces)
  four_there buckets same =
      subst (λ (b : ℕ). AreFourAtMost b (held_places 0 spaces)) (sym same)
      (subst (AreFourAtMost c.buckets) (sym held_is) (four_held c (k + 1) (no_bad_number c none) (room_there c k none within)))

  -- and into the node
  pub enough_there : (pages : ℕ) → pages ≡ c.pages → length (held_places 0 spaces) ≤ pages
  enough_there pages same =
      let few : leb (length (held_by c (k + 1))) c.pages ≡ true = (and_parts _ _ (room_there c k none within)).0 in
      let most : length (held_by c (k + 1)) ≤ c.pages = grind (arith, nat_tests) in
      omega (arith, most, ap length held_is, same)

-- ---- the next offload
module _ (c : NodeConfig) (lent : List OffloadConfig) (k pages : ℕ) (d : OffloadConfig) (none : open_fault c ≡ None) (same : lent ≡ c.offloads) (within : k < length lent) where
  inside : k < length c.offloads
  inside = omega (arith, within, ap length same)

  pub good_there : first_bad (judged_offload (get_or lent k d)) ≡ None
  good_there = subst (λ (os : List OffloadConfig). first_bad (judged_offload (get_or os k d)) ≡ None) (sym same) (good_offload c k d (no_bad_number c none) inside)

  pub few_there : pages ≡ offload_pages (get_or lent k d) → pages ≤ 317
  few_there read = few_read c lent k d pages (no_bad_number c none) same inside read

  pub count_there : (spaces : List ℕ) → spaces ≡ map offload_pages (take k c.offloads) → length spaces < 16
  count_there spaces are =
      omega (arith, inside, few_offloads c (no_bad_number c none), ap length are, length-map (take k c.offloads) offload_pages, length-take k c.offloads)

  pub spaces_there : (spaces : List ℕ) → spaces ≡ map offload_pages (take k c.offloads) → pages ≡ offload_pages (get_or lent k d) → spaces ++ pages ∷ [] ≡ map offload_pages (take (k + 1) c.offloads)
  spaces_there spaces are read =
      (λ i. are i ++ (read ∙ ap (λ (os : List OffloadConfig). offload_pages (get_or os k d)) same) i ∷ []) ∙ spaces_next c.offloads k d inside

-- all offloads
pub spaces_all : (c : NodeConfig) (lent : List OffloadConfig) (k : ℕ) (spaces : List ℕ) → lent ≡ c.offloads → length lent ≤ k → spaces ≡ map offload_pages (take k c.offloads) → spaces ≡ map offload_pages c.offloads
spaces_all c lent k spaces same past are = are ∙ ap (map offload_pages) (take_all k c.offloads (omega (arith, past, ap length same)))
