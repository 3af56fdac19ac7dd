-- A call on the space of an offload leaves all else, and is the Offload of the flat state.
use Rattle.std.proofs.Common.{◌≡◌, ◌≢◌, ℕ, ◌+◌, ◌*◌, ◌==◌, Bool, true, false, not, inl, inr, List, [], ◌∷◌, Option, Some, None, IfSome, Result, IfErr, length, ◌<◌, ◌≤◌, slice_get, slice_set, refl, sym, ap, ◌∙◌, subst, arith}
use Rattle.std.specs.List.{flat_map, range_with_len}
use Rattle.std.specs.FinMap.Entries.{find}
use Rattle.std.specs.Prelude.{slice_index_or}
use Rattle.std.proofs.lemmas.Bool.{cases_Bool}
use Rattle.std.proofs.lemmas.Bool.Decides.{nat_tests}
use Rattle.std.proofs.lemmas.Option.{slice_get_past}
use Rattle.cl_types.specs.declared.config.OffloadConfig.{OffloadConfig}
use Rattle.cl_types.specs.declared.page.Pte.{Pte}
use Rattle.cl_types.specs.declared.reply.Refusal.{Refusal}
use Rattle.cl_types.specs.declared.reply.Refusal.TheVariants.{NoOffload}
use Rattle.cl_types.specs.declared.request.Request.TheVariants as request
use Rattle.cl_types.specs.Bytes.{over, zeros}
use Rattle.cl_types.specs.Places.{Place, place_cmp, is_process, space_no}
use Rattle.data_path.specs.declared.store.PageStore.{PageStore}
use Rattle.data_path.specs.Spaces.{bytes_or_none, contents_of}
use Rattle.data_path.specs.Store.{IsWhole, flat_of, memory_of, pages_in, spans_in}
use Rattle.data_path.proofs.Offloads.{is_offload as offload_space}
use Rattle.flat_model.specs.Objects.{Object}
use Rattle.flat_model.specs.Rows.{keys}
use Rattle.flat_model.specs.State.{FlatState, Page}
use Rattle.flat_model.specs.Step.{offload, outcome, refused}
use Rattle.offload_host.specs.Held.{HoldsObject, TakesStep, object_of}
use Rattle.offload_host.specs.Laws.{replied}
use Rattle.offload_host.proofs.LawLemmas.{call_is_offload}
use Rattle.page_pool.specs.PoolPages.{IsReady}
use Rattle.node_core.specs.Stores.{ChangesSpace, IsStore, objects_in, state_in}
use Rattle.node_core.proofs.Memories.{no_object}
use Rattle.node_core.proofs.ObjectLists.{no_object_there, none_past, object_set, object_there}
use Rattle.node_core.proofs.Parted.{of_offload, of_process}
use Rattle.node_core.proofs.Parts.{find-where, where-within, where_place}

-- the pages of all spaces but offload k's
abbrev elsewhere : ℕ → Place → Bool
elsewhere k place = not (place.0 == space_no k)

-- the offloads' pages, by the entries of the table
offload_pages_named : (arena : List (List ℕ)) (es : List (Place × Pte)) → keys (where_place of_offload (pages_in arena es)) ≡ keys (where_place of_offload es)
offload_pages_named arena [] = refl
offload_pages_named arena (e ∷ es) = elim (cases_Bool (of_offload e.0)) [
  | inl t ↦ rw t (ap (λ l. e.0 ∷ l) (offload_pages_named arena es))
  | inr f ↦ rw f (offload_pages_named arena es)
]

-- a page of a process isn't one of an offload
process_elsewhere : (k : ℕ) (place : Place) → is_process place.0 ≡ true → elsewhere k place ≡ true
process_elsewhere k place process = elim (cases_Bool (place.0 == space_no k)) [
  | inl one ↦ absurd (let same : place.0 ≡ 65280 + k = grind (arith, nat_tests) in let wrong : true ≡ false = sym process ∙ ap is_process same ∙ offload_space k in cc)
  | inr two ↦ rw two refl
]

other_elsewhere : (k j page : ℕ) → j ≢ k → elsewhere k (space_no j, page) ≡ true
other_elsewhere k j page other = elim (cases_Bool (space_no j == space_no k)) [
  | inl one ↦ absurd (other (let same : 65280 + j ≡ 65280 + k = grind (arith, nat_tests) in omega (arith, same)))
  | inr two ↦ rw two refl
]

-- a number past the offloads has no object
pub past_is_refused : (offloads : List OffloadConfig) (s : PageStore) (k pid op most : ℕ) (bytes : List ℕ) → length offloads ≤ k
    → outcome (state_in offloads s) pid (request.Offload k op most bytes) ≡ refused (state_in offloads s) NoOffload
past_is_refused offloads s k pid op most bytes past =
    no_object (state_in offloads s) pid k op most bytes (no_object_there (λ j. contents_of j s) 0 offloads k (slice_get_past offloads k past))

module _ (k : ℕ) (s t : PageStore) (beside : ChangesSpace k s t) where
  -- a page elsewhere is as it was
  page_elsewhere : (place : Place) → elsewhere k place ≡ true → find place_cmp place (memory_of t).map ≡ find place_cmp place (memory_of s).map
  page_elsewhere place other =
      let found : (m : List (Place × Page)) → find place_cmp place (where_place (elsewhere k) m) ≡ find place_cmp place m =
      λ m. find-where (elsewhere k) place m ∙ rw other refl in
      sym (found (memory_of t).map) ∙ ap (find place_cmp place) beside.others ∙ found (memory_of s).map

  -- so are the bytes of another offload
  pub contents_elsewhere : (j : ℕ) → j ≢ k → contents_of j t ≡ contents_of j s
  contents_elsewhere j other = λ i.
      over (zeros (slice_index_or (beside.spaces i) j 0 * 4096))
      (flat_map (λ page. bytes_or_none (page_elsewhere (space_no j, page) (other_elsewhere k j page other) i)) (range_with_len 1 (slice_index_or (beside.spaces i) j 0)))

  -- and what the node sees of the pages
  pub flat_elsewhere : (objects : List Object) → flat_of objects (memory_of t) ≡ flat_of objects (memory_of s)
  flat_elsewhere objects =
      let within : (m : List (Place × Page)) → where_place of_process (where_place (elsewhere k) m) ≡ where_place of_process m =
      λ m. where-within of_process (elsewhere k) m (process_elsewhere k) in
      let map_is : where_place of_process (memory_of t).map ≡ where_place of_process (memory_of s).map =
      sym (within (memory_of t).map) ∙ ap (where_place of_process) beside.others ∙ within (memory_of s).map in
      let held_is : keys (where_place of_offload (memory_of t).map) ≡ keys (where_place of_offload (memory_of s).map) =
      offload_pages_named t.arena t.table.entries ∙ (λ i. keys (where_place of_offload (beside.table i).entries)) ∙ sym (offload_pages_named s.arena s.table.entries) in
      λ i. record {
        map = map_is i;
        ranges = where_place of_process (spans_in (beside.table i).entries);
        objects = objects;
        held = held_is i;
        pages = (beside.pool i).pages;
        buckets = (beside.table i).buckets;
      }

  -- the others' objects stay
  pub objects_elsewhere : (offloads : List OffloadConfig) → IsStore s offloads → IsWhole t → IsReady t.pool
      → IfSome (slice_get offloads k) (λ one. HoldsObject one (contents_of k t)) → IsStore t offloads
  objects_elsewhere offloads is whole ready holds = record {
    whole = whole;
    ready = ready;
    spaces = beside.spaces ∙ is.spaces;
    objects = λ j. elim (cases_Bool (j == k)) [
      | inl one ↦ (let same : k ≡ j = grind (arith, nat_tests) in subst (λ n. IfSome (slice_get offloads n) (λ one. HoldsObject one (contents_of n t))) same holds)
      | inr two ↦ (let other : j ≢ k = λ is. let wrong : (j == k) ≡ true = grind (arith, nat_tests) in cc in
          subst (λ bytes. IfSome (slice_get offloads j) (λ one. HoldsObject one bytes)) (sym (contents_elsewhere j other)) (is.objects j))
    ];
  }

  -- a step of its object is the flat state's Offload
  pub step_is_offload : (offloads : List OffloadConfig) (op most : ℕ) (bytes : List ℕ) (one : OffloadConfig) (result : Result ℕ Refusal) (answer : List ℕ)
      → slice_get offloads k ≡ Some one → TakesStep one (contents_of k s) op bytes result answer (contents_of k t) → IfErr result (λ _. contents_of k t ≡ contents_of k s)
      → offload (state_in offloads s) k op most bytes ≡ record { reply = replied most result answer; state = state_in offloads t }
  step_is_offload offloads op most bytes one result answer there steps kept =
      let first : 0 + k ≡ k = omega arith in
      let old : ℕ → List ℕ = λ j. contents_of j s in
      let new : ℕ → List ℕ = λ j. contents_of j t in
      let object_is : slice_get (objects_in offloads s) k ≡ Some (object_of one (contents_of k s)) =
      object_there old 0 offloads k one there ∙ ap (λ m. Some (object_of one (contents_of m s))) first in
      let objects_are : objects_in offloads t ≡ slice_set (objects_in offloads s) k (object_of one (contents_of k t)) =
      object_set old new 0 offloads k one there (λ j other. contents_elsewhere j (λ is. other (is ∙ sym first)))
      ∙ ap (λ m. slice_set (objects_in offloads s) k (object_of one (contents_of m t))) first in
      call_is_offload (state_in offloads s) k op most bytes one (contents_of k s) (contents_of k t) result answer object_is steps kept
      ∙ ap (λ (f : FlatState). record { reply = replied most result answer; state = f })
      (sym (ap (λ (os : List Object). flat_of os (memory_of t)) objects_are ∙ flat_elsewhere (slice_set (objects_in offloads s) k (object_of one (contents_of k t)))))

  -- the same, by what is told of the offload that is there
  pub call_is_outcome : (offloads : List OffloadConfig) (op most : ℕ) (bytes : List ℕ) (result : Result ℕ Refusal) (answer : List ℕ) → k < length offloads
      → IfSome (slice_get offloads k) (λ one. TakesStep one (contents_of k s) op bytes result answer (contents_of k t)) → IfErr result (λ _. contents_of k t ≡ contents_of k s)
      → offload (state_in offloads s) k op most bytes ≡ record { reply = replied most result answer; state = state_in offloads t }
  call_is_outcome offloads op most bytes result answer within told kept = at (slice_get offloads k) refl told
    where
      at : (o : Option OffloadConfig) → slice_get offloads k ≡ o → IfSome o (λ one. TakesStep one (contents_of k s) op bytes result answer (contents_of k t))
          → offload (state_in offloads s) k op most bytes ≡ record { reply = replied most result answer; state = state_in offloads t }
      at None none steps = absurd (omega (arith, within, none_past offloads k none))
      at (Some one) there steps = step_is_offload offloads op most bytes one result answer there steps kept
