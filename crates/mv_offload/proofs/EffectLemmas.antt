-- What the writes of a call change.
use Rattle.std.proofs.Common.{◌≡◌, ℕ, ◌+◌, ◌*◌, ◌<◌, ◌≤◌, ◌^◌, List, [], ◌∷◌, ◌++◌, length, inl, inr, sym, ap, subst, ◌∙◌, arith, slice_set}
use Rattle.std.proofs.lemmas.Bool.{cases_lt}
use Rattle.cl_types.specs.Bytes.{bytes_at, with_bytes}
use Rattle.mv_offload.specs.Versions.{version_count}
use Rattle.mv_offload.specs.Layout.{put_number, put_record, number_at, record_place, head_place, objects_of, count_of, last_of, number_of, link_of, size_of, bytes_of}
use Rattle.mv_offload.specs.Stored.{HasPages, IsStore, held_in, versions_at, list_of}
use Rattle.lemmas.proofs.Pieces.{AreApart, Leaves, leaves_put, leaves_then, leaves_wider, piece_put}
use Rattle.mv_offload.proofs.PlaceLemmas.{pages_left, number_put, number_leaves, number_left, bytes_left, record_above, records_apart, record_whole, first_whole}
use Rattle.mv_offload.proofs.StoreLemmas.{Keeps, keeps_then, keeps_left, first_apart, Creates, created_held, created_sound, Appends, appended_held, appended_sound}

-- ---- an empty store
-- what `init` leaves
pub record Empties (objects versions : ℕ) (new : List ℕ) : Type 0 where
  pub store : IsStore objects versions new
  pub held : held_in new ≡ []

-- two counts of 0 are a store without an object
pub emptied : {objects versions : ℕ} (old mid new : List ℕ) → HasPages objects versions old → mid ≡ put_number 0 0 old → new ≡ put_number 2 0 mid → Empties objects versions new
emptied {objects} {versions} old mid new has is_mid is_new =
    let whole = first_whole has in
    let first : Leaves 0 2 old mid = rw is_mid (number_leaves 0 0 old (omega arith)) in
    let next : Leaves 2 2 mid new = rw is_new (number_leaves 2 0 mid (omega (arith, first.long))) in
    let none : objects_of new ≡ 0 = number_left next 0 (inl (omega arith)) ∙ ap (number_at 0) is_mid ∙ number_put 0 0 old (omega arith) (omega arith) in
    let zero : count_of new ≡ 0 = ap (number_at 2) is_new ∙ number_put 2 0 mid (omega arith) (omega (arith, first.long)) in
    let held : held_in new ≡ [] = ap (λ n. list_of n (versions_at new)) none in
    record {
      held = held;
      store = record {
        pages = pages_left next (pages_left first has);
        sound = record {
          few_objects = omega arith;
          few_versions = omega arith;
          last = λ index less. absurd (omega arith);
          number = λ index less. absurd (omega arith);
          link = λ slot less. absurd (omega arith);
          size = λ slot less. absurd (omega arith);
          counted = zero ∙ sym (ap version_count held);
        };
      };
    }

-- ---- a new object
-- what `create` leaves
pub record Created (objects versions : ℕ) (old new : List ℕ) : Type 0 where
  pub store : IsStore objects versions new
  pub held : held_in new ≡ held_in old ++ [] ∷ []

-- a new head and the count are a new object
pub created : {objects versions : ℕ} (index : ℕ) (old seen mid new : List ℕ) → IsStore objects versions old → seen ≡ old
    → mid ≡ put_number (head_place index + 2) 0 (put_number (head_place index) 0 seen) → new ≡ put_number 0 (index + 1) mid
    → index ≡ objects_of old → index < objects → Created objects versions old new
created {objects} {versions} index old seen mid new store same is_mid is_new is_index room =
    let has = store.pages in
    let whole = first_whole has in
    let started : List ℕ = put_number (head_place index) 0 old in
    let is_head : mid ≡ put_number (head_place index + 2) 0 started = is_mid ∙ ap (λ c. put_number (head_place index + 2) 0 (put_number (head_place index) 0 c)) same in
    let last_leaves : Leaves (4 + 4 * index) 2 old started = number_leaves (head_place index) 0 old (omega arith) in
    let held_leaves : Leaves (4 + 4 * index + 2) 2 started mid = rw is_head (number_leaves (head_place index + 2) 0 started (omega (arith, last_leaves.long))) in
    let head : Leaves (4 + 4 * index) 4 old mid = leaves_then (leaves_wider (4 + 4 * index) 4 (omega arith) (omega arith) last_leaves) (leaves_wider (4 + 4 * index) 4 (omega arith) (omega arith) held_leaves) in
    let count_leaves : Leaves 0 2 mid new = rw is_new (number_leaves 0 (index + 1) mid (omega (arith, head.long))) in
    let all : Leaves 0 4096 old new = leaves_then (leaves_wider 0 4096 (omega arith) (omega (arith, has.few_objects)) head) (leaves_wider 0 4096 (omega arith) (omega arith) count_leaves) in
    let last_is : last_of started index ≡ 0 = number_put (head_place index) 0 old (omega arith) (omega arith) in
    let number_is : number_of mid index ≡ 0 = ap (number_at (head_place index + 2)) is_head ∙ number_put (head_place index + 2) 0 started (omega arith) (omega (arith, last_leaves.long)) in
    let creates : Creates old new = record {
      objects = ap (number_at 0) is_new ∙ number_put 0 (index + 1) mid (omega (arith, has.few_objects)) (omega (arith, head.long)) ∙ ap (λ n. n + 1) is_index;
      count = number_left count_leaves 2 (inr (omega arith)) ∙ number_left head 2 (inl (omega arith));
      last = ap (last_of new) (sym is_index) ∙ number_left count_leaves (head_place index) (inr (omega arith)) ∙ number_left held_leaves (head_place index) (inl (omega arith)) ∙ last_is;
      number = ap (number_of new) (sym is_index) ∙ number_left count_leaves (head_place index + 2) (inr (omega arith)) ∙ number_is;
      lasts = λ other less. number_left count_leaves (head_place other) (inr (omega arith)) ∙ number_left head (head_place other) (inl (omega (arith, is_index)));
      numbers = λ other less. number_left count_leaves (head_place other + 2) (inr (omega arith)) ∙ number_left head (head_place other + 2) (inl (omega (arith, is_index)));
      keeps = keeps_left all (count_of old) store.sound.size (λ slot less. first_apart 0 4096 slot (omega arith));
    } in
    record {
      store = record { pages = pages_left all has; sound = created_sound store creates (omega (arith, is_index)) };
      held = created_held store creates;
    }

-- ---- a new version
-- what `append` leaves
pub record Appended (objects versions index : ℕ) (bytes old new : List ℕ) : Type 0 where
  pub store : IsStore objects versions new
  pub held : held_in new ≡ slice_set (held_in old) index (versions_at old index ++ bytes ∷ [])

-- what a record holds once it is written
record Written (slot before : ℕ) (bytes old new : List ℕ) : Type 0 where
  pub leaves : Leaves (record_place slot) 260 old new
  pub link : link_of new slot ≡ before
  pub size : size_of new slot ≡ length bytes
  pub text : bytes_of new slot ≡ bytes

-- a record that is written holds what was written
written : (slot before : ℕ) (bytes old : List ℕ) → record_place slot + 260 ≤ length old → before < 2 ^ 16 → length bytes ≤ 256 → Written slot before bytes old (put_record slot before bytes old)
unfolding bytes_of
written slot before bytes old within small short =
    let place : ℕ = record_place slot in
    let linked : List ℕ = put_number place before old in
    let sized : List ℕ = put_number (place + 2) (length bytes) linked in
    let filled : List ℕ = with_bytes (place + 4) bytes sized in
    let link_leaves : Leaves place 2 old linked = number_leaves place before old (omega arith) in
    let size_leaves : Leaves (place + 2) 2 linked sized = number_leaves (place + 2) (length bytes) linked (omega (arith, link_leaves.long)) in
    let text_leaves : Leaves (place + 4) (length bytes) sized filled = leaves_put (place + 4) bytes sized (omega (arith, link_leaves.long, size_leaves.long)) in
    let link : link_of filled slot ≡ before = number_left text_leaves place (inl (omega arith)) ∙ number_left size_leaves place (inl (omega arith)) ∙ number_put place before old small (omega arith) in
    let size : size_of filled slot ≡ length bytes = number_left text_leaves (place + 2) (inl (omega arith)) ∙ number_put (place + 2) (length bytes) linked (omega arith) (omega (arith, link_leaves.long)) in
    record {
      leaves = leaves_then (leaves_wider place 260 (omega arith) (omega arith) link_leaves)
          (leaves_then (leaves_wider place 260 (omega arith) (omega arith) size_leaves) (leaves_wider place 260 (omega arith) (omega arith) text_leaves));
      link = link;
      size = size;
      text = ap (λ n. bytes_at (place + 4) n filled) size ∙ piece_put (place + 4) bytes sized (omega (arith, link_leaves.long, size_leaves.long));
    }

-- a new record, its object's head and the count are a new version
pub appended : {objects versions : ℕ} (index slot number before : ℕ) (bytes old seen wrote_record wrote_head new : List ℕ) → IsStore objects versions old → seen ≡ old
    → wrote_record ≡ put_record slot before bytes seen
    → wrote_head ≡ put_number (head_place index + 2) (number + 1) (put_number (head_place index) (slot + 1) wrote_record)
    → new ≡ put_number 2 (slot + 1) wrote_head
    → index < objects_of old → slot ≡ count_of old → slot < versions → number ≡ number_of old index → before ≡ last_of old index
    → number < 4096 → before < 2 ^ 16 → length bytes ≤ 256 → Appended objects versions index bytes old new
appended {objects} {versions} index slot number before bytes old seen wrote_record wrote_head new store same is_record is_head is_count there is_slot room is_number is_before few small short =
    let has = store.pages in
    let sound = store.sound in
    let whole = record_whole has slot room in
    let start = first_whole has in
    let high = record_above slot in
    let few_index : index < 256 = omega (arith, sound.few_objects, has.few_objects) in
    let wrote : Written slot before bytes old wrote_record = subst (Written slot before bytes old) (sym (is_record ∙ ap (put_record slot before bytes) same)) (written slot before bytes old whole small short) in
    let long = wrote.leaves.long in
    let mid : List ℕ = put_number (head_place index) (slot + 1) wrote_record in
    let last_leaves : Leaves (4 + 4 * index) 2 wrote_record mid = number_leaves (head_place index) (slot + 1) wrote_record (omega arith) in
    let held_leaves : Leaves (4 + 4 * index + 2) 2 mid wrote_head = rw is_head (number_leaves (head_place index + 2) (number + 1) mid (omega (arith, last_leaves.long))) in
    let head : Leaves (4 + 4 * index) 4 wrote_record wrote_head = leaves_then (leaves_wider (4 + 4 * index) 4 (omega arith) (omega arith) last_leaves) (leaves_wider (4 + 4 * index) 4 (omega arith) (omega arith) held_leaves) in
    let count_leaves : Leaves 2 2 wrote_head new = rw is_count (number_leaves 2 (slot + 1) wrote_head (omega (arith, head.long))) in
    let first : Leaves 0 4096 wrote_record new = leaves_then (leaves_wider 0 4096 (omega arith) (omega arith) head) (leaves_wider 0 4096 (omega arith) (omega arith) count_leaves) in
    let link_apart : AreApart (record_place slot) 2 0 4096 = inr (omega arith) in
    let size_apart : AreApart (record_place slot + 2) 2 0 4096 = inr (omega arith) in
    let short_size : size_of wrote_record slot ≤ 256 = omega (arith, wrote.size) in
    let kept : Keeps (count_of old) old wrote_record = keeps_left wrote.leaves (count_of old) sound.size (λ other less. records_apart other slot (omega (arith, is_slot))) in
    let keeps : Keeps (count_of old) old new = keeps_then kept
    (keeps_left first (count_of old) (λ other less. let e = kept.size other less in let h = sound.size other less in omega arith) (λ other less. first_apart 0 4096 other (omega arith))) in
    let appends : Appends index bytes old new = record {
      objects = number_left count_leaves 0 (inl (omega arith)) ∙ number_left head 0 (inl (omega arith)) ∙ number_left wrote.leaves 0 (inl (omega arith));
      count = ap (number_at 2) is_count ∙ number_put 2 (slot + 1) wrote_head (omega (arith, has.few_versions)) (omega (arith, head.long)) ∙ ap (λ n. n + 1) is_slot;
      last = number_left count_leaves (head_place index) (inr (omega arith)) ∙ number_left held_leaves (head_place index) (inl (omega arith))
          ∙ number_put (head_place index) (slot + 1) wrote_record (omega (arith, has.few_versions)) (omega arith) ∙ ap (λ n. n + 1) is_slot;
      number = number_left count_leaves (head_place index + 2) (inr (omega arith)) ∙ ap (number_at (head_place index + 2)) is_head
          ∙ number_put (head_place index + 2) (number + 1) mid (omega arith) (omega (arith, last_leaves.long)) ∙ ap (λ n. n + 1) is_number;
      lasts = λ other less ne. number_left count_leaves (head_place other) (inr (omega arith))
          ∙ number_left head (head_place other) (elim (cases_lt other index) [ inl below ↦ inl (omega arith) | inr above ↦ inr (omega (arith, ne)) ])
          ∙ number_left wrote.leaves (head_place other) (inl (omega (arith, sound.few_objects, has.few_objects)));
      numbers = λ other less ne. number_left count_leaves (head_place other + 2) (inr (omega arith))
          ∙ number_left head (head_place other + 2) (elim (cases_lt other index) [ inl below ↦ inl (omega arith) | inr above ↦ inr (omega (arith, ne)) ])
          ∙ number_left wrote.leaves (head_place other + 2) (inl (omega (arith, sound.few_objects, has.few_objects)));
      link = ap (link_of new) (sym is_slot) ∙ number_left first (record_place slot) link_apart ∙ wrote.link ∙ is_before;
      size = ap (size_of new) (sym is_slot) ∙ number_left first (record_place slot + 2) size_apart ∙ wrote.size;
      text = ap (bytes_of new) (sym is_slot) ∙ bytes_left first slot short_size (first_apart 0 4096 slot (omega arith)) ∙ wrote.text;
      keeps = keeps;
    } in
    record {
      store = record { pages = pages_left first (pages_left wrote.leaves has); sound = appended_sound store appends there (omega (arith, is_slot)) short };
      held = appended_held store appends there;
    }
