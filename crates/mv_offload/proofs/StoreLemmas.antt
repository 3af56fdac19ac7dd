-- What the writes of a call make of the objects.
use Rattle.std.proofs.Common.{◌≡◌, ◌≢◌, ℕ, suc, ◌+◌, ◌<◌, ◌≤◌, List, [], ◌∷◌, ◌++◌, length, inl, inr, refl, sym, ap, ◌∙◌, arith, length-append, slice_set}
use Rattle.std.proofs.lemmas.Bool.{cases_eq, cases_lt}
use Rattle.std.proofs.lemmas.List.Sums.{sum_by_push}
use Rattle.mv_offload.specs.Versions.{version_count}
use Rattle.mv_offload.specs.Layout.{record_place, objects_of, count_of, last_of, number_of, link_of, size_of, bytes_of}
use Rattle.mv_offload.specs.Stored.{IsStore, IsSound, held_in, versions_at, versions_up, list_of}
use Rattle.mv_offload.proofs.HeldLemmas.{list_of-same, list_of-more, list_of-set, count-list_of, same_versions}
use Rattle.lemmas.proofs.Pieces.{AreApart, Leaves}
use Rattle.mv_offload.proofs.PlaceLemmas.{number_left, bytes_left, record_above}

-- ---- records that stay
-- the records below a number stay
pub record Keeps (count : ℕ) (old new : List ℕ) : Type 0 where
  pub link : (slot : ℕ) → slot < count → link_of new slot ≡ link_of old slot
  pub size : (slot : ℕ) → slot < count → size_of new slot ≡ size_of old slot
  pub bytes : (slot : ℕ) → slot < count → bytes_of new slot ≡ bytes_of old slot

-- what two writes keep, both keep
pub keeps_then : {count : ℕ} {old mid new : List ℕ} → Keeps count old mid → Keeps count mid new → Keeps count old new
keeps_then first next = record {
  link = λ slot less. next.link slot less ∙ first.link slot less;
  size = λ slot less. next.size slot less ∙ first.size slot less;
  bytes = λ slot less. next.bytes slot less ∙ first.bytes slot less;
}

-- a write that touches none of these records keeps them
pub keeps_left : {from size : ℕ} {old new : List ℕ} → Leaves from size old new → (count : ℕ) → ((slot : ℕ) → slot < count → size_of old slot ≤ 256)
    → ((slot : ℕ) → slot < count → AreApart (record_place slot) 260 from size) → Keeps count old new
keeps_left leaves count short apart = record {
  link = λ slot less. number_left leaves (record_place slot) (elim (apart slot less) [ inl before ↦ inl (omega arith) | inr behind ↦ inr (omega arith) ]);
  size = λ slot less. number_left leaves (record_place slot + 2) (elim (apart slot less) [ inl before ↦ inl (omega arith) | inr behind ↦ inr (omega arith) ]);
  bytes = λ slot less. bytes_left leaves slot (short slot less) (apart slot less);
}

-- a write to the first page keeps all records
pub first_apart : (from size slot : ℕ) → from + size ≤ 4096 → AreApart (record_place slot) 260 from size
first_apart from size slot low = let h = record_above slot in inr (omega arith)

-- the versions up to a record stay where it and those before it do
pub versions_kept : {count : ℕ} {old new : List ℕ} → Keeps count old new → ((slot : ℕ) → slot < count → link_of old slot ≤ slot)
    → (node : ℕ) → node ≤ count → versions_up new node ≡ versions_up old node
unfolding versions_up
versions_kept {count} {old} {new} keeps down node low =
    same_versions (link_of old) (link_of new) (bytes_of old) (bytes_of new) count down keeps.link keeps.bytes node node node low (omega arith) (omega arith)

-- the versions up to a record are those up to the one before it, and its own
pub versions_more : (contents : List ℕ) (slot : ℕ) → ((other : ℕ) → other ≤ slot → link_of contents other ≤ other)
    → versions_up contents (slot + 1) ≡ versions_up contents (link_of contents slot) ++ bytes_of contents slot ∷ []
unfolding versions_up
versions_more contents slot down =
    let e : slot + 1 ≡ suc slot = omega arith in
    let low = down slot (omega arith) in
    ap (versions_up contents) e
    ∙ ap (λ versions. versions ++ bytes_of contents slot ∷ [])
    (same_versions (link_of contents) (link_of contents) (bytes_of contents) (bytes_of contents) slot (λ other less. down other (omega arith)) (λ other less. refl) (λ other less. refl)
    (link_of contents slot) slot (link_of contents slot) low (omega arith) low)

-- up to no record there is no version
pub versions_none : (contents : List ℕ) → versions_up contents 0 ≡ []
unfolding versions_up
versions_none contents = refl

-- ---- a new object
-- what is where after a create: the head of a new object, and all else as before
pub record Creates (old new : List ℕ) : Type 0 where
  pub objects : objects_of new ≡ objects_of old + 1
  pub count : count_of new ≡ count_of old
  pub last : last_of new (objects_of old) ≡ 0
  pub number : number_of new (objects_of old) ≡ 0
  pub lasts : (index : ℕ) → index < objects_of old → last_of new index ≡ last_of old index
  pub numbers : (index : ℕ) → index < objects_of old → number_of new index ≡ number_of old index
  pub keeps : Keeps (count_of old) old new

module _ {objects versions : ℕ} {old new : List ℕ} (store : IsStore objects versions old) (creates : Creates old new) where
  -- the objects before the new one keep their versions
  created_same : (index : ℕ) → index < objects_of old → versions_at new index ≡ versions_at old index
  created_same index less =
      ap (versions_up new) (creates.lasts index less)
      ∙ versions_kept creates.keeps store.sound.link (last_of old index) (store.sound.last index less)

  -- the new object has none
  created_empty : versions_at new (objects_of old) ≡ []
  created_empty = ap (versions_up new) creates.last ∙ versions_none new

  -- so the objects are those before, and an empty one
  pub created_held : held_in new ≡ held_in old ++ [] ∷ []
  created_held =
      ap (λ n. list_of n (versions_at new)) creates.objects
      ∙ list_of-more (objects_of old) (versions_at new)
      ∙ ap (λ xs. xs ++ versions_at new (objects_of old) ∷ []) (list_of-same (objects_of old) (versions_at new) (versions_at old) created_same)
      ∙ ap (λ x. held_in old ++ x ∷ []) created_empty

  -- and all fits together
  pub created_sound : objects_of old < objects → IsSound objects versions new
  created_sound room = record {
    few_objects = omega (arith, creates.objects);
    few_versions = omega (arith, creates.count, store.sound.few_versions);
    last = λ index less. elim (cases_lt index (objects_of old)) [
      | inl below ↦ let e = creates.lasts index below in let h = store.sound.last index below in omega (arith, creates.count)
      | inr above ↦ let e : index ≡ objects_of old = omega (arith, creates.objects) in let h = ap (last_of new) e in omega (arith, creates.last)
    ];
    number = λ index less. elim (cases_lt index (objects_of old)) [
      | inl below ↦ creates.numbers index below ∙ store.sound.number index below ∙ ap length (sym (created_same index below))
      | inr above ↦
          let e : index ≡ objects_of old = omega (arith, creates.objects) in
          ap (number_of new) e ∙ creates.number ∙ sym (ap (λ i. length (versions_at new i)) e ∙ ap length created_empty)
    ];
    link = λ slot less. let below : slot < count_of old = omega (arith, creates.count) in let e = creates.keeps.link slot below in let h = store.sound.link slot below in omega arith;
    size = λ slot less. let below : slot < count_of old = omega (arith, creates.count) in let e = creates.keeps.size slot below in let h = store.sound.size slot below in omega arith;
    counted =
        let one = sum_by_push (λ (those : List (List ℕ)). length those) (held_in old) [] in
        let all = ap version_count created_held in
        omega (arith, creates.count, store.sound.counted, one, all);
  }

-- ---- a new version
-- what is where after an append: a new record, its object's head, and all else as before
pub record Appends (index : ℕ) (bytes old new : List ℕ) : Type 0 where
  pub objects : objects_of new ≡ objects_of old
  pub count : count_of new ≡ count_of old + 1
  pub last : last_of new index ≡ count_of old + 1
  pub number : number_of new index ≡ number_of old index + 1
  pub lasts : (other : ℕ) → other < objects_of old → other ≢ index → last_of new other ≡ last_of old other
  pub numbers : (other : ℕ) → other < objects_of old → other ≢ index → number_of new other ≡ number_of old other
  pub link : link_of new (count_of old) ≡ last_of old index
  pub size : size_of new (count_of old) ≡ length bytes
  pub text : bytes_of new (count_of old) ≡ bytes
  pub keeps : Keeps (count_of old) old new

module _ {objects versions index : ℕ} {bytes old new : List ℕ} (store : IsStore objects versions old) (appends : Appends index bytes old new) (there : index < objects_of old) where
  -- the other objects keep their versions
  appended_same : (other : ℕ) → other < objects_of old → other ≢ index → versions_at new other ≡ versions_at old other
  appended_same other less ne =
      ap (versions_up new) (appends.lasts other less ne)
      ∙ versions_kept appends.keeps store.sound.link (last_of old other) (store.sound.last other less)

  -- a record still leads to those before it
  appended_down : (slot : ℕ) → slot ≤ count_of old → link_of new slot ≤ slot
  appended_down slot low = elim (cases_lt slot (count_of old)) [
    | inl below ↦ let e = appends.keeps.link slot below in let h = store.sound.link slot below in omega arith
    | inr above ↦
        let e : slot ≡ count_of old = omega arith in
        let f = ap (link_of new) e in
        let h = store.sound.last index there in
        omega (arith, appends.link)
  ]

  -- the object has one version more, at the end
  appended_here : versions_at new index ≡ versions_at old index ++ bytes ∷ []
  appended_here =
      ap (versions_up new) appends.last
      ∙ versions_more new (count_of old) appended_down
      ∙ ap (λ node. versions_up new node ++ bytes_of new (count_of old) ∷ []) appends.link
      ∙ ap (λ those. those ++ bytes_of new (count_of old) ∷ []) (versions_kept appends.keeps store.sound.link (last_of old index) (store.sound.last index there))
      ∙ ap (λ text. versions_at old index ++ text ∷ []) appends.text

  -- so the objects are those before, but for this one
  pub appended_held : held_in new ≡ slice_set (held_in old) index (versions_at old index ++ bytes ∷ [])
  appended_held =
      ap (λ n. list_of n (versions_at new)) appends.objects
      ∙ list_of-set (objects_of old) (versions_at old) (versions_at new) index there appended_same
      ∙ ap (slice_set (held_in old) index) appended_here

  -- its number of versions is one more
  appended_longer : length (versions_at new index) ≡ length (versions_at old index) + 1
  appended_longer = ap length appended_here ∙ length-append (versions_at old index) (bytes ∷ [])

  -- and all fits together
  pub appended_sound : count_of old < versions → length bytes ≤ 256 → IsSound objects versions new
  appended_sound room short = record {
    few_objects = omega (arith, appends.objects, store.sound.few_objects);
    few_versions = omega (arith, appends.count);
    last = λ other less. elim (cases_eq other index) [
      | inl e ↦ let h = ap (last_of new) e in omega (arith, appends.last, appends.count)
      | inr ne ↦
          let below : other < objects_of old = omega (arith, appends.objects) in
          let e = appends.lasts other below ne in let h = store.sound.last other below in omega (arith, appends.count)
    ];
    number = λ other less. elim (cases_eq other index) [
      | inl e ↦
          ap (number_of new) e ∙ appends.number ∙ ap (λ n. n + 1) (store.sound.number index there) ∙ sym appended_longer ∙ ap (λ i. length (versions_at new i)) (sym e)
      | inr ne ↦
          let below : other < objects_of old = omega (arith, appends.objects) in
          appends.numbers other below ne ∙ store.sound.number other below ∙ ap length (sym (appended_same other below ne))
    ];
    link = λ slot less. appended_down slot (omega (arith, appends.count));
    size = λ slot less. elim (cases_lt slot (count_of old)) [
      | inl below ↦ let e = appends.keeps.size slot below in let h = store.sound.size slot below in omega arith
      | inr above ↦ let e : slot ≡ count_of old = omega (arith, appends.count) in let f = ap (size_of new) e in omega (arith, appends.size)
    ];
    counted =
        let more = count-list_of (objects_of old) (versions_at old) (versions_at new) index there appended_longer appended_same in
        let same = ap (λ n. version_count (list_of n (versions_at new))) appends.objects in
        omega (arith, appends.count, store.sound.counted, more, same);
  }
