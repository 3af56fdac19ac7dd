-- What each call leaves, by the facts that it goes by.
use Rattle.std.proofs.Common.{subst, ◌≡◌, ℕ, zero, suc, ◌<◌, List, [], length, set, get_or, replicate, Option, Some, None, is_some, true, count_by, refl, sym, ap, ◌∙◌, arith}
use Rattle.std.proofs.lemmas.List.{length-replicate}
use Rattle.cl_types.specs.declared.page.Pte.{Pte}
use Rattle.cl_types.specs.Places.{Place, home_of, is_bucket_count}
use Rattle.hash_buckets.specs.declared.buckets.Slot.{Slot}
use Rattle.hash_buckets.specs.PageMap.{PageMap, entry_of, load, with_entry, without_entry, IsValid}
use Rattle.hash_buckets.specs.Slots.{no_slots, place_of, place_at, look, all_entries, in_order, IsSound, bucket_at, page_map}
use Rattle.hash_buckets.proofs.Bucket.{put_writes, cut_at, replace_at}
use Rattle.hash_buckets.proofs.Tables.{entry_of-page_map, load-page_map, valid_map, IsSound-write, page_map-put, page_map-cut}

-- an empty table
all_entries-empty : (n : ℕ) → all_entries (replicate n no_slots) ≡ []
all_entries-empty zero = refl
all_entries-empty (suc n) = all_entries-empty n

pub empty_map : (n : ℕ) (bs : List (List (Option Slot))) → bs ≡ replicate n no_slots → page_map bs ≡ record { buckets = n; entries = [] }
empty_map n bs e = rw (e, length-replicate n no_slots) (ap (λ (es : List (Place × Pte)). let t : PageMap = record { buckets = n; entries = in_order es } in t) (all_entries-empty n))

pub empty_valid : (n : ℕ) (bs : List (List (Option Slot))) → bs ≡ replicate n no_slots → is_bucket_count n ≡ true → IsValid (page_map bs)
empty_valid n bs e counted =
    let P : PageMap → Type 0 = λ w. IsValid w in
    subst P (sym (empty_map n bs e)) (record { counted = counted; sorted = refl; four = λ home. omega arith })

-- the buckets are sound and stand for this map
pub record Leaves (bs : List (List (Option Slot))) (v : PageMap) : Type 0 where
  pub sound : IsSound bs
  pub map : page_map bs ≡ v
  pub valid : IsValid (page_map bs)

-- what contracts see of sound buckets is valid
leaves : (bs : List (List (Option Slot))) (v : PageMap) → IsSound bs → page_map bs ≡ v → Leaves bs v
leaves bs v sound map = record { sound = sound; map = map; valid = valid_map sound }

module _ {bs : List (List (Option Slot))} (sound : IsSound bs) (v : PageMap) (e : page_map bs ≡ v) where
  pub valid_done : IsValid v
  valid_done = let P : PageMap → Type 0 = λ w. IsValid w in subst P e (valid_map sound)

  pub length_is : v.buckets ≡ length bs
  length_is = ap (λ (w : PageMap). w.buckets) (sym e)

  -- a bucket by its number
  module _ (h : ℕ) (below : h < v.buckets) (x : List (Option Slot)) (is : x ≡ bucket_at bs h) where
    in_table : h < length bs
    in_table = omega (arith, length_is)

    -- the load of a home is the number of full slots of its bucket
    pub load_is : load v h ≡ count_by is_some x
    load_is = ap (λ (w : PageMap). load w h) (sym e) ∙ load-page_map sound h ∙ ap (count_by is_some) (sym is)

    pub slots_are : length x ≡ 4
    slots_are = ap length is ∙ sound.slots h in_table

    -- the bucket of a page's home
    module _ (q : Place) (at : h ≡ home_of v.buckets q) where
      home_is : h ≡ home_of (length bs) q
      home_is = at ∙ ap (λ n. home_of n q) length_is

      -- it has what the table has at the page
      pub looks : look x q ≡ entry_of v q
      looks = ap (λ b. look b q) is ∙ ap (λ i. look (bucket_at bs i) q) home_is ∙ sym (entry_of-page_map sound q) ∙ ap (λ (w : PageMap). entry_of w q) e

      -- it has a free slot where its home has room
      pub has_room : load v (home_of v.buckets q) < 4 → count_by is_some x < length x
      has_room room = omega (arith, slots_are, load_is, ap (load v) at, room)

      -- it has the page where the page is mapped
      pub is_there : is_some (entry_of v q) ≡ true → is_some (look x q) ≡ true
      is_there there = rw looks there

      -- a slot of it is written
      module _ (bs' : List (List (Option Slot))) (i : ℕ) (inside : i < length x) where
        within : i < length (bucket_at bs h)
        within = omega (arith, ap length is)

        pub inserted : (s : Slot) → place_of s ≡ q → bs' ≡ set bs h (set (bucket_at bs h) i (Some s)) → entry_of v q ≡ None → get_or x i None ≡ None
            → Leaves bs' (with_entry v q s.pte)
        inserted s one written absent free =
            let home = home_is ∙ ap (home_of (length bs)) (sym one) in
            let writes = put_writes (length bs) h (bucket_at bs h) (sound.slots h in_table) (sound.homes h in_table) (sound.apart h in_table) i within s (sym home)
            (ap (λ b. get_or b i None) (sym is) ∙ free) (ap (λ b. look b (place_of s)) (sym is) ∙ ap (look x) one ∙ looks ∙ absent) in
            let put = page_map-put sound h (place_of s) (Some s.pte) _ home in_table writes s.pte refl in
            rw written (leaves _ _ (IsSound-write sound h (place_of s) (Some s.pte) _ home in_table writes) (put ∙ ap (λ (w : PageMap). with_entry w (place_of s) s.pte) e ∙ ap (λ k. with_entry v k s.pte) one))

        pub removed : bs' ≡ set bs h (set (bucket_at bs h) i None) → place_at x i ≡ Some q → Leaves bs' (without_entry v q)
        removed written found =
            let writes = cut_at (length bs) h (bucket_at bs h) (sound.slots h in_table) (sound.homes h in_table) (sound.apart h in_table) i within q (ap (λ b. place_at b i) (sym is) ∙ found) in
            let cut = page_map-cut sound h q None _ home_is in_table writes refl in
            rw written (leaves _ _ (IsSound-write sound h q None _ home_is in_table writes) (cut ∙ ap (λ (w : PageMap). without_entry w q) e))

        pub replaced : (s : Slot) → place_of s ≡ q → bs' ≡ set bs h (set (bucket_at bs h) i (Some s)) → place_at x i ≡ Some q → Leaves bs' (with_entry v q s.pte)
        replaced s one written found =
            let home = home_is ∙ ap (home_of (length bs)) (sym one) in
            let writes = replace_at (length bs) h (bucket_at bs h) (sound.slots h in_table) (sound.homes h in_table) (sound.apart h in_table) i within s (ap (λ b. place_at b i) (sym is) ∙ found ∙ ap (λ k. Some k) (sym one)) (sym home) in
            let put = page_map-put sound h (place_of s) (Some s.pte) _ home in_table writes s.pte refl in
            rw written (leaves _ _ (IsSound-write sound h (place_of s) (Some s.pte) _ home in_table writes) (put ∙ ap (λ (w : PageMap). with_entry w (place_of s) s.pte) e ∙ ap (λ k. with_entry v k s.pte) one))
