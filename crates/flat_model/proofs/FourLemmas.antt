-- That no bucket has more than four pages, through every change.
use Rattle.std.proofs.Common.{◌≡◌, ℕ, zero, suc, ◌+◌, ◌<◌, ◌≤◌, ◌==◌, ◌&&◌, leb, None, Bool, true, false, cond, List, [], ◌∷◌, ◌++◌, length, get_or, refl, sym, ap, subst, ◌∙◌, arith}
use Rattle.std.proofs.Math.ListN.{set}
use Rattle.std.specs.declared.cmp.Ordering.{Ordering}
use Rattle.std.specs.declared.cmp.Ordering.TheVariants.{Less, Equal, Greater}
use Rattle.std.specs.List.{list_all, range_with_len}
use Rattle.std.specs.FinMap.Entries.{put, where_key, is_sorted, by_order}
use Rattle.std.proofs.lemmas.List.Sums.{sum_by-append, sum_by-cons}
use Rattle.cl_types.specs.Places.{Place, place_cmp, home_of, homes_at, is_bucket_count}
use Rattle.cl_types.specs.declared.call.Perm.{Perm}
use Rattle.flat_model.specs.Rows.{AreFourAtMost, AreInOrder, keys}
use Rattle.flat_model.specs.State.{FlatState, Page, fits, places, places_of}
use Rattle.flat_model.specs.Step.{with_fresh}
use Rattle.flat_model.proofs.BucketLemmas.{four_everywhere}
use Rattle.std.proofs.lemmas.Bool.{and_parts}

-- an entry written at its index keeps the keys
pub keys_set : {V : Type 0} (entries : List (Place × V)) (i : ℕ) (entry : Place × V) (v : V) → i < length entries → entry ≡ get_or entries i entry → keys (set entries i (entry.0, v)) ≡ keys entries
keys_set [] i entry v within is = absurd (omega (arith, within))
keys_set (e ∷ es) zero entry v within is = ap (λ (x : Place × _). x.0 ∷ keys es) is
keys_set (e ∷ es) (suc i) entry v within is = ap (λ ks. e.0 ∷ ks) (keys_set es i entry v (omega (arith, within)) is)

module _ (b home : ℕ) where
  -- 1 where the page has this home
  abbrev one : Place → ℕ
  one place = cond (home_of b place == home) 1 0

  homes_cons : (place : Place) (ps : List Place) → homes_at b home (place ∷ ps) ≡ one place + homes_at b home ps
  homes_cons place ps = sum_by-cons one place ps

  homes_both : (ps qs : List Place) → homes_at b home (ps ++ qs) ≡ homes_at b home ps + homes_at b home qs
  homes_both ps qs = sum_by-append one ps qs

  kept_step : {V : Type 0} (test : Place → Bool) (e : Place × V) (es : List (Place × V)) (t : Bool) → test e.0 ≡ t → homes_at b home (keys (where_key place_cmp test es)) ≤ homes_at b home (keys es)
      → homes_at b home (keys (where_key place_cmp test (e ∷ es))) ≤ homes_at b home (keys (e ∷ es))
  kept_step test e es true is rest =
      let kept : homes_at b home (keys (where_key place_cmp test (e ∷ es))) ≡ homes_at b home (keys (e ∷ where_key place_cmp test es)) =
      ap (λ t. homes_at b home (keys (cond t (e ∷ where_key place_cmp test es) (where_key place_cmp test es)))) is in
      omega (arith, kept, homes_cons e.0 (keys (where_key place_cmp test es)), homes_cons e.0 (keys es), rest)
  kept_step test e es false is rest =
      let kept : homes_at b home (keys (where_key place_cmp test (e ∷ es))) ≡ homes_at b home (keys (where_key place_cmp test es)) =
      ap (λ t. homes_at b home (keys (cond t (e ∷ where_key place_cmp test es) (where_key place_cmp test es)))) is in
      omega (arith, kept, homes_cons e.0 (keys es), rest)

  homes_kept : {V : Type 0} (test : Place → Bool) (es : List (Place × V)) → homes_at b home (keys (where_key place_cmp test es)) ≤ homes_at b home (keys es)
  homes_kept test [] = omega arith
  homes_kept test (e ∷ es) = kept_step test e es (test e.0) refl (homes_kept test es)

  put_step : {V : Type 0} (k : Place) (v : V) (e : Place × V) (es : List (Place × V)) (order : Ordering) → place_cmp k e.0 ≡ order → homes_at b home (keys (put place_cmp k v es)) ≤ one k + homes_at b home (keys es)
      → homes_at b home (keys (put place_cmp k v (e ∷ es))) ≤ one k + homes_at b home (keys (e ∷ es))
  put_step k v e es Less is rest =
      let new : homes_at b home (keys (put place_cmp k v (e ∷ es))) ≡ homes_at b home (k ∷ keys (e ∷ es)) =
      ap (λ o. homes_at b home (keys (by_order o ((k, v) ∷ e ∷ es) ((e.0, v) ∷ es) (e ∷ put place_cmp k v es)))) is in
      omega (arith, new, homes_cons k (keys (e ∷ es)))
  put_step k v e es Equal is rest =
      let new : homes_at b home (keys (put place_cmp k v (e ∷ es))) ≡ homes_at b home (keys (e ∷ es)) =
      ap (λ o. homes_at b home (keys (by_order o ((k, v) ∷ e ∷ es) ((e.0, v) ∷ es) (e ∷ put place_cmp k v es)))) is in
      omega (arith, new)
  put_step k v e es Greater is rest =
      let new : homes_at b home (keys (put place_cmp k v (e ∷ es))) ≡ homes_at b home (e.0 ∷ keys (put place_cmp k v es)) =
      ap (λ o. homes_at b home (keys (by_order o ((k, v) ∷ e ∷ es) ((e.0, v) ∷ es) (e ∷ put place_cmp k v es)))) is in
      omega (arith, new, homes_cons e.0 (keys (put place_cmp k v es)), homes_cons e.0 (keys es), rest)

  homes_put : {V : Type 0} (k : Place) (v : V) (es : List (Place × V)) → homes_at b home (keys (put place_cmp k v es)) ≤ one k + homes_at b home (keys es)
  homes_put k v [] = omega (arith, homes_cons k [])
  homes_put k v (e ∷ es) = put_step k v e es (place_cmp k e.0) refl (homes_put k v es)

  homes_fresh : (perm : Perm) (ps : List Place) (es : List (Place × Page)) → homes_at b home (keys (with_fresh perm ps es)) ≤ homes_at b home ps + homes_at b home (keys es)
  homes_fresh perm [] es = omega arith
  homes_fresh perm (p ∷ ps) es =
      omega (arith, homes_put p (record { perm = perm; bytes = None }) (with_fresh perm ps es), homes_fresh perm ps es, homes_cons p ps)

-- entries taken out leave no bucket more
pub four_kept : {V : Type 0} (b : ℕ) (test : Place → Bool) (entries kept : List (Place × V)) (held : List Place) → kept ≡ where_key place_cmp test entries
    → AreFourAtMost b (keys entries ++ held) → AreFourAtMost b (keys kept ++ held)
four_kept b test entries kept held is four home =
    let same : homes_at b home (keys kept) ≡ homes_at b home (keys (where_key place_cmp test entries)) = ap (λ es. homes_at b home (keys es)) is in
    omega (arith, four home, same, homes_both b home (keys entries) held, homes_both b home (keys kept) held, homes_kept b home test entries)

same_tests : (f g : ℕ → Bool) (xs : List ℕ) → ((x : ℕ) → f x ≡ g x) → list_all f xs ≡ true → list_all g xs ≡ true
same_tests f g [] same all = refl
same_tests f g (x ∷ xs) same all =
    let first : g x ≡ true = sym (same x) ∙ (and_parts (f x) (list_all f xs) all).0 in
    let rest : list_all g xs ≡ true = same_tests f g xs same (and_parts (f x) (list_all f xs) all).1 in
    ap (λ b. b && list_all g xs) first ∙ rest

both_four : (b : ℕ) (ps qs : List Place) → list_all (λ h. leb (homes_at b h ps + homes_at b h qs) 4) (range_with_len 0 b) ≡ true
    → list_all (λ h. leb (homes_at b h (ps ++ qs)) 4) (range_with_len 0 b) ≡ true
both_four b ps qs all =
    same_tests (λ h. leb (homes_at b h ps + homes_at b h qs) 4) (λ h. leb (homes_at b h (ps ++ qs)) 4) (range_with_len 0 b) (λ h. ap (λ m. leb m 4) (sym (homes_both b h ps qs))) all

-- fresh pages that fit bring no bucket above four
pub four_fresh : (s : FlatState) (perm : Perm) (pid start n : ℕ) (new : List (Place × Page)) → is_bucket_count s.buckets ≡ true → fits s.buckets (places s) pid start n ≡ true
    → new ≡ with_fresh perm (places_of pid start n) s.map → AreFourAtMost s.buckets (keys new ++ s.held)
four_fresh s perm pid start n new count fit is home =
    let all : list_all (λ h. leb (homes_at s.buckets h (places s) + homes_at s.buckets h (places_of pid start n)) 4) (range_with_len 0 s.buckets) ≡ true = grind arith in
    let within : homes_at s.buckets home (places s ++ places_of pid start n) ≤ 4 = four_everywhere s.buckets (places s ++ places_of pid start n) home count (both_four s.buckets (places s) (places_of pid start n) all) in
    let same : homes_at s.buckets home (keys new) ≡ homes_at s.buckets home (keys (with_fresh perm (places_of pid start n) s.map)) = ap (λ es. homes_at s.buckets home (keys es)) is in
    omega (
      arith,
      within,
      same,
      homes_both s.buckets home (keys new) s.held,
      homes_both s.buckets home (keys s.map) s.held,
      homes_both s.buckets home (places s) (places_of pid start n),
      homes_fresh s.buckets home perm (places_of pid start n) s.map,
    )

-- where the keys stay, so do the buckets
pub four_same : {V : Type 0} (b : ℕ) (old new : List (Place × V)) (held : List Place) → keys new ≡ keys old → AreFourAtMost b (keys old ++ held) → AreFourAtMost b (keys new ++ held)
four_same b old new held same four = subst (λ (ks : List Place). AreFourAtMost b (ks ++ held)) (sym same) four

-- an opening with no pages mapped
pub opening_in_order : (pages : List (Place × Page)) (ranges : List (Place × ℕ)) (held : List Place) (buckets : ℕ) → pages ≡ [] → ranges ≡ [] → is_bucket_count buckets ≡ true
    → AreFourAtMost buckets held → AreInOrder pages ranges held buckets
opening_in_order pages ranges held buckets no_pages no_ranges homes four = record {
  mapped = ap (is_sorted place_cmp) no_pages;
  allocated = ap (is_sorted place_cmp) no_ranges;
  homes = homes;
  four = subst (λ (es : List (Place × Page)). AreFourAtMost buckets (keys es ++ held)) (sym no_pages) four;
}
