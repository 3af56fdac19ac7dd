-- What good numbers give, and the pages of one offload more.
use Rattle.std.proofs.Common.{◌≡◌, ℕ, zero, suc, ◌+◌, ◌-◌, ◌<◌, ◌≤◌, length-append, ◌==◌, ◌&&◌, Bool, true, false, not, cond, leb, if◌then◌else◌, List, [], ◌∷◌, ◌++◌, length, take, drop, map, get_or, Option, Some, None, option_map, refl, sym, ap, subst, ◌∙◌, arith, add-one, append_assoc}
use Rattle.std.specs.List.{find, list_all, range_with_len}
use Rattle.std.proofs.lemmas.List.{length-map}
use Rattle.std.proofs.lemmas.List.FromFn.{length-range_with_len}
use Rattle.std.proofs.lemmas.List.Sums.{sum_by-append}
use Rattle.std.proofs.lemmas.Bool.Decides.{nat_tests}
use Rattle.std.proofs.lemmas.List.{append-nil}
use Rattle.std.proofs.lemmas.Option.{slice_get-get_or}
use Rattle.cl_types.specs.Config.{Judged, bad_number_of, first_bad, judged, judged_offload, judged_offloads, offload_pages, is_within}
use Rattle.cl_types.specs.Places.{Place, home_of, homes_at, is_bucket_count}
use Rattle.cl_types.specs.declared.config.Field.TheVariants as field
use Rattle.cl_types.specs.declared.config.NodeConfig.{NodeConfig}
use Rattle.cl_types.specs.declared.config.OffloadConfig.{OffloadConfig}
use Rattle.cl_types.specs.declared.config.OffloadConfig.TheVariants.{Kv}
use Rattle.cl_types.specs.declared.open_fault.OpenFault.TheVariants.{NoRoom}
use Rattle.flat_model.specs.Opening.{held_by, has_room, first_without_room, pages_at, room_fault}
use Rattle.flat_model.specs.State.{held_from, places_of}
use Rattle.flat_model.specs.Rows.{AreFourAtMost, has_room_among}
use Rattle.flat_model.proofs.BucketLemmas.{each_bucket, four_everywhere}
use Rattle.flat_model.proofs.FitLemmas.{numbers_next}
use Rattle.std.proofs.lemmas.Bool.{and_parts}

-- ---- good numbers
-- where no number is bad the first is good, and those behind it
none_bad : (number : Judged) (numbers : List Judged) → first_bad (number ∷ numbers) ≡ None → (number.2 ≡ true) × (first_bad numbers ≡ None)
none_bad number numbers none = step number.2 refl where
  step : (b : Bool) → number.2 ≡ b → (number.2 ≡ true) × (first_bad numbers ≡ None)
  step true is = (is, sym (ap (λ b. if b then first_bad numbers else Some (number.0, number.1)) is) ∙ none)
  step false is =
      let told : first_bad (number ∷ numbers) ≡ Some (number.0, number.1) = ap (λ b. if b then first_bad numbers else Some (number.0, number.1)) is in
      absurd (cc (told, none))

-- what holds of a configuration with no bad number
pub record IsGood (c : NodeConfig) : Type 0 where
  pub buckets : is_bucket_count c.buckets ≡ true
  pub few : length c.offloads ≤ 16
  pub offloads : first_bad (judged_offloads c.offloads) ≡ None

good_number : (numbers : List Judged) (k : ℕ) (d : Judged) → k < length numbers → first_bad numbers ≡ None → (get_or numbers k d).2 ≡ true
good_number [] k d within none = absurd (omega (arith, within))
good_number (number ∷ numbers) zero d within none = (none_bad number numbers none).0
good_number (number ∷ numbers) (suc k) d within none = good_number numbers k d (omega (arith, within)) (none_bad number numbers none).1

good_behind : (numbers : List Judged) (k : ℕ) → first_bad numbers ≡ None → first_bad (drop k numbers) ≡ None
good_behind numbers zero none = none
good_behind [] (suc k) none = refl
good_behind (number ∷ numbers) (suc k) none = good_behind numbers k (none_bad number numbers none).1

pub good : (c : NodeConfig) → bad_number_of c ≡ None → IsGood c
good c none =
    let no_number : Judged = (field.Pages, 0, true) in
    let within : is_within 0 16 (length c.offloads) ≡ true = good_number (judged c) 4 no_number (omega arith) none in
    record {
      buckets = good_number (judged c) 1 no_number (omega arith) none;
      few = grind (arith, nat_tests);
      offloads = good_behind (judged c) 5 none;
    }

pub good_buckets : (c : NodeConfig) → bad_number_of c ≡ None → is_bucket_count c.buckets ≡ true
good_buckets c none = (good c none).buckets

pub few_offloads : (c : NodeConfig) → bad_number_of c ≡ None → length c.offloads ≤ 16
few_offloads c none = (good c none).few

-- a list of one number that is good has no bad one
one_good : (number : Judged) → number.2 ≡ true → first_bad (number ∷ []) ≡ None
one_good number is = ap (λ b. if b then None else Some (number.0, number.1)) is

good_at : (offloads : List OffloadConfig) (k : ℕ) (d : OffloadConfig) → k < length offloads → first_bad (judged_offloads offloads) ≡ None → first_bad (judged_offload (get_or offloads k d)) ≡ None
good_at [] k d within none = absurd (omega (arith, within))
good_at (Kv records ∷ offloads) zero d within none = one_good (field.Records, records, is_within 1 4096 records) (none_bad (field.Records, records, is_within 1 4096 records) (judged_offloads offloads) none).0
good_at (Kv records ∷ offloads) (suc k) d within none = good_at offloads k d (omega (arith, within)) (none_bad (field.Records, records, is_within 1 4096 records) (judged_offloads offloads) none).1

-- each offload is good
pub good_offload : (c : NodeConfig) (k : ℕ) (d : OffloadConfig) → bad_number_of c ≡ None → k < length c.offloads → first_bad (judged_offload (get_or c.offloads k d)) ≡ None
good_offload c k d none within = good_at c.offloads k d within (good c none).offloads

few_of : (offload : OffloadConfig) → first_bad (judged_offload offload) ≡ None → offload_pages offload ≤ 317
few_of (Kv records) none =
    let within : is_within 1 4096 records ≡ true = (none_bad (field.Records, records, is_within 1 4096 records) [] none).0 in
    let most : records ≤ 4096 = grind (arith, nat_tests) in
    omega (arith, most)

pages_read : (offloads : List OffloadConfig) (k : ℕ) (d : OffloadConfig) → k < length offloads → offload_pages (get_or offloads k d) ≡ pages_at offloads k
pages_read offloads k d within =
    ap (λ (o : Option OffloadConfig). elim o [ None ↦ 0 | Some offload ↦ offload_pages offload ]) (sym (slice_get-get_or offloads k d within))

-- how many pages an offload has, where it was read
pub read_pages : (lent offloads : List OffloadConfig) (k : ℕ) (d : OffloadConfig) (pages : ℕ) → lent ≡ offloads → k < length offloads → pages ≡ offload_pages (get_or lent k d) → pages ≡ pages_at offloads k
read_pages lent offloads k d pages same within read =
    read ∙ ap (λ (os : List OffloadConfig). offload_pages (get_or os k d)) same ∙ pages_read offloads k d within

pub few_pages : (c : NodeConfig) (k : ℕ) → bad_number_of c ≡ None → k < length c.offloads → pages_at c.offloads k ≤ 317
few_pages c k none within =
    subst (λ (n : ℕ). n ≤ 317) (pages_read c.offloads k (Kv 0) within) (few_of (get_or c.offloads k (Kv 0)) (good_offload c k (Kv 0) none within))

-- the pages of an offload that was read are few
pub few_read : (c : NodeConfig) (lent : List OffloadConfig) (k : ℕ) (d : OffloadConfig) (pages : ℕ) → bad_number_of c ≡ None → lent ≡ c.offloads → k < length c.offloads → pages ≡ offload_pages (get_or lent k d)
    → pages ≤ 317
few_read c lent k d pages none same within read = subst (λ (n : ℕ). n ≤ 317) (sym (read_pages lent c.offloads k d pages same within read)) (few_pages c k none within)

-- ---- one offload more
-- the pages of an offload's space
abbrev pub offload_places : NodeConfig → ℕ → List Place
offload_places c k = places_of (65280 + k) 1 (pages_at c.offloads k)

held_more : (offloads : List OffloadConfig) (first k : ℕ) → k < length offloads
    → held_from first (take (suc k) offloads) ≡ held_from first (take k offloads) ++ places_of (65280 + (first + k)) 1 (pages_at offloads k)
held_more [] first k within = absurd (omega (arith, within))
held_more (offload ∷ offloads) first zero within =
    append-nil (places_of (65280 + first) 1 (offload_pages offload)) ∙ ap (λ n. places_of (65280 + n) 1 (offload_pages offload)) (omega arith)
held_more (offload ∷ offloads) first (suc k) within =
    ap (λ rest. places_of (65280 + first) 1 (offload_pages offload) ++ rest) (held_more offloads (first + 1) k (omega (arith, within)))
    ∙ sym (append_assoc (places_of (65280 + first) 1 (offload_pages offload)) (held_from (first + 1) (take k offloads)) (places_of (65280 + (first + 1 + k)) 1 (pages_at offloads k)))
    ∙ ap (λ n. (places_of (65280 + first) 1 (offload_pages offload) ++ held_from (first + 1) (take k offloads)) ++ places_of (65280 + n) 1 (pages_at offloads k)) (omega arith)

-- the pages of one offload more
held_is : (c : NodeConfig) (k : ℕ) → k < length c.offloads → held_by c (k + 1) ≡ held_by c k ++ offload_places c k
held_is c k within =
    ap (λ n. held_from 0 (take n c.offloads)) (add-one k) ∙ held_more c.offloads 0 k within ∙ ap (λ n. held_by c k ++ places_of (65280 + n) 1 (pages_at c.offloads k)) (omega arith)

pub held_next : (c : NodeConfig) (k n : ℕ) (old new : List Place) → k < length c.offloads → old ≡ held_by c k → n ≡ pages_at c.offloads k → new ≡ old ++ places_of (65280 + k) 1 n → new ≡ held_by c (k + 1)
held_next c k n old new within was count is =
    is ∙ ap (λ pages. pages ++ places_of (65280 + k) 1 n) was ∙ ap (λ m. held_by c k ++ places_of (65280 + k) 1 m) count ∙ sym (held_is c k within)

-- how many pages, with those of one offload more
pub count_next : (c : NodeConfig) (k count n total : ℕ) → k < length c.offloads → count ≡ length (held_by c k) → n ≡ pages_at c.offloads k → total ≡ count + n → total ≡ length (held_by c (k + 1))
count_next c k count n total within was is sum =
    let places : length (offload_places c k) ≡ pages_at c.offloads k = length-map (range_with_len 1 (pages_at c.offloads k)) (λ page. (65280 + k, page)) ∙ length-range_with_len 1 (pages_at c.offloads k) in
    let all : length (held_by c (k + 1)) ≡ length (held_by c k) + length (offload_places c k) = ap length (held_is c k within) ∙ length-append (held_by c k) (offload_places c k) in
    omega (arith, was, is, sum, places, all)

homes_more : (c : NodeConfig) (k home : ℕ) → k < length c.offloads → homes_at c.buckets home (held_by c (k + 1)) ≡ homes_at c.buckets home (held_by c k) + homes_at c.buckets home (offload_places c k)
homes_more c k home within = ap (homes_at c.buckets home) (held_is c k within) ∙ sum_by-append (λ place. cond (home_of c.buckets place == home) 1 0) (held_by c k) (offload_places c k)

-- how many pages have a home, with those of one offload more
pub homes_next : (c : NodeConfig) (k home found more total n : ℕ) → k < length c.offloads → found ≡ homes_at c.buckets home (held_by c k) → n ≡ pages_at c.offloads k
    → more ≡ homes_at c.buckets home (places_of (65280 + k) 1 n) → total ≡ found + more → total ≡ homes_at c.buckets home (held_by c (k + 1))
homes_next c k home found more total n within was count is sum =
    let same : homes_at c.buckets home (places_of (65280 + k) 1 n) ≡ homes_at c.buckets home (offload_places c k) = ap (λ m. homes_at c.buckets home (places_of (65280 + k) 1 m)) count in
    omega (arith, was, is, sum, same, homes_more c k home within)

-- ---- the buckets of an offload's pages are enough
same_all : {A : Type 0} (f g : A → Bool) (xs : List A) → ((x : A) → f x ≡ g x) → list_all f xs ≡ list_all g xs
same_all f g [] same = refl
same_all f g (x ∷ xs) same = λ i. same x i && same_all f g xs same i

pub buckets_held : (c : NodeConfig) (k : ℕ) → bad_number_of c ≡ None → k < length c.offloads → AreFourAtMost c.buckets (held_by c k)
    → list_all (has_room_among c (k + 1)) (offload_places c k) ≡ list_all (λ home. leb (homes_at c.buckets home (held_by c (k + 1))) 4) (range_with_len 0 c.buckets)
buckets_held c k none within four =
    same_all (has_room_among c (k + 1)) (λ page. room (home_of c.buckets page) (homes_at c.buckets (home_of c.buckets page) (offload_places c k))) (offload_places c k) (λ page. counted (home_of c.buckets page))
    ∙ sym (each_bucket c.buckets room empty (offload_places c k) (good_buckets c none))
    ∙ sym (same_all (λ home. leb (homes_at c.buckets home (held_by c (k + 1))) 4) (λ home. room home (homes_at c.buckets home (offload_places c k))) (range_with_len 0 c.buckets) counted)
  where
    room : ℕ → ℕ → Bool
    room home more = leb (homes_at c.buckets home (held_by c k) + more) 4

    empty : (home : ℕ) → room home 0 ≡ true
    empty home = let few : homes_at c.buckets home (held_by c k) ≤ 4 = four home in grind (arith, nat_tests)

    counted : (home : ℕ) → leb (homes_at c.buckets home (held_by c (k + 1))) 4 ≡ room home (homes_at c.buckets home (offload_places c k))
    counted home = ap (λ n. leb n 4) (homes_more c k home within)

-- pages that have room bring no bucket above four
pub four_held : (c : NodeConfig) (k : ℕ) → bad_number_of c ≡ None → has_room c (held_by c k) ≡ true → AreFourAtMost c.buckets (held_by c k)
four_held c k none room home = four_everywhere c.buckets (held_by c k) home (good_buckets c none) (and_parts (leb (length (held_by c k)) c.pages) _ room).1

pub same_pages : (test : Place → Bool) (space other n m : ℕ) → space ≡ other → n ≡ m → list_all test (places_of space 1 n) ≡ list_all test (places_of other 1 m)
same_pages test space other n m same_space same_n = λ i. list_all test (places_of (same_space i) 1 (same_n i))

-- where the pages are few enough, there is room if the buckets have it
pub with_count : (count total pages : ℕ) (b result : Bool) → count ≡ total → count ≤ pages → result ≡ b → result ≡ (leb total pages && b)
with_count count total pages b result same within is = grind (arith, nat_tests)

-- ---- the first offload without room
abbrev pub lacks_room : NodeConfig → ℕ → Bool
lacks_room c k = not (has_room c (held_by c (k + 1)))

-- the first of the offloads from k on that lacks room
abbrev pub lacking_from : NodeConfig → ℕ → Option ℕ
lacking_from c k = find (lacks_room c) (range_with_len k (length c.offloads - k))

lacking_is : (c : NodeConfig) (k : ℕ) (has : Bool) → k < length c.offloads → has_room c (held_by c (k + 1)) ≡ has → lacking_from c k ≡ cond (not has) (Some k) (lacking_from c (k + 1))
lacking_is c k has within is =
    ap (find (lacks_room c)) (numbers_next (lacks_room c) (length c.offloads) k within) ∙ ap (λ b. cond (not b) (Some k) (lacking_from c (k + 1))) is

pub room_next : (c : NodeConfig) (k : ℕ) → k < length c.offloads → has_room c (held_by c (k + 1)) ≡ true → lacking_from c k ≡ first_without_room c → lacking_from c (k + 1) ≡ first_without_room c
room_next c k within has first = sym (lacking_is c k true within has) ∙ first

pub no_room : (c : NodeConfig) (k pages : ℕ) → k < length c.offloads → pages ≡ pages_at c.offloads k → has_room c (held_by c (k + 1)) ≡ false → lacking_from c k ≡ first_without_room c → room_fault c ≡ Some (NoRoom k pages)
no_room c k pages within count lacks first =
    ap (option_map (λ j. NoRoom j (pages_at c.offloads j))) (sym first ∙ lacking_is c k false within lacks) ∙ ap (λ (n : ℕ). Some (NoRoom k n)) (sym count)

pub all_room : (c : NodeConfig) (k : ℕ) → length c.offloads ≤ k → lacking_from c k ≡ first_without_room c → room_fault c ≡ None
all_room c k past first =
    let left : length c.offloads - k ≡ 0 = omega (arith, past) in
    ap (option_map (λ j. NoRoom j (pages_at c.offloads j))) (sym first ∙ ap (λ n. find (lacks_room c) (range_with_len k n)) left)

take_past : {A : Type 0} (xs : List A) (k : ℕ) → length xs ≤ k → take k xs ≡ xs
take_past [] zero past = refl
take_past [] (suc k) past = refl
take_past (x ∷ xs) zero past = absurd (omega (arith, past))
take_past (x ∷ xs) (suc k) past = ap (λ ys. x ∷ ys) (take_past xs k (omega (arith, past)))

-- all offloads
pub held_all : (c : NodeConfig) (k : ℕ) → length c.offloads ≤ k → held_by c k ≡ held_from 0 c.offloads
held_all c k past = ap (held_from 0) (take_past c.offloads k past)

-- ---- numbers one after another
range_push : (first n : ℕ) → range_with_len first (suc n) ≡ range_with_len first n ++ (first + n) ∷ []
range_push first zero = ap (λ k. k ∷ []) (omega arith)
range_push first (suc n) = ap (λ xs. first ∷ xs) (range_push (first + 1) n ∙ ap (λ k. range_with_len (first + 1) n ++ k ∷ []) (omega arith))

map_push : {A B : Type 0} (f : A → B) (xs : List A) (x : A) → map f (xs ++ x ∷ []) ≡ map f xs ++ f x ∷ []
map_push f [] x = refl
map_push f (y ∷ xs) x = ap (λ ys. f y ∷ ys) (map_push f xs x)

next_page : (space i : ℕ) → places_of space 1 i ++ (space, i + 1) ∷ [] ≡ places_of space 1 (i + 1)
next_page space i =
    ap (λ k. places_of space 1 i ++ (space, k) ∷ []) (omega arith)
    ∙ sym (map_push (λ page. (space, page)) (range_with_len 1 i) (1 + i))
    ∙ ap (map (λ page. (space, page))) (sym (range_push 1 i) ∙ ap (range_with_len 1) (sym (add-one i)))

-- one page more of a space
pub pages_push : (old new initial : List Place) (space i : ℕ) → old ≡ initial ++ places_of space 1 i → new ≡ old ++ (space, i + 1) ∷ [] → new ≡ initial ++ places_of space 1 (i + 1)
pages_push old new initial space i was is =
    is ∙ ap (λ xs. xs ++ (space, i + 1) ∷ []) was ∙ append_assoc initial (places_of space 1 i) ((space, i + 1) ∷ []) ∙ ap (λ xs. initial ++ xs) (next_page space i)

pub pushed : {A : Type 0} (old new : List A) (x : A) (ok failed : Bool) → new ≡ (if ok then old ++ x ∷ [] else old) → ok ≡ not failed → failed ≡ false → new ≡ old ++ x ∷ []
pushed old new x ok failed is means passed = is ∙ ap (λ b. if b then old ++ x ∷ [] else old) (means ∙ ap not passed)
