-- Versions stay, whatever operations come.
use Rattle.std.proofs.Common.{◌≡◌, ◌≢◌, ℕ, zero, suc, ◌+◌, ◌-◌, ◌<◌, ◌≤◌, ◌^◌, Bool, true, false, List, [], ◌∷◌, ◌++◌, length, take, drop, Option, Some, None, Ok, Err, inl, inr, refl, sym, ap, ◌∙◌, arith, length-append, slice_get, slice_set}
use Rattle.std.specs.Prelude.{◌==◌, ◌&&◌, leb, if◌then◌else◌}
use Rattle.std.specs.Int.{to_be_bytes, from_be_bytes, w32}
use Rattle.std.proofs.lemmas.Bool.{cases_eq, leb-true, leb-false}
use Rattle.std.proofs.lemmas.List.{length-take-le, take_all}
use Rattle.std.proofs.lemmas.List.Sums.{sum_by-cons}
use Rattle.std.proofs.lemmas.Nat.{from_be_bytes-to_be_bytes_4}
use Rattle.std.proofs.Math.Seq.{take-append_seam, drop-append_seam}
use Rattle.mv_offload.specs.Versions.{Versioned, Given, mv_step, mv_create, mv_append, mv_read, item_numbered, version_of, latest_of, version_count}
use Rattle.frame_model.specs.Frames.{number_32}
use Rattle.mv_offload.specs.declared.layout.TheConstants.{VERSION_BYTES}
use Rattle.cl_types.specs.declared.reply.Refusal.TheVariants.{ObjectFull, BadOp}
use Rattle.mv_offload.specs.Versions.Object.{MvObject}
use Rattle.lemmas.proofs.Lists.{slice_get-append}
use Rattle.mv_offload.specs.Laws.{left_by, after, VersionsStay, ReadsGiveWhatWasAppended}
use Rattle.mv_offload.proofs.HeldLemmas.{slice_get_seam}

-- ---- lists
-- the item that was set is there
put_here : {A : Type 0} (xs : List A) (i : ℕ) (x y : A) → slice_get xs i ≡ Some x → slice_get (slice_set xs i y) i ≡ Some y
put_here [] i x y there = absurd (cc)
put_here (z ∷ xs) zero x y there = refl
put_here (z ∷ xs) (suc i) x y there = put_here xs i x y there

-- the other items stay
put_other : {A : Type 0} (xs : List A) (i j : ℕ) (y : A) → j ≢ i → slice_get (slice_set xs i y) j ≡ slice_get xs j
put_other [] i j y ne = refl
put_other (z ∷ xs) zero zero y ne = absurd (ne refl)
put_other (z ∷ xs) zero (suc j) y ne = refl
put_other (z ∷ xs) (suc i) zero y ne = refl
put_other (z ∷ xs) (suc i) (suc j) y ne = put_other xs i j y (λ e. ne (ap suc e))

-- the item of a number stays where items are appended
nth_left : {A : Type 0} (n : ℕ) (xs ys : List A) (x : A) → item_numbered n xs ≡ Some x → item_numbered n (xs ++ ys) ≡ Some x
nth_left zero xs ys x there = absurd (cc)
nth_left (suc i) xs ys x there = slice_get-append xs ys i x there

-- ---- what may become of the objects: nothing, one more, or one version more
pub data Grows (held : Versioned) : Versioned → Type 0 where
  Stays : Grows held held
  Gains : (more : Versioned) → Grows held (held ++ more)
  Longer : (index : ℕ) (those : List (List ℕ)) (bytes : List ℕ) → slice_get held index ≡ Some those → Grows held (slice_set held index (those ++ bytes ∷ []))

-- ---- each operation
-- where a test decides, either way
by_test : (held : Versioned) (test : Bool) (x y : Given) → Grows held (left_by held x) → Grows held (left_by held y) → Grows held (left_by held (if test then x else y))
by_test held true x y gx gy = gx
by_test held false x y gx gy = gy

-- a create adds an object, or is refused
create_grows : (objects versions : ℕ) (held : Versioned) → Grows held (left_by held (mv_create objects versions held))
create_grows objects versions held =
    by_test held (leb objects (length held)) (Err ObjectFull) (Ok (to_be_bytes w32 (length held + 1), MvObject objects versions (held ++ [] ∷ []))) Stays (Gains ([] ∷ []))

-- the object of a number is one place lower
before : (held : Versioned) (object : ℕ) (those : List (List ℕ)) → item_numbered object held ≡ Some those → slice_get held (object - 1) ≡ Some those
before held zero those there = absurd (cc)
before held (suc index) those there = let e : suc index - 1 ≡ index = omega arith in ap (slice_get held) e ∙ there

-- an append lengthens an object, or is refused
append_grows : (objects versions : ℕ) (held : Versioned) (object : ℕ) (bytes : List ℕ) (found : Option (List (List ℕ))) → item_numbered object held ≡ found
    → Grows held (left_by held (mv_append objects versions held object bytes found))
append_grows objects versions held object bytes None is = Stays
append_grows objects versions held object bytes (Some those) is =
    by_test held (leb versions (version_count held)) (Err ObjectFull) (Ok (to_be_bytes w32 (length those + 1), MvObject objects versions (slice_set held (object - 1) (those ++ bytes ∷ []))))
    Stays (Longer (object - 1) those bytes (before held object those is))

-- a read changes nothing
read_grows : (objects versions : ℕ) (held : Versioned) (found : Option (List ℕ)) → Grows held (left_by held (mv_read objects versions held found))
read_grows objects versions held None = Stays
read_grows objects versions held (Some bytes) = Stays

-- so each operation does one of the three
step_grows : (objects versions : ℕ) (held : Versioned) (op : ℕ) (bytes : List ℕ) → Grows held (left_by held (mv_step objects versions held op bytes))
step_grows objects versions held op bytes =
    let created = mv_create objects versions held in
    let appended = mv_append objects versions held (number_32 0 bytes) (drop 4 bytes) (item_numbered (number_32 0 bytes) held) in
    let read = mv_read objects versions held (version_of (number_32 4 bytes) (item_numbered (number_32 0 bytes) held)) in
    let latest = mv_read objects versions held (latest_of (item_numbered (number_32 0 bytes) held)) in
    let fourth : Given = if op == 4 && length bytes == 4 then latest else Err BadOp in
    let third : Given = if op == 2 && length bytes == 8 then read else fourth in
    let second : Given = if op == 3 && leb 4 (length bytes) && leb (length bytes) (4 + VERSION_BYTES) then appended else third in
    by_test held (op == 1 && length bytes == 0) created second (create_grows objects versions held)
    (by_test held (op == 3 && leb 4 (length bytes) && leb (length bytes) (4 + VERSION_BYTES)) appended third (append_grows objects versions held (number_32 0 bytes) (drop 4 bytes) (item_numbered (number_32 0 bytes) held) refl)
    (by_test held (op == 2 && length bytes == 8) read fourth (read_grows objects versions held (version_of (number_32 4 bytes) (item_numbered (number_32 0 bytes) held)))
    (by_test held (op == 4 && length bytes == 4) latest (Err BadOp) (read_grows objects versions held (latest_of (item_numbered (number_32 0 bytes) held))) Stays)))

-- ---- what stays
-- a version that is there is one of an object's
record IsThere (held : Versioned) (object version : ℕ) (bytes : List ℕ) : Type 0 where
  pub those : List (List ℕ)
  pub object_is : item_numbered object held ≡ Some those
  pub version_is : item_numbered version those ≡ Some bytes

-- a version that a read finds is there
is_there : (held : Versioned) (object version : ℕ) (bytes : List ℕ) (found : Option (List (List ℕ))) → item_numbered object held ≡ found → version_of version found ≡ Some bytes
    → IsThere held object version bytes
is_there held object version bytes None is there = absurd (cc)
is_there held object version bytes (Some those) is there = record { those = those; object_is = is; version_is = there }

-- whatever becomes of the objects, a version that is there stays
grows_keeps : {held new : Versioned} → Grows held new → (object version : ℕ) (bytes : List ℕ) → IsThere held object version bytes → version_of version (item_numbered object new) ≡ Some bytes
grows_keeps Stays object version bytes there = ap (version_of version) there.object_is ∙ there.version_is
grows_keeps {held} (Gains more) object version bytes there = ap (version_of version) (nth_left object held more there.those there.object_is) ∙ there.version_is
grows_keeps {held} (Longer index those text at) zero version bytes there = absurd (cc (there.object_is))
grows_keeps {held} (Longer index those text at) (suc i) version bytes there = elim (cases_eq i index) [
  | inl same ↦
      let e : those ≡ there.those = some_is (sym at ∙ ap (slice_get held) (sym same) ∙ there.object_is) in
      ap (version_of version) (ap (slice_get (slice_set held index (those ++ text ∷ []))) same ∙ put_here held index those (those ++ text ∷ []) at)
      ∙ nth_left version those (text ∷ []) bytes (ap (item_numbered version) e ∙ there.version_is)
  | inr other ↦ ap (version_of version) (put_other held index i (those ++ text ∷ []) other ∙ there.object_is) ∙ there.version_is
]
  where
    some_is : {A : Type 0} {x y : A} → Some x ≡ Some y → x ≡ y
    some_is e = cc

-- so it stays over any list of operations
pub versions_stay : VersionsStay
versions_stay objects versions object version bytes held [] there = there
versions_stay objects versions object version bytes held ((op, asked) ∷ calls) there =
    versions_stay objects versions object version bytes (left_by held (mv_step objects versions held op asked)) calls
    (grows_keeps (step_grows objects versions held op asked) object version bytes (is_there held object version bytes (item_numbered object held) refl there))

-- ---- what an append gives
-- an object has at most as many versions as there are over all
few_versions : (held : Versioned) (index : ℕ) (those : List (List ℕ)) → slice_get held index ≡ Some those → length those ≤ version_count held
few_versions [] index those there = absurd (cc)
few_versions (versions ∷ held) zero those there = let e : versions ≡ those = cc in let h = ap length e in let all = sum_by-cons (λ (versions : List (List ℕ)). length versions) versions held in omega (arith, all)
few_versions (versions ∷ held) (suc index) those there = let h = few_versions held index those there in let all = sum_by-cons (λ (versions : List (List ℕ)). length versions) versions held in omega (arith, all)

-- what an append that was done found and left
record IsDone (objects versions : ℕ) (held : Versioned) (object : ℕ) (bytes answer : List ℕ) (new : Versioned) : Type 0 where
  pub those : List (List ℕ)
  pub there : item_numbered object held ≡ Some those
  pub room : version_count held < versions
  pub answered : answer ≡ to_be_bytes w32 (length those + 1)
  pub left : new ≡ slice_set held (object - 1) (those ++ bytes ∷ [])

-- the answer that was given
abbrev answer_in : Given → List ℕ
answer_in (Ok (answer, object)) = answer
answer_in (Err refusal) = []

-- an append that was done had its object and room
append_gave : (objects versions : ℕ) (held : Versioned) (object : ℕ) (bytes answer : List ℕ) (new : Versioned) (found : Option (List (List ℕ))) → item_numbered object held ≡ found
    → mv_append objects versions held object bytes found ≡ Ok (answer, MvObject objects versions new) → IsDone objects versions held object bytes answer new
append_gave objects versions held object bytes answer new None is gave = absurd (cc)
append_gave objects versions held object bytes answer new (Some those) is gave = by_room (leb versions (version_count held)) refl gave
  where
    by_room : (full : Bool) → leb versions (version_count held) ≡ full
        → ◌≡◌ {A = Given} (if full then Err ObjectFull else Ok (to_be_bytes w32 (length those + 1), MvObject objects versions (slice_set held (object - 1) (those ++ bytes ∷ [])))) (Ok (answer, MvObject objects versions new))
        → IsDone objects versions held object bytes answer new
    by_room true full gave = absurd (cc)
    by_room false full gave = record {
      those = those;
      there = is;
      room = leb-false versions (version_count held) full;
      answered = sym (ap answer_in gave);
      left = sym (ap (left_by []) gave);
    }

-- an append has the bytes of one, where it was done
record IsAsked (objects versions : ℕ) (held : Versioned) (asked answer : List ℕ) (new : Versioned) : Type 0 where
  pub long : 4 ≤ length asked
  pub done : IsDone objects versions held (number_32 0 asked) (drop 4 asked) answer new

-- the bytes of an append that was done have an object's number at the front
was_asked : (objects versions : ℕ) (held : Versioned) (asked answer : List ℕ) (new : Versioned) → mv_step objects versions held 3 asked ≡ Ok (answer, MvObject objects versions new)
    → IsAsked objects versions held asked answer new
was_asked objects versions held asked answer new gave = by_long (leb 4 (length asked)) refl (by_short (leb 4 (length asked)) (leb (length asked) (4 + VERSION_BYTES)) gave)
  where
    by_short : (long short : Bool)
        → ◌≡◌ {A = Given} (if long && short then mv_append objects versions held (number_32 0 asked) (drop 4 asked) (item_numbered (number_32 0 asked) held) else Err BadOp) (Ok (answer, MvObject objects versions new))
        → (long ≡ true) × ◌≡◌ {A = Given} (mv_append objects versions held (number_32 0 asked) (drop 4 asked) (item_numbered (number_32 0 asked) held)) (Ok (answer, MvObject objects versions new))
    by_short true true gave = (refl, gave)
    by_short true false gave = absurd (cc)
    by_short false short gave = absurd (cc)

    by_long : (long : Bool) → leb 4 (length asked) ≡ long
        → (long ≡ true) × ◌≡◌ {A = Given} (mv_append objects versions held (number_32 0 asked) (drop 4 asked) (item_numbered (number_32 0 asked) held)) (Ok (answer, MvObject objects versions new))
        → IsAsked objects versions held asked answer new
    by_long long is (sure, gave) = record {
      long = leb-true 4 (length asked) (is ∙ sure);
      done = append_gave objects versions held (number_32 0 asked) (drop 4 asked) answer new (item_numbered (number_32 0 asked) held) refl gave;
    }

-- the version that an append added is there
done_there : {objects versions : ℕ} {held : Versioned} {object : ℕ} {bytes answer : List ℕ} {new : Versioned} (done : IsDone objects versions held object bytes answer new)
    → version_of (length done.those + 1) (item_numbered object new) ≡ Some bytes
done_there {held} {object = zero} done = absurd (cc (done.there))
done_there {held} {object = suc i} {bytes} {answer} {new} done =
    let e : suc i - 1 ≡ i = omega arith in
    let n : length done.those + 1 ≡ suc (length done.those) = omega arith in
    ap (λ h. version_of (length done.those + 1) (slice_get h i)) (done.left ∙ ap (λ k. slice_set held k (done.those ++ bytes ∷ [])) e)
    ∙ ap (version_of (length done.those + 1)) (put_here held i done.those (done.those ++ bytes ∷ []) done.there)
    ∙ ap (λ k. item_numbered k (done.those ++ bytes ∷ [])) n
    ∙ slice_get_seam done.those bytes []

-- a read of eight bytes gives the version of its two numbers
read_gives : (objects versions : ℕ) (held : Versioned) (front answer bytes : List ℕ) → length front ≡ 4 → length answer ≡ 4
    → version_of (from_be_bytes w32 answer) (item_numbered (from_be_bytes w32 front) held) ≡ Some bytes
    → mv_step objects versions held 2 (front ++ answer) ≡ Ok (bytes, MvObject objects versions held)
read_gives objects versions held front answer bytes four four' there =
    let eight : length (front ++ answer) ≡ 8 = length-append front answer ∙ (let h : length front + length answer ≡ 8 = omega arith in h) in
    let first : take 4 (front ++ answer) ≡ front = ap (λ n. take n (front ++ answer)) (sym four) ∙ take-append_seam front answer in
    let second : take 4 (drop 4 (front ++ answer)) ≡ answer = ap (λ n. take 4 (drop n (front ++ answer))) (sym four) ∙ ap (take 4) (drop-append_seam front answer) ∙ take_all 4 answer (omega arith) in
    with_test (length (front ++ answer) == 8) (ap (λ n. n == 8) eight)
    ∙ ap (λ n. mv_read objects versions held (version_of (number_32 4 (front ++ answer)) (item_numbered (from_be_bytes w32 n) held))) first
    ∙ ap (λ n. mv_read objects versions held (version_of (from_be_bytes w32 n) (item_numbered (from_be_bytes w32 front) held))) second
    ∙ ap (mv_read objects versions held) there
  where
    with_test : (eight : Bool) → eight ≡ true → ◌≡◌ {A = Given} (if eight then mv_read objects versions held (version_of (number_32 4 (front ++ answer)) (item_numbered (number_32 0 (front ++ answer)) held)) else Err BadOp) (mv_read objects versions held (version_of (number_32 4 (front ++ answer)) (item_numbered (number_32 0 (front ++ answer)) held)))
    with_test true sure = refl
    with_test false sure = absurd (cc)

-- a read under the number that an append answered gives the appended bytes, ever after
pub reads_give_what_was_appended : ReadsGiveWhatWasAppended
reads_give_what_was_appended objects versions asked answer held new calls small gave =
    let was = was_asked objects versions held asked answer new gave in
    let done = was.done in
    let few = few_versions held (number_32 0 asked - 1) done.those (before held (number_32 0 asked) done.those done.there) in
    let low : length done.those + 1 < 2 ^ 32 = omega (arith, done.room) in
    let number : from_be_bytes w32 answer ≡ length done.those + 1 = ap (from_be_bytes w32) done.answered ∙ from_be_bytes-to_be_bytes_4 (length done.those + 1) low in
    let later : Versioned = after objects versions new calls in
    let there : version_of (length done.those + 1) (item_numbered (number_32 0 asked) later) ≡ Some (drop 4 asked) =
    versions_stay objects versions (number_32 0 asked) (length done.those + 1) (drop 4 asked) new calls (done_there done) in
    read_gives objects versions later (take 4 asked) answer (drop 4 asked) (length-take-le 4 asked was.long) (ap length done.answered)
    (ap (λ n. version_of n (item_numbered (number_32 0 asked) later)) number ∙ there)
