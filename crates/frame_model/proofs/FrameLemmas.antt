-- What a reader finds in a frame, and that a frame passes its reader's checks.
use Rattle.std.proofs.Common.{◌≡◌, ℕ, ◌+◌, ◌<◌, ◌≤◌, ◌^◌, Bool, false, List, [], ◌∷◌, ◌++◌, length, None, refl, sym, ap, ◌∙◌, arith}
use Rattle.std.specs.Prelude.{IsTrue, ◌==◌, slice_index, if◌then◌else◌}
use Rattle.std.specs.Int.{to_be_bytes, w64}
use Rattle.std.specs.List.{AllByRecursion}
use Rattle.std.proofs.lemmas.Bool.Decides.{nat_tests}
use Rattle.std.proofs.lemmas.Nat.{from_be_bytes-to_be_bytes_2, from_be_bytes-to_be_bytes_8}
use Rattle.cl_types.specs.declared.call.Kind.{Kind}
use Rattle.cl_types.specs.declared.call.Kind.TheVariants as kind
use Rattle.cl_types.specs.declared.frame.Head.{Head}
use Rattle.cl_types.specs.declared.numbers.TheConstants.{LAST_PID}
use Rattle.cl_types.specs.Kinds.{kind_number}
use Rattle.frame_model.specs.Faults.{first_fault}
use Rattle.cl_types.specs.Ranges.{is_word}
use Rattle.frame_model.specs.Frames.{frame_of, head_in, IsHead, body_len, number_16, number_64, Checks, header_checks}

-- ---- kinds and their numbers
-- the kind of this number
abbrev pub kind_of_number : ℕ → Kind
kind_of_number n =
    if n == 1 then kind.Alloc else if n == 2 then kind.Free else if n == 3 then kind.Read else if n == 4 then kind.Write
    else if n == 5 then kind.Atomic else kind.Offload

kind_again : (k : Kind) → kind_of_number (kind_number k) ≡ k
kind_again kind.Alloc = refl
kind_again kind.Free = refl
kind_again kind.Read = refl
kind_again kind.Write = refl
kind_again kind.Atomic = refl
kind_again kind.Offload = refl

-- kinds with one number are one
pub one_kind : (k other : Kind) → kind_number k ≡ kind_number other → k ≡ other
one_kind k other same = sym (kind_again k) ∙ ap kind_of_number same ∙ kind_again other

pub kind_number-numbered : (n : ℕ) → 1 ≤ n → n ≤ 6 → kind_number (kind_of_number n) ≡ n
kind_number-numbered n low high = grind (arith, nat_tests)

-- ---- the numbers at their places
pub client_again : (kind : ℕ) (head : Head) (body : List ℕ) → IsHead head → number_16 4 (frame_of kind head body) ≡ head.client.0
client_again kind head body good = from_be_bytes-to_be_bytes_2 head.client.0 good.client

pub pid_again : (kind : ℕ) (head : Head) (body : List ℕ) → IsHead head → number_16 6 (frame_of kind head body) ≡ head.pid
pid_again kind head body good = from_be_bytes-to_be_bytes_2 head.pid (omega (arith, good.pid.1))

pub id_again : (kind : ℕ) (head : Head) (body : List ℕ) → IsHead head → number_64 8 (frame_of kind head body) ≡ head.id
id_again kind head body good = from_be_bytes-to_be_bytes_8 head.id good.id

pub orig_again : (kind : ℕ) (head : Head) (body : List ℕ) → IsHead head → number_64 16 (frame_of kind head body) ≡ head.orig
orig_again kind head body good = from_be_bytes-to_be_bytes_8 head.orig (omega (arith, good.orig.1, good.id))

pub body_len_again : (kind : ℕ) (head : Head) (body : List ℕ) → length body < 2 ^ 16 → body_len (frame_of kind head body) ≡ length body
body_len_again kind head body fits = from_be_bytes-to_be_bytes_2 (length body) fits

pub head_again : (kind : ℕ) (head : Head) (body : List ℕ) → IsHead head → head_in (frame_of kind head body) ≡ head
head_again kind head body good = rw (client_again kind head body good, pid_again kind head body good, id_again kind head body good, orig_again kind head body good) refl

pub length-frame : (kind : ℕ) (head : Head) (body : List ℕ) → length (frame_of kind head body) ≡ 26 + length body
length-frame kind head body = omega arith

pub word_again : (word : ℕ) → IsTrue (is_word word) → number_64 0 (to_be_bytes w64 word) ≡ word
word_again word good = from_be_bytes-to_be_bytes_8 word (grind (arith, nat_tests))

-- ---- checks that pass
-- every check passes
abbrev pub AllPassed : Checks → Type 0
AllPassed checks = AllByRecursion (λ check. check.0 ≡ false) checks

pub first_fault-passed : (checks : Checks) → AllPassed checks → first_fault checks ≡ None
first_fault-passed [] passed = refl
first_fault-passed (check ∷ checks) passed = rw passed.0 (first_fault-passed checks passed.1)

-- checks that pass hand on the fault of those after them
first_fault-after : (checks more : Checks) → AllPassed checks → first_fault (checks ++ more) ≡ first_fault more
first_fault-after [] more passed = refl
first_fault-after (check ∷ checks) more passed = rw passed.0 (first_fault-after checks more passed.1)

-- what the checks of a header ask
pub record HasHeader (is_kind : ℕ → Bool) (bytes : List ℕ) : Type 0 where
  pub whole : length bytes ≡ 26 + body_len bytes
  pub magic : (slice_index bytes 0 ≡ 67) × (slice_index bytes 1 ≡ 76)
  pub version : slice_index bytes 2 ≡ 1
  pub good_kind : IsTrue (is_kind (slice_index bytes 3))
  pub pid : (1 ≤ number_16 6 bytes) × (number_16 6 bytes ≤ LAST_PID)
  pub id : 1 ≤ number_64 8 bytes
  pub orig : (1 ≤ number_64 16 bytes) × (number_64 16 bytes ≤ number_64 8 bytes)

pub has_header : (is_kind : ℕ → Bool) (kind : ℕ) (head : Head) (body : List ℕ)
    → IsHead head → IsTrue (is_kind kind) → length body < 2 ^ 16 → HasHeader is_kind (frame_of kind head body)
has_header is_kind kind head body good good_kind fits =
    let long = body_len_again kind head body fits in
    let pid = pid_again kind head body good in
    let id = id_again kind head body good in
    let orig = orig_again kind head body good in
    record {
      whole = omega (arith, length-frame kind head body, long);
      magic = (refl, refl);
      version = refl;
      good_kind = good_kind;
      pid = rw pid good.pid;
      id = rw id (omega (arith, good.orig));
      orig = rw (orig, id) good.orig;
    }

pub header_passed : (is_kind : ℕ → Bool) (bytes : List ℕ) → HasHeader is_kind bytes → AllPassed (header_checks is_kind bytes)
header_passed is_kind bytes h = grind (arith, nat_tests)

-- a frame of good parts, whose body passes its checks, has no fault
pub first_fault-frame : (is_kind : ℕ → Bool) (body_checks : ℕ → List ℕ → Checks) (kind : ℕ) (head : Head) (body : List ℕ)
    → IsHead head → IsTrue (is_kind kind) → length body < 2 ^ 16 → AllPassed (body_checks (length body) body)
    → first_fault (header_checks is_kind (frame_of kind head body) ++ body_checks (body_len (frame_of kind head body)) body) ≡ None
first_fault-frame is_kind body_checks kind head body good good_kind fits passed =
    let header = header_passed is_kind (frame_of kind head body) (has_header is_kind kind head body good good_kind fits) in
    first_fault-after (header_checks is_kind (frame_of kind head body)) (body_checks (body_len (frame_of kind head body)) body) header
    ∙ rw (body_len_again kind head body fits) (first_fault-passed (body_checks (length body) body) passed)
