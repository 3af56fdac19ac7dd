-- Bytes that pass the checks of a header are a frame.
use Rattle.std.proofs.Common.{◌≡◌, ℕ, ◌≤◌, Bool, List, [], ◌∷◌, ◌++◌, length, drop, None, refl, sym, subst, inl, inr, arith}
use Rattle.std.specs.Prelude.{IsTrue, slice_index}
use Rattle.std.proofs.lemmas.Bool.{cases_Bool}
use Rattle.std.proofs.lemmas.Bool.Decides.{nat_tests}
use Rattle.std.proofs.lemmas.List.{length-drop}
use Rattle.frame_model.specs.Faults.{first_fault}
use Rattle.cl_types.specs.Ranges.{are_bytes}
use Rattle.frame_model.specs.Frames.{frame_of, head_in, IsHead, body_len, number_16, number_64, Checks, header_checks}
use Rattle.frame_model.proofs.FrameLemmas.{AllPassed, HasHeader}
use Rattle.frame_model.proofs.ByteLemmas.{spell_16, spell_64, spell_8, number_16-below, number_64-below}

-- ---- no fault
-- where no check of two lists fails, none of each does
passed_each : (checks more : Checks) → first_fault (checks ++ more) ≡ None → AllPassed checks × (first_fault more ≡ None)
passed_each [] more none = (tt, none)
passed_each (check ∷ checks) more none = elim (cases_Bool check.0) [
  | inl fails ↦ let some = rw fails at none in absurd (cc)
  | inr passes ↦ let rest = passed_each checks more (rw passes at none) in ((passes, rest.0), rest.1)
]

all_passed : (checks : Checks) → first_fault checks ≡ None → AllPassed checks
all_passed [] none = tt
all_passed (check ∷ checks) none =
    let both = passed_each (check ∷ []) checks none in
    (both.0.0, all_passed checks both.1)

header_of : (is_kind : ℕ → Bool) (bytes : List ℕ) → AllPassed (header_checks is_kind bytes) → HasHeader is_kind bytes
header_of is_kind bytes passed = record {
  whole = grind (arith, nat_tests);
  magic = grind (arith, nat_tests);
  version = grind (arith, nat_tests);
  good_kind = grind (arith, nat_tests);
  pid = grind (arith, nat_tests);
  id = grind (arith, nat_tests);
  orig = grind (arith, nat_tests);
}

body_len-body : (is_kind : ℕ → Bool) (bytes : List ℕ) → HasHeader is_kind bytes → body_len bytes ≡ length (drop 26 bytes)
body_len-body is_kind bytes header = omega (arith, header.whole, length-drop 26 bytes)

-- no fault of a frame: its header is good, and the checks of its body pass
pub parts_passed : (is_kind : ℕ → Bool) (body_checks : ℕ → List ℕ → Checks) (bytes : List ℕ)
    → first_fault (header_checks is_kind bytes ++ body_checks (body_len bytes) (drop 26 bytes)) ≡ None
    → HasHeader is_kind bytes × AllPassed (body_checks (length (drop 26 bytes)) (drop 26 bytes))
parts_passed is_kind body_checks bytes none =
    let body : List ℕ = drop 26 bytes in
    let both = passed_each (header_checks is_kind bytes) (body_checks (body_len bytes) body) none in
    let header = header_of is_kind bytes both.0 in
    let passed = all_passed (body_checks (body_len bytes) body) both.1 in
    (header, subst (λ n. AllPassed (body_checks n body)) (body_len-body is_kind bytes header) passed)

-- ---- the frame that they are
pub good_head : (is_kind : ℕ → Bool) (bytes : List ℕ) → IsTrue (are_bytes bytes) → HasHeader is_kind bytes → IsHead (head_in bytes)
good_head is_kind bytes good header = record {
  client = number_16-below 4 bytes good;
  pid = header.pid;
  id = number_64-below 8 bytes good;
  orig = header.orig;
}

-- what a reader finds in them spells the bytes again
frame_again : (is_kind : ℕ → Bool) (bytes : List ℕ) → IsTrue (are_bytes bytes) → HasHeader is_kind bytes
    → frame_of (slice_index bytes 3) (head_in bytes) (drop 26 bytes) ≡ bytes
frame_again is_kind bytes good header =
    let long : 26 ≤ length bytes = omega (arith, header.whole) in
    let body = spell_16 24 (length (drop 26 bytes)) bytes (drop 26 bytes) good (omega arith) (sym (body_len-body is_kind bytes header)) refl in
    let orig = spell_64 16 (number_64 16 bytes) bytes _ good (omega arith) refl body in
    let id = spell_64 8 (number_64 8 bytes) bytes _ good (omega arith) refl orig in
    let pid = spell_16 6 (number_16 6 bytes) bytes _ good (omega arith) refl id in
    let client = spell_16 4 (number_16 4 bytes) bytes _ good (omega arith) refl pid in
    let kind = spell_8 3 (slice_index bytes 3) bytes _ (omega arith) refl client in
    let version = spell_8 2 1 bytes _ (omega arith) (sym header.version) kind in
    let second = spell_8 1 76 bytes _ (omega arith) (sym header.magic.1) version in
    spell_8 0 67 bytes _ (omega arith) (sym header.magic.0) second

pub frame_spelled : (is_kind : ℕ → Bool) (bytes : List ℕ) (kind : ℕ) (body : List ℕ) → IsTrue (are_bytes bytes) → HasHeader is_kind bytes
    → kind ≡ slice_index bytes 3 → body ≡ drop 26 bytes → bytes ≡ frame_of kind (head_in bytes) body
frame_spelled is_kind bytes kind body good header same_kind same_body = rw (same_kind, same_body) (sym (frame_again is_kind bytes good header))
