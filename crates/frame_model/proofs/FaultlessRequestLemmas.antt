-- Bytes with no fault for a node spell the request that it reads in them.
use Rattle.std.proofs.Common.{◌≡◌, ◌⊎◌, ℕ, ◌≤◌, List, [], length, drop, refl, sym, inl, inr, arith}
use Rattle.std.specs.Prelude.{IsTrue, ◌==◌, ◌||◌, slice_index}
use Rattle.std.proofs.lemmas.Bool.{and_from, not-false}
use Rattle.std.proofs.lemmas.Bool.Decides.{nat_tests}
use Rattle.std.proofs.lemmas.List.{length-drop, drop_all}
use Rattle.cl_types.specs.declared.call.Kind.{Kind}
use Rattle.cl_types.specs.declared.call.Kind.TheVariants as kind
use Rattle.cl_types.specs.Config.{is_within}
use Rattle.cl_types.specs.Kinds.{kind_number}
use Rattle.cl_types.specs.Ranges.{is_in_range, are_bytes, has_words}
use Rattle.frame_model.specs.Frames.{request_in_body, request_body, request_checks, alloc_checks, free_checks, read_checks, write_checks, atomic_checks, offload_checks, is_op, kind_of, perm_number, perm_in, op_in, op_spelling, number_16, number_32, number_64}
use Rattle.frame_model.specs.FrameLaws.{FaultlessRequestsAreSpelled}
use Rattle.frame_model.proofs.FrameLemmas.{AllPassed, kind_of_number, kind_number-numbered}
use Rattle.frame_model.proofs.ByteLemmas.{small, are_bytes_drop, spell_8, spell_16, spell_32, spell_64, number_64-below}
use Rattle.frame_model.proofs.FaultlessFrameLemmas.{parts_passed, good_head, frame_spelled}

-- the request that is read in a body is in its range, of this kind, and spelled by the body
record IsReadAs (kind : ℕ) (body : List ℕ) : Type 0 where
  good : IsTrue (is_in_range (request_in_body kind body))
  spelling : request_body (request_in_body kind body) ≡ body
  same_kind : kind_number (kind_of (request_in_body kind body)) ≡ kind

perm_spelled : (n : ℕ) → 1 ≤ n → n ≤ 3 → perm_number (perm_in n) ≡ n
perm_spelled n low high = grind (arith, nat_tests)

-- ---- a body of each kind that passes its checks
module _ (body : List ℕ) (good : IsTrue (are_bytes body)) where
  alloc_read : AllPassed (alloc_checks (length body) body) → IsReadAs 1 body
  alloc_read passed =
      let long : length body ≡ 3 = grind (arith, nat_tests) in
      let perm = perm_spelled (slice_index body 2) (grind (arith, nat_tests)) (grind (arith, nat_tests)) in
      let last = spell_8 2 (perm_number (perm_in (slice_index body 2))) body [] (omega arith) perm (sym (drop_all 3 body (omega arith))) in
      record {
        good = grind (arith, nat_tests);
        spelling = spell_16 0 (number_16 0 body) body _ good (omega arith) refl last;
        same_kind = refl;
      }

  free_read : AllPassed (free_checks (length body) body) → IsReadAs 2 body
  free_read passed =
      let long : length body ≡ 6 = grind (arith, nat_tests) in
      let pages = spell_16 4 (number_16 4 body) body [] good (omega arith) refl (sym (drop_all 6 body (omega arith))) in
      record {
        good = grind (arith, nat_tests);
        spelling = spell_32 0 (number_32 0 body) body _ good (omega arith) refl pages;
        same_kind = refl;
      }

  read_read : AllPassed (read_checks (length body) body) → IsReadAs 3 body
  read_read passed =
      let long : length body ≡ 6 = grind (arith, nat_tests) in
      let len = spell_16 4 (number_16 4 body) body [] good (omega arith) refl (sym (drop_all 6 body (omega arith))) in
      record {
        good = grind (arith, nat_tests);
        spelling = spell_32 0 (number_32 0 body) body _ good (omega arith) refl len;
        same_kind = refl;
      }

  write_read : AllPassed (write_checks (length body) body) → IsReadAs 4 body
  write_read passed =
      let long : 5 ≤ length body = grind (arith, nat_tests) in
      let rest = length-drop 4 body in
      let rest_good = are_bytes_drop 4 body good in
      record {
        good = grind (arith, nat_tests);
        spelling = spell_32 0 (number_32 0 body) body _ good (omega arith) refl refl;
        same_kind = refl;
      }

  offload_read : AllPassed (offload_checks (length body) body) → IsReadAs 6 body
  offload_read passed =
      let long : 4 ≤ length body = grind (arith, nat_tests) in
      let rest = length-drop 4 body in
      let rest_good = are_bytes_drop 4 body good in
      let number = small body good 0 in
      let op = small body good 1 in
      let out = spell_16 2 (number_16 2 body) body _ good (omega arith) refl refl in
      let second = spell_8 1 (slice_index body 1) body _ (omega arith) refl out in
      record {
        good = grind (arith, nat_tests);
        spelling = spell_8 0 (slice_index body 0) body _ (omega arith) refl second;
        same_kind = refl;
      }

-- ---- an operation on a word
-- which operation has so many bytes with its address
op_cases : (n op : ℕ) → IsTrue (n == 5 || n == 13 || n == 21) → IsTrue (is_op n op)
    → ((n ≡ 5) × (op ≡ 1)) ⊎ (((n ≡ 5) × (op ≡ 2)) ⊎ (((n ≡ 13) × (op ≡ 3)) ⊎ ((n ≡ 21) × (op ≡ 4))))
op_cases n op long good = grind (arith, nat_tests)

-- the operation that is read in a body has words of their type, and is spelled by what is after the address
record IsReadOp (body : List ℕ) : Type 0 where
  words : IsTrue (has_words (op_in body))
  spelling : op_spelling (op_in body) ≡ drop 4 body

lock_read : (body : List ℕ) → length body ≡ 5 → slice_index body 4 ≡ 1 → IsReadOp body
lock_read body long op = record {
  words = rw op refl;
  spelling = rw op (spell_8 4 1 body [] (omega arith) (sym op) (sym (drop_all 5 body (omega arith))));
}

unlock_read : (body : List ℕ) → length body ≡ 5 → slice_index body 4 ≡ 2 → IsReadOp body
unlock_read body long op = record {
  words = rw op refl;
  spelling = rw op (spell_8 4 2 body [] (omega arith) (sym op) (sym (drop_all 5 body (omega arith))));
}

add_read : (body : List ℕ) → IsTrue (are_bytes body) → length body ≡ 13 → slice_index body 4 ≡ 3 → IsReadOp body
add_read body good long op =
    let word = number_64-below 5 body good in
    let last = spell_64 5 (number_64 5 body) body [] good (omega arith) refl (sym (drop_all 13 body (omega arith))) in
    record {
      words = rw op (grind (arith, nat_tests));
      spelling = rw op (spell_8 4 3 body _ (omega arith) (sym op) last);
    }

cas_read : (body : List ℕ) → IsTrue (are_bytes body) → length body ≡ 21 → slice_index body 4 ≡ 4 → IsReadOp body
cas_read body good long op =
    let expect_below = number_64-below 5 body good in
    let put_below = number_64-below 13 body good in
    let put = spell_64 13 (number_64 13 body) body [] good (omega arith) refl (sym (drop_all 21 body (omega arith))) in
    let expect = spell_64 5 (number_64 5 body) body _ good (omega arith) refl put in
    record {
      words = rw op (grind (arith, nat_tests));
      spelling = rw op (spell_8 4 4 body _ (omega arith) (sym op) expect);
    }

op_read : (body : List ℕ) → IsTrue (are_bytes body) → AllPassed (atomic_checks (length body) body) → IsReadOp body
op_read body good passed =
    elim (op_cases (length body) (slice_index body 4) (not-false _ passed.0) (not-false _ passed.1.1.0)) [
      | inl lock ↦ lock_read body lock.0 lock.1
      | inr (inl unlock) ↦ unlock_read body unlock.0 unlock.1
      | inr (inr (inl add)) ↦ add_read body good add.0 add.1
      | inr (inr (inr cas)) ↦ cas_read body good cas.0 cas.1
    ]

atomic_read : (body : List ℕ) → IsTrue (are_bytes body) → AllPassed (atomic_checks (length body) body) → IsReadAs 5 body
atomic_read body good passed =
    let op = op_read body good passed in
    let long : 5 ≤ length body = grind (arith, nat_tests) in
    record {
      good = and_from _ _ (not-false _ passed.1.0) op.words;
      spelling = spell_32 0 (number_32 0 body) body _ good (omega arith) refl op.spelling;
      same_kind = refl;
    }

-- ---- a body of any kind, and a frame
body_read : (k : Kind) (body : List ℕ) → IsTrue (are_bytes body) → AllPassed (request_checks (kind_number k) (length body) body) → IsReadAs (kind_number k) body
body_read kind.Alloc body good passed = alloc_read body good passed
body_read kind.Free body good passed = free_read body good passed
body_read kind.Read body good passed = read_read body good passed
body_read kind.Write body good passed = write_read body good passed
body_read kind.Atomic body good passed = atomic_read body good passed
body_read kind.Offload body good passed = offload_read body good passed

pub faultless_requests_are_spelled : FaultlessRequestsAreSpelled
faultless_requests_are_spelled bytes good none =
    let number : ℕ = slice_index bytes 3 in
    let body : List ℕ = drop 26 bytes in
    let parts = parts_passed (is_within 1 6) (request_checks number) bytes none in
    let same : kind_number (kind_of_number number) ≡ number = kind_number-numbered number (grind (arith, nat_tests)) (grind (arith, nat_tests)) in
    let passed : AllPassed (request_checks (kind_number (kind_of_number number)) (length body) body) = rw same parts.1 in
    let read : IsReadAs number body = rw same at (body_read (kind_of_number number) body (are_bytes_drop 26 bytes good) passed) in
    record {
      good_head = good_head (is_within 1 6) bytes good parts.0;
      good_body = read.good;
      spelling = frame_spelled (is_within 1 6) bytes _ _ good parts.0 read.same_kind read.spelling;
    }
