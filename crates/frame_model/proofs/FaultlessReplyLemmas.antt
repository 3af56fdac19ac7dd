-- Bytes with no fault for a client spell the reply that it reads in them.
use Rattle.std.proofs.Common.{◌≡◌, ◌≢◌, ℕ, ◌+◌, ◌-◌, ◌≤◌, false, List, [], ◌∷◌, length, drop, refl, sym, inl, inr, arith}
use Rattle.std.specs.Prelude.{IsTrue, ◌==◌, slice_index}
use Rattle.std.proofs.lemmas.Bool.{cases_eq}
use Rattle.std.proofs.lemmas.Bool.Decides.{nat_tests}
use Rattle.std.proofs.lemmas.List.{length-drop, drop_all}
use Rattle.cl_types.specs.declared.call.Kind.{Kind}
use Rattle.cl_types.specs.declared.call.Kind.TheVariants as kind
use Rattle.cl_types.specs.declared.reply.Reply.{Reply}
use Rattle.cl_types.specs.Config.{is_within}
use Rattle.cl_types.specs.Kinds.{kind_number}
use Rattle.cl_types.specs.Ranges.{are_bytes}
use Rattle.frame_model.specs.Frames.{is_reply_of, reply_in_body, refusal_in, status_in, status_of, reply_value, reply_checks, ok_checks, SpellsReply, head_in, reply_in, number_32, number_64}
use Rattle.frame_model.specs.FrameLaws.{FaultlessRepliesAreSpelled}
use Rattle.frame_model.proofs.FrameLemmas.{AllPassed, kind_of_number, kind_number-numbered}
use Rattle.frame_model.proofs.ByteLemmas.{are_bytes_drop, spell_8, spell_32, spell_64, number_64-below}
use Rattle.frame_model.proofs.FaultlessFrameLemmas.{parts_passed, good_head, frame_spelled}

-- the reply is one of this kind, and spelled by the body
record IsReadAs (k : Kind) (body : List ℕ) (reply : Reply) : Type 0 where
  good : IsTrue (is_reply_of k reply)
  spelling : status_in reply ∷ reply_value reply ≡ body

status_spelled : (n : ℕ) → 1 ≤ n → n ≤ 8 → status_of (refusal_in n) ≡ n
status_spelled n low high = grind (arith, nat_tests)

-- a body of one byte
single : (byte : ℕ) (body : List ℕ) → length body ≡ 1 → byte ≡ slice_index body 0 → byte ∷ [] ≡ body
single byte body long read = spell_8 0 byte body [] (omega arith) read (sym (drop_all 1 body (omega arith)))

-- ---- a body of each status and kind that passes its checks
refused_read : (k : Kind) (body : List ℕ) → slice_index body 0 ≢ 0 → AllPassed (reply_checks (128 + kind_number k) (length body) body)
    → IsReadAs k body (reply_in_body (128 + kind_number k) body)
refused_read k body nonzero passed =
    let test : (slice_index body 0 == 0) ≡ false = grind (arith, nat_tests) in
    let rest = rw test at passed.1.1 in
    let low : 1 ≤ slice_index body 0 = omega arith in
    let high : slice_index body 0 ≤ 8 = grind (arith, nat_tests) in
    let long : length body ≡ 1 = grind (arith, nat_tests) in
    rw test (record { good = refl; spelling = single _ body long (status_spelled (slice_index body 0) low high) })

ok_read : (k : Kind) (body : List ℕ) → IsTrue (are_bytes body) → slice_index body 0 ≡ 0 → 1 ≤ length body
    → AllPassed (ok_checks (128 + kind_number k) (length body) body) → IsReadAs k body (reply_in_body (128 + kind_number k) body)
ok_read kind.Alloc body good zero long passed =
    let five : length body ≡ 5 = grind (arith, nat_tests) in
    let addr = spell_32 1 (number_32 1 body) body [] good (omega arith) refl (sym (drop_all 5 body (omega arith))) in
    rw zero (record { good = grind (arith, nat_tests); spelling = spell_8 0 0 body _ (omega arith) (sym zero) addr })
ok_read kind.Free body good zero long passed = rw zero (record { good = refl; spelling = single 0 body (grind (arith, nat_tests)) (sym zero) })
ok_read kind.Write body good zero long passed = rw zero (record { good = refl; spelling = single 0 body (grind (arith, nat_tests)) (sym zero) })
ok_read kind.Read body good zero long passed =
    let rest = length-drop 1 body in
    let rest_good = are_bytes_drop 1 body good in
    rw zero (record { good = grind (arith, nat_tests); spelling = spell_8 0 0 body _ (omega arith) (sym zero) refl })
ok_read kind.Offload body good zero long passed =
    let rest = length-drop 1 body in
    let rest_good = are_bytes_drop 1 body good in
    rw zero (record { good = grind (arith, nat_tests); spelling = spell_8 0 0 body _ (omega arith) (sym zero) refl })
ok_read kind.Atomic body good zero long passed =
    let nine : length body ≡ 9 = grind (arith, nat_tests) in
    let below = number_64-below 1 body good in
    let word = spell_64 1 (number_64 1 body) body [] good (omega arith) refl (sym (drop_all 9 body (omega arith))) in
    rw zero (record { good = grind (arith, nat_tests); spelling = spell_8 0 0 body _ (omega arith) (sym zero) word })

-- ---- a body of any status, and a frame
body_read : (k : Kind) (body : List ℕ) → IsTrue (are_bytes body) → AllPassed (reply_checks (128 + kind_number k) (length body) body)
    → IsReadAs k body (reply_in_body (128 + kind_number k) body)
body_read k body good passed = elim (cases_eq (slice_index body 0) 0) [
  | inl zero ↦ ok_read k body good zero (grind (arith, nat_tests)) (rw zero at passed.1.1)
  | inr nonzero ↦ refused_read k body nonzero passed
]

pub faultless_replies_are_spelled : FaultlessRepliesAreSpelled
faultless_replies_are_spelled bytes good none =
    let number : ℕ = slice_index bytes 3 in
    let body : List ℕ = drop 26 bytes in
    let parts = parts_passed (is_within 129 134) (reply_checks number) bytes none in
    let k : Kind = kind_of_number (number - 128) in
    let numbered : kind_number k ≡ number - 128 = kind_number-numbered (number - 128) (grind (arith, nat_tests)) (grind (arith, nat_tests)) in
    let same : 128 + kind_number k ≡ number = grind (arith, nat_tests) in
    let passed : AllPassed (reply_checks (128 + kind_number k) (length body) body) = rw same parts.1 in
    let read : IsReadAs k body (reply_in_body number body) = rw same at (body_read k body (are_bytes_drop 26 bytes good) passed) in
    let spelled : SpellsReply bytes (head_in bytes) k (reply_in bytes) = record {
      good_head = good_head (is_within 129 134) bytes good parts.0;
      good_body = read.good;
      spelling = frame_spelled (is_within 129 134) bytes (128 + kind_number k) _ good parts.0 same read.spelling;
    } in
    (k, spelled)
