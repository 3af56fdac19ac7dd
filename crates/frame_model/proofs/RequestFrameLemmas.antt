-- What was spelled as a request is read again.
use Rattle.std.proofs.Common.{◌≡◌, ℕ, ◌+◌, ◌<◌, ◌≤◌, ◌^◌, ◌%◌, Bool, false, not, ◌++◌, length, None, refl, sym, ap, ◌∙◌, subst, arith}
use Rattle.std.specs.Prelude.{IsTrue, ◌==◌, ◌||◌, slice_index}
use Rattle.std.specs.Int.{to_be_bytes, w16, w32}
use Rattle.std.proofs.lemmas.Bool.{and_parts}
use Rattle.std.proofs.lemmas.Bool.Decides.{nat_tests}
use Rattle.std.proofs.lemmas.Nat.{from_be_bytes-to_be_bytes_2, from_be_bytes-to_be_bytes_4}
use Rattle.cl_types.specs.declared.frame.Head.{Head}
use Rattle.cl_types.specs.declared.call.Perm.{Perm}
use Rattle.cl_types.specs.declared.call.Perm.TheVariants.{ReadOnly, WriteOnly, ReadWrite}
use Rattle.cl_types.specs.declared.call.AtomicOp.{AtomicOp}
use Rattle.cl_types.specs.declared.call.AtomicOp.TheVariants.{Lock, Unlock, Add, Cas}
use Rattle.cl_types.specs.declared.numbers.Addr.{Addr}
use Rattle.cl_types.specs.declared.request.Request.{Request}
use Rattle.cl_types.specs.declared.request.Request.TheVariants as request
use Rattle.cl_types.specs.Config.{is_within}
use Rattle.cl_types.specs.Kinds.{kind_number}
use Rattle.cl_types.specs.Ranges.{is_in_range, is_good_address, is_piece, has_words}
use Rattle.frame_model.specs.Frames.{request_fault, request_in_body, request_body, request_frame, request_checks, is_op, kind_of, perm_number, perm_in, op_in, op_spelling, number_16, number_32, IsHead}
use Rattle.frame_model.specs.FrameLaws.{ReadsAsRequest, RequestsAreReadAgain, BytesSpellOneRequest}
use Rattle.frame_model.proofs.FrameLemmas.{AllPassed, first_fault-frame, head_again, word_again}

-- ---- the numbers and choices of a body
perm_again : (perm : Perm) → perm_in (perm_number perm) ≡ perm
perm_again ReadOnly = refl
perm_again WriteOnly = refl
perm_again ReadWrite = refl

perm_passed : (perm : Perm) → not (is_within 1 3 (perm_number perm)) ≡ false
perm_passed ReadOnly = refl
perm_passed WriteOnly = refl
perm_passed ReadWrite = refl

address_again : (addr : Addr) → IsTrue (is_good_address addr) → number_32 0 (to_be_bytes w32 addr.0) ≡ addr.0
address_again addr good = from_be_bytes-to_be_bytes_4 addr.0 (grind (arith, nat_tests))

count_again : (n : ℕ) → n ≤ 1024 → number_16 0 (to_be_bytes w16 n) ≡ n
count_again n small = from_be_bytes-to_be_bytes_2 n (omega arith)

op_again : (addr : ℕ) (op : AtomicOp) → IsTrue (has_words op) → op_in (to_be_bytes w32 addr ++ op_spelling op) ≡ op
op_again addr Lock good = refl
op_again addr Unlock good = refl
op_again addr (Add n) good = ap Add (word_again n good)
op_again addr (Cas expect put) good =
    let words = and_parts _ _ good in
    rw (word_again expect words.0, word_again put words.1) refl

-- whether an address and an operation may have so many bytes
abbrev is_op_len : ℕ → Bool
is_op_len n = n == 5 || n == 13 || n == 21

-- both counts and numbers of operations pass their checks
op_len_passed : (addr : ℕ) (op : AtomicOp) → IsTrue (is_op_len (length (to_be_bytes w32 addr ++ op_spelling op)))
op_len_passed addr Lock = refl
op_len_passed addr Unlock = refl
op_len_passed addr (Add n) = refl
op_len_passed addr (Cas expect put) = refl

op_passed : (addr : ℕ) (op : AtomicOp) → IsTrue (is_op (length (to_be_bytes w32 addr ++ op_spelling op)) (slice_index (op_spelling op) 0))
op_passed addr Lock = refl
op_passed addr Unlock = refl
op_passed addr (Add n) = refl
op_passed addr (Cas expect put) = refl

-- what a piece of a page asks, and a range of pages
piece_facts : (addr : Addr) (n : ℕ) → IsTrue (is_piece addr n) → IsTrue (is_good_address addr) × (1 ≤ n) × (n ≤ 1024) × (addr.0 % 4096 + n ≤ 4096)
piece_facts addr n good = grind (arith, nat_tests)

range_facts : (addr : Addr) (n : ℕ) → IsTrue (is_in_range (request.Free addr n)) → IsTrue (is_good_address addr) × (n ≤ 1024)
range_facts addr n good = grind (arith, nat_tests)

-- ---- a body
-- its reader finds the request
pub request_again : (body : Request) → IsTrue (is_in_range body) → request_in_body (kind_number (kind_of body)) (request_body body) ≡ body
request_again (request.Alloc pages perm) good = rw (count_again pages (grind (arith, nat_tests)), perm_again perm) refl
request_again (request.Free addr pages) good =
    let facts = range_facts addr pages good in
    rw (address_again addr facts.0, count_again pages facts.1) refl
request_again (request.Read addr len) good =
    let facts = piece_facts addr len good in
    rw (address_again addr facts.0, count_again len facts.2) refl
request_again (request.Write addr bytes) good = rw (address_again addr (grind (arith, nat_tests))) refl
request_again (request.Atomic addr op) good = rw (address_again addr (grind (arith, nat_tests)), op_again addr.0 op (grind (arith, nat_tests))) refl
request_again (request.Offload number op out bytes) good = rw (count_again out (grind (arith, nat_tests))) refl

-- and its checks pass
request_passed : (body : Request) → IsTrue (is_in_range body)
    → AllPassed (request_checks (kind_number (kind_of body)) (length (request_body body)) (request_body body))
request_passed (request.Alloc pages perm) good =
    rw (count_again pages (grind (arith, nat_tests))) (refl, (ap not good, (perm_passed perm, tt)))
request_passed (request.Free addr pages) good =
    let facts = range_facts addr pages good in
    rw (address_again addr facts.0, count_again pages facts.1) (refl, (grind (arith, nat_tests), (grind (arith, nat_tests), tt)))
request_passed (request.Read addr len) good =
    let facts = piece_facts addr len good in
    rw (address_again addr facts.0, count_again len facts.2) (refl, (grind (arith, nat_tests), (grind (arith, nat_tests), tt)))
request_passed (request.Write addr bytes) good =
    let facts = piece_facts addr (length bytes) (grind (arith, nat_tests)) in
    rw (address_again addr facts.0) (grind (arith, nat_tests), (grind (arith, nat_tests), (grind (arith, nat_tests), tt)))
request_passed (request.Atomic addr op) good =
    rw (address_again addr (grind (arith, nat_tests))) (ap not (op_len_passed addr.0 op), (grind (arith, nat_tests), (ap not (op_passed addr.0 op), tt)))
request_passed (request.Offload number op out bytes) good =
    rw (count_again out (grind (arith, nat_tests))) (grind (arith, nat_tests), (grind (arith, nat_tests), tt))

-- a request's body is short
request_fits : (body : Request) → IsTrue (is_in_range body) → length (request_body body) < 2 ^ 16
request_fits (request.Alloc pages perm) good = omega arith
request_fits (request.Free addr pages) good = omega arith
request_fits (request.Read addr len) good = omega arith
request_fits (request.Write addr bytes) good = grind (arith, nat_tests)
request_fits (request.Atomic addr Lock) good = omega arith
request_fits (request.Atomic addr Unlock) good = omega arith
request_fits (request.Atomic addr (Add n)) good = omega arith
request_fits (request.Atomic addr (Cas expect put)) good = omega arith
request_fits (request.Offload number op out bytes) good = grind (arith, nat_tests)

-- its kind is one of a request
pub request_kind : (body : Request) → IsTrue (is_within 1 6 (kind_number (kind_of body)))
request_kind (request.Alloc pages perm) = refl
request_kind (request.Free addr pages) = refl
request_kind (request.Read addr len) = refl
request_kind (request.Write addr bytes) = refl
request_kind (request.Atomic addr op) = refl
request_kind (request.Offload number op out bytes) = refl

-- ---- a frame
request_faultless : (head : Head) (body : Request) → IsHead head → IsTrue (is_in_range body) → request_fault (request_frame head body) ≡ None
request_faultless head body good_head good =
    let kind : ℕ = kind_number (kind_of body) in
    first_fault-frame (is_within 1 6) (request_checks kind) kind head (request_body body)
    good_head (request_kind body) (request_fits body good) (request_passed body good)

frame_reads : (head : Head) (body : Request) → IsHead head → IsTrue (is_in_range body) → ReadsAsRequest (request_frame head body) head body
frame_reads head body good_head good = record {
  faultless = request_faultless head body good_head good;
  same_head = head_again (kind_number (kind_of body)) head (request_body body) good_head;
  same_body = request_again body good;
}

pub requests_are_read_again : RequestsAreReadAgain
requests_are_read_again bytes head body spelled =
    subst (λ read. ReadsAsRequest read head body) (sym spelled.spelling) (frame_reads head body spelled.good_head spelled.good_body)

pub bytes_spell_one_request : BytesSpellOneRequest
bytes_spell_one_request bytes head other_head body other_body spelled other =
    let read = requests_are_read_again bytes head body spelled in
    let again = requests_are_read_again bytes other_head other_body other in
    (sym read.same_head ∙ again.same_head, sym read.same_body ∙ again.same_body)
