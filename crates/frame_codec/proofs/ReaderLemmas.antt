-- From the parts that a reader has judged to the whole frame.
use Rattle.std.proofs.Common.{◌≡◌, ℕ, ◌+◌, ◌<◌, suc, List, [], ◌∷◌, ◌++◌, length, drop, get_or, Option, Some, None, Result, Ok, Err, refl, sym, subst, inl, inr, zero-add, arith}
use Rattle.std.specs.Prelude.{IfOk, IsTrue, slice_index}
use Rattle.std.specs.Result.{result_err}
use Rattle.std.proofs.lemmas.Bool.{cases_Bool, and_from}
use Rattle.std.proofs.lemmas.Bool.Decides.{nat_tests}
use Rattle.std.proofs.lemmas.List.{length-drop}
use Rattle.std.proofs.lemmas.Slice.{between_to_end}
use Rattle.cl_types.specs.Config.{is_within}
use Rattle.cl_types.specs.Requests.{request_of, reply_of}
use Rattle.cl_types.specs.declared.call.Kind.{Kind}
use Rattle.cl_types.specs.declared.frame.BadFrame.{BadFrame}
use Rattle.cl_types.specs.declared.frame.Head.{Head}
use Rattle.cl_types.specs.declared.request.Request.{Request}
use Rattle.cl_types.specs.declared.reply.Reply.{Reply}
use Rattle.cl_types.specs.Kinds.{kind_number}
use Rattle.frame_model.specs.Faults.{first_fault}
use Rattle.cl_types.specs.Ranges.{are_bytes}
use Rattle.frame_model.specs.Frames.{Checks, SpellsRequest, SpellsReply, body_len, header_checks, head_in, request_checks, request_fault, request_in_body, reply_checks, reply_fault, reply_in, reply_in_body}
use Rattle.frame_model.specs.FrameLaws.{ReadsAsRequest, ReadsAsReply}
use Rattle.frame_model.proofs.FrameLemmas.{one_kind}
use Rattle.frame_model.proofs.RequestFrameLemmas.{requests_are_read_again, bytes_spell_one_request}
use Rattle.frame_model.proofs.ReplyFrameLemmas.{replies_are_read_again, bytes_spell_one_reply}
use Rattle.frame_model.proofs.FaultlessRequestLemmas.{faultless_requests_are_spelled}
use Rattle.frame_model.proofs.FaultlessReplyLemmas.{faultless_replies_are_spelled}
use Rattle.frame_codec.specs.Parts.{IsHeaderOf}
use Rattle.frame_codec.specs.Reading.{GivesSpelledRequest, GivesSpelledReply}
use Rattle.frame_codec.specs.declared.headers.Header.{Header}
use Rattle.frame_codec.specs.declared.views.RequestView.{RequestView}
use Rattle.frame_codec.specs.declared.views.ReplyView.{ReplyView}
use Rattle.frame_codec.proofs.PlaceLemmas.{behind_header}

-- the numbers are those of bytes
abbrev pub AreSmall : List ℕ → Type 0
AreSmall bytes = (i : ℕ) → get_or bytes i 0 < 256

are_bytes-small : (bytes : List ℕ) → AreSmall bytes → IsTrue (are_bytes bytes)
are_bytes-small [] small = refl
are_bytes-small (byte ∷ bytes) small =
    let first = small 0 in
    and_from _ _ (grind (arith, nat_tests)) (are_bytes-small bytes (λ i. small (suc i)))

-- ---- the first fault of two lists of checks
-- a fault of checks is told before those after them
first_fault-front : (checks more : Checks) (fault : BadFrame) → first_fault checks ≡ Some fault
    → first_fault (checks ++ more) ≡ Some fault
first_fault-front [] more fault told = absurd (cc)
first_fault-front (check ∷ checks) more fault told = elim (cases_Bool check.0) [
  | inl fails ↦ rw fails (rw fails at told)
  | inr passes ↦ rw passes (first_fault-front checks more fault (rw passes at told))
]

-- checks with no fault hand on the fault of those after them
first_fault-behind : (checks more : Checks) → first_fault checks ≡ None → first_fault (checks ++ more) ≡ first_fault more
first_fault-behind [] more none = refl
first_fault-behind (check ∷ checks) more none = elim (cases_Bool check.0) [
  | inl fails ↦ let some = rw fails at none in absurd (cc)
  | inr passes ↦ rw passes (first_fault-behind checks more (rw passes at none))
]

-- ---- a frame of either kind
behind_header_is : (bytes : List ℕ) → behind_header bytes ≡ drop 26 bytes
behind_header_is bytes = between_to_end bytes 26 (length bytes) (omega arith)

-- the checks of a body, by its kind's number and its length
abbrev BodyChecks : Type 0
BodyChecks = ℕ → ℕ → List ℕ → Checks

-- the checks of a header whose kind's number is above the base, and of the body that the header tells of
abbrev header_above : ℕ → List ℕ → Checks
header_above base bytes = header_checks (is_within (base + 1) (base + 6)) bytes

abbrev told_body : BodyChecks → List ℕ → Checks
told_body body_checks bytes = body_checks (slice_index bytes 3) (body_len bytes) (drop 26 bytes)

abbrev fault_above : ℕ → BodyChecks → List ℕ → Option BadFrame
fault_above base body_checks bytes = first_fault (header_above base bytes ++ told_body body_checks bytes)

-- a fault of the header is that of the frame
fault-header : (base : ℕ) (body_checks : BodyChecks) (bytes : List ℕ) (fault : BadFrame)
    → Some fault ≡ first_fault (header_above base bytes) → Some fault ≡ fault_above base body_checks bytes
fault-header base body_checks bytes fault told =
    sym (first_fault-front (header_above base bytes) (told_body body_checks bytes) fault (sym told))

-- behind a good header the fault of the frame is that of its body
fault-body : (base : ℕ) (body_checks : BodyChecks) (bytes : List ℕ) (header : Header) (number : ℕ)
    → IsHeaderOf base bytes header → number ≡ base + kind_number header.kind
    → first_fault (body_checks number (length (behind_header bytes)) (behind_header bytes)) ≡ fault_above base body_checks bytes
fault-body base body_checks bytes header number good same =
    let is = behind_header_is bytes in
    let long : length (drop 26 bytes) ≡ body_len bytes = omega (arith, good.whole, length-drop 26 bytes) in
    let passed_on = first_fault-behind (header_above base bytes) (told_body body_checks bytes) good.faultless in
    rw (same, is, long, ← good.kind) (sym passed_on)

-- ---- a request
pub request_fault-header : (bytes : List ℕ) (fault : BadFrame) → Some fault ≡ first_fault (header_above 0 bytes)
    → Some fault ≡ request_fault bytes
request_fault-header bytes fault told = fault-header 0 request_checks bytes fault told

pub request_fault-body : {bytes : List ℕ} {header : Header} → IsHeaderOf 0 bytes header
    → first_fault (request_checks (kind_number header.kind) (length (behind_header bytes)) (behind_header bytes)) ≡ request_fault bytes
request_fault-body {bytes = bytes} {header = header} good = fault-body 0 request_checks bytes header _ good (sym (zero-add _))

-- a good header and a good body are read
pub request_read : {bytes : List ℕ} {header : Header} (body : Request) → IsHeaderOf 0 bytes header → None ≡ request_fault bytes
    → body ≡ request_in_body (kind_number header.kind) (behind_header bytes) → ReadsAsRequest bytes header.head body
request_read {bytes = bytes} {header = header} body good none body_is =
    let kind : slice_index bytes 3 ≡ kind_number header.kind = omega (arith, good.kind) in
    record { faultless = sym none; same_head = sym good.head; same_body = rw (body_is, behind_header_is bytes, kind) refl }

-- and what is read is spelled
pub request_spelled : {bytes : List ℕ} {head : Head} {body : Request} → AreSmall bytes → ReadsAsRequest bytes head body
    → SpellsRequest bytes head body
request_spelled {bytes = bytes} small read =
    let spelled = faultless_requests_are_spelled bytes (are_bytes-small bytes small) read.faultless in
    rw (read.same_head, read.same_body) at spelled

-- exactly what is spelled is given
pub request_exactly : (bytes : List ℕ) (result : Result RequestView BadFrame) → result_err result ≡ request_fault bytes
    → IfOk result (λ view. SpellsRequest bytes view.head (request_of view.body)) → GivesSpelledRequest bytes result
request_exactly bytes (Ok view) none spelled head body = (
  λ other. bytes_spell_one_request bytes view.head head (request_of view.body) body spelled other,
  λ same. rw (same.0, same.1) at spelled,
)
request_exactly bytes (Err fault) told none head body =
    (λ other. let read = requests_are_read_again bytes head body other in absurd (cc), λ ok. absurd ok)

-- ---- a reply
pub reply_fault-header : (bytes : List ℕ) (fault : BadFrame) → Some fault ≡ first_fault (header_above 128 bytes)
    → Some fault ≡ reply_fault bytes
reply_fault-header bytes fault told = fault-header 128 reply_checks bytes fault told

pub reply_fault-body : {bytes : List ℕ} {header : Header} → IsHeaderOf 128 bytes header
    → first_fault (reply_checks (128 + kind_number header.kind) (length (behind_header bytes)) (behind_header bytes)) ≡ reply_fault bytes
reply_fault-body {bytes = bytes} {header = header} good = fault-body 128 reply_checks bytes header _ good refl

-- a good header and a good body are read
pub reply_read : {bytes : List ℕ} {header : Header} (body : Reply) → IsHeaderOf 128 bytes header → None ≡ reply_fault bytes
    → body ≡ reply_in_body (128 + kind_number header.kind) (behind_header bytes) → ReadsAsReply bytes header.head header.kind body
reply_read {bytes = bytes} body good none body_is = record {
  faultless = sym none;
  same_head = sym good.head;
  same_kind = good.kind;
  same_body = rw (body_is, behind_header_is bytes, good.kind) refl;
}

-- and what is read is spelled
pub reply_spelled : {bytes : List ℕ} {head : Head} {kind : Kind} {body : Reply} → AreSmall bytes → ReadsAsReply bytes head kind body
    → SpellsReply bytes head kind body
reply_spelled {bytes = bytes} {kind = kind} small read =
    let spelled = faultless_replies_are_spelled bytes (are_bytes-small bytes small) read.faultless in
    let again = replies_are_read_again bytes (head_in bytes) spelled.0 (reply_in bytes) spelled.1 in
    let same : spelled.0 ≡ kind = one_kind spelled.0 kind (omega (arith, again.same_kind, read.same_kind)) in
    let of_kind = subst (λ k. SpellsReply bytes (head_in bytes) k (reply_in bytes)) same spelled.1 in
    rw (read.same_head, read.same_body) at of_kind

-- exactly what is spelled is given
pub reply_exactly : (bytes : List ℕ) (result : Result ReplyView BadFrame) → result_err result ≡ reply_fault bytes
    → IfOk result (λ view. SpellsReply bytes view.head view.kind (reply_of view.body)) → GivesSpelledReply bytes result
reply_exactly bytes (Ok view) none spelled head kind body = (
  λ other. bytes_spell_one_reply bytes view.head head view.kind kind (reply_of view.body) body spelled other,
  λ same. rw (same.0, same.1, same.2) at spelled,
)
reply_exactly bytes (Err fault) told none head kind body =
    (λ other. let read = replies_are_read_again bytes head kind body other in absurd (cc), λ ok. absurd ok)
