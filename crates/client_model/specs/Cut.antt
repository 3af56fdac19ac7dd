-- How a call is cut into parts, and how what came of the parts makes its answer.
use Rattle.std.specs.Prelude.{ℕ, zero, suc, ◌+◌, ◌-◌, ◌%◌, ◌==◌, true, false, min, List, [], ◌∷◌, ◌++◌, length, map, Option, Some, None}
use Rattle.cl_types.specs.Bytes.{bytes_at, zeros}
use Rattle.cl_types.specs.declared.limits.TheConstants.{PAGE_BYTES, PART_BYTES}
use Rattle.cl_types.specs.declared.call.Call.{Call}
use Rattle.cl_types.specs.declared.call.Call.TheVariants as call
use Rattle.cl_types.specs.declared.request.Request.{Request}
use Rattle.cl_types.specs.declared.request.Request.TheVariants as request
use Rattle.cl_types.specs.declared.reply.Reply.{Reply}
use Rattle.cl_types.specs.declared.reply.Reply.TheVariants as reply
use Rattle.cl_types.specs.declared.reply.Answer.{Answer}
use Rattle.cl_types.specs.declared.reply.Answer.TheVariants as answer
use Rattle.cl_types.specs.declared.reply.Value.{Value}
use Rattle.cl_types.specs.declared.reply.Value.TheVariants as value

-- ---- parts
-- a piece goes as far as the bytes of a part, the end of the page and the end of the call allow
abbrev pub piece_len : ℕ → ℕ → ℕ
piece_len at left = min PART_BYTES (min (PAGE_BYTES - at % PAGE_BYTES) left)

-- the pieces of the bytes that are left from an address on, by address and length; there are at most so many
abbrev pub pieces_within : ℕ → ℕ → ℕ → List (ℕ × ℕ)
pieces_within zero at left = []
pieces_within (suc most) at left = elim (left == 0) [
  | true ↦ []
  | false ↦ (at, piece_len at left) ∷ pieces_within most (at + piece_len at left) (left - piece_len at left)
]

-- the pieces of n bytes at an address; there are no more pieces than bytes
abbrev pub pieces : ℕ → ℕ → List (ℕ × ℕ)
pieces at n = pieces_within n at n

-- the parts of a call
abbrev pub cut : Call → List Request
cut (call.Alloc pages perm) = request.Alloc pages perm ∷ []
cut (call.Free addr pages) = request.Free addr pages ∷ []
cut (call.Read addr buf) = map (λ piece. request.Read (record { 0 = piece.0 }) piece.1) (pieces addr.0 (length buf))
cut (call.Write addr bytes) =
    map (λ piece. request.Write (record { 0 = piece.0 }) (bytes_at (piece.0 - addr.0) piece.1 bytes)) (pieces addr.0 (length bytes))
cut (call.Atomic addr op) = request.Atomic addr op ∷ []
cut (call.Offload number op bytes buf) = request.Offload number op (length buf) bytes ∷ []
cut call.Fence = []

-- ---- the answer
-- what came of a part: its reply, or that it was given up
pub data Ending : Type 0 where
  Replied : (reply : Reply) → Ending
  GivenUp : (first_sent now : ℕ) → Ending

-- timed out with the two moments of the least part that was given up, where one was
abbrev pub first_given_up : List Ending → Option Answer
first_given_up [] = None
first_given_up (Replied reply ∷ endings) = first_given_up endings
first_given_up (GivenUp first_sent now ∷ endings) = Some (answer.TimedOut first_sent now)

-- refused as the least part that was refused, where one was
abbrev pub first_refusal : List Ending → Option Answer
first_refusal [] = None
first_refusal (Replied (reply.Refused refusal) ∷ endings) = Some (answer.Refused refusal)
first_refusal (ending ∷ endings) = first_refusal endings

-- the bytes of the replies, in order
abbrev pub joined : List Ending → List ℕ
joined [] = []
joined (Replied (reply.Got bytes) ∷ endings) = bytes ++ joined endings
joined (ending ∷ endings) = joined endings

-- the value of a call of one part that was done
abbrev pub only_value : List Ending → Value
only_value (Replied (reply.At addr) ∷ endings) = value.At addr
only_value (Replied (reply.Word word) ∷ endings) = value.Word word
only_value endings = value.Nothing

-- the value of a call whose parts are all done: for a Read or an Offload, how many bytes were joined
abbrev pub done_value : Call → List Ending → Value
done_value (call.Read addr buf) endings = value.Len (length (joined endings))
done_value (call.Offload number op bytes buf) endings = value.Len (length (joined endings))
done_value other endings = only_value endings

-- timed out where a part was given up, else refused where one was refused, else done
abbrev pub first_answer : Option Answer → Option Answer → Answer → Answer
first_answer (Some timed_out) refusal done = timed_out
first_answer None (Some refusal) done = refusal
first_answer None None done = done

-- a call's answer, by what came of each of its parts
abbrev pub combine : Call → List Ending → Answer
combine k endings = first_answer (first_given_up endings) (first_refusal endings) (answer.Done (done_value k endings))

-- the bytes that the answer's length counts, and none for another answer
abbrev pub answer_bytes : Answer → List Ending → List ℕ
answer_bytes (answer.Done (value.Len n)) endings = joined endings
answer_bytes other endings = []

-- ---- the buffer
-- where the call is done, what was joined and then zeros; and else zeros alone
abbrev pub filled : Answer → List ℕ → List Ending → List ℕ
filled (answer.Done value) buf endings = joined endings ++ zeros (length buf - length (joined endings))
filled other buf endings = zeros (length buf)

-- the call as it is handed back
abbrev pub handed_back : Call → List Ending → Call
handed_back (call.Read addr buf) endings = call.Read addr (filled (combine (call.Read addr buf) endings) buf endings)
handed_back (call.Offload number op bytes buf) endings =
    call.Offload number op bytes (filled (combine (call.Offload number op bytes buf) endings) buf endings)
handed_back other endings = other
