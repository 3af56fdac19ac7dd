-- The bytes that an answer's length counts are those of the replies.
use Rattle.std.proofs.Common.{◌≡◌, ℕ, ◌-◌, List, [], ◌∷◌, ◌++◌, refl, ap, ◌∙◌, sym, subst, Some, None, length, take, arith, ◌⊎◌, inl, inr, ⊎_elim}
use Rattle.std.proofs.Math.Seq.{take-append_seam}
use Rattle.cl_types.specs.Bytes.{zeros}
use Rattle.cl_types.specs.declared.call.Call.{Call}
use Rattle.cl_types.specs.declared.call.Call.TheVariants as call
use Rattle.cl_types.specs.declared.reply.Answer.{Answer}
use Rattle.cl_types.specs.declared.reply.Answer.TheVariants as answer
use Rattle.cl_types.specs.declared.reply.Refusal.{Refusal}
use Rattle.cl_types.specs.declared.reply.Reply.TheVariants as reply
use Rattle.cl_types.specs.declared.reply.Value.{Value}
use Rattle.cl_types.specs.declared.reply.Value.TheVariants as value
use Rattle.client_model.specs.Cut.{Ending, Replied, GivenUp, first_given_up, first_refusal, joined, only_value, first_answer, combine, answer_bytes, filled, handed_back}
use Rattle.client_model.specs.Client.{emptied, counted, buffer_of}
use Rattle.client_model.proofs.Buffers.{refusal_cases}

-- ---- what an answer is
pub given_cases : (endings : List Ending) → (first_given_up endings ≡ None) ⊎ ((f : ℕ) × (t : ℕ) × (first_given_up endings ≡ Some (answer.TimedOut f t)))
given_cases [] = inl refl
given_cases (Replied reply ∷ endings) = given_cases endings
given_cases (GivenUp f t ∷ endings) = inr (f, t, refl)

-- what holds of a time-out, of a refusal, and of a done call, holds of its answer
answer_by : (P : Answer → Type 0) (endings : List Ending) (v : Value) → ((f t : ℕ) → P (answer.TimedOut f t)) → ((r : Refusal) → P (answer.Refused r)) → P (answer.Done v)
    → P (first_answer (first_given_up endings) (first_refusal endings) (answer.Done v))
answer_by P endings v timed refused done = ⊎_elim
    (λ (none : first_given_up endings ≡ None). ⊎_elim
    (λ (also : first_refusal endings ≡ None). subst (λ o. P (first_answer o (first_refusal endings) (answer.Done v))) (sym none) (subst (λ o. P (first_answer None o (answer.Done v))) (sym also) done))
    (λ (r : (r : Refusal) × (first_refusal endings ≡ Some (answer.Refused r))). subst (λ o. P (first_answer o (first_refusal endings) (answer.Done v))) (sym none) (subst (λ o. P (first_answer None o (answer.Done v))) (sym r.1) (refused r.0)))
    (refusal_cases endings))
    (λ (g : (f : ℕ) × (t : ℕ) × (first_given_up endings ≡ Some (answer.TimedOut f t))). subst (λ o. P (first_answer o (first_refusal endings) (answer.Done v))) (sym g.2) (timed g.0 g.1))
    (given_cases endings)

-- ---- calls with no buffer
plain_value : (v : Value) (k : Call) (endings rest : List Ending) → v ≡ only_value endings → counted (answer.Done v) k ≡ answer_bytes (answer.Done v) rest
plain_value (value.Len n) k [] rest h = grind arith
plain_value (value.Len n) k (Replied (reply.At addr) ∷ endings) rest h = grind arith
plain_value (value.Len n) k (Replied (reply.Word word) ∷ endings) rest h = grind arith
plain_value (value.Len n) k (Replied (reply.Got bytes) ∷ endings) rest h = grind arith
plain_value (value.Len n) k (Replied reply.Nothing ∷ endings) rest h = grind arith
plain_value (value.Len n) k (Replied (reply.Refused r) ∷ endings) rest h = grind arith
plain_value (value.Len n) k (GivenUp f t ∷ endings) rest h = grind arith
plain_value (value.At addr) k endings rest h = refl
plain_value (value.Word word) k endings rest h = refl
plain_value value.Nothing k endings rest h = refl

plain_counted : (k : Call) (endings : List Ending)
    → counted (first_answer (first_given_up endings) (first_refusal endings) (answer.Done (only_value endings))) k
    ≡ answer_bytes (first_answer (first_given_up endings) (first_refusal endings) (answer.Done (only_value endings))) endings
plain_counted k endings =
    answer_by (λ a. counted a k ≡ answer_bytes a endings) endings (only_value endings) (λ f t. refl) (λ r. refl) (plain_value (only_value endings) k endings endings refl)

-- ---- calls with a buffer
filled_counted : (k : List ℕ → Call) (buf : List ℕ) (endings : List Ending) → ((b : List ℕ) → buffer_of (k b) ≡ b)
    → counted (first_answer (first_given_up endings) (first_refusal endings) (answer.Done (value.Len (length (joined endings)))))
    (k (filled (first_answer (first_given_up endings) (first_refusal endings) (answer.Done (value.Len (length (joined endings))))) buf endings))
    ≡ answer_bytes (first_answer (first_given_up endings) (first_refusal endings) (answer.Done (value.Len (length (joined endings))))) endings
filled_counted k buf endings is =
    answer_by (λ a. counted a (k (filled a buf endings)) ≡ answer_bytes a endings) endings (value.Len (length (joined endings))) (λ f t. refl) (λ r. refl)
    (ap (take (length (joined endings))) (is (joined endings ++ zeros (length buf - length (joined endings)))) ∙ take-append_seam (joined endings) (zeros (length buf - length (joined endings))))

pub counted_is : (k : Call) (endings : List Ending) → counted (combine k endings) (handed_back k endings) ≡ answer_bytes (combine k endings) endings
counted_is (call.Alloc pages perm) endings = plain_counted (call.Alloc pages perm) endings
counted_is (call.Free addr pages) endings = plain_counted (call.Free addr pages) endings
counted_is (call.Read addr buf) endings = filled_counted (λ b. call.Read addr b) buf endings (λ b. refl)
counted_is (call.Write addr bytes) endings = plain_counted (call.Write addr bytes) endings
counted_is (call.Atomic addr op) endings = plain_counted (call.Atomic addr op) endings
counted_is (call.Offload number op bytes buf) endings = filled_counted (λ b. call.Offload number op bytes b) buf endings (λ b. refl)
counted_is call.Fence endings = plain_counted call.Fence endings

-- an empty buffer makes the same answer
pub combine_emptied : (k : Call) (endings : List Ending) → combine (emptied k) endings ≡ combine k endings
combine_emptied (call.Alloc pages perm) endings = refl
combine_emptied (call.Free addr pages) endings = refl
combine_emptied (call.Read addr buf) endings = refl
combine_emptied (call.Write addr bytes) endings = refl
combine_emptied (call.Atomic addr op) endings = refl
combine_emptied (call.Offload number op bytes buf) endings = refl
combine_emptied call.Fence endings = refl
