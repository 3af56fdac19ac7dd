-- What the bytes of a call's buffer don't change, and what came of a call that failed.
use Rattle.std.proofs.Common.{◌≡◌, ℕ, List, [], ◌∷◌, ◌⊎◌, inl, inr, Some, None, length, map, refl, ap, true, false}
use Rattle.std.proofs.lemmas.List.{length-replicate}
use Rattle.cl_types.specs.declared.call.Call.{Call}
use Rattle.cl_types.specs.declared.call.Call.TheVariants as call
use Rattle.cl_types.specs.declared.reply.Answer.TheVariants as answer
use Rattle.cl_types.specs.declared.reply.Refusal.{Refusal}
use Rattle.cl_types.specs.declared.reply.Reply.TheVariants as reply
use Rattle.cl_types.specs.declared.request.Request.TheVariants as request
use Rattle.client_model.specs.Client.{emptied}
use Rattle.client_model.specs.Cut.{Ending, Replied, cut, first_refusal, pieces}
use Rattle.client_model.specs.Order.{footprint, pages_over}

-- a call with a buffer of zeros has the same parts
pub cut_emptied : (k : Call) → cut (emptied k) ≡ cut k
cut_emptied (call.Read addr buf) =
    ap (λ n. map (λ (piece : ℕ × ℕ). request.Read (record { 0 = piece.0 }) piece.1) (pieces addr.0 n)) (length-replicate (length buf) 0)
cut_emptied (call.Offload number op bytes buf) = ap (λ n. request.Offload number op n bytes ∷ []) (length-replicate (length buf) 0)
cut_emptied (call.Alloc pages perm) = refl
cut_emptied (call.Free addr pages) = refl
cut_emptied (call.Write addr bytes) = refl
cut_emptied (call.Atomic addr op) = refl
cut_emptied call.Fence = refl

-- and the same pages
pub print_emptied : (k : Call) → footprint (emptied k) ≡ footprint k
print_emptied (call.Alloc pages perm) = refl
print_emptied (call.Free addr pages) = refl
print_emptied (call.Read addr buf) = ap (λ n. record { pages = pages_over addr.0 n; reads = true; fence = false; offload = None }) (length-replicate (length buf) 0)
print_emptied (call.Write addr bytes) = refl
print_emptied (call.Atomic addr op) = refl
print_emptied (call.Offload number op bytes buf) = refl
print_emptied call.Fence = refl

-- the first part that was refused, or none was
pub refusal_cases : (es : List Ending) → (first_refusal es ≡ None) ⊎ ((refusal : Refusal) × (first_refusal es ≡ Some (answer.Refused refusal)))
refusal_cases [] = inl refl
refusal_cases (Replied (reply.Refused refusal) ∷ es) = inr (refusal, refl)
refusal_cases (e ∷ es) = refusal_cases es
