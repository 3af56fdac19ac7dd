-- The machine's reply with the least start is one that may be given.
use Rattle.std.proofs.Common.{◌≡◌, ℕ, ◌*◌, ◌≤◌, refl, sym, subst, true, arith, Some, None, Option}
use Rattle.std.specs.Prelude.{IsTrue, leb}
use Rattle.std.proofs.lemmas.Bool.Decides.{nat_tests}
use Rattle.cl_types.specs.declared.call.Perm.{Perm}
use Rattle.cl_types.specs.declared.limits.TheConstants.{PAGE_BYTES, RANGE_PAGES}
use Rattle.cl_types.specs.declared.request.Request.{Request}
use Rattle.cl_types.specs.declared.request.Request.TheVariants.{Alloc, Free, Read, Write, Atomic, Offload}
use Rattle.cl_types.specs.Pages.{page_of, offset_of}
use Rattle.cl_types.specs.Ranges.{is_in_range}
use Rattle.flat_model.specs.State.{FlatState, fits, least, places}
use Rattle.flat_model.specs.Step.{MayReply, MayAlloc, alloc_at, outcome}
use Rattle.lemmas.proofs.SameParts.{and_left}
use Rattle.flat_model.proofs.LeastLemmas.{least_start_is_the_least, none_is_nowhere}

-- ---- an Alloc
pub page_of_start : (x : ℕ) → page_of (record { 0 = x * PAGE_BYTES }) ≡ x
page_of_start x = omega arith

offset_of_start : (x : ℕ) → offset_of (record { 0 = x * PAGE_BYTES }) ≡ 0
offset_of_start x = omega arith

alloc_may : (s : FlatState) (pid n : ℕ) (perm : Perm) (o : Option ℕ) → ((x : ℕ) → o ≡ Some x → fits s.buckets (places s) pid x n ≡ true)
    → (o ≡ None → (x : ℕ) → fits s.buckets (places s) pid x n ≡ true → ⊥) → MayAlloc s pid n (alloc_at s pid n perm o).reply
alloc_may s pid n perm None h k = k refl
alloc_may s pid n perm (Some x) h k = (offset_of_start x, subst (λ z. fits s.buckets (places s) pid z n ≡ true) (sym (page_of_start x)) (h x refl))

may_alloc : (s : FlatState) (pid n : ℕ) (perm : Perm) → 1 ≤ n → MayAlloc s pid n (alloc_at s pid n perm (least s.buckets (places s) pid n)).reply
may_alloc s pid n perm some =
    alloc_may s pid n perm (least s.buckets (places s) pid n) (λ x e. (least_start_is_the_least s.buckets (places s) pid n x e).fitting) (λ e. none_is_nowhere s.buckets (places s) pid n some e)

-- ---- all requests
pub may_outcome : (s : FlatState) (pid : ℕ) (r : Request) → IsTrue (is_in_range r) → MayReply s pid r (outcome s pid r).reply
may_outcome s pid (Alloc n perm) h = may_alloc s pid n perm (let k : leb 1 n ≡ true = and_left (leb 1 n) (leb n RANGE_PAGES) h in grind (arith, nat_tests))
may_outcome s pid (Free addr n) h = refl
may_outcome s pid (Read addr n) h = refl
may_outcome s pid (Write addr bytes) h = refl
may_outcome s pid (Atomic addr op) h = refl
may_outcome s pid (Offload number op out bytes) h = refl
