-- A space of zeros has the pages that objects need.
use Rattle.std.proofs.Common.{◌≡◌, ℕ, ◌*◌, ◌≤◌, List, length, Result, Ok, Err, ap, ◌∙◌, arith}
use Rattle.std.specs.Prelude.{IfOk}
use Rattle.std.proofs.lemmas.List.{length-replicate}
use Rattle.cl_types.specs.Bytes.{zeros}
use Rattle.mv_offload.specs.Stored.{HasPages}

enough : (pages : ℕ) (bytes : List ℕ) → 275 ≤ pages → bytes ≡ zeros (pages * 4096) → HasPages 256 4096 bytes
enough pages bytes most is =
    let long : length bytes ≡ pages * 4096 = ap (λ (b : List ℕ). length b) is ∙ length-replicate {A = ℕ} (pages * 4096) 0 in
    record { some_objects = omega arith; few_objects = omega arith; some_versions = omega arith; few_versions = omega arith; pages = omega (arith, long, most) }

-- so has one that was made
pub enough_where_made : {E : Type 0} (pages : ℕ) (made : Result (List ℕ) E) → 275 ≤ pages → IfOk made (λ bytes. bytes ≡ zeros (pages * 4096))
    → IfOk made (HasPages 256 4096)
enough_where_made pages (Ok bytes) most is = enough pages bytes most is
enough_where_made pages (Err error) most is = is
