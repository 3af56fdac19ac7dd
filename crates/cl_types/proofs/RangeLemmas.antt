-- Ranges that types give.
use Rattle.std.proofs.Common.{◌≡◌, ◌+◌, ◌≤◌, ◌%◌, ℕ, suc, true, List, [], ◌∷◌, get_or, Fits, w8, refl, arith}
use Rattle.std.proofs.lemmas.Bool.Decides.{nat_tests}
use Rattle.cl_types.specs.Ranges.{are_bytes}

-- numbers that fit a byte are bytes
pub all_bytes : (bytes : List ℕ) → ((i : ℕ) → Fits w8 (get_or bytes i 0)) → are_bytes bytes ≡ true
all_bytes [] fits = refl
all_bytes (b ∷ bytes) fits =
    let first : Fits w8 b = fits 0 in
    let rest : are_bytes bytes ≡ true = all_bytes bytes (λ i. fits (suc i)) in
    grind (arith, nat_tests)

-- a word at a multiple of 8 lies in one page
pub word_within : (addr : ℕ) → addr % 8 ≡ 0 → addr % 4096 + 8 ≤ 4096
word_within addr even = omega arith
