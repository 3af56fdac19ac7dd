-- Bytes that stand written, once more each time, and zeros.
use Rattle.std.proofs.Common.{◌≡◌, ℕ, zero, suc, ◌+◌, ◌*◌, List, [], ◌∷◌, ◌++◌, refl, sym, ap, ◌∙◌, length, replicate, append-nil, append_assoc, add-one, arith, length-append}
use Rattle.std.specs.List.{concat}
use Rattle.cl_types.specs.Bytes.{zeros}
use Rattle.cl_types.specs.declared.schedule.Written.{Written}
use Rattle.cl_types.specs.Written.{expanded}

repeats_suc : (n : ℕ) (bytes : List ℕ) → concat (replicate (suc n) bytes) ≡ concat (replicate n bytes) ++ bytes
repeats_suc zero bytes = append-nil bytes
repeats_suc (suc n) bytes = ap (λ rest. bytes ++ rest) (repeats_suc n bytes) ∙ sym (append_assoc bytes (concat (replicate n bytes)) bytes)

-- one more time
pub repeats_more : (n : ℕ) (bytes : List ℕ) → concat (replicate (n + 1) bytes) ≡ concat (replicate n bytes) ++ bytes
repeats_more n bytes = rw add-one (repeats_suc n bytes)

zeros_suc : (n : ℕ) → zeros (suc n) ≡ zeros n ++ 0 ∷ []
zeros_suc zero = refl
zeros_suc (suc n) = ap (λ rest. 0 ∷ rest) (zeros_suc n)

-- one more zero
pub zeros_more : (n : ℕ) → zeros (n + 1) ≡ zeros n ++ 0 ∷ []
zeros_more n = rw add-one (zeros_suc n)

length_repeats : (n : ℕ) (bytes : List ℕ) → length (concat (replicate n bytes)) ≡ length bytes * n
length_repeats zero bytes = omega arith
length_repeats (suc n) bytes = length-append bytes (concat (replicate n bytes)) ∙ ap (λ k. length bytes + k) (length_repeats n bytes) ∙ omega arith

pub length_written : (w : Written) → length (expanded w) ≡ length w.bytes * w.times
length_written w = length_repeats w.times w.bytes
