-- Pieces of zeros, and of a fresh page.
use Rattle.std.proofs.Common.{◌≡◌, ℕ, zero, suc, ◌+◌, ◌≤◌, List, [], ◌∷◌, length, replicate, refl, ap, ◌∙◌, arith, true, ◌==◌}
use Rattle.std.specs.List.{list_all}
use Rattle.std.proofs.lemmas.Bool.Decides.{nat_tests}
use Rattle.std.proofs.lemmas.List.{length-replicate}
use Rattle.std.specs.Int.{from_le_bytes, w64}
use Rattle.cl_types.specs.Pages.{word_at}
use Rattle.cl_types.specs.Bytes.{zeros, bytes_at, fresh_bytes}

piece : (m at n : ℕ) → at + n ≤ m → bytes_at at n (replicate m 0) ≡ replicate n 0
piece m zero zero le = refl
piece zero zero (suc n) le = absurd (omega (arith, le))
piece (suc m) zero (suc n) le = ap (λ xs. 0 ∷ xs) (piece m zero n (omega (arith, le)))
piece zero (suc at) n le = absurd (omega (arith, le))
piece (suc m) (suc at) n le = piece m at n (omega (arith, le))

-- a piece of a fresh page is zeros
pub fresh_piece : (at n : ℕ) → at + n ≤ 4096 → bytes_at at n fresh_bytes ≡ zeros n
unfolding fresh_bytes
fresh_piece at n le = piece 4096 at n le

pub fresh_is_zeros : fresh_bytes ≡ zeros 4096
unfolding fresh_bytes
fresh_is_zeros = refl

pub length_fresh : length fresh_bytes ≡ 4096
unfolding fresh_bytes
length_fresh = length-replicate {A = ℕ} 4096 0

pub zeros_of_all : (xs : List ℕ) → list_all (λ b. b == 0) xs ≡ true → xs ≡ zeros (length xs)
zeros_of_all [] all = refl
zeros_of_all (zero ∷ xs) all = ap (λ ys. 0 ∷ ys) (zeros_of_all xs all)
zeros_of_all (suc x ∷ xs) all = grind (arith, nat_tests)

all_of_zeros : (n : ℕ) → list_all (λ b. b == 0) (zeros n) ≡ true
all_of_zeros zero = refl
all_of_zeros (suc n) = all_of_zeros n

-- bytes that are so many zeros, by their number and a test of each
pub many_zeros : (xs : List ℕ) (n : ℕ) → length xs ≡ n → list_all (λ b. b == 0) xs ≡ true → xs ≡ zeros n
many_zeros xs n long all = zeros_of_all xs all ∙ ap zeros long

pub are_all_zero : (xs : List ℕ) (n : ℕ) → xs ≡ zeros n → list_all (λ b. b == 0) xs ≡ true
are_all_zero xs n is = ap (list_all (λ b. b == 0)) is ∙ all_of_zeros n

pub length_zeros : (xs : List ℕ) (n : ℕ) → xs ≡ zeros n → length xs ≡ n
length_zeros xs n is = ap length is ∙ length-replicate n 0

zero_word : (bytes : List ℕ) → bytes ≡ zeros 8 → from_le_bytes w64 bytes ≡ 0
zero_word bytes is = ap (from_le_bytes w64) is

-- a word of a fresh page is 0
pub fresh_word : (at : ℕ) → at + 8 ≤ 4096 → word_at at fresh_bytes ≡ 0
fresh_word at within = zero_word _ (fresh_piece at 8 within)
