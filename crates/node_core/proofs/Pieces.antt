-- A list in three parts, of which the middle one is written, and the pieces of a page.
use Rattle.std.proofs.Common.{◌≡◌, ℕ, ◌≤◌, leb, min, inl, inr, List, ◌++◌, length, take, drop, true, sym, ap, ◌∙◌, arith}
use Rattle.std.proofs.lemmas.Bool.{cases_Bool}
use Rattle.std.proofs.lemmas.List.{length-take, take-take, take_all}
use Rattle.std.proofs.lemmas.Bool.Decides.{nat_tests}
use Rattle.std.proofs.lemmas.Grind.{common_steps}
use Rattle.cl_types.specs.Bytes.{bytes_at}
use Rattle.cl_types.specs.declared.numbers.Addr.{Addr}
use Rattle.data_path.specs.Access.{IsPiece}
use Rattle.cl_types.specs.Ranges.{is_piece}

take_front : (a b : List ℕ) → take (length a) (a ++ b) ≡ a
take_front a b = grind (arith, common_steps)

drop_front : (a b : List ℕ) → drop (length a) (a ++ b) ≡ b
drop_front a b = grind (arith, common_steps)

-- the middle part of a list
pub middle : (a b c : List ℕ) (m n : ℕ) → length a ≡ m → length b ≡ n → bytes_at m n (a ++ (b ++ c)) ≡ b
middle a b c m n p q =
    ap (λ k. bytes_at k n (a ++ (b ++ c))) (sym p) ∙ ap (take n) (drop_front a (b ++ c)) ∙ ap (λ k. take k (b ++ c)) (sym q) ∙ take_front b c

-- a piece of a request is one of a page
pub piece_of : (addr : Addr) (n : ℕ) → is_piece addr n ≡ true → IsPiece addr n
piece_of addr n is = record { good = grind (arith, nat_tests); some = grind (arith, nat_tests); within = grind (arith, nat_tests) }

-- and has at most 1,024 bytes
pub few_bytes : (addr : Addr) (n : ℕ) → is_piece addr n ≡ true → n ≤ 1024
few_bytes addr n is = grind (arith, nat_tests)

-- bytes are cut twice
pub cut_twice : (len most : ℕ) (xs : List ℕ) → len ≤ 1024 → take (min len most) xs ≡ take most (take len (take 1024 xs))
cut_twice len most xs few = elim (cases_Bool (leb most len)) [
  | inl t ↦ let less : most ≤ len = grind (arith, nat_tests) in
      ap (λ n. take n xs) (let same : min len most ≡ most = omega (arith, less) in same) ∙ sym (take-take most len xs less) ∙ ap (take most) (sym (take-take len 1024 xs few))
  | inr f ↦
      let more : len ≤ most = grind (arith, nat_tests) in
      let short : length (take len xs) ≤ most = omega (arith, more, length-take len xs) in
      ap (λ n. take n xs) (let same : min len most ≡ len = omega (arith, more) in same) ∙ sym (take_all most (take len xs) short) ∙ ap (take most) (sym (take-take len 1024 xs few))
]
