-- What a page of zeros is: elsewhere `zero_page` stays closed, since its numeral would be unfolded 4,096 times.
use Rattle.std.proofs.Common.{◌≡◌, ℕ, zero, suc, ◌-◌, List, [], ◌++◌, take, length, replicate, ap, refl, arith}
use Rattle.std.proofs.lemmas.List.{length-replicate}
use Rattle.page_arena.specs.Arena.{zero_page}

-- as many zeros as a page has bytes
pub replicate-zero_page : (n : ℕ) → n ≡ 4096 → replicate n 0 ≡ zero_page
unfolding zero_page
replicate-zero_page n e = ap (λ k. replicate k 0) e

-- which are 4,096
pub length-zero_page : length zero_page ≡ 4096
unfolding zero_page
length-zero_page = length-replicate {A = ℕ} 4096 0

-- what `resize` leaves of an empty vector of pages
pub resized : (n m : ℕ) (pages : List (List ℕ)) (page : List ℕ) → pages ≡ [] → m ≡ 0 → page ≡ zero_page → take n pages ++ replicate (n - m) page ≡ replicate n zero_page
resized zero m pages page none len is = rw len refl
resized (suc n) m pages page none len is = let same : suc n - m ≡ suc n = omega arith in rw (none, same, is) refl
