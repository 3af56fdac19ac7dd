-- The leading bits of a hash, by a product.
use Rattle.std.proofs.Common.{◌≡◌, ℕ, ◌*◌, ◌/◌, ◌^◌, ◌<◌, ◌==◌, Bool, true, false, ◌&&◌, nat_lt, List, [], ◌∷◌, refl, sym, subst, ap, ◌∙◌, arith}
use Rattle.std.specs.List.{list_any, list_all}
use Rattle.std.proofs.lemmas.Bool.Decides.{nat_tests}
use Rattle.std.proofs.Math.Nat.{mul-div-mul_right, div-lt_iff_lt-mul, mul-lt-mul_of_pos_right, mod-lt}
use Rattle.cl_types.specs.Places.{is_bucket_count, bucket_counts, hash_of, home_of}

-- a test that each number of a list passes is passed by a number that is found there
pub passed : (test : ℕ → Bool) (xs : List ℕ) (n : ℕ) → list_all test xs ≡ true → list_any (λ x. x == n) xs ≡ true → test n ≡ true
passed test [] n all found = absurd cc
passed test (x ∷ xs) n all found = step (x == n) refl (passed test xs n (grind arith)) where
  step : (b : Bool) → (x == n) ≡ b → (list_any (λ x. x == n) xs ≡ true → test n ≡ true) → test n ≡ true
  step true is rest = let same : x ≡ n = grind (arith, nat_tests) in subst (λ m. test m ≡ true) same (grind arith)
  step false is rest = rest (grind (arith, nat_tests))

-- a number of buckets is above 0, and goes into 2 ^ 32 with no rest
abbrev divides : ℕ → Bool
divides b = nat_lt 0 b && (2 ^ 32 / b * b == 2 ^ 32)

bucket_count_divides : (b : ℕ) → is_bucket_count b ≡ true → divides b ≡ true
bucket_count_divides b count = passed divides bucket_counts b refl count

-- the home of a page, by a product in place of the inner quotient
pub leading_bits : (b space vpn : ℕ) → is_bucket_count b ≡ true → hash_of (space, vpn) * b / 2 ^ 32 ≡ home_of b (space, vpn)
unfolding home_of
leading_bits b space vpn count =
    let divided : divides b ≡ true = bucket_count_divides b count in
    let some : 0 < b = grind (arith, nat_tests) in
    let exact : 2 ^ 32 / b * b ≡ 2 ^ 32 = grind (arith, nat_tests) in
    ap (λ n. hash_of (space, vpn) * b / n) (sym exact) ∙ mul-div-mul_right (hash_of (space, vpn)) (2 ^ 32 / b) some

-- and it is the number of a bucket
pub leading_bits_below : (b space vpn : ℕ) → is_bucket_count b ≡ true → hash_of (space, vpn) * b / 2 ^ 32 < b
leading_bits_below b space vpn count =
    let divided : divides b ≡ true = bucket_count_divides b count in
    let some : 0 < b = grind (arith, nat_tests) in
    let hash : hash_of (space, vpn) < 2 ^ 32 = mod-lt _ (omega arith) in
    let scaled : hash_of (space, vpn) * b < 2 ^ 32 * b = mul-lt-mul_of_pos_right hash some in
    let turned : hash_of (space, vpn) * b < b * 2 ^ 32 = omega (arith, scaled) in
    (div-lt_iff_lt-mul (omega arith)).1 turned
