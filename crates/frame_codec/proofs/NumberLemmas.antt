-- Bytes are those that `byteorder` writes for the number that it reads in them.
use Rattle.std.proofs.Common.{◌≡◌, ℕ, ◌+◌, ◌*◌, ◌/◌, ◌%◌, ◌^◌, ◌<◌, zero, suc, [], ◌∷◌, length, refl, sym, ap, ◌∙◌, arith}
use Rattle.std.specs.Int.{byte_at, bytes_high_first}
use Rattle.std.proofs.Math.Nat.{div-one, mod-eq_of_lt, mul-add-div_right, mul-add-mod_self_right, one-le-pow, pow-succ', mul_assoc}
use Rattle.std.proofs.lemmas.Nat.{div-mul-add}
use Rattle.std.proofs.lemmas.Bool.{and_parts, ltb-true}
use Rattle.byteorder.specs.Endian.{big_number, big_from}
use Rattle.byteorder.specs.Numbers.{big_from-cons, big_from-lt}
use Rattle.frame_model.proofs.ByteLemmas.{small}
use Rattle.frame_codec.specs.Laws.{BytesAreThoseOfTheirNumber}

byte_at-power : (k n : ℕ) → byte_at k n ≡ n / 256 ^ k % 256
byte_at-power zero n = ap (λ (m : ℕ). m % 256) (sym (div-one n))
byte_at-power (suc k) n = refl

power_positive : (k : ℕ) → 0 < 256 ^ k
power_positive k = let least = one-le-pow k 256 (omega arith) in omega arith

-- the lowest bytes don't tell what is above them
byte_at-below : (k high low : ℕ) → byte_at k (high * 256 * 256 ^ k + low) ≡ byte_at k low
byte_at-below k high low =
    byte_at-power k (high * 256 * 256 ^ k + low)
    ∙ ap (λ (m : ℕ). m % 256) (mul-add-div_right (power_positive k) (high * 256) low)
    ∙ mul-add-mod_self_right high 256 (low / 256 ^ k)
    ∙ sym (byte_at-power k low)

bytes-below : (k high low : ℕ) → bytes_high_first k (high * 256 ^ k + low) ≡ bytes_high_first k low
bytes-below zero high low = refl
bytes-below (suc k) high low =
    let apart : high * 256 ^ suc k ≡ high * 256 * 256 ^ k =
    ap (λ (m : ℕ). high * m) (pow-succ' 256 k) ∙ sym (mul_assoc high 256 (256 ^ k)) in
    rw (ap (λ (m : ℕ). m + low) apart, byte_at-below k high low, bytes-below k (high * 256) low) refl

-- the highest byte
byte_at-top : (n first low : ℕ) → first < 256 → low < 256 ^ n → byte_at n (first * 256 ^ n + low) ≡ first
byte_at-top n first low small_first small_low =
    byte_at-power n (first * 256 ^ n + low)
    ∙ ap (λ (m : ℕ). m % 256) (div-mul-add first (256 ^ n) low small_low)
    ∙ mod-eq_of_lt small_first

pub bytes_are_those_of_their_number : BytesAreThoseOfTheirNumber
bytes_are_those_of_their_number [] good = refl
bytes_are_those_of_their_number (first ∷ rest) good =
    let both = and_parts _ _ good in
    let n : ℕ = length rest in
    let low : ℕ = big_from 0 n rest in
    let read : big_number (length (first ∷ rest)) (first ∷ rest) ≡ first * 256 ^ n + low =
    ap (λ (m : ℕ). first * 256 ^ n + m) (big_from-cons 0 n first rest) in
    let top = byte_at-top n first low (ltb-true first 256 both.0) (big_from-lt 0 n rest (small rest both.1)) in
    rw (read, top, bytes-below n first low, bytes_are_those_of_their_number rest both.1) refl
