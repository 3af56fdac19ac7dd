-- Numbers and addresses by what their digits spell.
use Rattle.std.proofs.Common.{◌≡◌, ℕ, zero, suc, ◌+◌, ◌-◌, ◌*◌, ◌^◌, ◌<◌, ◌≤◌, ◌==◌, Bool, true, false, ◌&&◌, nat_lt, leb, cond, [], ◌∷◌, length, refl, sym, ◌∙◌, ap, arith, Option, Some, None, option_map}
use Rattle.std.specs.List.{fold, list_all}
use Rattle.std.proofs.lemmas.Bool.{and_parts, ltb-false}
use Rattle.std.proofs.lemmas.Bool.Decides.{nat_tests}
use Rattle.std.proofs.Math.Nat.{mul-le-mul_left, mul_assoc, mul_comm, one-le-pow, pow-suc}
use Rattle.cl_types.specs.declared.numbers.Addr.{Addr}
use Rattle.texts.specs.Text.{Text}
use Rattle.texts.specs.Words.{address_in, address_of_digits, hex_value, is_digit, is_hex_digit, is_plain, number_in, value_in}
use Rattle.schedule_text.specs.Digits.{spelled}
use Rattle.schedule_text.proofs.DigitLemmas.{checked, spelled_is}
use Rattle.std.proofs.Math.Bool.{and-false as no_and}

-- a number in its range
abbrev pub ranged : (low high : ℕ) → Option ℕ → Option ℕ
ranged low high None = None
ranged low high (Some n) = cond (leb low n && leb n high) (Some n) None

ranged_checked : (low high n limit : ℕ) (good fits : Bool) → high < limit → nat_lt n limit ≡ fits
    → cond (good && leb low n && leb n high) (Some n) None ≡ ranged low high (cond (good && fits) (Some n) None)
ranged_checked low high n limit false fits below e = refl
ranged_checked low high n limit true true below e = refl
ranged_checked low high n limit true false below e =
    let past = ltb-false n limit e in
    let above : leb n high ≡ false = grind (arith, nat_tests) in
    rw (above, no_and (leb low n)) refl

-- no leading zero, and then what the digits spell
number_from : (plain good : Bool) (low high n limit : ℕ) → high < limit
    → cond (plain && good && leb low n && leb n high) (Some n) None ≡ cond plain (ranged low high (checked limit good n)) None
number_from true good low high n limit below = ranged_checked low high n limit good (nat_lt n limit) below refl
number_from false good low high n limit below = refl

pub number_in-spelled : (low high : ℕ) (text : Text) → high < 2 ^ 64
    → number_in low high text ≡ cond (is_plain text) (ranged low high (spelled is_digit (λ b. b - 48) 10 (2 ^ 64) text)) None
number_in-spelled low high text below =
    number_from (is_plain text) (list_all is_digit text) low high (value_in 10 (λ b. b - 48) text) (2 ^ 64) below
    ∙ ap (λ (o : Option ℕ). cond (is_plain text) (ranged low high o) None) (sym (spelled_is is_digit (λ b. b - 48) 10 (2 ^ 64) (omega arith) text (omega arith)))

-- what a good number is
pub number_in-good : (low high n : ℕ) (text : Text) → high < 2 ^ 64 → true ≡ is_plain text → Some n ≡ spelled is_digit (λ b. b - 48) 10 (2 ^ 64) text
    → low ≤ n → n ≤ high → Some n ≡ number_in low high text
number_in-good low high n text below plain good above_low below_high =
    let here : ranged low high (Some n) ≡ Some n = grind (arith, nat_tests) in
    rw (number_in-spelled low high text below, ← plain, ← good) (sym here)

pub ruleset numbers = (number_in-spelled)

-- ---- addresses
abbrev addr : ℕ → Addr
addr n = record { 0 = n }

hex_value-lt : (b : ℕ) → is_hex_digit b ≡ true → hex_value b < 16
hex_value-lt b good = grind (arith, nat_tests)

-- k hexadecimal digits bring a number below n to one below n * 16 ^ k
hex_bound : (k n m : ℕ) (text : Text) → length text ≤ k → list_all is_hex_digit text ≡ true → m < n → fold (λ n b. n * 16 + hex_value b) m text < n * 16 ^ k
hex_bound k n m [] short good lt = omega (arith, mul-le-mul_left n (one-le-pow k 16 (omega arith)))
hex_bound zero n m (b ∷ bs) short good lt = absurd (omega arith)
hex_bound (suc k) n m (b ∷ bs) short good lt =
    let parts = and_parts (is_hex_digit b) (list_all is_hex_digit bs) good in
    let digit = hex_value-lt b parts.0 in
    let rest = hex_bound k (n * 16) (m * 16 + hex_value b) bs (omega arith) parts.1 (omega arith) in
    rw (pow-suc 16 k, mul_comm (16 ^ k) 16, ← mul_assoc n 16 (16 ^ k)) rest

fits_32 : (good : Bool) (text : Text) → length text ≤ 8 → list_all is_hex_digit text ≡ good
    → checked (2 ^ 32) good (value_in 16 hex_value text) ≡ cond good (Some (value_in 16 hex_value text)) None
fits_32 false text short e = refl
fits_32 true text short e =
    let bound = hex_bound 8 1 0 text short e (omega arith) in
    grind (arith, nat_tests)

-- eight digits or fewer spell a number that fits
spelled-short : (text : Text) → length text ≤ 8
    → spelled is_hex_digit hex_value 16 (2 ^ 32) text ≡ cond (list_all is_hex_digit text) (Some (value_in 16 hex_value text)) None
spelled-short text short =
    spelled_is is_hex_digit hex_value 16 (2 ^ 32) (omega arith) text (omega arith) ∙ fits_32 (list_all is_hex_digit text) text short refl

address_by : (good : Bool) (n m : ℕ) → Some n ≡ cond good (Some m) None → cond (good && true) (Some (addr m)) None ≡ Some (addr n)
address_by true n m e = ap (λ (o : Option ℕ). option_map addr o) (sym e)
address_by false n m e = absurd cc

no_address_by : (good : Bool) (m : ℕ) → None ≡ cond good (Some m) None → cond (good && true) (Some (addr m)) None ≡ None
no_address_by true m e = absurd cc
no_address_by false m e = refl

-- the address of digits is the number that they spell
pub address_good : (n : ℕ) (digits : Text) → true ≡ is_plain digits → length digits ≤ 8 → Some n ≡ spelled is_hex_digit hex_value 16 (2 ^ 32) digits
    → Some (addr n) ≡ address_of_digits digits
address_good n digits plain short e =
    let long : leb (length digits) 8 ≡ true = grind (arith, nat_tests) in
    rw (← plain, long) (sym (address_by (list_all is_hex_digit digits) n (value_in 16 hex_value digits) (e ∙ spelled-short digits short)))

pub address_bad : (digits : Text) → true ≡ is_plain digits → length digits ≤ 8 → None ≡ spelled is_hex_digit hex_value 16 (2 ^ 32) digits
    → None ≡ address_of_digits digits
address_bad digits plain short e =
    let long : leb (length digits) 8 ≡ true = grind (arith, nat_tests) in
    rw (← plain, long) (sym (no_address_by (list_all is_hex_digit digits) (value_in 16 hex_value digits) (e ∙ spelled-short digits short)))

-- a text of fewer than two bytes is none
pub address_short : (text : Text) → length text < 2 → None ≡ address_in text
address_short [] short = refl
address_short (a ∷ []) short = rw (no_and (a == 48)) refl
address_short (a ∷ b ∷ text) short = absurd (omega arith)
