-- Digits, one after another. No public clause cites this module.
use Rattle.std.specs.Prelude.{ℕ, ◌+◌, ◌*◌, ◌&&◌, nat_lt, Bool, List, if◌then◌else◌, Option, Some, None}
use Rattle.std.specs.List.{fold}

-- a number with one digit more, where it is a digit and the number stays below the limit
abbrev pub with_digit : (is_digit : ℕ → Bool) (value : ℕ → ℕ) (base limit n b : ℕ) → Option ℕ
with_digit is_digit value base limit n b =
    if is_digit b && nat_lt (n * base + value b) limit then Some (n * base + value b) else None

-- the same behind digits of which one may have been none
abbrev pub next_digit : (is_digit : ℕ → Bool) (value : ℕ → ℕ) (base limit : ℕ) → Option ℕ → ℕ → Option ℕ
next_digit is_digit value base limit None b = None
next_digit is_digit value base limit (Some n) b = with_digit is_digit value base limit n b

-- the number that digits spell, where it is below the limit
abbrev pub spelled : (is_digit : ℕ → Bool) (value : ℕ → ℕ) (base limit : ℕ) → List ℕ → Option ℕ
spelled is_digit value base limit text = fold (next_digit is_digit value base limit) (Some 0) text
