-- The order of entries by line and position.
use Rattle.std.proofs.Common.{◌≡◌, ℕ, ◌+◌, ◌<◌, Bool, true, false, arith}
use Rattle.std.specs.Prelude.{nat_lt, ◌==◌, ◌&&◌, ◌||◌}
use Rattle.std.proofs.lemmas.Bool.Decides.{nat_tests}
use Rattle.cl_types.specs.declared.line.Entry.{Entry}
use Rattle.trace.specs.Account.{is_before}

-- a at b stands before c at d
abbrev pub less : ℕ → ℕ → ℕ → ℕ → Bool
less a b c d = nat_lt a c || a == c && nat_lt b d

trans : (a b c d e f : ℕ) → less a b c d ≡ true → less e f c d ≡ false → less e f a b ≡ false
trans a b c d e f h k = grind (arith, nat_tests)

-- e stands before the place and x doesn't
pub not_before_earlier : (l q : ℕ) (e x : Entry) → is_before l q e ≡ true → is_before l q x ≡ false → is_before e.line e.position x ≡ false
not_before_earlier l q e x h k = trans e.line e.position l q x.line x.position h k

pub before_next : (l q : ℕ) (e : Entry) → is_before l q e ≡ true → is_before l (q + 1) e ≡ true
before_next l q e h = grind (arith, nat_tests)

pub before_line : (l q m : ℕ) (e : Entry) → l < m → is_before l q e ≡ true → is_before m 0 e ≡ true
before_line l q m e k h = grind (arith, nat_tests)

pub before_from_line : (l q : ℕ) (e : Entry) → e.line < l → is_before l q e ≡ true
before_from_line l q e h = grind (arith, nat_tests)

pub at_next : (l q : ℕ) (e : Entry) → e.line ≡ l → e.position ≡ q → is_before l (q + 1) e ≡ true
at_next l q e h k = grind (arith, nat_tests)

pub line_of_before : (l : ℕ) (e : Entry) → is_before l 0 e ≡ true → e.line < l
line_of_before l e h = grind (arith, nat_tests)

-- a place before the one where an entry stands isn't after the entry
pub not_after : (m p l q : ℕ) (e : Entry) → less m p l q ≡ true → e.line ≡ l → e.position ≡ q → is_before m p e ≡ false
not_after m p l q e h j k = grind (arith, nat_tests)

pub less_line : (m l q : ℕ) → m < l → less m 0 l q ≡ true
less_line m l q h = grind (arith, nat_tests)

pub less_next : (m p l q : ℕ) → less m p l q ≡ true → less m p l (q + 1) ≡ true
less_next m p l q h = grind (arith, nat_tests)
