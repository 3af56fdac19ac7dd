-- Numbers of which none stands twice.
use Rattle.std.specs.Prelude.{ℕ, ◌≡◌, ◌==◌, false, List, [], ◌∷◌}
use Rattle.std.specs.List.{list_any}

-- no number stands twice
abbrev pub AreApart : List ℕ → Type 0
AreApart [] = Unit {0}
AreApart (n ∷ ns) = (list_any (λ m. m == n) ns ≡ false) × AreApart ns
