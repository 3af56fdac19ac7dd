-- What is taken off the front of a part of a list.
use Rattle.std.proofs.Common.{◌≡◌, ℕ, ◌+◌, List, ◌++◌, take, drop, sym, ◌∙◌, ap}
use Rattle.std.proofs.lemmas.List.{take-append-drop, drop-drop}

-- the part is the front that was copied, and then the rest
pub front_off : (n at : ℕ) (bytes buf : List ℕ) → take n buf ≡ take n (drop at bytes) → drop at bytes ≡ take n buf ++ drop (at + n) bytes
front_off n at bytes buf copied =
    sym (take-append-drop n (drop at bytes))
    ∙ ap (λ (l : List ℕ). l ++ drop n (drop at bytes)) (sym copied)
    ∙ ap (λ (l : List ℕ). take n buf ++ l) (drop-drop n at bytes)
