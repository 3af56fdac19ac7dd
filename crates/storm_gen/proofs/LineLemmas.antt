-- The numbers of the lines of events.
use Rattle.std.proofs.Common.{ℕ, ◌+◌, ◌≡◌, List, [], ◌∷◌, ◌++◌, length, length-append, append_assoc, arith, ap, sym, ◌∙◌, subst}
use Rattle.std.proofs.lemmas.List.{map-append, length-map}
use Rattle.std.specs.Prelude.{map}
use Rattle.std.specs.List.{enumerate_from}
use Rattle.cl_types.specs.declared.schedule.Event.{Event}
use Rattle.storm_gen.specs.Numbering.{AreNumbered}

-- the number of one item more is that after the others
pub enumerate_from-push : {X : Type 0} → (n : ℕ) (xs : List X) (x : X)
    → enumerate_from n (xs ++ x ∷ []) ≡ enumerate_from n xs ++ (n + length xs, x) ∷ []
enumerate_from-push {X = X} n [] x =
    let same : n ≡ n + length {A = X} [] = omega arith in
    ap (λ (k : ℕ). (k, x) ∷ []) same
enumerate_from-push {X = X} n (y ∷ xs) x =
    let next : n + 1 + length xs ≡ n + length (y ∷ xs) = omega arith in
    ap (λ (rest : List (ℕ × X)). (n, y) ∷ rest)
    (enumerate_from-push (n + 1) xs x ∙ ap (λ (k : ℕ). enumerate_from (n + 1) xs ++ (k, x) ∷ []) next)

-- an event pushed under the next number keeps the numbers
pub numbered_on_push : (es new : List (ℕ × Event)) (next : ℕ) (x : Event)
    → AreNumbered es next → new ≡ es ++ (next, x) ∷ [] → AreNumbered new (next + 1)
numbered_on_push es new next x old pushed =
    let f : ℕ × Event → Event = λ (e : ℕ × Event). e.1 in
    let number : next ≡ 6 + length (map f es) = old.follows ∙ ap (λ (k : ℕ). 6 + k) (sym (length-map es f)) in
    let here : es ++ (next, x) ∷ [] ≡ enumerate_from 6 (map f es) ++ (6 + length (map f es), x) ∷ []
    = ap (λ (front : List (ℕ × Event)). front ++ (next, x) ∷ []) old.numbered
    ∙ ap (λ (k : ℕ). enumerate_from 6 (map f es) ++ (k, x) ∷ []) number in
    subst (λ (all : List (ℕ × Event)). AreNumbered all (next + 1)) (sym pushed) (record {
      numbered = here ∙ sym (enumerate_from-push 6 (map f es) x) ∙ ap (enumerate_from 6) (sym (map-append f es ((next, x) ∷ [])));
      follows = let more : length (es ++ (next, x) ∷ []) ≡ length es + 1 = length-append es ((next, x) ∷ []) in
          let same : next ≡ 6 + length es = old.follows in
          omega arith;
    })

-- what is still to come, after the part that was added
pub rest_after : (old new part rest more whole : List Event)
    → new ≡ old ++ part → rest ≡ part ++ more → old ++ rest ≡ whole → new ++ more ≡ whole
rest_after old new part rest more whole added split before =
    ap (λ (lines : List Event). lines ++ more) added ∙ append_assoc old part more
    ∙ ap (λ (tail : List Event). old ++ tail) (sym split) ∙ before
