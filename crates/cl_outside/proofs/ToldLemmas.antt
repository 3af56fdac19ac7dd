-- What was taken off the front of a list that may be told, or added at its end, piece by piece.
use Rattle.std.proofs.Common.{◌≡◌, ℕ, ◌+◌, ◌<◌, ◌≤◌, List, ◌++◌, length, take, drop, sym, subst, ◌∙◌, ap, append_assoc, arith, length-append, take-add}
use Rattle.std.specs.Prelude.{IfSome}
use Rattle.std.specs.Option.{option_map}
use Rattle.std.specs.declared.option.Option.{Option}
use Rattle.std.specs.declared.option.Option.TheVariants.{Some, None}
use Rattle.cl_outside.specs.Loops.{TookUpTo}
use Rattle.cl_outside.specs.Told.{Added, Took}

-- ---- taken off the front
-- what was taken, and then more, is one piece
pub took_twice : {A : Type 0} (xs ys : List A) (before mid after : Option (List A)) → Took xs before mid → Took ys mid after → Took (xs ++ ys) before after
took_twice {A} xs ys before mid None first second = first ∙ ap (option_map (λ (rest : List A). xs ++ rest)) second
took_twice {A} xs ys before mid (Some left) first second =
    first ∙ ap (option_map (λ (rest : List A). xs ++ rest)) second ∙ ap Some (sym (append_assoc xs ys left))

-- and at most so many are
pub took_more : (most more : ℕ) (bytes : List ℕ) (before mid after : Option (List ℕ)) → Took bytes before mid → length bytes + more ≤ most → TookUpTo more mid after → TookUpTo most before after
took_more most more bytes before mid after took few (piece, short, off) =
    let long : length (bytes ++ piece) ≡ length bytes + length piece = length-append bytes piece in
    (bytes ++ piece, omega (arith, few, short, long), took_twice bytes piece before mid after took off)

-- and where more than so many were taken, there were more
pub took_long : (n : ℕ) (bytes : List ℕ) (before after : Option (List ℕ)) → Took bytes before after → n < length bytes → IfSome before (λ left. n < length left)
took_long n bytes before None took long = subst (λ (b : Option (List ℕ)). IfSome b (λ left. n < length left)) (sym took) tt
took_long n bytes before (Some left) took long =
    let all : length (bytes ++ left) ≡ length bytes + length left = length-append bytes left in
    subst (λ (b : Option (List ℕ)). IfSome b (λ left. n < length left)) (sym took) (omega (arith, all, long))

-- ---- added at the end
-- two additions are one
pub added_twice : {A : Type 0} (xs ys : List A) (before mid after : Option (List A))
    → Added xs before mid → Added ys mid after → Added (xs ++ ys) before after
added_twice {A} xs ys None mid after first second =
    second ∙ ap (option_map (λ (old : List A). old ++ ys)) first
added_twice {A} xs ys (Some old) mid after first second =
    second
    ∙ ap (option_map (λ (o : List A). o ++ ys)) first
    ∙ ap (λ (l : List A). Some l) (append_assoc old xs ys)

-- m bytes were added, and then n of the rest
pub added_more : (bytes rest : List ℕ) (m n : ℕ) (before mid after : Option (List ℕ))
    → Added (take m bytes) before mid → rest ≡ drop m bytes → Added (take n rest) mid after
    → Added (take (m + n) bytes) before after
added_more bytes rest m n before mid after front is_rest put =
    let piece : Added (take n (drop m bytes)) mid after = subst (λ l. Added (take n l) mid after) is_rest put in
    let both : Added (take m bytes ++ take n (drop m bytes)) before after = added_twice _ _ before mid after front piece in
    subst (λ l. Added l before after) (sym (take-add m n bytes)) both
