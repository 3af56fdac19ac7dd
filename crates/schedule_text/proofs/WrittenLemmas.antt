-- Written bytes.
use Rattle.std.proofs.Common.{◌≡◌, ℕ, zero, suc, ◌+◌, ◌++◌, replicate, append_assoc, append-nil, add-one, ◌==◌, Bool, true, false, ◌&&◌, cond, List, [], ◌∷◌, refl, sym, ◌∙◌, ap, arith, Some, None, inl, inr, ◌⊎◌}
use Rattle.std.specs.List.{concat, list_all, onto_first, slice_split}
use Rattle.std.proofs.lemmas.Bool.Decides.{nat_tests}
use Rattle.texts.specs.Text.{Text}
use Rattle.texts.specs.Words.{is_digit, is_plain, number_in, times_in}
use Rattle.std.proofs.Math.Bool.{and-false as no_and}

-- parts of a text at its stars: it is one, or there are two and more, and it isn't all digits
abbrev IsOne : Text → Type 0
IsOne text = slice_split (λ b. b == 42) text ≡ text ∷ []

record AreMore (text : Text) : Type 0 where
  first : Text
  second : Text
  others : List Text
  parts : slice_split (λ b. b == 42) text ≡ first ∷ second ∷ others
  no_number : list_all is_digit text ≡ false

star_is_no_digit : (b : ℕ) → (b == 42) ≡ true → is_digit b ≡ false
star_is_no_digit b e = grind (arith, nat_tests)

-- a part in front
star : (b : ℕ) (bs : Text) → (b == 42) ≡ true → IsOne bs ⊎ AreMore bs → AreMore (b ∷ bs)
star b bs e (inl one) = record {
  first = [];
  second = bs;
  others = [];
  parts = rw e (ap (λ (ps : List Text). [] ∷ ps) one);
  no_number = rw (star_is_no_digit b e) refl;
}
star b bs e (inr more) = record {
  first = [];
  second = more.first;
  others = more.second ∷ more.others;
  parts = rw e (ap (λ (ps : List Text). [] ∷ ps) more.parts);
  no_number = rw (star_is_no_digit b e) refl;
}

-- a byte more of the first part
byte_more : (b : ℕ) (bs : Text) → (b == 42) ≡ false → IsOne bs ⊎ AreMore bs → IsOne (b ∷ bs) ⊎ AreMore (b ∷ bs)
byte_more b bs e (inl one) = inl (rw e (ap (λ (ps : List Text). onto_first b ps) one))
byte_more b bs e (inr more) = inr (record {
  first = b ∷ more.first;
  second = more.second;
  others = more.others;
  parts = rw e (ap (λ (ps : List Text). onto_first b ps) more.parts);
  no_number = rw more.no_number (no_and (is_digit b));
})

parts_of : (text : Text) → IsOne text ⊎ AreMore text
parts_of [] = inl refl
parts_of (b ∷ bs) = by (b == 42) refl (parts_of bs)
  where
    by : (found : Bool) → (b == 42) ≡ found → IsOne bs ⊎ AreMore bs → IsOne (b ∷ bs) ⊎ AreMore (b ∷ bs)
    by true e rest = inr (star b bs e rest)
    by false e rest = byte_more b bs e rest

none_by : (plain low high : Bool) (n : ℕ) → cond (plain && false && low && high) (Some n) None ≡ None
none_by true low high n = refl
none_by false low high n = refl

times_by : (text : Text) → IsOne text ⊎ AreMore text → number_in 1 70000 text ≡ times_in (slice_split (λ b. b == 42) text)
times_by text (inl one) = rw one refl
times_by text (inr more) = rw (more.parts, more.no_number) (none_by (is_plain text) _ _ _)

-- a text with a second star is no number
pub times_in_split : (text : Text) → number_in 1 70000 text ≡ times_in (slice_split (λ b. b == 42) text)
times_in_split text = times_by text (parts_of text)

-- ---- repeats
repeated : (n : ℕ) (bytes : List ℕ) → bytes ++ concat (replicate n bytes) ≡ concat (replicate n bytes) ++ bytes
repeated zero bytes = append-nil bytes
repeated (suc n) bytes =
    ap (λ (more : List ℕ). bytes ++ more) (repeated n bytes) ∙ sym (append_assoc bytes (concat (replicate n bytes)) bytes)

-- the bytes once more
pub expand_more : (n : ℕ) (bytes now new : List ℕ) → now ≡ concat (replicate n bytes) → new ≡ now ++ bytes → new ≡ concat (replicate (n + 1) bytes)
expand_more n bytes now new so_far next =
    next ∙ ap (λ (front : List ℕ). front ++ bytes) so_far ∙ rw add-one (sym (repeated n bytes))
