-- Digits in base 16.
use Rattle.std.proofs.Common.{◌≡◌, ℕ, zero, suc, ◌+◌, ◌/◌, ◌%◌, ◌^◌, ◌<◌, ◌≤◌, Bool, true, false, cond, ◌&&◌, ◌==◌, List, [], ◌∷◌, ◌++◌, slice_index, refl, sym, ap, ◌∙◌, arith, append_assoc, append-nil, inl, inr, length, take, drop, get_or}
use Rattle.std.proofs.lemmas.List.{take_more, take-append-drop}
use Rattle.std.proofs.lemmas.Bool.{eq-eqb, ne_eqb}
use Rattle.std.proofs.lemmas.Bool.{and_parts, cases_lt, eqb-true}
use Rattle.std.specs.Fmt.{digit_glyph, digits, digits_onto}
use Rattle.hex.specs.Hex.{encode_lower, encode_with, lower_digits}
use Rattle.transcript_text.specs.Fronts.{IsFront}

-- ---- the table of digits
abbrev same_below : ℕ → Bool
same_below zero = true
same_below (suc n) = (digit_glyph false n == slice_index lower_digits n) && same_below n

same_at : (n k : ℕ) → same_below n ≡ true → k < n → digit_glyph false k ≡ slice_index lower_digits k
same_at zero k h lt = absurd (omega arith)
same_at (suc n) k h lt =
    let parts = and_parts (digit_glyph false n == slice_index lower_digits n) (same_below n) h in
    elim (cases_lt k n) [
      | inl below ↦ same_at n k parts.1 below
      | inr top ↦
          let e : k ≡ n = omega arith in
          rw e (eqb-true (digit_glyph false n) (slice_index lower_digits n) parts.0)
    ]

pub digit_glyph_in_table : (n : ℕ) → n < 16 → digit_glyph false n ≡ slice_index lower_digits n
digit_glyph_in_table n lt = same_at 16 n refl lt

-- ---- the digits of a number
abbrev spell : ℕ → ℕ → List ℕ → List ℕ
spell k n acc = digits_onto k 16 false n acc

abbrev last_digit : ℕ → ℕ
last_digit n = digit_glyph false (n % 16)

spell_last : (k n : ℕ) (acc : List ℕ) → n < 16 → spell (suc k) n acc ≡ last_digit n ∷ acc
spell_last k n acc h =
    ap (λ t. cond t (last_digit n ∷ acc) (spell k (n / 16) (last_digit n ∷ acc))) (eq-eqb (n / 16) 0 (omega arith))

spell_next : (k n : ℕ) (acc : List ℕ) → 16 ≤ n → spell (suc k) n acc ≡ spell k (n / 16) (last_digit n ∷ acc)
spell_next k n acc h =
    ap (λ t. cond t (last_digit n ∷ acc) (spell k (n / 16) (last_digit n ∷ acc))) (ne_eqb (n / 16) 0 (λ e. omega arith))

-- what stands behind the digits stays there
spell-append : (k n : ℕ) (acc : List ℕ) → spell k n acc ≡ spell k n [] ++ acc
spell-append zero n acc = refl
spell-append (suc k) n acc = elim (cases_lt n 16) [
  | inl below ↦ spell_last k n acc below ∙ ap (λ x. x ++ acc) (sym (spell_last k n [] below))
  | inr above ↦
      spell_next k n acc above ∙ spell-append k (n / 16) (last_digit n ∷ acc)
      ∙ sym (append_assoc (spell k (n / 16) []) (last_digit n ∷ []) acc)
      ∙ ap (λ x. x ++ acc) (sym (spell_next k n [] above ∙ spell-append k (n / 16) (last_digit n ∷ [])))
]

-- room for more digits changes nothing
spell_enough : (j k n : ℕ) (acc : List ℕ) → n < 16 ^ suc j → n < 16 ^ suc k → spell (suc j) n acc ≡ spell (suc k) n acc
spell_enough zero k n acc p q = spell_last zero n acc (omega arith) ∙ sym (spell_last k n acc (omega arith))
spell_enough (suc j) zero n acc p q = spell_last (suc j) n acc (omega arith) ∙ sym (spell_last zero n acc (omega arith))
spell_enough (suc j) (suc k) n acc p q = elim (cases_lt n 16) [
  | inl below ↦ spell_last (suc j) n acc below ∙ sym (spell_last (suc k) n acc below)
  | inr above ↦
      spell_next (suc j) n acc above ∙ spell_enough j k (n / 16) (last_digit n ∷ acc) (omega arith) (omega arith)
      ∙ sym (spell_next (suc k) n acc above)
]

-- a number below 16 has one digit
pub hex_digits_one : (n : ℕ) → n < 16 → digits 16 false n ≡ last_digit n ∷ []
unfolding digits
hex_digits_one n h = spell_last 63 n [] h

-- the last digit stands behind those of the sixteenth part
pub hex_digits_step : (n : ℕ) → 16 ≤ n → n < 2 ^ 32 → digits 16 false n ≡ digits 16 false (n / 16) ++ last_digit n ∷ []
unfolding digits
hex_digits_step n h fits =
    spell_next 63 n [] h ∙ spell_enough 62 63 (n / 16) (last_digit n ∷ []) (omega arith) (omega arith)
    ∙ spell-append 64 (n / 16) (last_digit n ∷ [])

-- ---- the digits of bytes
encode_append : (xs ys : List ℕ) → encode_lower (xs ++ ys) ≡ encode_lower xs ++ encode_lower ys
unfolding encode_with
encode_append [] ys = refl
encode_append (x ∷ xs) ys =
    ap (λ (text : List ℕ). slice_index lower_digits (x / 16) ∷ slice_index lower_digits (x % 16) ∷ text) (encode_append xs ys)

encode_one : (x : ℕ) → encode_lower (x ∷ []) ≡ slice_index lower_digits (x / 16) ∷ slice_index lower_digits (x % 16) ∷ []
unfolding encode_with
encode_one x = refl

-- no byte is written yet
pub encode_none : (old : List ℕ) → old ≡ old ++ encode_lower []
unfolding encode_with
encode_none old = sym (append-nil old)

-- the digits of one byte more
pub encode_more : (old now new xs : List ℕ) (i : ℕ) → i < length xs → now ≡ old ++ encode_lower (take i xs)
    → new ≡ now ++ (slice_index lower_digits (get_or xs i 0 / 16) ∷ slice_index lower_digits (get_or xs i 0 % 16) ∷ [])
    → new ≡ old ++ encode_lower (take (i + 1) xs)
encode_more old now new xs i lt so_far pair =
    let x : ℕ = get_or xs i 0 in
    let more : encode_lower (take (i + 1) xs) ≡ encode_lower (take i xs) ++ encode_lower (x ∷ []) =
    ap (λ (bytes : List ℕ). encode_lower bytes) (take_more xs i 0 lt) ∙ encode_append (take i xs) (x ∷ []) in
    rw (pair, so_far, append_assoc, ← encode_one x, ← more) refl

-- the digits of the first bytes are a front
pub encode_front : (old new bytes : List ℕ) (i : ℕ) → new ≡ old ++ encode_lower (take i bytes) → IsFront old (encode_lower bytes) new
encode_front old new bytes i h = record {
  front = encode_lower (take i bytes);
  rest = encode_lower (drop i bytes);
  written = h;
  of_text = sym (encode_append (take i bytes) (drop i bytes)) ∙ ap (λ (xs : List ℕ). encode_lower xs) (take-append-drop i bytes);
}
