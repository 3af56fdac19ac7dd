-- Lines, one after another, and empty words.
use Rattle.std.proofs.Common.{◌≡◌, ℕ, ◌+◌, ◌<◌, ◌≤◌, ◌==◌, Bool, true, false, ◌&&◌, cond, not, nat_lt, List, [], ◌∷◌, length, drop, get_or, refl, ◌∙◌, ap, arith, Option, Some, None}
use Rattle.std.proofs.lemmas.Bool.Decides.{nat_tests}
use Rattle.std.specs.Borrow.{Bor}
use Rattle.std.specs.List.{list_any, onto_first, slice_split}
use Rattle.std.proofs.lemmas.List.{drop_more, drop_all}
use Rattle.texts.specs.Text.{Text, is_empty, lines_in, without_empty_end, words_in}
use Rattle.schedule_text.specs.Parts.{parts_left}
use Rattle.schedule_text.proofs.ArgumentLemmas.{parts_some}

-- ---- lines
-- the lines of what stands behind a line's end
abbrev pub lines_left : Option (Bor Text) → List Text
lines_left None = []
lines_left (Some rest) = lines_in rest.now

-- the first part of some bytes is empty only where they begin with a separator, and then another part follows
not_empty : (bytes : Text) → 0 < length bytes → slice_split (λ b. b == 10) bytes ≡ [] ∷ [] → ⊥
not_empty [] some e = omega arith
not_empty (b ∷ bs) some e = by (b == 10) (slice_split (λ b. b == 10) bs) (parts_some 10 bs) e
  where
    by : (found : Bool) (parts : List Text) → 0 < length parts → cond found ([] ∷ parts) (onto_first b parts) ≡ [] ∷ [] → ⊥
    by found [] none e = omega arith
    by true (part ∷ parts) some e = cc
    by false (part ∷ parts) some e = cc

without_more : (line : Text) (parts : List Text) → 0 < length parts → without_empty_end (line ∷ parts) ≡ line ∷ without_empty_end parts
without_more line [] none = absurd (omega arith)
without_more [] (part ∷ parts) some = refl
without_more (b ∷ bs) (part ∷ parts) some = refl

without_last : (line : Text) → (line ≡ [] → ⊥) → without_empty_end (line ∷ []) ≡ line ∷ []
without_last [] full = absurd (full refl)
without_last (b ∷ bs) full = refl

pub lines_cut : (bytes line : Text) (rest : Option (Bor Text)) → 0 < length bytes → slice_split (λ b. b == 10) bytes ≡ line ∷ parts_left 10 rest
    → lines_in bytes ≡ line ∷ lines_left rest
lines_cut bytes line None some e =
    ap (λ (parts : List Text). without_empty_end parts) e ∙ without_last line (λ empty. not_empty bytes some (e ∙ ap (λ (part : Text). part ∷ []) empty))
lines_cut bytes line (Some rest) some e =
    ap (λ (parts : List Text). without_empty_end parts) e ∙ without_more line (slice_split (λ b. b == 10) rest.now) (parts_some 10 rest.now)

-- bytes have a line
lines_some : (bytes : Text) → 0 < length bytes → 0 < length (lines_in bytes)
lines_some [] none = none
lines_some (b ∷ bs) some = by (b == 10) (slice_split (λ b. b == 10) bs) (parts_some 10 bs)
  where
    by : (found : Bool) (parts : List Text) → 0 < length parts → 0 < length (without_empty_end (cond found ([] ∷ parts) (onto_first b parts)))
    by found [] none = absurd (omega arith)
    by true (part ∷ parts) some = omega arith
    by false (part ∷ parts) some = omega arith

-- whether a line is left behind so many
pub lines_too_many : (bytes rest : Text) (line : ℕ) (empty : Bool) → empty ≡ (length rest == 0) → line ≡ 200000
    → length (lines_in bytes) ≡ line + length (lines_in rest) → not empty ≡ nat_lt 200000 (length (lines_in bytes))
lines_too_many bytes [] line empty e at count = grind (arith, nat_tests)
lines_too_many bytes (b ∷ bs) line empty e at count =
    let some = lines_some (b ∷ bs) (omega arith) in
    grind (arith, nat_tests)

-- ---- empty words
-- whether a word is empty, where the bytes before end one or not
unfoldable pub has_gap : Bool → List ℕ → Bool
has_gap at_start [] = at_start
has_gap at_start (b ∷ bs) = cond (at_start && b == 32) true (has_gap (b == 32) bs)

abbrev others : List Text → List Text
others [] = []
others (part ∷ parts) = parts

onto_any : (b : ℕ) (parts : List Text) → list_any is_empty (onto_first b parts) ≡ list_any is_empty (others parts)
onto_any b [] = refl
onto_any b (part ∷ parts) = refl

onto_others : (b : ℕ) (parts : List Text) → list_any is_empty (others (onto_first b parts)) ≡ list_any is_empty (others parts)
onto_others b [] = refl
onto_others b (part ∷ parts) = refl

record Gaps (bs : Text) : Type 0 where
  at_start : list_any is_empty (words_in bs) ≡ has_gap true bs
  within : list_any is_empty (others (words_in bs)) ≡ has_gap false bs

gaps : (bs : Text) → Gaps bs
unfolding has_gap
gaps [] = record { at_start = refl; within = refl }
gaps (b ∷ bs) = by (b == 32) refl (gaps bs)
  where
    by : (found : Bool) → (b == 32) ≡ found → Gaps bs → Gaps (b ∷ bs)
    by true e g = record { at_start = rw e refl; within = rw e g.at_start }
    by false e g = record { at_start = rw e (onto_any b (words_in bs) ∙ g.within); within = rw e (onto_others b (words_in bs) ∙ g.within) }

pub words_gap : (line : Text) → list_any is_empty (words_in line) ≡ has_gap true line
words_gap line = (gaps line).at_start

-- a byte more, a gap, and the end
pub gap_more : (at_start : Bool) (line : Text) (i : ℕ) → i < length line → has_gap at_start (drop i line) ≡ cond (at_start && get_or line i 0 == 32) true (has_gap (get_or line i 0 == 32) (drop (i + 1) line))
unfolding has_gap
gap_more at_start line i lt = rw (drop_more line i 0 lt) refl

pub gap_end : (at_start : Bool) (line : Text) (i : ℕ) → length line ≤ i → has_gap at_start (drop i line) ≡ at_start
unfolding has_gap
gap_end at_start line i past = rw (drop_all i line past) refl
