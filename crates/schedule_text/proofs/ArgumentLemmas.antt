-- The number of words.
use Rattle.std.proofs.Common.{◌≡◌, ℕ, ◌<◌, ◌==◌, Bool, true, false, nat_lt, cond, List, [], ◌∷◌, length, ap, arith, Option, Some, None, Err}
use Rattle.std.specs.List.{slice_split}
use Rattle.std.proofs.lemmas.Bool.Decides.{nat_tests}
use Rattle.std.proofs.lemmas.List.Splits.{length-slice_split}
use Rattle.cl_types.specs.declared.schedule.What.{What}
use Rattle.cl_types.specs.declared.schedule.What.TheVariants.{MissingWord, ExtraWord}
use Rattle.texts.specs.Text.{Text}
use Rattle.texts.specs.Words.{Argument}
use Rattle.schedule_text.specs.Arguments.{arguments_after, count_fault, values_after}

-- bytes have a part, however few they are
pub parts_some : (separator : ℕ) (bytes : Text) → 0 < length (slice_split (λ b. b == separator) bytes)
parts_some separator bytes = omega (arith, length-slice_split (λ b. b == separator) bytes)

values_after_fault : (before : Option What) (arguments : List Argument) (texts : List Text) (what : What) → before ≡ Some what → values_after before arguments texts ≡ Err what
values_after_fault None arguments texts what e = absurd cc
values_after_fault (Some other) arguments texts what e = ap (λ (o : Option What). values_after o arguments texts) e

fault_by : (fewer more : Bool) (before : Option What) (arguments : List Argument) (texts : List Text) (what : What)
    → cond fewer (Some MissingWord) (cond more (Some ExtraWord) before) ≡ Some what
    → cond fewer (Err MissingWord) (cond more (Err ExtraWord) (values_after before arguments texts)) ≡ Err what
fault_by true more before arguments texts what e = cc
fault_by false true before arguments texts what e = cc
fault_by false false before arguments texts what e = values_after_fault before arguments texts what e

-- the fault of the number of words, or of the word in front
pub arguments_fault : (arguments : List Argument) (before : Option What) (texts : List Text) (what : What) → count_fault (length arguments) before texts ≡ Some what
    → arguments_after before arguments texts ≡ Err what
arguments_fault arguments before texts what e =
    fault_by (nat_lt (length texts) (length arguments)) (nat_lt (length arguments) (length texts)) before arguments texts what e

-- words that nothing asks for
pub no_words : (before : Option What) (bytes : Text) → count_fault 0 before (slice_split (λ b. b == 32) bytes) ≡ Some ExtraWord
no_words before bytes = by (slice_split (λ b. b == 32) bytes) (parts_some 32 bytes)
  where
    by : (words : List Text) → 0 < length words → count_fault 0 before words ≡ Some ExtraWord
    by [] some = absurd (omega arith)
    by (w ∷ ws) some = grind (arith, nat_tests)
