-- Text as lists of bytes: words, lines, and the lines and words of an input.
use Rattle.std.specs.Prelude.{ℕ, ◌==◌, Bool, true, false, List, [], ◌∷◌, ◌++◌, bytes_eq}
use Rattle.std.specs.List.{slice_split}

-- a text, as the bytes of its ASCII characters
abbrev pub Text : Type 0
Text = List ℕ

-- the two texts are equal
abbrev pub is_text : Text → Text → Bool
is_text = bytes_eq

-- the list is empty
abbrev pub is_empty : {A : Type 0} → List A → Bool
is_empty [] = true
is_empty (x ∷ xs) = false

-- ---- to write
-- the line feed at the end of a line
abbrev pub line_end : Text
line_end = 10 ∷ []

-- texts with this byte between each two
abbrev pub separated : ℕ → List Text → Text
separated c [] = []
separated c (w ∷ []) = w
separated c (w ∷ v ∷ ws) = w ++ c ∷ separated c (v ∷ ws)

-- words with one space between each two
abbrev pub words : List Text → Text
words = separated 32

-- texts with one dot between each two
abbrev pub dotted : List Text → Text
dotted = separated 46

-- words, and then the end of the line
abbrev pub line_of : List Text → Text
line_of [] = line_end
line_of (w ∷ []) = w ++ line_end
line_of (w ∷ v ∷ ws) = w ++ 32 ∷ line_of (v ∷ ws)

-- ---- to read
-- lines without an empty last one: a line feed at the very end begins no further line
abbrev pub without_empty_end : List Text → List Text
without_empty_end [] = []
without_empty_end ([] ∷ []) = []
without_empty_end (line ∷ lines) = line ∷ without_empty_end lines

-- the lines of an input, which line feeds part
abbrev pub lines_in : List ℕ → List Text
lines_in bytes = without_empty_end (slice_split (λ b. b == 10) bytes)

-- the words of a line, which single spaces part
abbrev pub words_in : Text → List Text
words_in line = slice_split (λ b. b == 32) line

-- the first word, empty where there is none
abbrev pub first_word : List Text → Text
first_word [] = []
first_word (w ∷ ws) = w

-- an empty line or a comment is skipped, and counted
abbrev pub is_skipped : Text → Bool
is_skipped [] = true
is_skipped (b ∷ bs) = b == 35
