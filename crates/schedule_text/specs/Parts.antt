-- Parts of bytes that are still to be read. No public clause cites this module.
use Rattle.std.specs.Prelude.{ℕ, ◌==◌, List, [], Option, Some, None}
use Rattle.std.specs.Borrow.{Bor}
use Rattle.std.specs.List.{slice_split}
use Rattle.texts.specs.Text.{Text}

-- the parts of what stands behind a separator; where there was none, no part is left
abbrev pub parts_left : ℕ → Option (Bor Text) → List Text
parts_left separator None = []
parts_left separator (Some rest) = slice_split (λ b. b == separator) rest.now

-- the words of what stands behind a space
abbrev pub words_left : Option (Bor Text) → List Text
words_left rest = parts_left 32 rest
