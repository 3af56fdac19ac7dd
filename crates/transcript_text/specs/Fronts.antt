-- What stands where printing stopped early.
use Rattle.std.specs.Prelude.{◌≡◌, ◌++◌}
use Rattle.texts.specs.Text.{Text}

-- what stands is what stood and then a front of the text
pub record IsFront (old text new : Text) : Type 0 where
  pub front : Text
  pub rest : Text
  pub written : new ≡ old ++ front
  pub of_text : front ++ rest ≡ text
