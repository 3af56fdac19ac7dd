-- What a clock tells of its answers.
use Rattle.std.specs.Prelude.{ℕ, List, drop, slice_get, unwrap_or}

-- the answers still to come, and the one that is repeated after them
pub record Moments : Type 0 where
  pub coming : List ℕ
  pub repeated : ℕ

-- the first answer to come
abbrev pub next_moment : Moments → ℕ
next_moment told = unwrap_or (slice_get told.coming 0) told.repeated

-- what a clock tells once it was given
abbrev pub after_moment : Moments → Moments
after_moment told = record told { coming = drop 1 told.coming }
