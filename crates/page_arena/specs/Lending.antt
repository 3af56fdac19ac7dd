-- What lending a page does to the pages.
use Rattle.std.specs.Prelude.{ℕ, List, slice_set}
use Rattle.std.specs.Borrow.{Lends, MutBor, Fml, u8, Array}
use Rattle.page_arena.specs.contracts.PageArena.{the_row}

-- page i ends with the last bytes behind r, and the others stay
abbrev pub LendsPage : MutBor (List (List ℕ)) → ℕ → MutBor (List ℕ) → Fml
LendsPage s i r = Lends the_row (Array u8 0) s r (slice_set s.now i)
