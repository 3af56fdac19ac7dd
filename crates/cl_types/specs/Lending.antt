-- What lending the bytes of a list does to them.
use Rattle.std.specs.Prelude.{ℕ, List}
use Rattle.std.specs.Borrow.{Lends, MutBor, Fml, u8, Array}
use Rattle.cl_types.specs.Bytes.{over}
use Rattle.cl_types.specs.contracts.items.Items.{the_row}

-- the list ends with the last bytes behind r
abbrev pub LendsBytes : MutBor (List ℕ) → MutBor (List ℕ) → Fml
LendsBytes s r = Lends (the_row u8) (Array u8 0) s r (over s.now)
