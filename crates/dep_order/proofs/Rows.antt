-- The row that is read at a place.
use Rattle.std.proofs.Common.{◌≡◌, ℕ, ◌<◌, List, length, get_or}
use Rattle.std.proofs.lemmas.List.{get_or_read}
use Rattle.dep_order.specs.declared.row.WaitRow.{WaitRow}
use Rattle.dep_order.specs.WaitLists.{row_at, no_row}

pub row_read : (rows : List WaitRow) (place : ℕ) (r : WaitRow) → place < length rows → r ≡ get_or rows place r → r ≡ row_at rows place
row_read rows place r within read = get_or_read rows place r within read no_row
