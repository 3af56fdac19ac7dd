-- Where a data frame keeps the number of its rows, and the rows; and which number is picked. No public clause cites this module.
use Rattle.std.specs.Prelude.{ℕ, ◌+◌, ◌*◌, ◌/◌, ◌%◌, min, max, List, Option, Some, None, map}
use Rattle.std.specs.List.{range_with_len}
use Rattle.std.specs.Int.{from_be_bytes, to_be_bytes, w32}
use Rattle.cl_types.specs.Bytes.{bytes_at, with_bytes}
use Rattle.cl_types.specs.declared.limits.TheConstants.{PAGE_BYTES}
use Rattle.df_offload.specs.declared.layout.TheConstants.{COUNT_AT, COUNT_BYTES}
use Rattle.df_offload.specs.declared.pick.Pick.{Pick}
use Rattle.df_offload.specs.declared.pick.Pick.TheVariants.{Least, Greatest}
use Rattle.df_offload.specs.Rows.{DataRows, row_bytes, page_rows}

-- where the row of this place begins: each page but the first has the next rows, one after the other
unfoldable pub row_place : ℕ → ℕ → ℕ
row_place columns row = PAGE_BYTES * (1 + row / page_rows columns) + row_bytes columns * (row % page_rows columns)

-- how many rows there are
unfoldable pub count_of : List ℕ → ℕ
count_of contents = from_be_bytes w32 (bytes_at COUNT_AT COUNT_BYTES contents)

-- the bytes with this number of rows
abbrev pub put_count : ℕ → List ℕ → List ℕ
put_count count contents = with_bytes COUNT_AT (to_be_bytes w32 count) contents

-- the row of this place
unfoldable pub row_at : ℕ → List ℕ → ℕ → List ℕ
row_at columns contents row = bytes_at (row_place columns row) (row_bytes columns) contents

-- the bytes with this row at a place
abbrev pub put_row : ℕ → ℕ → List ℕ → List ℕ → List ℕ
put_row columns row bytes contents = with_bytes (row_place columns row) bytes contents

-- so many rows, from the first on
abbrev pub first_rows : ℕ → ℕ → List ℕ → DataRows
first_rows columns n contents = map (row_at columns contents) (range_with_len 0 n)

-- which of two numbers is picked
abbrev pub picked : Pick → ℕ → ℕ → ℕ
picked Least = min
picked Greatest = max

-- the pick of those before, if there were any, and one more
abbrev pub picked_on : Pick → Option ℕ → ℕ → ℕ
picked_on pick None number = number
picked_on pick (Some best) number = picked pick best number
