-- What the bytes of a space hold as a data frame.
use Rattle.std.specs.Prelude.{◌≡◌, ℕ, ◌*◌, ◌%◌, ◌<◌, ◌≤◌, List, ◌++◌, take, length, Result, Ok, Err}
use Rattle.std.specs.Int.{to_be_bytes, w32}
use Rattle.cl_types.specs.declared.limits.TheConstants.{PAGE_BYTES}
use Rattle.cl_types.specs.declared.reply.Refusal.{Refusal}
use Rattle.df_offload.specs.declared.layout.TheConstants.{MOST_COLUMNS, MOST_ROWS}
use Rattle.df_offload.specs.declared.row_test.RowTest.{RowTest}
use Rattle.df_offload.specs.declared.row_test.Selected.{Selected}
use Rattle.df_offload.specs.Rows.{DataRows, Object, Given, Answered, df_pages, row_bytes}
use Rattle.df_offload.specs.Rows.Object.{DfObject}
use Rattle.df_offload.specs.Layout.{count_of, first_rows}

-- the rows that these bytes hold
abbrev pub rows_in : ℕ → List ℕ → DataRows
rows_in columns contents = first_rows columns (count_of contents) contents

-- the object that these bytes are
abbrev pub object_in : ℕ → ℕ → List ℕ → Object
object_in columns most contents = DfObject columns most (rows_in columns contents)

-- the numbers of columns and rows are in range, and their pages are there
pub record HasPages (columns most : ℕ) (contents : List ℕ) : Type 0 where
  pub some_columns : 1 ≤ columns
  pub few_columns : columns ≤ MOST_COLUMNS
  pub some_rows : 1 ≤ most
  pub few_rows : most ≤ MOST_ROWS
  pub pages : df_pages columns most * PAGE_BYTES ≤ length contents

-- the bytes hold a data frame, as `init` and each call leave it
pub record IsStore (columns most : ℕ) (contents : List ℕ) : Type 0 where
  pub pages : HasPages columns most contents
  pub few : count_of contents ≤ most

-- the test names a column that is there, and a comparison
pub record IsTest (columns : ℕ) (test : RowTest) : Type 0 where
  pub column : test.column < columns
  pub comparison : test.comparison ≤ 3

-- bytes of one or more whole rows
pub record AreRows (columns : ℕ) (bytes : List ℕ) : Type 0 where
  pub some : 1 ≤ length bytes
  pub whole : length bytes % row_bytes columns ≡ 0

-- what an append gave: the number that it answered and the object after it, or its refusal
abbrev pub given_by : Result ℕ Refusal → Object → Given
given_by (Ok number) object = Ok (to_be_bytes w32 number, object)
given_by (Err refusal) object = Err refusal

-- what a select answered: its next cursor, and the rows that it put first in these bytes
abbrev pub selected : ℕ → Result Selected Refusal → List ℕ → Answered
selected columns (Ok given) out = Ok (to_be_bytes w32 given.next ++ take (row_bytes columns * given.rows) out)
selected columns (Err refusal) out = Err refusal
