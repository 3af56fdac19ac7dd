-- Data frames: what they hold, and what an operation on them gives.
use Rattle.std.specs.Prelude.{ℕ, ◌+◌, ◌*◌, ◌-◌, ◌/◌, ◌%◌, ◌==◌, min, max, Bool, true, ◌&&◌, leb, nat_lt, List, [], ◌∷◌, ◌++◌, length, take, drop, map, slice_index, if◌then◌else◌, Result, Ok, Err}
use Rattle.std.specs.List.{filter, enumerate_from, sum_by, concat, reduce}
use Rattle.std.specs.Simd.{first_chunks}
use Rattle.std.specs.Option.{ok_or}
use Rattle.std.specs.Int.{to_be_bytes, w32, w64, w128}
use Rattle.cl_types.specs.declared.reply.Refusal.{Refusal}
use Rattle.cl_types.specs.declared.reply.Refusal.TheVariants.{ObjectFull, NoKey, BadOp}
use Rattle.frame_model.specs.Frames.{number_32, number_64}
use Rattle.df_offload.specs.declared.layout.TheConstants.{NUMBER_BYTES, PAGE_NUMBERS, SELECT_BYTES}
use Rattle.df_offload.specs.declared.row_test.RowTest.{RowTest}

-- the rows of a data frame in order, each the bytes of its numbers; places are counted from 0
abbrev pub DataRows : Type 0
DataRows = List (List ℕ)

-- an object: how many numbers a row has, how many rows there may be, and the rows
pub data Object : Type 0 where
  DfObject : (columns most : ℕ) → (rows : DataRows) → Object

-- what an operation gives: the answer and the object after it, or a refusal
abbrev pub Given : Type 0
Given = Result (List ℕ × Object) Refusal

-- what an operation that only reads gives: the answer, or a refusal
abbrev pub Answered : Type 0
Answered = Result (List ℕ) Refusal

-- how many bytes a row has
abbrev pub row_bytes : ℕ → ℕ
row_bytes columns = NUMBER_BYTES * columns

-- how many rows a page has
abbrev pub page_rows : ℕ → ℕ
page_rows columns = PAGE_NUMBERS / columns

-- how many pages a data frame has
abbrev pub df_pages : ℕ → ℕ → ℕ
df_pages columns most = 1 + (most + (page_rows columns - 1)) / page_rows columns

-- ---- numbers and tests
-- the number in a column of a row
abbrev pub cell : ℕ → List ℕ → ℕ
cell column row = number_64 (NUMBER_BYTES * column) row

-- the numbers of a column
abbrev pub in_column : ℕ → DataRows → List ℕ
in_column column rows = map (cell column) rows

-- a number meets a test: any, or it is less than, equal to or greater than the value
abbrev pub meets : RowTest → ℕ → Bool
meets test number =
    if test.comparison == 0 then true
    else if test.comparison == 1 then nat_lt number test.value
    else if test.comparison == 2 then number == test.value
    else nat_lt test.value number

-- a row is a hit if its number in the column of the test meets the test
abbrev pub is_hit : RowTest → List ℕ → Bool
is_hit test row = meets test (cell test.column row)

-- the rows that are hits
abbrev pub hits : RowTest → DataRows → DataRows
hits test rows = filter (is_hit test) rows

-- ---- what the operations give
-- an append adds rows at the end and answers how many there are then
abbrev pub df_append : ℕ → ℕ → DataRows → DataRows → Given
df_append columns most rows more =
    if nat_lt most (length rows + length more) then Err ObjectFull
    else Ok (to_be_bytes w32 (length rows + length more), DfObject columns most (rows ++ more))

-- how many rows a select gives at most
abbrev pub select_most : ℕ → ℕ
select_most columns = SELECT_BYTES / row_bytes columns

-- the hits whose place is the cursor or later, each with its place
abbrev pub hits_from : ℕ → RowTest → DataRows → List (ℕ × List ℕ)
hits_from cursor test rows = filter (λ row. is_hit test row.1) (enumerate_from cursor (drop cursor rows))

-- one past the place of the last of these; without any, this place
abbrev pub past_last : ℕ → List (ℕ × List ℕ) → ℕ
past_last place [] = place
past_last place (hit ∷ given) = past_last (hit.0 + 1) given

-- where the next select goes on: one past the last hit given where as many were found as a select gives, and else at the
-- end of the rows
abbrev pub next_cursor : ℕ → ℕ → List (ℕ × List ℕ) → ℕ
next_cursor columns end given = if length given == select_most columns then past_last end given else end

-- a select gives the next cursor and the first hits from its cursor on
abbrev pub df_select : ℕ → DataRows → ℕ → RowTest → Result (ℕ × DataRows) Refusal
df_select columns rows cursor test =
    if nat_lt (length rows) cursor then Err NoKey
    else (let given : List (ℕ × List ℕ) = take (select_most columns) (hits_from cursor test rows) in
    Ok (next_cursor columns (length rows) given, map (λ hit. hit.1) given))

-- how many hits there are
abbrev pub df_count : DataRows → RowTest → ℕ
df_count rows test = length (hits test rows)

-- the sum of the hits in a column
abbrev pub df_sum : DataRows → ℕ → RowTest → ℕ
df_sum rows column test = sum_by (cell column) (hits test rows)

-- the least number of the hits in a column, and a refusal where there is no hit
abbrev pub df_min : DataRows → ℕ → RowTest → Result ℕ Refusal
df_min rows column test = ok_or (reduce min (in_column column (hits test rows))) NoKey

-- the greatest number of the hits in a column, and a refusal where there is no hit
abbrev pub df_max : DataRows → ℕ → RowTest → Result ℕ Refusal
df_max rows column test = ok_or (reduce max (in_column column (hits test rows))) NoKey

-- ---- operations as bytes
-- the test in these bytes from a place on: its column, its comparison and its value
abbrev pub test_at : ℕ → List ℕ → RowTest
test_at at bytes = record {
  column = slice_index bytes at;
  comparison = slice_index bytes (at + 1);
  value = number_64 (at + 2) bytes;
}

-- the test names a column that is there, and a comparison
abbrev pub is_test : ℕ → RowTest → Bool
is_test columns test = nat_lt test.column columns && leb test.comparison 3

-- bytes of a column and a test
abbrev pub is_column_test : ℕ → List ℕ → Bool
is_column_test columns bytes = length bytes == 11 && nat_lt (slice_index bytes 0) columns && is_test columns (test_at 1 bytes)

-- bytes of one or more whole rows
abbrev pub are_rows : ℕ → List ℕ → Bool
are_rows columns bytes = leb 1 (length bytes) && length bytes % row_bytes columns == 0

-- the rows in these bytes
abbrev pub rows_of : ℕ → List ℕ → DataRows
rows_of columns bytes = first_chunks (row_bytes columns) (length bytes / row_bytes columns) bytes

-- a select's answer is the next cursor, and behind it the rows
abbrev pub select_answer : Result (ℕ × DataRows) Refusal → Answered
select_answer (Err refusal) = Err refusal
select_answer (Ok (next, given)) = Ok (to_be_bytes w32 next ++ concat given)

-- a number's answer is its 8 bytes
abbrev pub number_answer : Result ℕ Refusal → Answered
number_answer (Err refusal) = Err refusal
number_answer (Ok number) = Ok (to_be_bytes w64 number)

-- 2 selects, 4 counts, 6 sums, 8 finds the least number and 10 the greatest, each with bytes of its form
abbrev pub df_answer : ℕ → DataRows → ℕ → List ℕ → Answered
df_answer columns rows op bytes =
    if op == 2 && length bytes == 14 && is_test columns (test_at 4 bytes)
    then select_answer (df_select columns rows (number_32 0 bytes) (test_at 4 bytes))
    else if op == 4 && length bytes == 10 && is_test columns (test_at 0 bytes)
    then Ok (to_be_bytes w32 (df_count rows (test_at 0 bytes)))
    else if op == 6 && is_column_test columns bytes
    then Ok (to_be_bytes w128 (df_sum rows (slice_index bytes 0) (test_at 1 bytes)))
    else if op == 8 && is_column_test columns bytes then number_answer (df_min rows (slice_index bytes 0) (test_at 1 bytes))
    else if op == 10 && is_column_test columns bytes then number_answer (df_max rows (slice_index bytes 0) (test_at 1 bytes))
    else Err BadOp

-- an operation that only reads leaves the object
abbrev pub unchanged : Object → Answered → Given
unchanged object (Err refusal) = Err refusal
unchanged object (Ok answer) = Ok (answer, object)

-- 1 appends rows, and nothing else changes them
abbrev pub df_step : ℕ → ℕ → DataRows → ℕ → List ℕ → Given
df_step columns most rows op bytes =
    if op == 1 && are_rows columns bytes then df_append columns most rows (rows_of columns bytes)
    else unchanged (DfObject columns most rows) (df_answer columns rows op bytes)
