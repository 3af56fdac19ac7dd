-- What selects are to each other.
use Rattle.std.specs.Prelude.{◌≡◌, ℕ, ◌<◌, ◌≤◌, ◌^◌, List, [], ◌∷◌, ◌++◌, Ok, length, drop}
use Rattle.std.specs.List.{concat, flat_map}
use Rattle.std.specs.Int.{to_be_bytes, w32}
use Rattle.frame_model.specs.Frames.{number_32}
use Rattle.df_offload.specs.declared.layout.TheConstants.{MOST_COLUMNS}
use Rattle.df_offload.specs.declared.row_test.RowTest.{RowTest}
use Rattle.df_offload.specs.Rows.{DataRows, df_select, df_step, hits, test_at}
use Rattle.df_offload.specs.Rows.Object.{DfObject}

-- these are selects with one test from a cursor on, each a next cursor and the rows given: the first begins at the cursor,
-- each other one at the next cursor of the one before, and the last one's next cursor is the number of rows
abbrev pub GoOn : ℕ → DataRows → RowTest → ℕ → List (ℕ × DataRows) → Type 0
GoOn columns rows test cursor [] = cursor ≡ length rows
GoOn columns rows test cursor ((next, given) ∷ more) =
    (df_select columns rows cursor test ≡ Ok (next, given)) × GoOn columns rows test next more

-- selects from cursor 0 that go on to the end, joined, are the hits
abbrev pub SelectsAreTheHits : Type 0
SelectsAreTheHits =
    (columns : ℕ) (rows : DataRows) (test : RowTest) (selects : List (ℕ × DataRows))
    → 1 ≤ columns
    → columns ≤ MOST_COLUMNS
    → GoOn columns rows test 0 selects
    → flat_map (λ given. given.1) selects ≡ hits test rows

-- a select before the end of the rows goes on behind its cursor, and not beyond the end
abbrev pub SelectsGoForward : Type 0
SelectsGoForward =
    (columns cursor next : ℕ) (rows given : DataRows) (test : RowTest)
    → 1 ≤ columns
    → columns ≤ MOST_COLUMNS
    → cursor < length rows
    → df_select columns rows cursor test ≡ Ok (next, given)
    → (cursor < next) × (next ≤ length rows)

-- these are answers to operations that select, with the test in these bytes, from a cursor on: each one begins with the
-- cursor of the next operation, and the last one with the number of rows
abbrev pub AnswersGoOn : ℕ → ℕ → DataRows → List ℕ → ℕ → List (List ℕ) → Type 0
AnswersGoOn columns most rows test cursor [] = cursor ≡ length rows
AnswersGoOn columns most rows test cursor (answer ∷ more) =
    (df_step columns most rows 2 (to_be_bytes w32 cursor ++ test) ≡ Ok (answer, DfObject columns most rows))
    × AnswersGoOn columns most rows test (number_32 0 answer) more

-- the bytes behind the cursors of such answers from cursor 0, joined, are those of the hits
abbrev pub AnswersAreTheHits : Type 0
AnswersAreTheHits =
    (columns most : ℕ) (rows : DataRows) (test : List ℕ) (answers : List (List ℕ))
    → 1 ≤ columns
    → columns ≤ MOST_COLUMNS
    → length rows < 2 ^ 32
    → AnswersGoOn columns most rows test 0 answers
    → flat_map (λ answer. drop 4 answer) answers ≡ concat (hits (test_at 0 test) rows)
