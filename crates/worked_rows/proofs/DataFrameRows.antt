-- Worked operations of a data frame of two columns and at most three rows.
use Rattle.std.proofs.Common.{◌≡◌, ℕ, List, [], ◌∷◌, ◌++◌, Ok, Err, refl, replicate}
use Rattle.std.specs.Int.{to_be_bytes, w32, w64}
use Rattle.cl_types.specs.declared.reply.Refusal.TheVariants.{ObjectFull, NoKey, BadOp}
use Rattle.df_offload.specs.Rows.{DataRows, Given, df_step}
use Rattle.df_offload.specs.Rows.Object.{DfObject}

-- ---- bytes
abbrev row : ℕ → ℕ → List ℕ
row first second = to_be_bytes w64 first ++ to_be_bytes w64 second

-- a test of a column: 0 any, 1 less, 2 equal, 3 greater
abbrev test : ℕ → ℕ → ℕ → List ℕ
test column comparison value = column ∷ comparison ∷ to_be_bytes w64 value

abbrev two : DataRows
two = row 1 10 ∷ row 2 20 ∷ []

abbrev three : DataRows
three = row 1 10 ∷ row 2 20 ∷ row 3 0 ∷ []

-- what an operation gives that is answered and leaves these rows
abbrev gives : List ℕ → DataRows → Given
gives answer rows = Ok (answer, DfObject 2 3 rows)

-- ---- operations
two_are_appended : df_step 2 3 [] 1 (row 1 10 ++ row 2 20) ≡ gives (to_be_bytes w32 2) two
two_are_appended = refl

sum_of_all : df_step 2 3 two 6 (1 ∷ test 0 0 0) ≡ gives (replicate 15 0 ++ 30 ∷ []) two
sum_of_all = refl

one_is_selected : df_step 2 3 two 2 (to_be_bytes w32 0 ++ test 0 3 1) ≡ gives (to_be_bytes w32 2 ++ row 2 20) two
one_is_selected = refl

least_of_none : df_step 2 3 two 8 (0 ∷ test 0 3 5) ≡ Err NoKey
least_of_none = refl

two_are_too_many : df_step 2 3 two 1 (row 1 10 ++ row 2 20) ≡ Err ObjectFull
two_are_too_many = refl

third_is_appended : df_step 2 3 two 1 (row 3 0) ≡ gives (to_be_bytes w32 3) three
third_is_appended = refl

two_are_counted : df_step 2 3 three 4 (test 1 1 20) ≡ gives (to_be_bytes w32 2) three
two_are_counted = refl

least_of_all : df_step 2 3 three 8 (1 ∷ test 0 0 0) ≡ gives (to_be_bytes w64 0) three
least_of_all = refl

greatest_of_all : df_step 2 3 three 10 (1 ∷ test 0 0 0) ≡ gives (to_be_bytes w64 20) three
greatest_of_all = refl

selected_from_the_end : df_step 2 3 three 2 (to_be_bytes w32 3 ++ test 0 0 0) ≡ gives (to_be_bytes w32 3) three
selected_from_the_end = refl

selected_from_behind : df_step 2 3 three 2 (to_be_bytes w32 4 ++ test 0 0 0) ≡ Err NoKey
selected_from_behind = refl

-- ---- bytes that are no operation
no_rows : df_step 2 3 two 1 [] ≡ Err BadOp
no_rows = refl

half_a_row : df_step 2 3 two 1 (to_be_bytes w64 3) ≡ Err BadOp
half_a_row = refl

column_past_the_last : df_step 2 3 two 6 (2 ∷ test 0 0 0) ≡ Err BadOp
column_past_the_last = refl

tested_column_past_the_last : df_step 2 3 two 4 (test 2 0 0) ≡ Err BadOp
tested_column_past_the_last = refl

comparison_past_the_last : df_step 2 3 two 4 (test 0 4 0) ≡ Err BadOp
comparison_past_the_last = refl

operation_of_no_kind : df_step 2 3 two 3 (test 0 0 0) ≡ Err BadOp
operation_of_no_kind = refl
