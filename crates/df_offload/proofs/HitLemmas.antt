-- What a walk over the rows has found of the hits.
use Rattle.std.proofs.Common.{◌≡◌, ℕ, ◌+◌, ◌<◌, ◌≤◌, Bool, true, false, cond, List, [], ◌∷◌, drop, Option, Some, None, refl, sym, ap, ◌∙◌, arith}
use Rattle.std.specs.List.{fold, reduce, sum_by}
use Rattle.std.proofs.lemmas.List.{drop_all}
use Rattle.std.proofs.lemmas.List.Sums.{sum_by-cons}
use Rattle.df_offload.specs.declared.row_test.RowTest.{RowTest}
use Rattle.df_offload.specs.declared.pick.Pick.{Pick}
use Rattle.df_offload.specs.Rows.{DataRows, cell, hits, in_column, is_hit}
use Rattle.df_offload.specs.Layout.{count_of, row_at, picked, picked_on}
use Rattle.df_offload.specs.Stored.{rows_in}
use Rattle.df_offload.proofs.RowLemmas.{length_rows, drop_row}

-- ---- the hits from a place on
-- a row that is a hit is the first of the hits from its place on
hits_first : (test : RowTest) (row : List ℕ) (rest : DataRows) → is_hit test row ≡ true → hits test (row ∷ rest) ≡ row ∷ hits test rest
hits_first test row rest hit = ap (λ b. cond b (row ∷ hits test rest) (hits test rest)) hit

-- and else it is none of them
hits_behind : (test : RowTest) (row : List ℕ) (rest : DataRows) → is_hit test row ≡ false → hits test (row ∷ rest) ≡ hits test rest
hits_behind test row rest miss = ap (λ b. cond b (row ∷ hits test rest) (hits test rest)) miss

-- what was seen of a row is so of the bytes that the walk began with
pub seen : (columns row : ℕ) (test : RowTest) (contents now : List ℕ) (result answer : Bool) → result ≡ answer → result ≡ is_hit test (row_at columns now row) → now ≡ contents
    → answer ≡ is_hit test (row_at columns contents row)
seen columns row test contents now result answer is told same = sym is ∙ told ∙ ap (λ bytes. is_hit test (row_at columns bytes row)) same

module _ (columns : ℕ) (contents : List ℕ) (test : RowTest) where
  -- the hits from a place on
  abbrev pub hits_on : ℕ → DataRows
  hits_on row = hits test (drop row (rows_in columns contents))

  pub hit_here : (row : ℕ) → row < count_of contents → true ≡ is_hit test (row_at columns contents row) → hits_on row ≡ row_at columns contents row ∷ hits_on (row + 1)
  hit_here row less hit =
      ap (hits test) (drop_row columns contents row less) ∙ hits_first test (row_at columns contents row) (drop (row + 1) (rows_in columns contents)) (sym hit)

  pub no_hit_here : (row : ℕ) → row < count_of contents → false ≡ is_hit test (row_at columns contents row) → hits_on row ≡ hits_on (row + 1)
  no_hit_here row less miss =
      ap (hits test) (drop_row columns contents row less) ∙ hits_behind test (row_at columns contents row) (drop (row + 1) (rows_in columns contents)) (sym miss)

  -- there is none from the end on
  pub no_hit_left : (row : ℕ) → count_of contents ≤ row → hits_on row ≡ []
  no_hit_left row past = let long = length_rows columns contents in ap (hits test) (drop_all row (rows_in columns contents) (omega arith))

-- ---- the sum
-- the sum of the hits from a place on, with one more
pub sum_here : (columns : ℕ) (contents : List ℕ) (test : RowTest) (column row : ℕ) → row < count_of contents → true ≡ is_hit test (row_at columns contents row)
    → sum_by (cell column) (hits_on columns contents test row) ≡ cell column (row_at columns contents row) + sum_by (cell column) (hits_on columns contents test (row + 1))
sum_here columns contents test column row less hit =
    ap (sum_by (cell column)) (hit_here columns contents test row less hit) ∙ sum_by-cons (cell column) (row_at columns contents row) (hits_on columns contents test (row + 1))

-- a sum that grows by the number of a hit
pub sum_more : (now sum number cell rest first all : ℕ) → now ≡ sum + number → number ≡ cell → first ≡ cell + rest → sum + first ≡ all → now + rest ≡ all
sum_more now sum number cell rest first all grows is split whole = omega arith

-- and one that stays
pub sum_same : (now sum rest first all : ℕ) → now ≡ sum → first ≡ rest → sum + first ≡ all → now + rest ≡ all
sum_same now sum rest first all stays same whole = omega arith

-- ---- the least or the greatest number
-- what is picked of these numbers, and of those before where there were any
abbrev pub picked_of : Pick → Option ℕ → List ℕ → Option ℕ
picked_of pick None numbers = reduce (picked pick) numbers
picked_of pick (Some best) numbers = Some (fold (picked pick) best numbers)

-- one number more
picked_more : (pick : Pick) (best : Option ℕ) (number : ℕ) (numbers : List ℕ) → picked_of pick best (number ∷ numbers) ≡ picked_of pick (Some (picked_on pick best number)) numbers
picked_more pick None number numbers = refl
picked_more pick (Some best) number numbers = refl

-- a hit is picked from
pub pick_here : (columns : ℕ) (contents : List ℕ) (test : RowTest) (pick : Pick) (best : Option ℕ) (column row : ℕ) → row < count_of contents → true ≡ is_hit test (row_at columns contents row)
    → picked_of pick best (in_column column (hits_on columns contents test row))
    ≡ picked_of pick (Some (picked_on pick best (cell column (row_at columns contents row)))) (in_column column (hits_on columns contents test (row + 1)))
pick_here columns contents test pick best column row less hit =
    ap (λ those. picked_of pick best (in_column column those)) (hit_here columns contents test row less hit)
    ∙ picked_more pick best (cell column (row_at columns contents row)) (in_column column (hits_on columns contents test (row + 1)))

-- where none is left, the best is what was picked
pub picked_all : (pick : Pick) (best : Option ℕ) → picked_of pick best [] ≡ best
picked_all pick None = refl
picked_all pick (Some best) = refl
