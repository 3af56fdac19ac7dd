-- Where the number of rows and the rows are, and what a write leaves of them.
use Rattle.std.proofs.Common.{◌≡◌, ℕ, zero, suc, ◌+◌, ◌-◌, ◌*◌, ◌/◌, ◌<◌, ◌≤◌, ◌^◌, inl, List, ◌++◌, length, take, drop, sym, ap, subst, ◌∙◌, arith, append_assoc}
use Rattle.std.specs.Int.{from_be_bytes, to_be_bytes, w32}
use Rattle.std.proofs.lemmas.Nat.{from_be_bytes-to_be_bytes_4}
use Rattle.std.proofs.lemmas.List.{drop-drop, length-drop, length-take-le}
use borrow.Rule.Slice.PartMut.{mid_of, mid_len, put_mid}
use Rattle.cl_types.specs.Bytes.{bytes_at, with_bytes}
use Rattle.cl_types.specs.Spaces.{IsInOnePage}
use Rattle.lemmas.proofs.Pieces.{AreApart, Leaves, piece_put, piece_of, leaves_put}
use Rattle.df_offload.specs.Rows.{df_pages, row_bytes, page_rows, select_most}
use Rattle.df_offload.specs.Layout.{row_place, count_of, put_count, put_row, row_at}
use Rattle.df_offload.specs.Stored.{HasPages}

-- ---- places
-- what holds for 1, 2, .. and 8 columns holds for each number of columns in range
pub by_columns : (P : ℕ → Type 0) → P 1 → P 2 → P 3 → P 4 → P 5 → P 6 → P 7 → P 8 → (columns : ℕ) → 1 ≤ columns → columns ≤ 8 → P columns
by_columns P a b c d e f g h zero some few = absurd (omega arith)
by_columns P a b c d e f g h (suc zero) some few = a
by_columns P a b c d e f g h (suc (suc zero)) some few = b
by_columns P a b c d e f g h (suc (suc (suc zero))) some few = c
by_columns P a b c d e f g h (suc (suc (suc (suc zero)))) some few = d
by_columns P a b c d e f g h (suc (suc (suc (suc (suc zero))))) some few = e
by_columns P a b c d e f g h (suc (suc (suc (suc (suc (suc zero)))))) some few = f
by_columns P a b c d e f g h (suc (suc (suc (suc (suc (suc (suc zero))))))) some few = g
by_columns P a b c d e f g h (suc (suc (suc (suc (suc (suc (suc (suc zero)))))))) some few = h
by_columns P a b c d e f g h (suc (suc (suc (suc (suc (suc (suc (suc (suc n))))))))) some few = absurd (omega arith)

-- where rows are, of each number of columns
record Placed (columns : ℕ) : Type 0 where
  -- a row is after the first page
  pub above : (row : ℕ) → 4096 ≤ row_place columns row
  -- the rows are one after the other
  pub rise : (row other : ℕ) → row < other → row_place columns row + row_bytes columns ≤ row_place columns other
  -- and below the end of the numbers of four bytes
  pub below : (row : ℕ) → row < 16384 → row_place columns row + 64 < 2 ^ 32
  -- a row is in one page
  pub in_page : (row : ℕ) → ((1 + row / page_rows columns) * 4096 ≤ row_place columns row)
      × (row_place columns row + row_bytes columns ≤ (1 + row / page_rows columns) * 4096 + 4096)
  -- which is one of those that are there
  pub page : (row most : ℕ) → row < most → 1 + row / page_rows columns < df_pages columns most

placed : (columns : ℕ) → 1 ≤ columns → columns ≤ 8 → Placed columns
unfolding row_place
placed = by_columns Placed
    (record { above = λ row. omega arith; rise = λ row other less. omega arith; below = λ row less. omega arith; in_page = λ row. (omega arith, omega arith); page = λ row most less. omega arith })
    (record { above = λ row. omega arith; rise = λ row other less. omega arith; below = λ row less. omega arith; in_page = λ row. (omega arith, omega arith); page = λ row most less. omega arith })
    (record { above = λ row. omega arith; rise = λ row other less. omega arith; below = λ row less. omega arith; in_page = λ row. (omega arith, omega arith); page = λ row most less. omega arith })
    (record { above = λ row. omega arith; rise = λ row other less. omega arith; below = λ row less. omega arith; in_page = λ row. (omega arith, omega arith); page = λ row most less. omega arith })
    (record { above = λ row. omega arith; rise = λ row other less. omega arith; below = λ row less. omega arith; in_page = λ row. (omega arith, omega arith); page = λ row most less. omega arith })
    (record { above = λ row. omega arith; rise = λ row other less. omega arith; below = λ row less. omega arith; in_page = λ row. (omega arith, omega arith); page = λ row most less. omega arith })
    (record { above = λ row. omega arith; rise = λ row other less. omega arith; below = λ row less. omega arith; in_page = λ row. (omega arith, omega arith); page = λ row most less. omega arith })
    (record { above = λ row. omega arith; rise = λ row other less. omega arith; below = λ row less. omega arith; in_page = λ row. (omega arith, omega arith); page = λ row most less. omega arith })

-- a piece of what is in one page is in one page
inside : (page pages at size off n long : ℕ) → page * 4096 ≤ at → at + size ≤ page * 4096 + 4096 → page < pages → pages * 4096 ≤ long → off < size → off + n ≤ size → IsInOnePage (at + off) n long
inside page pages at size off n long low high there whole start fits = (page, omega arith, omega arith, omega arith, omega arith)

module _ {columns most : ℕ} {contents : List ℕ} (has : HasPages columns most contents) where
  here : Placed columns
  here = placed columns has.some_columns has.few_columns

  -- a piece of a row lies in one page
  pub row_in : (row off n : ℕ) → row < most → off < row_bytes columns → off + n ≤ row_bytes columns → IsInOnePage (row_place columns row + off) n (length contents)
  row_in row off n less start fits =
      inside (1 + row / page_rows columns) (df_pages columns most) (row_place columns row) (row_bytes columns) off n (length contents)
      (here.in_page row).0 (here.in_page row).1 (here.page row most less) has.pages start fits

  -- a row lies in one page
  pub row_start_in : (row n : ℕ) → row < most → n ≤ row_bytes columns → IsInOnePage (row_place columns row) n (length contents)
  row_start_in row n less fits =
      let e : row_place columns row + 0 ≡ row_place columns row = omega arith in
      let some = has.some_columns in
      subst (λ at. IsInOnePage at n (length contents)) e (row_in row 0 n less (omega arith) (omega arith))

  -- both by the place of the row
  pub piece_in : (row off n place : ℕ) → place ≡ row_place columns row → row < most → off < row_bytes columns → off + n ≤ row_bytes columns → IsInOnePage (place + off) n (length contents)
  piece_in row off n place is less start fits = subst (λ at. IsInOnePage (at + off) n (length contents)) (sym is) (row_in row off n less start fits)

  pub start_in : (row n place : ℕ) → place ≡ row_place columns row → row < most → n ≤ row_bytes columns → IsInOnePage place n (length contents)
  start_in row n place is less fits = subst (λ at. IsInOnePage at n (length contents)) (sym is) (row_start_in row n less fits)

  -- a row is within the pages
  pub row_whole : (row : ℕ) → row < most → row_place columns row + row_bytes columns ≤ length contents
  row_whole row less = let in_page = row_start_in row (row_bytes columns) less (omega arith) in omega (arith, in_page.3, in_page.4)

  -- so it is as long as it should be
  pub row_long : (row : ℕ) → row < most → length (row_at columns contents row) ≡ row_bytes columns
  unfolding row_at
  row_long row less =
      let whole = row_whole row less in
      let rest = length-drop (row_place columns row) contents in
      length-take-le (row_bytes columns) (drop (row_place columns row) contents) (omega arith)

  -- a row is after the first page
  pub row_above : (row : ℕ) → 4096 ≤ row_place columns row
  row_above row = here.above row

  -- the rows are one after the other
  pub rows_rise : (row other : ℕ) → row < other → row_place columns row + row_bytes columns ≤ row_place columns other
  rows_rise row other less = here.rise row other less

  -- and below the end of the numbers of four bytes
  pub row_below : (row : ℕ) → row < most → row_place columns row + 64 < 2 ^ 32
  row_below row less = here.below row (omega (arith, has.few_rows))

  -- the first page is there
  pub first_whole : 4096 ≤ length contents
  first_whole = omega (arith, has.pages)

  -- the first bytes are in one page
  pub first_in : (at n : ℕ) → at < 4096 → at + n ≤ 4096 → IsInOnePage at n (length contents)
  first_in at n start fits = (0, omega arith, omega arith, omega arith, omega (arith, first_whole))

-- a write leaves the pages there
pub pages_left : {from size columns most : ℕ} {old new : List ℕ} → Leaves from size old new → HasPages columns most old → HasPages columns most new
pages_left leaves has = record {
  some_columns = has.some_columns;
  few_columns = has.few_columns;
  some_rows = has.some_rows;
  few_rows = has.few_rows;
  pages = omega (arith, has.pages, leaves.long);
}

-- ---- what is put and what stays
-- the number of rows that was put is there
pub count_put : (n : ℕ) (old : List ℕ) → n < 2 ^ 32 → 4 ≤ length old → count_of (put_count n old) ≡ n
unfolding count_of
count_put n old small within = ap (from_be_bytes w32) (piece_put 0 (to_be_bytes w32 n) old (omega arith)) ∙ from_be_bytes-to_be_bytes_4 n small

-- putting it leaves all but four bytes
pub count_leaves : (n : ℕ) (old : List ℕ) → 4 ≤ length old → Leaves 0 4 old (put_count n old)
count_leaves n old within = leaves_put 0 (to_be_bytes w32 n) old within

module _ {from size : ℕ} {old new : List ℕ} (leaves : Leaves from size old new) where
  -- the number of rows stays where it is apart from the write
  pub count_left : 4 ≤ from → count_of new ≡ count_of old
  unfolding count_of
  count_left behind = ap (from_be_bytes w32) (leaves.kept 0 4 (inl behind))

  -- and so does a row
  pub row_left : (columns row : ℕ) → AreApart (row_place columns row) (row_bytes columns) from size → row_at columns new row ≡ row_at columns old row
  unfolding row_at
  row_left columns row apart = leaves.kept (row_place columns row) (row_bytes columns) apart

-- the row that was put is there
pub row_put : (columns row : ℕ) (bytes old : List ℕ) → length bytes ≡ row_bytes columns → row_place columns row ≤ length old → row_at columns (put_row columns row bytes old) row ≡ bytes
unfolding row_at
row_put columns row bytes old long within =
    ap (λ n. bytes_at (row_place columns row) n (put_row columns row bytes old)) (sym long) ∙ piece_put (row_place columns row) bytes old within

-- putting it leaves all but its bytes
pub row_leaves : (columns row : ℕ) (bytes old : List ℕ) → length bytes ≡ row_bytes columns → row_place columns row + row_bytes columns ≤ length old
    → Leaves (row_place columns row) (row_bytes columns) old (put_row columns row bytes old)
row_leaves columns row bytes old long within =
    subst (λ n. Leaves (row_place columns row) n old (put_row columns row bytes old)) long (leaves_put (row_place columns row) bytes old (omega arith))

-- ---- what is read
-- the number in a column of a row
pub number_read : (columns row column place : ℕ) (contents : List ℕ) → place ≡ row_place columns row → column < columns
    → bytes_at (place + 8 * column) 8 contents ≡ bytes_at (8 * column) 8 (row_at columns contents row)
unfolding row_at
number_read columns row column place contents is less =
    piece_of place (8 * column) 8 (row_bytes columns) contents (omega arith) ∙ ap (λ at. bytes_at (8 * column) 8 (bytes_at at (row_bytes columns) contents)) is

-- the bytes that were read of a row
pub row_read : (columns row place n : ℕ) (contents : List ℕ) → place ≡ row_place columns row → n ≡ row_bytes columns → bytes_at place n contents ≡ row_at columns contents row
unfolding row_at
row_read columns row place n contents is long = ap (λ at. bytes_at at n contents) is ∙ ap (λ m. bytes_at (row_place columns row) m contents) long

-- a piece that is put back is put in at its place
pub put_is : (at n : ℕ) (out new piece : List ℕ) → new ≡ piece → length new ≡ n → put_mid at n out new ≡ with_bytes at piece out
put_is at n out new piece same long =
    let e : at + n ≡ at + length piece = omega (arith, ap length same) in
    ap (λ ys. take at out ++ (ys ++ drop n (drop at out))) same
    ∙ ap (λ rest. take at out ++ (piece ++ rest)) (drop-drop n at out ∙ ap (λ m. drop m out) e)
    ∙ sym (append_assoc (take at out) piece (drop (at + length piece) out))

-- ---- how many rows a select gives
-- what a select gives has 1,020 bytes at most, and it may give one row or more
pub record Selects (columns : ℕ) : Type 0 where
  pub room : (found : ℕ) → found < select_most columns → row_bytes columns * found + row_bytes columns ≤ 1020
  pub few : (found : ℕ) → found ≤ select_most columns → row_bytes columns * found ≤ 1020
  pub some : 1 ≤ select_most columns
  pub small : select_most columns ≤ 127

pub selects : (columns : ℕ) → 1 ≤ columns → columns ≤ 8 → Selects columns
selects = by_columns Selects
    (record { room = λ found less. omega arith; few = λ found low. omega arith; some = omega arith; small = omega arith })
    (record { room = λ found less. omega arith; few = λ found low. omega arith; some = omega arith; small = omega arith })
    (record { room = λ found less. omega arith; few = λ found low. omega arith; some = omega arith; small = omega arith })
    (record { room = λ found less. omega arith; few = λ found low. omega arith; some = omega arith; small = omega arith })
    (record { room = λ found less. omega arith; few = λ found low. omega arith; some = omega arith; small = omega arith })
    (record { room = λ found less. omega arith; few = λ found low. omega arith; some = omega arith; small = omega arith })
    (record { room = λ found less. omega arith; few = λ found low. omega arith; some = omega arith; small = omega arith })
    (record { room = λ found less. omega arith; few = λ found low. omega arith; some = omega arith; small = omega arith })

-- the piece of `out` behind so many rows has room for one more
pub piece_long : (columns size behind : ℕ) (out : List ℕ) → 1 ≤ columns → columns ≤ 8 → size ≡ row_bytes columns → behind < select_most columns → length out ≡ 1024
    → length (mid_of (size * behind) (size * behind + size - size * behind) out) ≡ size
piece_long columns size behind out some few is less long =
    let room : size * behind + size ≤ 1020 = subst (λ n. n * behind + n ≤ 1020) (sym is) ((selects columns some few).room behind less) in
    mid_len (size * behind) (size * behind + size) out (omega arith) ∙ (let e : size * behind + size - size * behind ≡ size = omega arith in e)
