-- The rows as a list, and what an append makes of them.
use Rattle.std.proofs.Common.{◌≡◌, ℕ, zero, suc, ◌+◌, ◌-◌, ◌*◌, ◌/◌, ◌<◌, ◌≤◌, List, [], ◌∷◌, ◌++◌, length, take, drop, Ok, Err, inl, inr, refl, sym, ap, ◌∙◌, arith, append_assoc}
use Rattle.std.specs.Simd.{first_chunks}
use Rattle.std.specs.Int.{to_be_bytes, w32}
use Rattle.std.proofs.lemmas.Bool.Decides.{nat_tests}
use Rattle.std.proofs.lemmas.List.{append-nil, drop_more, drop-drop, length-drop, length-take-le}
use Rattle.std.proofs.lemmas.Nat.{column_fits}
use Rattle.std.proofs.lemmas.List.FromFn.{length-map-range_with_len, get_or-map-range_with_len, map-range_with_len_more, fill_by_all}
use Rattle.cl_types.specs.Bytes.{bytes_at}
use Rattle.cl_types.specs.declared.reply.Refusal.TheVariants.{ObjectFull}
use Rattle.lemmas.proofs.Pieces.{Leaves}
use Rattle.df_offload.specs.Rows.{DataRows, df_append, row_bytes, rows_of}
use Rattle.df_offload.specs.Rows.Object.{DfObject}
use Rattle.df_offload.specs.Layout.{row_place, count_of, put_count, put_row, row_at, first_rows}
use Rattle.df_offload.specs.Stored.{HasPages, IsStore, rows_in, object_in}
use Rattle.df_offload.proofs.PlaceLemmas.{row_above, rows_rise, row_whole, first_whole, pages_left, count_put, count_leaves, count_left, row_left, row_put, row_leaves}

-- ---- the rows as a list
-- there are as many as their number says
pub length_rows : (columns : ℕ) (contents : List ℕ) → length (rows_in columns contents) ≡ count_of contents
length_rows columns contents = length-map-range_with_len (row_at columns contents) 0 (count_of contents)

-- the rows from a place on begin with the one there
pub drop_row : (columns : ℕ) (contents : List ℕ) (row : ℕ) → row < count_of contents
    → drop row (rows_in columns contents) ≡ row_at columns contents row ∷ drop (row + 1) (rows_in columns contents)
drop_row columns contents row less =
    let long = length_rows columns contents in
    drop_more (rows_in columns contents) row [] (omega arith)
    ∙ ap (λ bytes. bytes ∷ drop (row + 1) (rows_in columns contents)) (get_or-map-range_with_len (row_at columns contents) 0 (count_of contents) row row [] less (omega arith))

-- rows that are the same one by one are the same as a list
pub same_rows : (columns n : ℕ) (old new : List ℕ) → ((row : ℕ) → row < n → row_at columns new row ≡ row_at columns old row) → first_rows columns n new ≡ first_rows columns n old
same_rows columns n old new same =
    sym (fill_by_all (row_at columns new) (first_rows columns n old) n [] (length-map-range_with_len (row_at columns old) 0 n)
    (λ row less. get_or-map-range_with_len (row_at columns old) 0 n row row [] less (omega arith) ∙ sym (same row less)))

-- one row more
more_rows : (columns n : ℕ) (contents : List ℕ) → first_rows columns (n + 1) contents ≡ first_rows columns n contents ++ row_at columns contents n ∷ []
more_rows columns n contents = map-range_with_len_more (row_at columns contents) 0 n n (omega arith)

-- ---- pieces of equal size
-- there are as many as were asked for
pub length_chunks : (size n : ℕ) (bytes : List ℕ) → length (first_chunks size n bytes) ≡ n
length_chunks size zero bytes = refl
length_chunks size (suc n) bytes = ap suc (length_chunks size n (drop size bytes))

-- one piece more
pub more_chunks : (size n : ℕ) (bytes : List ℕ) → first_chunks size (n + 1) bytes ≡ first_chunks size n bytes ++ bytes_at (size * n) size bytes ∷ []
more_chunks size zero bytes = ap (λ at. take size (drop at bytes) ∷ []) (let e : 0 ≡ size * 0 = omega arith in e)
more_chunks size (suc n) bytes =
    let e : size + size * n ≡ size * suc n = omega arith in
    ap (λ m. first_chunks size m bytes) (let z : suc n + 1 ≡ suc (n + 1) = omega arith in z)
    ∙ ap (λ chunks. take size bytes ∷ chunks) (more_chunks size n (drop size bytes)
    ∙ ap (λ rest. first_chunks size n (drop size bytes) ++ take size rest ∷ []) (drop-drop (size * n) size bytes ∙ ap (λ at. drop at bytes) e))

-- the bytes of one row, of those that are written
pub row_of : (columns size row : ℕ) (rows : List ℕ) → size ≡ row_bytes columns
    → take (size * row + size - size * row) (drop (size * row) rows) ≡ bytes_at (row_bytes columns * row) (row_bytes columns) rows
row_of columns size row rows is =
    ap (λ n. take n (drop (size * row) rows)) (let e : size * row + size - size * row ≡ size = omega arith in e)
    ∙ ap (λ n. take n (drop (n * row) rows)) is

-- they are as many as a row has
pub row_of_long : (columns size row more : ℕ) (rows : List ℕ) → size ≡ row_bytes columns → row < more → row_bytes columns * more ≤ length rows
    → length (take (size * row + size - size * row) (drop (size * row) rows)) ≡ row_bytes columns
row_of_long columns size row more rows is less fits =
    let room = column_fits (row_bytes columns) row (row_bytes columns) more less (omega arith) in
    let rest = length-drop (row_bytes columns * row) rows in
    ap length (row_of columns size row rows is) ∙ length-take-le (row_bytes columns) (drop (row_bytes columns * row) rows) (omega arith)

-- ---- rows that are written
-- so many rows were written behind those that are there
pub record Writes (columns held done : ℕ) (rows old new : List ℕ) : Type 0 where
  pub all : first_rows columns (held + done) new ≡ first_rows columns held old ++ first_chunks (row_bytes columns) done rows
  pub count : count_of new ≡ count_of old

-- at first none
pub writes_none : (columns held : ℕ) (rows old : List ℕ) → Writes columns held 0 rows old old
writes_none columns held rows old = record {
  all = ap (λ n. first_rows columns n old) (let e : held + 0 ≡ held = omega arith in e) ∙ sym (append-nil (first_rows columns held old));
  count = refl;
}

-- what a row that is written leaves and makes
pub record WritesOne (columns most held done : ℕ) (rows old new : List ℕ) : Type 0 where
  pub pages : HasPages columns most new
  pub writes : Writes columns held (done + 1) rows old new

-- one row more
pub writes_more : {columns most held done : ℕ} (rows old mid new bytes : List ℕ) → HasPages columns most mid → Writes columns held done rows old mid → held + done < most
    → length bytes ≡ row_bytes columns → bytes ≡ bytes_at (row_bytes columns * done) (row_bytes columns) rows → new ≡ put_row columns (held + done) bytes mid
    → WritesOne columns most held done rows old new
writes_more {columns} {most} {held} {done} rows old mid new bytes has writes room long is put =
    let whole = row_whole has (held + done) room in
    let leaves : Leaves (row_place columns (held + done)) (row_bytes columns) mid new = rw put (row_leaves columns (held + done) bytes mid long whole) in
    let place : row_place columns (held + done) ≤ length mid = omega arith in
    let row : row_at columns new (held + done) ≡ bytes = ap (λ contents. row_at columns contents (held + done)) put ∙ row_put columns (held + done) bytes mid long place in
    let kept : first_rows columns (held + done) new ≡ first_rows columns (held + done) mid =
    same_rows columns (held + done) mid new (λ other less. row_left leaves columns other (inl (rows_rise has other (held + done) less))) in
    let above = row_above has (held + done) in
    record {
      pages = pages_left leaves has;
      writes = record {
        all = ap (λ n. first_rows columns n new) (let e : held + (done + 1) ≡ held + done + 1 = omega arith in e)
            ∙ more_rows columns (held + done) new
            ∙ ap (λ those. those ++ row_at columns new (held + done) ∷ []) (kept ∙ writes.all)
            ∙ ap (λ bytes. (first_rows columns held old ++ first_chunks (row_bytes columns) done rows) ++ bytes ∷ []) (row ∙ is)
            ∙ append_assoc (first_rows columns held old) (first_chunks (row_bytes columns) done rows) (bytes_at (row_bytes columns * done) (row_bytes columns) rows ∷ [])
            ∙ ap (λ chunks. first_rows columns held old ++ chunks) (sym (more_chunks (row_bytes columns) done rows));
        count = count_left leaves (omega arith) ∙ writes.count;
      };
    }

-- ---- what the calls leave
-- a number of rows leaves the rows
pub counted : {columns most : ℕ} (n : ℕ) (mid new : List ℕ) → HasPages columns most mid → n ≤ most → new ≡ put_count n mid
    → IsStore columns most new × (rows_in columns new ≡ first_rows columns n mid)
counted {columns} {most} n mid new has low put =
    let whole = first_whole has in
    let leaves : Leaves 0 4 mid new = rw put (count_leaves n mid (omega arith)) in
    let count : count_of new ≡ n = ap count_of put ∙ count_put n mid (omega (arith, has.few_rows)) (omega arith) in
    let same : first_rows columns n new ≡ first_rows columns n mid =
    same_rows columns n mid new (λ row less. row_left leaves columns row (let above = row_above has row in inr (omega arith))) in
    (record { pages = pages_left leaves has; few = omega (arith, count) }, ap (λ m. first_rows columns m new) count ∙ same)

-- an append of too many rows is refused
pub append_full : (columns most more : ℕ) (contents bytes : List ℕ) → more ≡ length bytes / row_bytes columns → most < count_of contents + more
    → Err ObjectFull ≡ df_append columns most (rows_in columns contents) (rows_of columns bytes)
append_full columns most more contents bytes is full =
    sym (full_append columns most (rows_in columns contents) (rows_of columns bytes)
    (let held = length_rows columns contents in let long = length_chunks (row_bytes columns) (length bytes / row_bytes columns) bytes in omega arith))
  where
    full_append : (columns most : ℕ) (rows more : DataRows) → most < length rows + length more → df_append columns most rows more ≡ Err ObjectFull
    full_append columns most rows more full = grind (arith, nat_tests)

-- an append with room adds its rows
room_append : (columns most : ℕ) (rows more : DataRows) → length rows + length more ≤ most
    → df_append columns most rows more ≡ Ok (to_be_bytes w32 (length rows + length more), DfObject columns most (rows ++ more))
room_append columns most rows more room = grind (arith, nat_tests)

-- and answers how many there are then
pub append_done : (columns most held more : ℕ) (old new bytes : List ℕ) → held ≡ count_of old → more ≡ length bytes / row_bytes columns → held + more ≤ most
    → rows_in columns new ≡ rows_in columns old ++ first_chunks (row_bytes columns) more bytes
    → Ok (to_be_bytes w32 (held + more), object_in columns most new) ≡ df_append columns most (rows_in columns old) (rows_of columns bytes)
append_done columns most held more old new bytes is_held is_more room rows =
    let long : length (rows_in columns old) ≡ held = length_rows columns old ∙ sym is_held in
    let chunks : length (rows_of columns bytes) ≡ more = length_chunks (row_bytes columns) (length bytes / row_bytes columns) bytes ∙ sym is_more in
    let sum : held + more ≡ length (rows_in columns old) + length (rows_of columns bytes) = omega arith in
    ap (λ those. Ok (to_be_bytes w32 (held + more), DfObject columns most those)) (rows ∙ ap (λ n. rows_in columns old ++ first_chunks (row_bytes columns) n bytes) is_more)
    ∙ ap (λ n. Ok (to_be_bytes w32 n, DfObject columns most (rows_in columns old ++ rows_of columns bytes))) sum
    ∙ sym (room_append columns most (rows_in columns old) (rows_of columns bytes) (omega arith))

-- what is added fits where it is no more than what is free
pub fits_free : (held more most : ℕ) → held ≤ most → more ≤ most - held → held + more ≤ most
fits_free held more most low free = omega arith
