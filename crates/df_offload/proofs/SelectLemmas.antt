-- What a select has given.
use Rattle.std.proofs.Common.{◌≡◌, ℕ, ◌+◌, ◌*◌, ◌<◌, ◌≤◌, ◌⊎◌, Bool, true, false, cond, List, [], ◌∷◌, ◌++◌, length, take, drop, map, Ok, Err, inl, inr, refl, sym, ap, ◌∙◌, arith, length-append, append_assoc}
use Rattle.std.specs.Prelude.{nat_lt}
use Rattle.std.specs.List.{filter, enumerate_from, concat}
use Rattle.std.specs.Int.{to_be_bytes, w32}
use Rattle.std.proofs.lemmas.Bool.Decides.{nat_tests}
use Rattle.std.proofs.lemmas.Bool.{cases_eq, eq-eqb, ne_eqb}
use Rattle.std.proofs.lemmas.List.{append-nil, drop_all, drop-drop, length-take-le, take_all}
use Rattle.std.proofs.Math.Seq.{take-append_seam, drop-append_seam}
use Rattle.cl_types.specs.Bytes.{with_bytes}
use Rattle.cl_types.proofs.PutBytes.{length-with_bytes}
use Rattle.cl_types.specs.declared.reply.Refusal.TheVariants.{NoKey}
use Rattle.df_offload.specs.declared.row_test.RowTest.{RowTest}
use Rattle.df_offload.specs.Rows.{DataRows, df_select, hits_from, is_hit, next_cursor, past_last, row_bytes, select_answer, select_most}
use Rattle.df_offload.specs.Layout.{count_of, row_at}
use Rattle.df_offload.specs.Stored.{rows_in, selected}
use Rattle.df_offload.proofs.RowLemmas.{length_rows, drop_row}

-- ---- the hits from a place on, with their places
module _ (columns : ℕ) (contents : List ℕ) (test : RowTest) where
  -- the hits from a place on
  abbrev pub from_on : ℕ → List (ℕ × List ℕ)
  from_on row = hits_from row test (rows_in columns contents)

  -- those from the place of a row on: the row, if it is a hit, and those behind
  at_row : (row : ℕ) → row < count_of contents
      → from_on row ≡ cond (is_hit test (row_at columns contents row)) ((row, row_at columns contents row) ∷ from_on (row + 1)) (from_on (row + 1))
  at_row row less = ap (λ rows. filter (λ (hit : ℕ × List ℕ). is_hit test hit.1) (enumerate_from row rows)) (drop_row columns contents row less)

  from_hit : (row : ℕ) → row < count_of contents → true ≡ is_hit test (row_at columns contents row) → from_on row ≡ (row, row_at columns contents row) ∷ from_on (row + 1)
  from_hit row less hit = at_row row less ∙ ap (λ b. cond b ((row, row_at columns contents row) ∷ from_on (row + 1)) (from_on (row + 1))) (sym hit)

  from_miss : (row : ℕ) → row < count_of contents → false ≡ is_hit test (row_at columns contents row) → from_on row ≡ from_on (row + 1)
  from_miss row less miss = at_row row less ∙ ap (λ b. cond b ((row, row_at columns contents row) ∷ from_on (row + 1)) (from_on (row + 1))) (sym miss)

  from_none : (row : ℕ) → count_of contents ≤ row → from_on row ≡ []
  from_none row past =
      let long = length_rows columns contents in
      ap (λ rows. filter (λ (hit : ℕ × List ℕ). is_hit test hit.1) (enumerate_from row rows)) (drop_all row (rows_in columns contents) (omega arith))

-- ---- places and rows of what was given
-- the rows of these hits, as bytes
abbrev pub bytes_of : List (ℕ × List ℕ) → List ℕ
bytes_of given = concat (map (λ hit. hit.1) given)

bytes_more : (given : List (ℕ × List ℕ)) (hit : ℕ × List ℕ) → bytes_of (given ++ hit ∷ []) ≡ bytes_of given ++ hit.1
bytes_more [] hit = append-nil hit.1
bytes_more (first ∷ given) hit = ap (λ bytes. first.1 ++ bytes) (bytes_more given hit) ∙ sym (append_assoc first.1 (bytes_of given) hit.1)

last_more : (place : ℕ) (given : List (ℕ × List ℕ)) (hit : ℕ × List ℕ) → past_last place (given ++ hit ∷ []) ≡ hit.0 + 1
last_more place [] hit = refl
last_more place (first ∷ given) hit = last_more (first.0 + 1) given hit

-- ---- a select on its way
-- from the cursor on, these hits were given, and the walk stands at a place; their rows are first in `out`
pub record Gives (columns : ℕ) (contents : List ℕ) (test : RowTest) (cursor place found : ℕ) (start out : List ℕ) : Type 0 where
  pub given : List (ℕ × List ℕ)
  pub split : from_on columns contents test cursor ≡ given ++ from_on columns contents test place
  pub number : length given ≡ found
  pub few : found ≤ select_most columns
  -- a select that is full stopped right behind its last hit
  pub last : found ≡ select_most columns → past_last (count_of contents) given ≡ place
  pub front : take (row_bytes columns * found) out ≡ bytes_of given
  pub behind : drop (row_bytes columns * found) out ≡ drop (row_bytes columns * found) start
  pub low : place ≤ count_of contents
  pub long : length out ≡ 1024

-- at first none
pub gives_none : (columns : ℕ) (contents : List ℕ) (test : RowTest) (cursor : ℕ) (out : List ℕ) → 1 ≤ select_most columns → cursor ≤ count_of contents → length out ≡ 1024
    → Gives columns contents test cursor cursor 0 out out
gives_none columns contents test cursor out some low long = record {
  given = [];
  split = refl;
  number = refl;
  few = omega arith;
  last = λ full. absurd (omega arith);
  front = ap (λ n. take n out) (let e : row_bytes columns * 0 ≡ 0 = omega arith in e);
  behind = refl;
  low = low;
  long = long;
}

-- a row that is no hit is passed by
pub gives_same : {columns : ℕ} {contents : List ℕ} {test : RowTest} {cursor place found : ℕ} {start out : List ℕ} → Gives columns contents test cursor place found start out
    → place < count_of contents → found < select_most columns → false ≡ is_hit test (row_at columns contents place) → Gives columns contents test cursor (place + 1) found start out
gives_same {columns} {contents} {test} {cursor} {place} {found} {start} {out} gives less room miss = record {
  given = gives.given;
  split = gives.split ∙ ap (λ rest. gives.given ++ rest) (from_miss columns contents test place less miss);
  number = gives.number;
  few = gives.few;
  last = λ full. absurd (omega arith);
  front = gives.front;
  behind = gives.behind;
  low = omega arith;
  long = gives.long;
}

-- the bytes that were put in behind the front
front_more : (at : ℕ) (bytes out : List ℕ) → at ≤ length out → take (at + length bytes) (with_bytes at bytes out) ≡ take at out ++ bytes
front_more at bytes out within =
    let long = length-take-le at out within in
    let all : length (take at out ++ bytes) ≡ at + length bytes = length-append (take at out) bytes ∙ ap (λ n. n + length bytes) long in
    ap (λ n. take n (with_bytes at bytes out)) (sym all)
    ∙ take-append_seam (take at out ++ bytes) (drop (at + length bytes) out)

behind_same : (at : ℕ) (bytes out : List ℕ) → at ≤ length out → drop (at + length bytes) (with_bytes at bytes out) ≡ drop (at + length bytes) out
behind_same at bytes out within =
    let long = length-take-le at out within in
    let all : length (take at out ++ bytes) ≡ at + length bytes = length-append (take at out) bytes ∙ ap (λ n. n + length bytes) long in
    ap (λ n. drop n (with_bytes at bytes out)) (sym all)
    ∙ drop-append_seam (take at out ++ bytes) (drop (at + length bytes) out)

-- a hit is given
pub gives_more : {columns : ℕ} {contents : List ℕ} {test : RowTest} {cursor place found : ℕ} {start out : List ℕ} (new : List ℕ) → Gives columns contents test cursor place found start out
    → place < count_of contents → found < select_most columns → true ≡ is_hit test (row_at columns contents place)
    → length (row_at columns contents place) ≡ row_bytes columns → row_bytes columns * found + row_bytes columns ≤ 1020
    → new ≡ with_bytes (row_bytes columns * found) (row_at columns contents place) out → Gives columns contents test cursor (place + 1) (found + 1) start new
gives_more {columns} {contents} {test} {cursor} {place} {found} {start} {out} new gives less room hit long fits put =
    let row : List ℕ = row_at columns contents place in
    let at : ℕ = row_bytes columns * found in
    let within : at ≤ length out = omega (arith, gives.long) in
    let next : row_bytes columns * (found + 1) ≡ at + length row = (let e : row_bytes columns * (found + 1) ≡ at + row_bytes columns = omega arith in e) ∙ ap (λ n. at + n) (sym long) in
    record {
      given = gives.given ++ (place, row) ∷ [];
      split = gives.split ∙ ap (λ rest. gives.given ++ rest) (from_hit columns contents test place less hit)
          ∙ sym (append_assoc gives.given ((place, row) ∷ []) (from_on columns contents test (place + 1)));
      number = length-append gives.given ((place, row) ∷ []) ∙ ap (λ n. n + 1) gives.number;
      few = omega arith;
      last = λ full. last_more (count_of contents) gives.given (place, row);
      front = ap (λ n. take n new) next ∙ ap (take (at + length row)) put ∙ front_more at row out within ∙ ap (λ bytes. bytes ++ row) gives.front ∙ sym (bytes_more gives.given (place, row));
      behind = ap (λ n. drop n new) next ∙ ap (drop (at + length row)) put ∙ behind_same at row out within
          ∙ sym (drop-drop (length row) at out) ∙ ap (drop (length row)) gives.behind ∙ drop-drop (length row) at start ∙ ap (λ n. drop n start) (sym next);
      low = omega arith;
      long = ap length put ∙ length-with_bytes at row out (omega (arith, gives.long)) ∙ gives.long;
    }

-- ---- what a select answers
-- a select from beyond the end is refused
pub refused : (columns : ℕ) (rows : DataRows) (cursor : ℕ) (test : RowTest) → length rows < cursor → df_select columns rows cursor test ≡ Err NoKey
refused columns rows cursor test past = grind (arith, nat_tests)

pub select_past : (columns : ℕ) (contents : List ℕ) (cursor : ℕ) (test : RowTest) → count_of contents < cursor → Err NoKey ≡ select_answer (df_select columns (rows_in columns contents) cursor test)
select_past columns contents cursor test past =
    let long = length_rows columns contents in
    ap select_answer (sym (refused columns (rows_in columns contents) cursor test (omega arith)))

-- where a test fails
otherwise : {X : Type 0} (test : Bool) (x y : X) → test ≡ false → cond test x y ≡ y
otherwise true x y fails = absurd (cc)
otherwise false x y fails = refl

-- else it gives what it has found
pub within_end : (columns : ℕ) (rows : DataRows) (cursor : ℕ) (test : RowTest) → cursor ≤ length rows
    → df_select columns rows cursor test
    ≡ Ok (next_cursor columns (length rows) (take (select_most columns) (hits_from cursor test rows)), map (λ hit. hit.1) (take (select_most columns) (hits_from cursor test rows)))
within_end columns rows cursor test low = otherwise (nat_lt (length rows) cursor) (Err NoKey) _ (grind (arith, nat_tests))

-- the first of a list that was given, where as many were given or none are left
first_given : (most : ℕ) (given rest : List (ℕ × List ℕ)) → length given ≤ most → (length given ≡ most) ⊎ (rest ≡ []) → take most (given ++ rest) ≡ given
first_given most given rest few (inl full) = ap (λ n. take n (given ++ rest)) (sym full) ∙ take-append_seam given rest
first_given most given rest few (inr none) = ap (λ xs. take most (given ++ xs)) none ∙ ap (take most) (append-nil given) ∙ take_all most given few

-- the next cursor is where the walk stands
next_is : (columns end place : ℕ) (given : List (ℕ × List ℕ)) → (length given ≡ select_most columns → past_last end given ≡ place) → (length given ≡ select_most columns) ⊎ (place ≡ end)
    → next_cursor columns end given ≡ place
next_is columns end place given last stop = elim (cases_eq (length given) (select_most columns)) [
  | inl full ↦ ap (λ b. cond b (past_last end given) end) (eq-eqb (length given) (select_most columns) full) ∙ last full
  | inr short ↦ ap (λ b. cond b (past_last end given) end) (ne_eqb (length given) (select_most columns) short) ∙ elim stop [ inl full ↦ absurd (short full) | inr ends ↦ sym ends ]
]

pub select_done : {columns : ℕ} {contents : List ℕ} {test : RowTest} {cursor place found : ℕ} {start out : List ℕ} → Gives columns contents test cursor place found start out
    → cursor ≤ count_of contents → (found ≡ select_most columns) ⊎ (place ≡ count_of contents)
    → selected columns (Ok (record { next = place; rows = found })) out ≡ select_answer (df_select columns (rows_in columns contents) cursor test)
select_done {columns} {contents} {test} {cursor} {place} {found} {start} {out} gives low stop =
    let rows : DataRows = rows_in columns contents in
    let long : length rows ≡ count_of contents = length_rows columns contents in
    let first : take (select_most columns) (from_on columns contents test cursor) ≡ gives.given =
    ap (take (select_most columns)) gives.split ∙ first_given (select_most columns) gives.given (from_on columns contents test place) (omega (arith, gives.number, gives.few))
    (elim stop [ inl full ↦ inl (gives.number ∙ full) | inr ends ↦ inr (from_none columns contents test place (omega arith)) ]) in
    let next : next_cursor columns (length rows) gives.given ≡ place =
    ap (λ end. next_cursor columns end gives.given) long ∙ next_is columns (count_of contents) place gives.given (λ full. gives.last (sym gives.number ∙ full))
    (elim stop [ inl full ↦ inl (gives.number ∙ full) | inr ends ↦ inr ends ]) in
    sym (ap select_answer (within_end columns rows cursor test (omega arith)
    ∙ ap (λ (those : List (ℕ × List ℕ)). Ok (next_cursor columns (length rows) those, map (λ hit. hit.1) those)) first
    ∙ ap (λ n. Ok (n, map (λ (hit : ℕ × List ℕ). hit.1) gives.given)) next)
    ∙ ap (λ bytes. Ok (to_be_bytes w32 place ++ bytes)) (sym gives.front))
