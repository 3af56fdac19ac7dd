-- Selects that go on one after the other give the hits.
use Rattle.std.proofs.Common.{◌≡◌, ℕ, zero, suc, ◌+◌, ◌<◌, ◌≤◌, ◌^◌, Bool, true, false, cond, List, [], ◌∷◌, ◌++◌, length, take, drop, map, Result, Ok, Err, inl, inr, refl, sym, ap, subst, ◌∙◌, arith}
use Rattle.std.specs.List.{concat, filter, flat_map, enumerate_from}
use Rattle.std.specs.Int.{to_be_bytes, w32}
use Rattle.std.proofs.lemmas.Bool.{cases_lt, eq-eqb, ne_eqb}
use Rattle.std.proofs.lemmas.List.{append-nil, drop_all, drop-drop, length-drop, length-take-le, take_all, take-append-drop, map-append}
use Rattle.std.proofs.lemmas.List.Folds.{concat-append}
use Rattle.std.proofs.lemmas.Nat.{from_be_bytes-to_be_bytes_4}
use Rattle.frame_model.specs.Frames.{number_32}
use Rattle.cl_types.specs.declared.reply.Refusal.{Refusal}
use Rattle.cl_types.specs.declared.reply.Refusal.TheVariants.{NoKey, BadOp}
use Rattle.df_offload.specs.declared.row_test.RowTest.{RowTest}
use Rattle.df_offload.specs.Rows.{DataRows, Object, Given, df_select, df_step, hits, hits_from, is_hit, next_cursor, past_last, select_most, select_answer, test_at, unchanged}
use Rattle.df_offload.specs.Rows.Object.{DfObject}
use Rattle.df_offload.specs.Laws.{GoOn, AnswersGoOn}
use Rattle.df_offload.proofs.PlaceLemmas.{selects}
use Rattle.df_offload.proofs.SelectLemmas.{refused, within_end}

module _ (test : RowTest) where
  -- the hits among these rows, the first of which has this place
  abbrev pub placed_hits : ℕ → DataRows → List (ℕ × List ℕ)
  placed_hits place rows = filter (λ (hit : ℕ × List ℕ). is_hit test hit.1) (enumerate_from place rows)

  -- the rows without their places
  abbrev pub rows_of_hits : List (ℕ × List ℕ) → DataRows
  rows_of_hits those = map (λ (hit : ℕ × List ℕ). hit.1) those

  -- the rows of the hits among all are the hits
  pub all_hits : (place : ℕ) (rows : DataRows) → rows_of_hits (placed_hits place rows) ≡ hits test rows
  all_hits place [] = refl
  all_hits place (row ∷ rows) = go (is_hit test row) (all_hits (place + 1) rows)
    where
      go : (b : Bool) → rows_of_hits (placed_hits (place + 1) rows) ≡ hits test rows
          → rows_of_hits (cond b ((place, row) ∷ placed_hits (place + 1) rows) (placed_hits (place + 1) rows)) ≡ cond b (row ∷ hits test rows) (hits test rows)
      go true rest = ap (λ those. row ∷ those) rest
      go false rest = rest

  -- ---- behind the last hit given
  -- of these hits among the rows, the first ones end before some row, and the others are the hits from that row on
  abbrev Behind : ℕ → DataRows → ℕ → ℕ → List (ℕ × List ℕ) → Type 0
  Behind place rows end most those =
      (passed : ℕ)
      × (1 ≤ passed)
      × (passed ≤ length rows)
      × (past_last end (take most those) ≡ place + passed)
      × (drop most those ≡ placed_hits (place + passed) (drop passed rows))

  -- a row in front of the others is passed by
  behind_more : (place : ℕ) (row : List ℕ) (rows : DataRows) (end most : ℕ) (those : List (ℕ × List ℕ)) → Behind (place + 1) rows end most those → Behind place (row ∷ rows) end most those
  behind_more place row rows end most those (passed, some, within, next, rest) =
      let e : place + 1 + passed ≡ place + suc passed = omega arith in
      (suc passed, omega arith, omega arith, next ∙ e, rest ∙ ap (λ p. placed_hits p (drop passed rows)) e)

  -- so it is for one hit or more
  behind_last : (place : ℕ) (rows : DataRows) (end most : ℕ) → 1 ≤ most → most ≤ length (placed_hits place rows) → Behind place rows end most (placed_hits place rows)
  behind_last place [] end most some few = absurd (omega arith)
  behind_last place (row ∷ rows) end most some few =
      go (is_hit test row) most some few (λ end most some few. behind_last (place + 1) rows end most some few)
    where
      go : (b : Bool) (most : ℕ) → 1 ≤ most → most ≤ length (cond b ((place, row) ∷ placed_hits (place + 1) rows) (placed_hits (place + 1) rows))
          → ((end most : ℕ) → 1 ≤ most → most ≤ length (placed_hits (place + 1) rows) → Behind (place + 1) rows end most (placed_hits (place + 1) rows))
          → Behind place (row ∷ rows) end most (cond b ((place, row) ∷ placed_hits (place + 1) rows) (placed_hits (place + 1) rows))
      go false most some few before = behind_more place row rows end most (placed_hits (place + 1) rows) (before end most some few)
      go true zero some few before = absurd (omega arith)
      go true (suc zero) some few before = (1, omega arith, omega arith, refl, refl)
      go true (suc (suc most)) some few before = behind_more place row rows (place + 1) (suc most) (placed_hits (place + 1) rows) (before (place + 1) (suc most) (omega arith) (omega arith))

  -- there is none from the end on
  none_behind : (rows : DataRows) (place : ℕ) → length rows ≤ place → hits_from place test rows ≡ []
  none_behind rows place past = ap (placed_hits place) (drop_all place rows past)

  -- ---- one select
  -- what a select gives, and where it goes on
  pub record Goes (rows : DataRows) (cursor next : ℕ) (given : DataRows) : Type 0 where
    pub low : next ≤ length rows
    pub forward : cursor < length rows → cursor < next
    pub split : rows_of_hits (hits_from cursor test rows) ≡ given ++ rows_of_hits (hits_from next test rows)

  -- a select that finds fewer hits than it may give goes on at the end
  to_end : (columns cursor : ℕ) (rows : DataRows) → cursor ≤ length rows → length (hits_from cursor test rows) < select_most columns
      → take (select_most columns) (hits_from cursor test rows) ≡ hits_from cursor test rows
      → Goes rows cursor (next_cursor columns (length rows) (take (select_most columns) (hits_from cursor test rows))) (rows_of_hits (take (select_most columns) (hits_from cursor test rows)))
  to_end columns cursor rows low few all =
      let those : List (ℕ × List ℕ) = hits_from cursor test rows in
      let end : ℕ = length rows in
      let next : next_cursor columns end those ≡ end = ap (λ b. cond b (past_last end those) end) (ne_eqb (length those) (select_most columns) (λ e. omega (arith, e))) in
      let none = none_behind rows end (omega arith) in
      let base : Goes rows cursor end (rows_of_hits those) = record {
        low = omega arith;
        forward = λ less. less;
        split = sym (ap (λ (xs : List (ℕ × List ℕ)). rows_of_hits those ++ rows_of_hits xs) none ∙ append-nil (rows_of_hits those));
      } in
      subst (λ (xs : List (ℕ × List ℕ)). Goes rows cursor (next_cursor columns end xs) (rows_of_hits xs)) (sym all) (subst (λ n. Goes rows cursor n (rows_of_hits those)) (sym next) base)

  -- one that finds as many goes on behind the last that it gives
  behind : (columns cursor : ℕ) (rows : DataRows) → cursor ≤ length rows → length (take (select_most columns) (hits_from cursor test rows)) ≡ select_most columns
      → Behind cursor (drop cursor rows) (length rows) (select_most columns) (hits_from cursor test rows)
      → Goes rows cursor (next_cursor columns (length rows) (take (select_most columns) (hits_from cursor test rows))) (rows_of_hits (take (select_most columns) (hits_from cursor test rows)))
  behind columns cursor rows low long (passed, some, within, last, rest) =
      let those : List (ℕ × List ℕ) = hits_from cursor test rows in
      let first : List (ℕ × List ℕ) = take (select_most columns) those in
      let end : ℕ = length rows in
      let next : next_cursor columns end first ≡ cursor + passed = ap (λ b. cond b (past_last end first) end) (eq-eqb (length first) (select_most columns) long) ∙ last in
      let left = length-drop cursor rows in
      let base : Goes rows cursor (cursor + passed) (rows_of_hits first) = record {
        low = omega arith;
        forward = λ less. omega arith;
        split = sym (ap rows_of_hits (take-append-drop (select_most columns) those))
            ∙ map-append (λ (hit : ℕ × List ℕ). hit.1) first (drop (select_most columns) those)
            ∙ ap (λ (xs : List (ℕ × List ℕ)). rows_of_hits first ++ rows_of_hits xs) (rest ∙ ap (placed_hits (cursor + passed)) (drop-drop passed cursor rows));
      } in
      subst (λ n. Goes rows cursor n (rows_of_hits first)) (sym next) base

  -- a select with room for one hit or more goes on
  goes : (columns cursor : ℕ) (rows : DataRows) → 1 ≤ select_most columns → cursor ≤ length rows
      → Goes rows cursor (next_cursor columns (length rows) (take (select_most columns) (hits_from cursor test rows))) (rows_of_hits (take (select_most columns) (hits_from cursor test rows)))
  goes columns cursor rows some low = elim (cases_lt (length (hits_from cursor test rows)) (select_most columns)) [
    | inl few ↦ to_end columns cursor rows low few (take_all (select_most columns) (hits_from cursor test rows) (omega arith))
    | inr enough ↦
        behind columns cursor rows low (length-take-le (select_most columns) (hits_from cursor test rows) enough)
        (behind_last cursor (drop cursor rows) (length rows) (select_most columns) some enough)
  ]

  -- and so does one that was answered
  pub select_goes : (columns cursor next : ℕ) (rows given : DataRows) → 1 ≤ columns → columns ≤ 8 → df_select columns rows cursor test ≡ Ok (next, given) → Goes rows cursor next given
  select_goes columns cursor next rows given some few is = elim (cases_lt (length rows) cursor) [
    | inl past ↦ let e : ◌≡◌ {A = Result (ℕ × DataRows) Refusal} (Err NoKey) (Ok (next, given)) = sym (refused columns rows cursor test past) ∙ is in absurd (cc)
    | inr low ↦
        let first : List (ℕ × List ℕ) = take (select_most columns) (hits_from cursor test rows) in
        let e : ◌≡◌ {A = Result (ℕ × DataRows) Refusal} (Ok (next_cursor columns (length rows) first, rows_of_hits first)) (Ok (next, given)) = sym (within_end columns rows cursor test low) ∙ is in
        let both : ◌≡◌ {A = ℕ × DataRows} (next_cursor columns (length rows) first, rows_of_hits first) (next, given) = cc in
        subst (λ (p : ℕ × DataRows). Goes rows cursor p.0 p.1) both (goes columns cursor rows (selects columns some few).some low)
  ]

  -- ---- selects that go on to the end
  pub joined : (columns : ℕ) (rows : DataRows) → 1 ≤ columns → columns ≤ 8 → (cursor : ℕ) (selects : List (ℕ × DataRows)) → GoOn columns rows test cursor selects
      → flat_map (λ (given : ℕ × DataRows). given.1) selects ≡ rows_of_hits (hits_from cursor test rows)
  joined columns rows some few cursor [] ends = sym (ap rows_of_hits (none_behind rows cursor (omega arith)))
  joined columns rows some few cursor ((next, given) ∷ more) (is, rest) =
      ap (λ those. given ++ those) (joined columns rows some few next more rest) ∙ sym (select_goes columns cursor next rows given some few is).split

-- ---- the same of operations
-- an operation that was answered made a select
made : (object last : Object) (test : Bool) (r : Result (ℕ × DataRows) Refusal) (answer : List ℕ) → ◌≡◌ {A = Given} (unchanged object (cond test (select_answer r) (Err BadOp))) (Ok (answer, last))
    → (next : ℕ) × (given : DataRows) × (r ≡ Ok (next, given)) × (to_be_bytes w32 next ++ concat given ≡ answer)
made object last false r answer is = absurd (cc)
made object last true (Err refusal) answer is = absurd (cc)
made object last true (Ok (next, given)) answer is =
    let both : ◌≡◌ {A = List ℕ × Object} (to_be_bytes w32 next ++ concat given, object) (answer, last) = cc in
    (next, given, refl, ap (λ (p : List ℕ × Object). p.0) both)

-- the cursor in an operation's bytes
cursor_read : (cursor : ℕ) (bytes : List ℕ) → cursor < 2 ^ 32 → number_32 0 (to_be_bytes w32 cursor ++ bytes) ≡ cursor
cursor_read cursor bytes small = from_be_bytes-to_be_bytes_4 cursor small

-- the select that an operation made
operation_made : (columns most : ℕ) (rows : DataRows) (test : List ℕ) (cursor : ℕ) (answer : List ℕ) → cursor < 2 ^ 32
    → df_step columns most rows 2 (to_be_bytes w32 cursor ++ test) ≡ Ok (answer, DfObject columns most rows)
    → (next : ℕ) × (given : DataRows) × (df_select columns rows cursor (test_at 0 test) ≡ Ok (next, given)) × (to_be_bytes w32 next ++ concat given ≡ answer)
operation_made columns most rows test cursor answer small is =
    let (next, given, was, same) = made (DfObject columns most rows) (DfObject columns most rows) _ _ answer is in
    (next, given, ap (λ at. df_select columns rows at (test_at 0 test)) (sym (cursor_read cursor test small)) ∙ was, same)

pub answers_joined : (columns most : ℕ) (rows : DataRows) (test : List ℕ) → 1 ≤ columns → columns ≤ 8 → length rows < 2 ^ 32 → (cursor : ℕ) (answers : List (List ℕ)) → cursor ≤ length rows
    → AnswersGoOn columns most rows test cursor answers → flat_map (λ (answer : List ℕ). drop 4 answer) answers ≡ concat (rows_of_hits (test_at 0 test) (hits_from cursor (test_at 0 test) rows))
answers_joined columns most rows test some few fits cursor [] low ends = sym (ap (λ those. concat (rows_of_hits (test_at 0 test) those)) (none_behind (test_at 0 test) rows cursor (omega arith)))
answers_joined columns most rows test some few fits cursor (answer ∷ more) low (is, rest) =
    go (operation_made columns most rows test cursor answer (omega arith) is) (λ next low run. answers_joined columns most rows test some few fits next more low run)
  where
    go : (next : ℕ) × (given : DataRows) × (df_select columns rows cursor (test_at 0 test) ≡ Ok (next, given)) × (to_be_bytes w32 next ++ concat given ≡ answer)
        → ((next : ℕ) → next ≤ length rows → AnswersGoOn columns most rows test next more
        → flat_map (λ (answer : List ℕ). drop 4 answer) more ≡ concat (rows_of_hits (test_at 0 test) (hits_from next (test_at 0 test) rows)))
        → drop 4 answer ++ flat_map (λ (answer : List ℕ). drop 4 answer) more ≡ concat (rows_of_hits (test_at 0 test) (hits_from cursor (test_at 0 test) rows))
    go (next, given, was, same) later =
        let goes = select_goes (test_at 0 test) columns cursor next rows given some few was in
        let at : number_32 0 answer ≡ next = ap (number_32 0) (sym same) ∙ cursor_read next (concat given) (omega (arith, goes.low)) in
        let behind : drop 4 answer ≡ concat given = ap (drop 4) (sym same) in
        ap (λ bytes. bytes ++ flat_map (λ (answer : List ℕ). drop 4 answer) more) behind
        ∙ ap (λ bytes. concat given ++ bytes) (later next goes.low (subst (λ n. AnswersGoOn columns most rows test n more) at rest))
        ∙ sym (concat-append given (rows_of_hits (test_at 0 test) (hits_from next (test_at 0 test) rows)))
        ∙ ap concat (sym goes.split)
