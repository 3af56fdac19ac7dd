-- Which calls may go, read off the lists.
use Rattle.std.proofs.Common.{◌≡◌, ◌≢◌, ℕ, ◌<◌, ◌≤◌, ◌&&◌, ◌||◌, inl, inr, Bool, true, false, ◌==◌, not, nat_lt, leb, List, [], ◌∷◌, find, max, min, Option, Some, None, option_map, refl, sym, ap, subst, ◌∙◌, arith}
use Rattle.std.specs.List.{list_all, list_any}
use Rattle.std.proofs.lemmas.Bool.{cases_Bool, and_from, and_parts, and_left, and_right, or_cases, eqb-true, eq-eqb, ne_eqb, ltb-true, not-true, not_from_false, not_from_true, le-leb, lt-leb}
use Rattle.client_model.specs.Order.{Footprint, may_go, ready_in, waits_for, collide, share_page, offloads_conflict}
use Rattle.index_lists.specs.NodeLists.{NodeLists, has, list_at, IsIn}
use Rattle.dep_order.specs.Calls.{number_of}
use Rattle.dep_order.specs.Rows.{pages_of, print_of}
use Rattle.dep_order.specs.WaitLists.{row_at, place_of, number_list, offload_list, page_list, Stands, is_awaited, wanted_at}
use Rattle.dep_order.specs.Fields.{print_at, calls_of, IsSound}
use Rattle.dep_order.specs.declared.row.WaitRow.{WaitRow}
use Rattle.dep_order.specs.declared.walk.Wanted.TheVariants.{Number, AwaitedBy}
use Rattle.dep_order.proofs.Overlaps.{overlap}
use Rattle.dep_order.proofs.Mapped.{all_from, all_broken, any_none, any_one, find_at, this_sought, none_sought}
use Rattle.dep_order.proofs.Rising.{rising_alone}
use Rattle.index_lists.proofs.Members.{find_some, find_none}

-- two offloads that conflict are one
one_offload : (a b : Option (ℕ × Bool)) → offloads_conflict a b ≡ true → (n : ℕ) × (odd odd' : Bool) × ((a ≡ Some (n, odd)) × (b ≡ Some (n, odd')))
one_offload None b h = absurd cc
one_offload (Some a) None h = absurd cc
one_offload (Some a) (Some b) h =
    let both = and_parts (a.0 == b.0) (a.1 || b.1) h in
    let same = eqb-true a.0 b.0 both.0 in
    (a.0, a.1, b.1, (refl, ap (λ n. Some (n, b.1)) (sym same)))

-- where no call has a number below the row's, it goes
pub none_before : (ks : List (ℕ × Footprint)) (k : ℕ × Footprint) → list_all (λ j. not (nat_lt j.0 k.0)) ks ≡ true → may_go ks k ≡ true
none_before [] k h = refl
none_before (j ∷ ks) k h =
    let both = and_parts (not (nat_lt j.0 k.0)) (list_all (λ i. not (nat_lt i.0 k.0)) ks) h in
    let f : (nat_lt j.0 k.0 && waits_for j.1 k.1) ≡ false = and_left (nat_lt j.0 k.0) (waits_for j.1 k.1) (not-true (nat_lt j.0 k.0) both.0) in
    let rest = none_before ks k both.1 in
    rw f rest

-- and where one has, no Fence goes
pub fence_stays : (ks : List (ℕ × Footprint)) (k : ℕ × Footprint) → k.1.fence ≡ true → list_all (λ j. not (nat_lt j.0 k.0)) ks ≡ false → may_go ks k ≡ false
fence_stays [] k fence h = absurd cc
fence_stays (j ∷ ks) k fence h = elim (cases_Bool (nat_lt j.0 k.0)) [
  | inl t ↦ let w : waits_for j.1 k.1 ≡ true = rw fence (or_true (collide j.1 k.1 || j.1.fence)) in rw (t, w) refl
  | inr f ↦ let rest : list_all (λ i. not (nat_lt i.0 k.0)) ks ≡ false = rw f at h in rw f (fence_stays ks k fence rest)
]
  where
    or_true : (b : Bool) → (b || true) ≡ true
    or_true true = refl
    or_true false = refl

module _ {rows : List WaitRow} {places waits : NodeLists} (s : IsSound rows places waits) where
  -- ---- waiting
  -- a row waits for one that stands in a list
  pub waits_for_one : (row : WaitRow) (list node : ℕ) → IsIn waits list node → wanted_at rows (AwaitedBy row) node ≡ true → may_go (calls_of rows places) (print_of row) ≡ false
  waits_for_one row list node there t = all_broken (print_at rows) _ (list_at places 0) (place_of node) (s.used list node there) (not_from_true (is_awaited (row_at rows (place_of node)) row) t)

  -- and for no other, but where it is of a Fence
  module _ (row : WaitRow) (none : (list node : ℕ) → IsIn waits list node → (list ≡ 1280) → wanted_at rows (AwaitedBy row) node ≡ false)
      (none_of : (number : ℕ) (odd : Bool) (node : ℕ) → row.offload ≡ Some (number, odd) → IsIn waits (offload_list number) node → wanted_at rows (AwaitedBy row) node ≡ false)
      (none_at : (page node : ℕ) → row.pages.from ≤ page → page < row.pages.end → IsIn waits (page_list page) node → wanted_at rows (AwaitedBy row) node ≡ false)
      (no_fence : row.fence ≡ false) where
    unawaited : (place list : ℕ) → Stands waits list place → ((node : ℕ) → IsIn waits list node → wanted_at rows (AwaitedBy row) node ≡ false) → is_awaited (row_at rows place) row ≡ false
    unawaited place list h each = ap (λ p. is_awaited (row_at rows p) row) (sym h.1.1) ∙ each h.0 h.1.0

    page_unawaited : (place : ℕ) → IsIn places 0 place → share_page (pages_of (row_at rows place).pages) (pages_of row.pages) ≡ true → is_awaited (row_at rows place) row ≡ false
    page_unawaited place held share =
        let other : WaitRow = row_at rows place in
        let page : ℕ = max other.pages.from row.pages.from in
        let both : page < min other.pages.end row.pages.end = ltb-true _ _ (sym (overlap other.pages.from other.pages.end row.pages.from row.pages.end) ∙ share) in
        let stands = (s.stands place held).by_page page (omega arith) (omega arith) in
        unawaited place (page_list page) stands (λ node there. none_at page node (omega arith) (omega arith) there)

    offload_unawaited : (place : ℕ) → IsIn places 0 place → offloads_conflict (row_at rows place).offload row.offload ≡ true → is_awaited (row_at rows place) row ≡ false
    offload_unawaited place held conflict =
        let one = one_offload (row_at rows place).offload row.offload conflict in
        let stands = (s.stands place held).by_offload one.0 one.1 one.3.0 in
        unawaited place (offload_list one.0) stands (λ node there. none_of one.0 one.2 node one.3.1 there)

    each_unawaited : (place : ℕ) → IsIn places 0 place → is_awaited (row_at rows place) row ≡ false
    each_unawaited place held = elim (cases_Bool (is_awaited (row_at rows place) row)) [
      | inr f ↦ f
      | inl t ↦
          let other : WaitRow = row_at rows place in
          let a : Footprint = (print_of other).1 in
          let b : Footprint = (print_of row).1 in
          let both = and_parts (nat_lt other.no.0 row.no.0) (waits_for a b) t in
          elim (or_cases (collide a b || other.fence) row.fence both.1) [
            | inr fence ↦ absurd cc
            | inl earlier ↦ elim (or_cases (collide a b) other.fence earlier) [
              | inr fence ↦ unawaited place 1280 ((s.stands place held).by_fence fence) (λ node there. none 1280 node there refl)
              | inl collides ↦ elim (or_cases (share_page a.pages b.pages && not (a.reads && b.reads)) (offloads_conflict a.offload b.offload) collides) [
                | inl share ↦ page_unawaited place held (and_parts (share_page a.pages b.pages) (not (a.reads && b.reads)) share).0
                | inr conflict ↦ offload_unawaited place held conflict
              ]
            ]
          ]
    ]

    pub waits_for_none : may_go (calls_of rows places) (print_of row) ≡ true
    waits_for_none = all_from (print_at rows) _ (list_at places 0) (λ p held. not_from_false (is_awaited (row_at rows p) row) (each_unawaited p held))

  -- ---- the call of a number
  -- the place that a walk along the list of its number finds
  pub number_found : (n : ℕ) (node : ℕ) → find (wanted_at rows (Number (record { 0 = n }))) (list_at waits (number_list n)) ≡ Some node
      → IsIn places 0 (place_of node) × ((row_at rows (place_of node)).no.0 ≡ n)
  number_found n node e =
      let found = find_some (wanted_at rows (Number (record { 0 = n }))) (list_at waits (number_list n)) node e in
      (s.used (number_list n) node found.0, eqb-true _ _ found.1)

  -- no place has it where the walk finds none
  number_absent : (n : ℕ) → find (wanted_at rows (Number (record { 0 = n }))) (list_at waits (number_list n)) ≡ None → (p : ℕ) → IsIn places 0 p → (row_at rows p).no.0 ≢ n
  number_absent n e p held is =
      let stands : Stands waits (number_list n) p = subst (λ m. Stands waits (number_list m) p) is (s.stands p held).by_number in
      let f = find_none (wanted_at rows (Number (record { 0 = n }))) (list_at waits (number_list n)) e stands.0 stands.1.0 in
      let t = eq-eqb (row_at rows (place_of stands.0)).no.0 n (ap (λ q. (row_at rows q).no.0) stands.1.1 ∙ is) in
      cc

  pub alone : (p q : ℕ) → IsIn places 0 p → IsIn places 0 q → (row_at rows p).no.0 ≡ (row_at rows q).no.0 → p ≡ q
  alone p q h h' same = rising_alone (print_at rows) (list_at places 0) p q s.rising h h' same

  -- whether the call of a number is ready rests on that place
  pub ready_there : (n p : ℕ) → IsIn places 0 p → (row_at rows p).no.0 ≡ n → ready_in (calls_of rows places) n ≡ may_go (calls_of rows places) (print_of (row_at rows p))
  ready_there n p held is =
      let calls : List (ℕ × Footprint) = calls_of rows places in
      let only : ready_in calls n ≡ ((row_at rows p).no.0 == n && may_go calls (print_at rows p)) =
      any_one (print_at rows) (λ k. k.0 == n && may_go calls k) (list_at places 0) p held
      (λ q h t. alone q p h held (eqb-true _ _ (and_parts ((row_at rows q).no.0 == n) (may_go calls (print_at rows q)) t).0 ∙ sym is)) in
      let t = eq-eqb (row_at rows p).no.0 n is in
      only ∙ rw t refl

  -- ---- what the walks of an order give
  -- the rows are seen at a slice of them, and the calls as a contract sees them
  module _ (seen : List WaitRow) (same : seen ≡ rows) {calls : List (ℕ × Footprint)} (view : calls_of rows places ≡ calls) where
    sought : (number : ℕ) (o : Option ℕ) → o ≡ option_map place_of (find (wanted_at seen (Number (record { 0 = number }))) (list_at waits (number_list number)))
        → o ≡ option_map place_of (find (wanted_at rows (Number (record { 0 = number }))) (list_at waits (number_list number)))
    sought number o e = e ∙ ap (λ rs. option_map place_of (find (wanted_at rs (Number (record { 0 = number }))) (list_at waits (number_list number)))) same

    -- a place that was sought by a number has the call
    pub found_place : (number place : ℕ) → Some place ≡ option_map place_of (find (wanted_at seen (Number (record { 0 = number }))) (list_at waits (number_list number)))
        → IsIn places 0 place × ((row_at rows place).no.0 ≡ number)
    found_place number place e =
        let there = this_sought place_of (wanted_at rows (Number (record { 0 = number }))) (list_at waits (number_list number)) place (sought number (Some place) e) in
        let found = number_found number there.0 there.1.0 in
        (ap (has (list_at places 0)) (sym there.1.1) ∙ found.0, ap (λ p. (row_at rows p).no.0) (sym there.1.1) ∙ found.1)

    -- and there is one, where there is the call
    pub place_there : (number : ℕ) → list_any (λ k. k.0 == number) calls ≡ true → None ≡ option_map place_of (find (wanted_at seen (Number (record { 0 = number }))) (list_at waits (number_list number))) → ⊥
    place_there number there e =
        let none = none_sought place_of (wanted_at rows (Number (record { 0 = number }))) (list_at waits (number_list number)) None (sought number None e) refl in
        let absent = any_none (print_at rows) (λ k. k.0 == number) (list_at places 0) (λ p h. ne_eqb (row_at rows p).no.0 number (number_absent number none p h)) in
        let here : list_any (λ k. k.0 == number) (calls_of rows places) ≡ true = rw view there in
        cc

    pub found_ready : (number place : ℕ) → IsIn places 0 place → (row_at rows place).no.0 ≡ number → may_go calls (print_of (row_at rows place)) ≡ ready_in calls number
    found_ready number place held its = rw (← view) (sym (ready_there number place held its))

    -- a row that waits at a list
    pub some_awaited : (row : WaitRow) (list node : ℕ) → IsIn waits list node → wanted_at seen (AwaitedBy row) node ≡ true → true ≡ not (may_go calls (print_of row))
    some_awaited row list node there t = sym (ap not (ap (λ ks. may_go ks (print_of row)) (sym view) ∙ waits_for_one row list node there (ap (λ rs. wanted_at rs (AwaitedBy row) node) (sym same) ∙ t)))

  -- a row that waits at none
  pub none_awaited : {calls : List (ℕ × Footprint)} → calls_of rows places ≡ calls → (row : WaitRow) → may_go (calls_of rows places) (print_of row) ≡ true → false ≡ not (may_go calls (print_of row))
  none_awaited view row t = sym (ap not (ap (λ ks. may_go ks (print_of row)) (sym view) ∙ t))

-- the call at the place goes, and has a number from this one on
abbrev pub goes_from : List WaitRow → NodeLists → ℕ → ℕ → Bool
goes_from rows places from place = leb from (row_at rows place).no.0 && may_go (calls_of rows places) (print_at rows place)

-- what a walk to the first such place finds
pub first_from : (rows : List WaitRow) (places : NodeLists) {calls : List (ℕ × Footprint)} → calls_of rows places ≡ calls → (from : ℕ) (o : Option ℕ) → find (goes_from rows places from) (list_at places 0) ≡ o
    → option_map (λ p. (row_at rows p).no) o ≡ option_map number_of (find (λ k. leb from k.0 && may_go calls k) calls)
first_from rows places view from o e =
    rw (← view) (sym (
    ap (option_map number_of) (find_at (print_at rows) (λ k. leb from k.0 && may_go (calls_of rows places) k) (list_at places 0) ∙ ap (option_map (print_at rows)) e)
    ∙ made o))
  where
    made : (o : Option ℕ) → option_map number_of (option_map (print_at rows) o) ≡ option_map (λ p. (row_at rows p).no) o
    made None = refl
    made (Some p) = refl

-- each number is one from 0 on
find_same : {A : Type 0} (p q : A → Bool) → ((x : A) → p x ≡ q x) → (xs : List A) → find p xs ≡ find q xs
find_same p q same [] = refl
find_same p q same (x ∷ xs) = elim (cases_Bool (q x)) [
  | inl t ↦ let t' = same x ∙ t in rw (t, t') refl
  | inr e ↦ let e' = same x ∙ e in rw (e, e') (find_same p q same xs)
]

pub first_of_all : (calls : List (ℕ × Footprint)) → find (λ k. leb 0 k.0 && may_go calls k) calls ≡ find (may_go calls) calls
first_of_all calls = find_same _ _ (λ (k : ℕ × Footprint). ap (λ t. t && may_go calls k) (le-leb 0 k.0 (omega arith))) calls

-- whether the call at a place goes, as it is told of the row there
module _ (rows : List WaitRow) (places : NodeLists) {calls : List (ℕ × Footprint)} (view : calls_of rows places ≡ calls) (from place : ℕ) (row : WaitRow) (read : row ≡ row_at rows place) where
  pub goes_here : (goes : Bool) → from ≤ row.no.0 → goes ≡ may_go calls (print_of row) → goes ≡ true → goes_from rows places from place ≡ true
  goes_here goes low e t =
      and_from (leb from (row_at rows place).no.0) (may_go (calls_of rows places) (print_at rows place))
      (ap (λ (r : WaitRow). leb from r.no.0) (sym read) ∙ le-leb from row.no.0 low)
      (ap (λ ks. may_go ks (print_at rows place)) view ∙ ap (λ (r : WaitRow). may_go calls (print_of r)) (sym read) ∙ sym e ∙ t)

  pub stays_before : row.no.0 < from → goes_from rows places from place ≡ false
  stays_before below = and_left (leb from (row_at rows place).no.0) (may_go (calls_of rows places) (print_at rows place)) (ap (λ (r : WaitRow). leb from r.no.0) (sym read) ∙ lt-leb from row.no.0 below)

  pub stays_waiting : (goes : Bool) → goes ≡ may_go calls (print_of row) → goes ≡ false → goes_from rows places from place ≡ false
  stays_waiting goes e f =
      and_right (leb from (row_at rows place).no.0) (may_go (calls_of rows places) (print_at rows place))
      (ap (λ ks. may_go ks (print_at rows place)) view ∙ ap (λ (r : WaitRow). may_go calls (print_of r)) (sym read) ∙ sym e ∙ f)
