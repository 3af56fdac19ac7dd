-- The nodes of a place, put into lists one by one, and taken out.
use Rattle.std.proofs.Common.{◌≡◌, ◌≢◌, ℕ, ◌+◌, ◌-◌, ◌*◌, ◌<◌, ◌≤◌, ◌⊎◌, inl, inr, true, List, [], ◌∷◌, ◌++◌, length, Option, Some, None, is_some, IfSome, refl, sym, ap, subst, ◌∙◌, arith, append_assoc, append-nil}
use Rattle.std.specs.List.{AllByRecursion}
use Rattle.std.proofs.lemmas.Bool.{cases_lt, cases_eq, false_from_ne_true}
use Rattle.index_lists.specs.NodeLists.{NodeLists, has, list_at, IsIn, IsFree, IsHeld, IsValid, with_list}
use Rattle.dep_order.specs.WaitLists.{place_of, IsGrown, IsInOrder, Stands}
use Rattle.index_lists.proofs.Edits.{All-has}
use Rattle.dep_order.proofs.Listed.{pushed_here, pushed_there, pushed_old, pushed_new}
use Rattle.index_lists.proofs.Members.{has-append_left, has-append_cases, lists_same}

-- the nodes are those from `low` on to before `high`
abbrev pub AreAmong : ℕ → ℕ → List ℕ → Type 0
AreAmong low high xs = AllByRecursion (λ node. (low ≤ node) × (node < high)) xs

among_wider : (low high a b : ℕ) → a ≤ low → high ≤ b → (xs : List ℕ) → AreAmong low high xs → AreAmong a b xs
among_wider low high a b le le' [] h = tt
among_wider low high a b le le' (x ∷ xs) h = ((omega (arith, h.0.0), omega (arith, h.0.1)), among_wider low high a b le le' xs h.1)

among_push : (low high : ℕ) (xs : List ℕ) → low ≤ high → AreAmong low high xs → AreAmong low (high + 1) (xs ++ high ∷ [])
among_push low high [] le h = ((le, omega arith), tt)
among_push low high (x ∷ xs) le h = ((h.0.0, omega (arith, h.0.1)), among_push low high xs le h.1)

among_append : (low high : ℕ) (xs ys : List ℕ) → AreAmong low high xs → AreAmong low high ys → AreAmong low high (xs ++ ys)
among_append low high [] ys h h' = h'
among_append low high (x ∷ xs) ys h h' = (h.0, among_append low high xs ys h.1 h')

-- a list that has grown and has grown again
pub grown_twice : (low mid mid' high : ℕ) (xs ys zs : List ℕ) → mid' ≤ high → low ≤ mid' → mid ≤ high → IsGrown low mid xs ys → IsGrown mid' high ys zs → IsGrown low high xs zs
grown_twice low mid mid' high xs ys zs le le' le'' a b =
    (a.0 ++ b.0, (b.1.0 ∙ ap (λ l. l ++ b.0) a.1.0 ∙ append_assoc xs a.0 b.0, among_append low high a.0 b.0 (among_wider low mid low high (omega arith) le'' a.0 a.1.1) (among_wider mid' high low high le' (omega arith) b.0 b.1.1)))

pub grown_wider : (low high more : ℕ) (xs ys : List ℕ) → high ≤ more → IsGrown low high xs ys → IsGrown low more xs ys
grown_wider low high more xs ys le g = (g.0, (g.1.0, among_wider low high low more (omega arith) le g.0 g.1.1))

-- it has what it had
pub grown_kept : (low high : ℕ) (xs ys : List ℕ) (n : ℕ) → IsGrown low high xs ys → has xs n ≡ true → has ys n ≡ true
grown_kept low high xs ys n g h = ap (λ l. has l n) g.1.0 ∙ has-append_left xs g.0 n h

-- and else those nodes alone
pub grown_only : (low high : ℕ) (xs ys : List ℕ) (n : ℕ) → IsGrown low high xs ys → has ys n ≡ true → (has xs n ≡ true) ⊎ ((low ≤ n) × (n < high))
grown_only low high xs ys n g h = elim (has-append_cases xs g.0 n (ap (λ l. has l n) (sym g.1.0) ∙ h)) [
  | inl old ↦ inl old
  | inr new ↦ inr (All-has (λ node. (low ≤ node) × (node < high)) g.0 n g.1.1 new)
]

-- k nodes from `first` on were put into as many lists from `from` on
pub record HasJoined (old new : NodeLists) (from first k : ℕ) : Type 0 where
  pub nodes : new.nodes ≡ old.nodes
  pub count : length new.lists ≡ length old.lists
  pub valid : IsValid new
  pub put : (j : ℕ) → j < k → IsIn new (from + j) (first + j)
  pub grown : (list : ℕ) → IsGrown first (first + k) (list_at old list) (list_at new list)

pub joined_none : (v : NodeLists) (from first : ℕ) → IsValid v → HasJoined v v from first 0
joined_none v from first valid = record {
  nodes = refl;
  count = refl;
  valid = valid;
  put = λ j below. absurd (omega arith);
  grown = λ l. ([], (sym (append-nil (list_at v l)), tt));
}

module _ {old v : NodeLists} {from first k : ℕ} (s : HasJoined old v from first k) where
  -- the next node is in no list
  pub joined_free : IsFree old (first + k) → IsFree v (first + k)
  joined_free free = λ l. false_from_ne_true _ (λ h. elim (grown_only first (first + k) (list_at old l) (list_at v l) (first + k) (s.grown l) h) [
    | inl there ↦ (let none = free l in cc)
    | inr among ↦ omega (arith, among.1)
  ])

  pub joined_more : (new : NodeLists) → new ≡ with_list v (from + k) (list_at v (from + k) ++ (first + k) ∷ []) → IsValid new → from + k < length old.lists
      → HasJoined old new from first (k + 1)
  joined_more new e valid within =
      let within' : from + k < length v.lists = omega (arith, s.count) in
      record {
        nodes = ap (λ w. w.nodes) e ∙ s.nodes;
        count = ap (λ w. length w.lists) e ∙ lists_same v (from + k) _ ∙ s.count;
        valid = valid;
        put = λ j below. elim (cases_eq j k) [
          | inl same ↦ subst (λ i. IsIn new (from + i) (first + i)) (sym same) (pushed_new v (from + k) (first + k) new e within')
          | inr ne ↦ pushed_old v (from + k) (first + k) new e within' (from + j) (first + j) (s.put j (omega arith))
        ];
        grown = λ l.
            let was = s.grown l in
            elim (cases_eq l (from + k)) [
              | inl same ↦
                  let now : list_at new l ≡ list_at v l ++ (first + k) ∷ [] = ap (list_at new) same ∙ pushed_here v (from + k) (first + k) new e within' ∙ ap (λ m. list_at v m ++ (first + k) ∷ []) (sym same) in
                  (was.0 ++ (first + k) ∷ [], (now ∙ ap (λ xs. xs ++ (first + k) ∷ []) was.1.0 ∙ append_assoc (list_at old l) was.0 ((first + k) ∷ []), subst (λ m. AreAmong first m (was.0 ++ (first + k) ∷ [])) (let e : first + k + 1 ≡ first + (k + 1) = omega arith in e) (among_push first (first + k) was.0 (omega arith) was.1.1)))
              | inr ne ↦ (was.0, (pushed_there v (from + k) (first + k) new e within' l ne ∙ was.1.0, among_wider first (first + k) first (first + (k + 1)) (omega arith) (omega arith) was.0 was.1.1))
            ];
      }

-- k nodes from `first` on were taken out of their lists
pub record HasLeft (old new : NodeLists) (first k : ℕ) : Type 0 where
  pub nodes : new.nodes ≡ old.nodes
  pub count : length new.lists ≡ length old.lists
  pub valid : IsValid new
  pub kept : (list node : ℕ) → IsIn old list node → (first ≤ node → node < first + k → ⊥) → IsIn new list node
  pub only : (list node : ℕ) → IsIn new list node → IsIn old list node × (first ≤ node → node < first + k → ⊥)
  pub order : (number : ℕ → ℕ) (list : ℕ) → IsInOrder number (list_at old list) → IsInOrder number (list_at new list)

pub left_none : (v : NodeLists) (first : ℕ) → IsValid v → HasLeft v v first 0
left_none v first valid = record {
  nodes = refl;
  count = refl;
  valid = valid;
  kept = λ l n h apart. h;
  only = λ l n h. (h, λ low high. omega arith);
  order = λ number l h. h;
}

pub left_more : {old v : NodeLists} {first k : ℕ} → HasLeft old v first k → (new : NodeLists) → new.nodes ≡ v.nodes → length new.lists ≡ length v.lists → IsValid new
    → ((list node : ℕ) → IsIn v list node → node ≢ first + k → IsIn new list node)
    → ((list node : ℕ) → IsIn new list node → IsIn v list node × (node ≢ first + k))
    → ((number : ℕ → ℕ) (list : ℕ) → IsInOrder number (list_at v list) → IsInOrder number (list_at new list))
    → HasLeft old new first (k + 1)
left_more {first = first} {k} s new nodes count valid kept only order = record {
  nodes = nodes ∙ s.nodes;
  count = count ∙ s.count;
  valid = valid;
  kept = λ l n h apart. kept l n (s.kept l n h (λ low high. apart low (omega arith))) (λ is. apart (omega arith) (omega arith));
  only = λ l n h.
      let was = only l n h in
      let old = s.only l n was.0 in
      (old.0, λ low high. elim (cases_lt n (first + k)) [ inl below ↦ old.1 low below | inr above ↦ was.1 (omega arith) ]);
  order = λ number l h. order number l (s.order number l h);
}

-- ---- the lists of a place
pub place_of_node : (place k : ℕ) → k < 20 → place_of (place * 20 + k) ≡ place
place_of_node place k below = omega arith

-- a place that stands in no list has all its nodes free
pub free_node : (v : NodeLists) (place node : ℕ) → ((l : ℕ) → ¬ Stands v l place) → place_of node ≡ place → IsFree v node
free_node v place node apart its = λ l. false_from_ne_true _ (λ h. apart l (node, (h, its)))

-- and they stay free where others join
pub still_free : (v new : NodeLists) (first k node : ℕ) → ((l : ℕ) → IsGrown first (first + k) (list_at v l) (list_at new l)) → first + k ≤ node → IsFree v node → IsFree new node
still_free v new first k node grown past free = λ l. false_from_ne_true _ (λ h. elim (grown_only first (first + k) (list_at v l) (list_at new l) node (grown l) h) [
  | inl there ↦ (let none = free l in cc)
  | inr among ↦ omega (arith, among.1)
])

-- a list of a run that was joined
pub stands_in_run : (v : NodeLists) (from first k place list : ℕ) → ((j : ℕ) → j < k → IsIn v (from + j) (first + j)) → from ≤ list → list < from + k
    → ((j : ℕ) → j < k → place_of (first + j) ≡ place) → Stands v list place
stands_in_run v from first k place list put low high its =
    let j : ℕ = list - from in
    let is : from + j ≡ list = omega arith in
    let below : j < k = omega arith in
    (first + j, (subst (λ l. IsIn v l (first + j)) is (put j below), its j below))

pub stands_on : (v new : NodeLists) (low high list place : ℕ) → ((l : ℕ) → IsGrown low high (list_at v l) (list_at new l)) → Stands v list place → Stands new list place
stands_on v new low high list place grown h = (h.0, (grown_kept low high (list_at v list) (list_at new list) h.0 (grown list) h.1.0, h.1.1))

-- ---- a node that is taken out
pub held_there : (v : NodeLists) (n : ℕ) (o : Option ℕ) → is_some o ≡ true → IfSome o (λ l. IsIn v l n) → IsHeld v n
held_there v n None some h = absurd cc
held_there v n (Some l) some h = (l, h)
