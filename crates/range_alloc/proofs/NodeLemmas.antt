-- What the lists of nodes say after a node went from one to another.
use Rattle.std.proofs.Common.{◌≡◌, ◌≢◌, ℕ, zero, suc, ◌+◌, ◌-◌, ◌<◌, ◌≤◌, true, false, inl, inr, List, [], ◌∷◌, ◌++◌, map, take, length, replicate, get_or, set, Option, Some, None, option_map, slice_get, refl, sym, ap, subst, ◌∙◌, arith, length-append, append_assoc}
use Rattle.std.specs.Prelude.{nat_eq, ◌==◌, if◌then◌else◌}
use Rattle.std.specs.List.{AllByRecursion, IsDistinct, sum_by}
use Rattle.std.proofs.Math.ListN.{length-set}
use Rattle.std.proofs.lemmas.Bool.{eq-eqb, ne_eqb, cases_eq, cases_Bool}
use Rattle.std.proofs.lemmas.List.{get_or-set_same, get_or-set_other}
use Rattle.std.proofs.lemmas.List.Sums.{sum_by-set, sum_by-cons}
use Rattle.index_lists.specs.NodeLists.{NodeLists, list_at, with_list, without, after, has, IsIn, IsFree, IsValid}
use Rattle.range_alloc.specs.declared.lists.TheConstants.{SPACES}
use Rattle.range_alloc.specs.Nodes.{AreFree, IsNodeOf, IsSound, node_count, range_at, range_sets, ranges_of}
use Rattle.index_lists.proofs.Edits.{without_apart}
use Rattle.index_lists.proofs.Linking.{split_eq}
use Rattle.range_alloc.specs.RangeSets.{RangeSets, drop_start, has_start, ranges_in}

-- ---- a list in place of another
module _ (lists : NodeLists) (l : ℕ) (nodes : List ℕ) where
  pub list_here : l < length lists.lists → list_at (with_list lists l nodes) l ≡ nodes
  list_here inside = get_or-set_same lists.lists l nodes [] inside

  pub list_other : (m : ℕ) → m ≢ l → list_at (with_list lists l nodes) m ≡ list_at lists m
  list_other m ne = get_or-set_other lists.lists l m nodes [] ne

  pub count_with : l < length lists.lists → node_count (with_list lists l nodes) + length (list_at lists l) ≡ node_count lists + length nodes
  count_with inside = sum_by-set (λ (xs : List ℕ). length xs) lists.lists l nodes [] inside

  pub lists_with : length (with_list lists l nodes).lists ≡ length lists.lists
  lists_with = length-set lists.lists l nodes

-- ---- nodes of a list
pub absent_rest : (n : ℕ) (xs : List ℕ) → AllByRecursion (λ y. nat_eq n y ≡ false) xs → has xs n ≡ false
absent_rest n [] all = refl
absent_rest n (x ∷ xs) all = rw all.0 (absent_rest n xs all.1)

pub length_without : (n : ℕ) (xs : List ℕ) → has xs n ≡ true → IsDistinct nat_eq xs → length (without n xs) + 1 ≡ length xs
unfolding IsDistinct
length_without n [] there distinct = absurd cc
length_without n (x ∷ xs) there distinct = elim (split_eq n x) [
  | inl same ↦
      let gone : without n xs ≡ xs = without_apart n xs (ap (has xs) same.0 ∙ absent_rest x xs distinct.0) in
      rw same.1 (ap (λ ys. length ys + 1) gone ∙ (let e : length xs + 1 ≡ length (x ∷ xs) = omega arith in e))
  | inr other ↦
      let rest = length_without n xs (rw other.1 at there) distinct.1 in
      rw other.1 (let e : length (x ∷ without n xs) + 1 ≡ length (x ∷ xs) = omega (arith, rest) in e)
]

pub none_without : (n : ℕ) (xs : List ℕ) → has (without n xs) n ≡ false
none_without n [] = refl
none_without n (x ∷ xs) = elim (split_eq n x) [
  | inl same ↦ rw same.1 (none_without n xs)
  | inr other ↦ rw other.1 (rw other.1 (none_without n xs))
]

-- ---- the ranges of nodes
pub ranges_set : (ranges : List (ℕ × ℕ)) (node : ℕ) (range : ℕ × ℕ) (xs : List ℕ) → has xs node ≡ false → ranges_of (set ranges node range) xs ≡ ranges_of ranges xs
ranges_set ranges node range [] none = refl
ranges_set ranges node range (x ∷ xs) none = elim (split_eq node x) [
  | inl same ↦ absurd (let h = rw same.1 at none in cc)
  | inr other ↦
      ap (λ r. r ∷ ranges_of (set ranges node range) xs) (get_or-set_other ranges node x range (0, 0) (λ e. other.0 (sym e)))
      ∙ ap (λ rs. range_at ranges x ∷ rs) (ranges_set ranges node range xs (rw other.1 at none))
]

pub ranges_append : (ranges : List (ℕ × ℕ)) (xs ys : List ℕ) → ranges_of ranges (xs ++ ys) ≡ ranges_of ranges xs ++ ranges_of ranges ys
ranges_append ranges [] ys = refl
ranges_append ranges (x ∷ xs) ys = ap (λ rs. range_at ranges x ∷ rs) (ranges_append ranges xs ys)

nth_view : {A B : Type 0} (f : List A → List B) → f [] ≡ [] → (n i : ℕ) (xs : List (List A)) → i < n → get_or (map f (take n xs)) i [] ≡ f (get_or xs i [])
nth_view f none zero i xs less = absurd (omega arith)
nth_view f none (suc n) i [] less = sym none
nth_view f none (suc n) zero (x ∷ xs) less = refl
nth_view f none (suc n) (suc i) (x ∷ xs) less = nth_view f none n i xs (omega arith)

-- what contracts see of a space's ranges
pub ranges_seen : (lists : NodeLists) (ranges : List (ℕ × ℕ)) (space : ℕ) → space < SPACES → ranges_in (range_sets lists ranges) space ≡ ranges_of ranges (list_at lists space)
ranges_seen lists ranges space less = nth_view (ranges_of ranges) refl SPACES space lists.lists less

-- a list has no more nodes than there are
pub few_nodes : (lists : NodeLists) (l : ℕ) → l < length lists.lists → length (list_at lists l) ≤ node_count lists
few_nodes lists l inside = let h = count_with lists l [] inside in omega (arith, h)

-- ---- a node goes from a list to the end of another
module _ (v v1 v2 : NodeLists) (a b node : ℕ) (valid : IsValid v) (there : IsIn v a node) (ne : b ≢ a) (inside : b < length v.lists)
    (e1 : v1 ≡ with_list v a (without node (list_at v a))) (e2 : v2 ≡ with_list v1 b (list_at v1 b ++ node ∷ [])) where
  in_a : a < length v.lists
  in_a = (valid.in_range a node there).0

  in_b : b < length v1.lists
  in_b = let h = ap (λ (v : NodeLists). length v.lists) e1 ∙ lists_with v a (without node (list_at v a)) in omega (arith, h, inside)

  from_here : list_at v1 a ≡ without node (list_at v a)
  from_here = ap (λ (v : NodeLists). list_at v a) e1 ∙ list_here v a (without node (list_at v a)) in_a

  from_other : (l : ℕ) → l ≢ a → list_at v1 l ≡ list_at v l
  from_other l ne = ap (λ (v : NodeLists). list_at v l) e1 ∙ list_other v a (without node (list_at v a)) l ne

  -- no other list has the node
  pub only : (l : ℕ) → l ≢ a → has (list_at v l) node ≡ false
  only l ne = elim (cases_Bool (has (list_at v l) node)) [
    | inl is ↦ absurd (ne (sym (valid.apart a l node there is)))
    | inr isnt ↦ isnt
  ]

  -- taken out, it is in none
  pub taken_out : IsFree v1 node
  taken_out l = elim (cases_eq l a) [
    | inl same ↦ ap (λ l. has (list_at v1 l) node) same ∙ ap (λ xs. has xs node) from_here ∙ none_without node (list_at v a)
    | inr other ↦ ap (λ xs. has xs node) (from_other l other) ∙ only l other
  ]

  pub moved_from : list_at v2 a ≡ without node (list_at v a)
  moved_from = ap (λ (v : NodeLists). list_at v a) e2 ∙ list_other v1 b (list_at v1 b ++ node ∷ []) a (λ e. ne (sym e)) ∙ from_here

  pub moved_to : list_at v2 b ≡ list_at v b ++ node ∷ []
  moved_to = ap (λ (v : NodeLists). list_at v b) e2 ∙ list_here v1 b (list_at v1 b ++ node ∷ []) in_b ∙ ap (λ xs. xs ++ node ∷ []) (from_other b ne)

  pub moved_other : (l : ℕ) → l ≢ a → l ≢ b → list_at v2 l ≡ list_at v l
  moved_other l na nb = ap (λ (v : NodeLists). list_at v l) e2 ∙ list_other v1 b (list_at v1 b ++ node ∷ []) l nb ∙ from_other l na

  pub moved_nodes : v2.nodes ≡ v.nodes
  moved_nodes = ap (λ (v : NodeLists). v.nodes) e2 ∙ ap (λ (v : NodeLists). v.nodes) e1

  pub moved_count : length v2.lists ≡ length v.lists
  moved_count =
      ap (λ (v : NodeLists). length v.lists) e2 ∙ lists_with v1 b (list_at v1 b ++ node ∷ [])
      ∙ ap (λ (v : NodeLists). length v.lists) e1 ∙ lists_with v a (without node (list_at v a))

  pub moved_whole : node_count v2 ≡ node_count v
  moved_whole =
      let out = ap (λ (w : NodeLists). node_count w + length (list_at v a)) e1 ∙ count_with v a (without node (list_at v a)) in_a in
      let back = ap (λ (w : NodeLists). node_count w + length (list_at v1 b)) e2 ∙ count_with v1 b (list_at v1 b ++ node ∷ []) in_b in
      let more = length-append (list_at v1 b) (node ∷ []) in
      let fewer = length_without node (list_at v a) there (valid.distinct a) in
      omega (arith, out, back, more, fewer)

  pub moved_sound : (ranges ranges' : List (ℕ × ℕ)) → IsSound v ranges → length ranges' ≡ length ranges → IsValid v2 → IsSound v2 ranges'
  moved_sound ranges ranges' sound same valid2 = record {
    count = moved_count ∙ sound.count;
    long = same ∙ sound.long ∙ sym moved_nodes;
    whole = moved_whole ∙ sound.whole ∙ sym moved_nodes;
    valid = valid2;
  }

-- ---- the first range of a space
first_range : (ranges : List (ℕ × ℕ)) (xs : List ℕ) → option_map (λ (range : ℕ × ℕ). range.0) (slice_get (ranges_of ranges xs) 0) ≡ option_map (λ (node : ℕ). (range_at ranges node).0) (slice_get xs 0)
first_range ranges [] = refl
first_range ranges (x ∷ xs) = refl

pub first_start : (lists : NodeLists) (ranges : List (ℕ × ℕ)) (space : ℕ) (node : Option ℕ) → space < SPACES → node ≡ slice_get (list_at lists space) 0
    → option_map (λ (node : ℕ). (range_at ranges node).0) node ≡ option_map (λ (range : ℕ × ℕ). range.0) (slice_get (ranges_in (range_sets lists ranges) space) 0)
first_start lists ranges space node less is =
    ap (option_map (λ (node : ℕ). (range_at ranges node).0)) is ∙ sym (first_range ranges (list_at lists space))
    ∙ ap (λ (rs : List (ℕ × ℕ)). option_map (λ (range : ℕ × ℕ). range.0) (slice_get rs 0)) (sym (ranges_seen lists ranges space less))

-- the node of a range
pub node_below : (lists : NodeLists) (ranges : List (ℕ × ℕ)) (list node : ℕ) → IsSound lists ranges → IsIn lists list node → node < length ranges
node_below lists ranges list node sound there = let h = sound.valid.in_range list node there in omega (arith, h.1, sound.long)

-- an item that is there, whatever stands for those that aren't
pub get_or_any : {A : Type 0} (xs : List A) (i : ℕ) (d e : A) → i < length xs → get_or xs i d ≡ get_or xs i e
get_or_any [] i d e less = absurd (omega arith)
get_or_any (x ∷ xs) zero d e less = refl
get_or_any (x ∷ xs) (suc i) d e less = get_or_any xs i d e (omega arith)

-- ---- a walk along a list
-- how many nodes stand from this one on
abbrev pub from_node : ℕ → List ℕ → ℕ
from_node n [] = 0
from_node n (x ∷ xs) = if n == x then suc (length xs) else from_node n xs

abbrev pub from_on : Option ℕ → List ℕ → ℕ
from_on None xs = 0
from_on (Some n) xs = from_node n xs

-- the walk stands before these nodes, and no range of those that it has passed begins here
pub record IsWalked (ranges : List (ℕ × ℕ)) (nodes : List ℕ) (start : ℕ) (at : Option ℕ) : Type 0 where
  pub seen : List ℕ
  pub rest : List ℕ
  pub split : nodes ≡ seen ++ rest
  pub next : at ≡ slice_get rest 0
  pub others : has_start start (ranges_of ranges seen) ≡ false

-- a node at the seam of a list of distinct nodes
pub record IsSeam (seen : List ℕ) (node : ℕ) (rest : List ℕ) : Type 0 where
  pub before : has seen node ≡ false
  pub behind : has rest node ≡ false

seam : (seen rest : List ℕ) (node : ℕ) → IsDistinct nat_eq (seen ++ node ∷ rest) → IsSeam seen node rest
unfolding IsDistinct
seam [] rest node distinct = record { before = refl; behind = absent_rest node rest distinct.0 }
seam (x ∷ seen) rest node distinct =
    let inner = seam seen rest node distinct.1 in
    let ne = at_seam seen distinct.0 in
    record { before = rw (other x ne) inner.before; behind = inner.behind }
  where
    at_seam : (ys : List ℕ) → AllByRecursion (λ y. nat_eq x y ≡ false) (ys ++ node ∷ rest) → nat_eq x node ≡ false
    at_seam [] all = all.0
    at_seam (y ∷ ys) all = at_seam ys all.1

    other : (x : ℕ) → nat_eq x node ≡ false → nat_eq node x ≡ false
    other x ne = ne_eqb node x (λ e. let h = eq-eqb x node (sym e) in absurd cc)

after_seam : (seen rest : List ℕ) (node : ℕ) → has seen node ≡ false → after node (seen ++ node ∷ rest) ≡ slice_get rest 0
after_seam [] rest node none = rw (eq-eqb node node refl) refl
after_seam (x ∷ seen) rest node none = elim (split_eq node x) [
  | inl same ↦ absurd (let h = rw same.1 at none in cc)
  | inr other ↦ rw other.1 (after_seam seen rest node (rw other.1 at none))
]

from_seam : (seen rest : List ℕ) (node : ℕ) → has seen node ≡ false → from_node node (seen ++ node ∷ rest) ≡ suc (length rest)
from_seam [] rest node none = rw (eq-eqb node node refl) refl
from_seam (x ∷ seen) rest node none = elim (split_eq node x) [
  | inl same ↦ absurd (let h = rw same.1 at none in cc)
  | inr other ↦ rw other.1 (from_seam seen rest node (rw other.1 at none))
]

without_seam : (seen rest : List ℕ) (node : ℕ) → has seen node ≡ false → has rest node ≡ false → without node (seen ++ node ∷ rest) ≡ seen ++ rest
without_seam [] rest node none behind = rw (eq-eqb node node refl) (without_apart node rest behind)
without_seam (x ∷ seen) rest node none behind = elim (split_eq node x) [
  | inl same ↦ absurd (let h = rw same.1 at none in cc)
  | inr other ↦ rw other.1 (ap (λ ys. x ∷ ys) (without_seam seen rest node (rw other.1 at none) behind))
]

drop_seam : (before rest : List (ℕ × ℕ)) (range : ℕ × ℕ) (start : ℕ) → has_start start before ≡ false → range.0 ≡ start → drop_start start (before ++ range ∷ rest) ≡ before ++ rest
drop_seam [] rest range start none is = rw (eq-eqb range.0 start is) refl
drop_seam (r ∷ before) rest range start none is = elim (split_eq r.0 start) [
  | inl same ↦ absurd (let h = rw same.1 at none in cc)
  | inr other ↦ rw other.1 (ap (λ rs. r ∷ rs) (drop_seam before rest range start (rw other.1 at none) is))
]

start_append : (start : ℕ) (before rest : List (ℕ × ℕ)) → has_start start before ≡ false → has_start start rest ≡ false → has_start start (before ++ rest) ≡ false
start_append start [] rest none more = more
start_append start (r ∷ before) rest none more = elim (split_eq r.0 start) [
  | inl same ↦ absurd (let h = rw same.1 at none in cc)
  | inr other ↦ rw other.1 (start_append start before rest (rw other.1 at none) more)
]

-- ---- a range joins
none_first : {A : Type 0} (xs : List A) → None ≡ slice_get xs 0 → length xs ≡ 0
none_first [] h = refl
none_first (x ∷ xs) h = absurd cc

-- where no node is free, as many ranges stand as have room
pub full : (lists : NodeLists) (ranges : List (ℕ × ℕ)) (s : RangeSets) → range_sets lists ranges ≡ s → None ≡ slice_get (list_at lists SPACES) 0 → s.count < s.nodes → ⊥
full lists ranges s is none room =
    let count = ap (λ (s : RangeSets). s.count) is in
    let nodes = ap (λ (s : RangeSets). s.nodes) is in
    let empty = none_first (list_at lists SPACES) none in
    omega (arith, count, nodes, empty, room)

pub record IsAdded (v v1 v2 : NodeLists) (ranges ranges' : List (ℕ × ℕ)) (space node : ℕ) (range : ℕ × ℕ) : Type 0 where
  pub sound : IsSound v2 ranges'
  pub last : ranges_in (range_sets v2 ranges') space ≡ ranges_in (range_sets v ranges) space ++ range ∷ []
  pub others : (other : ℕ) → other < SPACES → other ≢ space → ranges_in (range_sets v2 ranges') other ≡ ranges_in (range_sets v ranges) other
  pub count : v2.nodes - length (list_at v2 SPACES) ≡ v.nodes - length (list_at v SPACES) + 1

pub added : (v v1 v2 : NodeLists) (ranges : List (ℕ × ℕ)) (space node : ℕ) (range : ℕ × ℕ) → IsSound v ranges → space < SPACES → IsIn v SPACES node
    → v1 ≡ with_list v SPACES (without node (list_at v SPACES)) → v2 ≡ with_list v1 space (list_at v1 space ++ node ∷ []) → IsValid v2
    → IsAdded v v1 v2 ranges (set ranges node range) space node range
added v v1 v2 ranges space node range sound less there e1 e2 valid2 =
    let ne : space ≢ SPACES = λ e. omega (arith, e, less) in
    let inside : space < length v.lists = omega (arith, sound.count, less) in
    let below = node_below v ranges SPACES node sound there in
    let to = moved_to v v1 v2 SPACES space node sound.valid there ne inside e1 e2 in
    let from = moved_from v v1 v2 SPACES space node sound.valid there ne inside e1 e2 in
    let fewer = length_without node (list_at v SPACES) there (sound.valid.distinct SPACES) in
    let low = few_nodes v SPACES (omega (arith, sound.count)) in
    let nodes = moved_nodes v v1 v2 SPACES space node sound.valid there ne inside e1 e2 in
    record {
      sound = moved_sound v v1 v2 SPACES space node sound.valid there ne inside e1 e2 ranges (set ranges node range) sound (length-set ranges node range) valid2;
      last = ranges_seen v2 (set ranges node range) space less ∙ ap (ranges_of (set ranges node range)) to ∙ ranges_append (set ranges node range) (list_at v space) (node ∷ [])
          ∙ ap (λ (r : ℕ × ℕ). ranges_of (set ranges node range) (list_at v space) ++ r ∷ []) (get_or-set_same ranges node range (0, 0) below)
          ∙ ap (λ (rs : List (ℕ × ℕ)). rs ++ range ∷ []) (ranges_set ranges node range (list_at v space) (only v v1 v2 SPACES space node sound.valid there ne inside e1 e2 space ne)
          ∙ sym (ranges_seen v ranges space less));
      others = λ other low apart.
          let away : other ≢ SPACES = λ e. omega (arith, e, low) in
          ranges_seen v2 (set ranges node range) other low
          ∙ ap (ranges_of (set ranges node range)) (moved_other v v1 v2 SPACES space node sound.valid there ne inside e1 e2 other away apart)
          ∙ ranges_set ranges node range (list_at v other) (only v v1 v2 SPACES space node sound.valid there ne inside e1 e2 other away)
          ∙ sym (ranges_seen v ranges other low);
      count = let out = ap length from in omega (arith, out, fewer, low, nodes, sound.whole);
    }

-- ---- a range leaves
pub record IsDropped (v v2 : NodeLists) (ranges : List (ℕ × ℕ)) (space start : ℕ) : Type 0 where
  pub sound : IsSound v2 ranges
  pub gone : ranges_in (range_sets v2 ranges) space ≡ drop_start start (ranges_in (range_sets v ranges) space)
  pub others : (other : ℕ) → other < SPACES → other ≢ space → ranges_in (range_sets v2 ranges) other ≡ ranges_in (range_sets v ranges) other
  pub count : v2.nodes - length (list_at v2 SPACES) + 1 ≡ v.nodes - length (list_at v SPACES)

pub dropped : (v v1 v2 : NodeLists) (ranges : List (ℕ × ℕ)) (space node start : ℕ) → IsSound v ranges → space < SPACES → IsNodeOf v ranges space start node
    → v1 ≡ with_list v space (without node (list_at v space)) → v2 ≡ with_list v1 SPACES (list_at v1 SPACES ++ node ∷ []) → IsValid v2
    → IsDropped v v2 ranges space start
dropped v v1 v2 ranges space node start sound less of e1 e2 valid2 =
    let ne : SPACES ≢ space = λ e. omega (arith, e, less) in
    let inside : SPACES < length v.lists = omega (arith, sound.count) in
    let to = moved_to v v1 v2 space SPACES node sound.valid of.there ne inside e1 e2 in
    let from = moved_from v v1 v2 space SPACES node sound.valid of.there ne inside e1 e2 in
    let sound2 = moved_sound v v1 v2 space SPACES node sound.valid of.there ne inside e1 e2 ranges ranges sound refl valid2 in
    let low = few_nodes v2 SPACES (omega (arith, sound2.count)) in
    let nodes = moved_nodes v v1 v2 space SPACES node sound.valid of.there ne inside e1 e2 in
    record {
      sound = sound2;
      gone = ranges_seen v2 ranges space less ∙ ap (ranges_of ranges) from ∙ of.gone ∙ ap (drop_start start) (sym (ranges_seen v ranges space less));
      others = λ other low apart.
          ranges_seen v2 ranges other low
          ∙ ap (ranges_of ranges) (moved_other v v1 v2 space SPACES node sound.valid of.there ne inside e1 e2 other apart (λ e. omega (arith, e, low)))
          ∙ sym (ranges_seen v ranges other low);
      count = let more = ap length to ∙ length-append (list_at v SPACES) (node ∷ []) in omega (arith, more, low, nodes, sound2.whole);
    }

-- ---- a walk
pub walk_starts : (ranges : List (ℕ × ℕ)) (nodes : List ℕ) (start : ℕ) (at : Option ℕ) → at ≡ slice_get nodes 0 → IsWalked ranges nodes start at
walk_starts ranges nodes start at is = record { seen = []; rest = nodes; split = refl; next = is; others = refl }

-- where a walk stands at a node
pub record IsAt (ranges : List (ℕ × ℕ)) (nodes : List ℕ) (start node : ℕ) : Type 0 where
  pub seen : List ℕ
  pub rest : List ℕ
  pub split : nodes ≡ seen ++ node ∷ rest
  pub others : has_start start (ranges_of ranges seen) ≡ false
  pub before : has seen node ≡ false
  pub behind : has rest node ≡ false

pub walk_at : (ranges : List (ℕ × ℕ)) (nodes : List ℕ) (start node : ℕ) → IsWalked ranges nodes start (Some node) → IsDistinct nat_eq nodes → IsAt ranges nodes start node
walk_at ranges nodes start node walk distinct = by_rest walk.rest walk.split walk.next
  where
    by_rest : (rest : List ℕ) → nodes ≡ walk.seen ++ rest → Some node ≡ slice_get rest 0 → IsAt ranges nodes start node
    by_rest [] split next = absurd cc
    by_rest (x ∷ rest) split next =
        let same : x ≡ node = cc in
        let whole : nodes ≡ walk.seen ++ node ∷ rest = split ∙ ap (λ n. walk.seen ++ n ∷ rest) same in
        let seam' = seam walk.seen rest node (subst (IsDistinct nat_eq) whole distinct) in
        record { seen = walk.seen; rest = rest; split = whole; others = walk.others; before = seam'.before; behind = seam'.behind }

has_at : (seen rest : List ℕ) (node : ℕ) → has (seen ++ node ∷ rest) node ≡ true
has_at [] rest node = rw (eq-eqb node node refl) refl
has_at (x ∷ seen) rest node = elim (split_eq node x) [ inl same ↦ rw same.1 refl | inr other ↦ rw other.1 (has_at seen rest node) ]

pub at_there : {ranges : List (ℕ × ℕ)} {nodes : List ℕ} {start node : ℕ} → IsAt ranges nodes start node → has nodes node ≡ true
at_there {ranges} {nodes} {start} {node} at = ap (λ xs. has xs node) at.split ∙ has_at at.seen at.rest node

pub at_found : {ranges : List (ℕ × ℕ)} {nodes : List ℕ} {start node : ℕ} → IsAt ranges nodes start node → (range_at ranges node).0 ≡ start
    → ranges_of ranges (without node nodes) ≡ drop_start start (ranges_of ranges nodes)
at_found {ranges} {nodes} {start} {node} at is =
    ap (λ xs. ranges_of ranges (without node xs)) at.split
    ∙ ap (ranges_of ranges) (without_seam at.seen at.rest node at.before at.behind)
    ∙ ranges_append ranges at.seen at.rest
    ∙ sym (drop_seam (ranges_of ranges at.seen) (ranges_of ranges at.rest) (range_at ranges node) start at.others is)
    ∙ ap (drop_start start) (sym (ap (ranges_of ranges) at.split ∙ ranges_append ranges at.seen (node ∷ at.rest)))

pub at_next : {ranges : List (ℕ × ℕ)} {nodes : List ℕ} {start node : ℕ} → IsAt ranges nodes start node → (range_at ranges node).0 ≢ start → (next : Option ℕ) → next ≡ after node nodes
    → IsWalked ranges nodes start next
at_next {ranges} {nodes} {start} {node} at other next is = record {
  seen = at.seen ++ node ∷ [];
  rest = at.rest;
  split = at.split ∙ sym (append_assoc at.seen (node ∷ []) at.rest);
  next = is ∙ ap (after node) at.split ∙ after_seam at.seen at.rest node at.before;
  others = ap (has_start start) (ranges_append ranges at.seen (node ∷ [])) ∙ start_append start (ranges_of ranges at.seen) (range_at ranges node ∷ []) at.others (rw (ne_eqb (range_at ranges node).0 start other) refl);
}

pub at_shorter : {ranges : List (ℕ × ℕ)} {nodes : List ℕ} {start node : ℕ} → IsAt ranges nodes start node → IsDistinct nat_eq nodes → (next : Option ℕ) → next ≡ after node nodes
    → from_on next nodes < from_node node nodes
at_shorter {ranges} {nodes} {start} {node} at distinct next is =
    let here : from_node node nodes ≡ suc (length at.rest) = ap (from_node node) at.split ∙ from_seam at.seen at.rest node at.before in
    by_rest at.rest next at.split (is ∙ ap (after node) at.split ∙ after_seam at.seen at.rest node at.before) here
  where
    by_rest : (rest : List ℕ) (next : Option ℕ) → nodes ≡ at.seen ++ node ∷ rest → next ≡ slice_get rest 0 → from_node node nodes ≡ suc (length rest) → from_on next nodes < from_node node nodes
    by_rest [] next split is here = let none : from_on next nodes ≡ 0 = ap (λ n. from_on n nodes) is in omega arith
    by_rest (x ∷ rest) next split is here =
        let whole : nodes ≡ (at.seen ++ node ∷ []) ++ x ∷ rest = split ∙ sym (append_assoc at.seen (node ∷ []) (x ∷ rest)) in
        let seam' = seam (at.seen ++ node ∷ []) rest x (subst (IsDistinct nat_eq) whole distinct) in
        let there : from_on next nodes ≡ suc (length rest) = ap (λ n. from_on n nodes) is ∙ ap (from_node x) whole ∙ from_seam (at.seen ++ node ∷ []) rest x seam'.before in
        omega arith

pub walk_ends : (ranges : List (ℕ × ℕ)) (nodes : List ℕ) (start : ℕ) → IsWalked ranges nodes start None → has_start start (ranges_of ranges nodes) ≡ false
walk_ends ranges nodes start walk =
    ap (λ xs. has_start start (ranges_of ranges xs)) walk.split ∙ ap (has_start start) (ranges_append ranges walk.seen walk.rest)
    ∙ start_append start (ranges_of ranges walk.seen) (ranges_of ranges walk.rest) walk.others (by_rest walk.rest walk.next)
  where
    by_rest : (rest : List ℕ) → None ≡ slice_get rest 0 → has_start start (ranges_of ranges rest) ≡ false
    by_rest [] next = refl
    by_rest (x ∷ rest) next = absurd cc

-- ---- at the start
pub has_append : (xs : List ℕ) (x n : ℕ) → has xs n ≡ false → n ≢ x → has (xs ++ x ∷ []) n ≡ false
has_append [] x n none ne = rw (ne_eqb n x ne) refl
has_append (y ∷ xs) x n none ne = elim (split_eq n y) [
  | inl same ↦ absurd (let h = rw same.1 at none in cc)
  | inr other ↦ rw other.1 (has_append xs x n (rw other.1 at none) ne)
]

abbrev no_nodes : List ℕ
no_nodes = []

-- lists that are all empty
pub empty_at : (n l : ℕ) → get_or (replicate n no_nodes) l no_nodes ≡ no_nodes
empty_at zero l = refl
empty_at (suc n) zero = refl
empty_at (suc n) (suc l) = empty_at n l

pub empty_count : (n : ℕ) → sum_by (λ (xs : List ℕ). length xs) (replicate n []) ≡ 0
empty_count zero = refl
empty_count (suc n) = let all = sum_by-cons (λ (xs : List ℕ). length xs) [] (replicate n []) in omega (arith, all, empty_count n)

-- no range yet
pub start_sound : (lists : NodeLists) (ranges : List (ℕ × ℕ)) (nodes : ℕ) → AreFree nodes SPACES lists → length ranges ≡ nodes → IsSound lists ranges
start_sound lists ranges nodes free long = record { count = free.count; long = long ∙ sym free.nodes; whole = free.whole ∙ sym free.nodes; valid = free.valid }

pub start_count : (lists : NodeLists) (nodes : ℕ) → AreFree nodes SPACES lists → lists.nodes - length (list_at lists SPACES) ≡ 0
start_count lists nodes free = omega (arith, free.nodes, free.free)

pub start_empty : (lists : NodeLists) (ranges : List (ℕ × ℕ)) (nodes space : ℕ) → AreFree nodes SPACES lists → space < SPACES → ranges_in (range_sets lists ranges) space ≡ []
start_empty lists ranges nodes space free less = ranges_seen lists ranges space less ∙ ap (ranges_of ranges) (free.empty space (λ e. omega (arith, e, less)))

-- where no range begins here, none is to be dropped
pub not_there : (lists : NodeLists) (ranges : List (ℕ × ℕ)) (s : RangeSets) (space start : ℕ) → range_sets lists ranges ≡ s → space < SPACES → has_start start (ranges_of ranges (list_at lists space)) ≡ false
    → has_start start (ranges_in s space) ≡ true → ⊥
not_there lists ranges s space start is less none stands =
    let seen = ap (has_start start) (sym (ranges_seen lists ranges space less)) in
    let same = ap (λ (s : RangeSets). has_start start (ranges_in s space)) is in
    cc
