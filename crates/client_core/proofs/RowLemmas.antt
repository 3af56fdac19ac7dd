-- What holds of a row as things come of its parts.
use Rattle.std.proofs.Common.{◌≡◌, ℕ, zero, suc, ◌+◌, ◌-◌, ◌<◌, ◌≤◌, List, [], ◌∷◌, refl, ap, sym, ◌∙◌, subst, Some, None, Option, Bool, true, false, cond, arith, length, set}
use Rattle.std.specs.Prelude.{◌==◌, count_by, is_none, is_some, slice_get, option_map, take, drop}
use Rattle.std.proofs.lemmas.Bool.Decides.{nat_tests}
use Rattle.std.proofs.lemmas.List.{length-set}
use Rattle.std.proofs.lemmas.List.Sums.{sum_by-cons}
use Rattle.cl_types.specs.declared.call.Call.{Call}
use Rattle.client_model.specs.Client.{buffer_of, every}
use Rattle.client_model.specs.Cut.{Ending}
use Rattle.call_cut.specs.declared.outcome.PartOutcome.{PartOutcome}
use Rattle.call_cut.specs.Came.{came, came_in}
use Rattle.call_cut.specs.Fills.{fills}
use Rattle.call_cut.specs.Taking.{Gathers}
use Rattle.client_core.specs.Rows.{IsRow}
use Rattle.client_core.proofs.Basics.{none_some}

came_in_within : (buf ns : List ℕ) (os : List PartOutcome) (i : ℕ) (x : Option Ending) → slice_get (came_in buf ns os) i ≡ Some x → i < length os
came_in_within buf [] os i x h = none_some x h
came_in_within buf (n ∷ ns) [] i x h = none_some x h
came_in_within buf (n ∷ ns) (o ∷ os) zero x h = omega arith
came_in_within buf (n ∷ ns) (o ∷ os) (suc i) x h = let rest = came_in_within (drop n buf) ns os i x h in omega arith

pub came_within : (os : List PartOutcome) (k : Call) (i : ℕ) (x : Option Ending) → slice_get (came os k) i ≡ Some x → i < length os
came_within os k i x h = came_in_within (buffer_of k) (fills k) os i x h

waiting_one : (cs : List (Option Ending)) (i : ℕ) → slice_get cs i ≡ Some None → 1 ≤ count_by is_none cs
waiting_one [] i h = none_some {X = Option Ending} None h
waiting_one (c ∷ cs) zero h =
    let same : c ≡ None = cc in
    let head : ◌≡◌ {A = ℕ} (cond (is_none c) 1 0) 1 = ap (λ (o : Option Ending). cond (is_none o) 1 0) same in
    omega (arith, sum_by-cons (λ (o : Option Ending). cond (is_none o) 1 0) c cs, head)
waiting_one (c ∷ cs) (suc i) h = omega (arith, sum_by-cons (λ (o : Option Ending). cond (is_none o) 1 0) c cs, waiting_one cs i h)

one_less : (cs : List (Option Ending)) (i : ℕ) (e : Ending) → slice_get cs i ≡ Some None → count_by is_none (set cs i (Some e)) + 1 ≡ count_by is_none cs
one_less [] i e h = none_some {X = Option Ending} None h
one_less (c ∷ cs) zero e h =
    let same : c ≡ None = cc in
    let head : ◌≡◌ {A = ℕ} (cond (is_none c) 1 0) 1 = ap (λ (o : Option Ending). cond (is_none o) 1 0) same in
    omega (arith, sum_by-cons (λ (o : Option Ending). cond (is_none o) 1 0) c cs, sum_by-cons (λ (o : Option Ending). cond (is_none o) 1 0) (Some e) cs, head)
one_less (c ∷ cs) (suc i) e h =
    omega (arith, sum_by-cons (λ (o : Option Ending). cond (is_none o) 1 0) c cs, sum_by-cons (λ (o : Option Ending). cond (is_none o) 1 0) c (set cs i (Some e)), one_less cs i e h)

pub row_waits : {k : Call} {g : List PartOutcome} {parts sent waiting : ℕ} (i : ℕ) → IsRow k g parts sent waiting → slice_get (came g k) i ≡ Some None → 1 ≤ waiting
row_waits {k} {g} i r h = let one = waiting_one (came g k) i h in omega (arith, r.still_waiting)

pub row_came : {k k' : Call} {g g' : List PartOutcome} {parts sent waiting : ℕ} (i : ℕ) (e : Ending) → IsRow k g parts sent waiting → slice_get (came g k) i ≡ Some None → Gathers g' k' → came g' k' ≡ set (came g k) i (Some e) →
    IsRow k' g' parts sent (waiting - 1)
row_came {k} {k'} {g} {g'} {parts} {sent} {waiting} i e r h gathers is = record {
  gathers = gathers;
  all_parts = r.all_parts ∙ sym (ap (length {A = Option Ending}) is ∙ length-set (came g k) i (Some e));
  few = r.few;
  sent_of_them = r.sent_of_them;
  still_waiting =
      let less = one_less (came g k) i e h in
      let as_set : count_by is_none (came g' k') ≡ count_by is_none (set (came g k) i (Some e)) = ap (count_by is_none) is in
      let was : waiting ≡ count_by is_none (came g k) = r.still_waiting in
      omega (arith, less, as_set, was);
}

abbrev none : Option Ending
none = None

pub over_is : (cs : List (Option Ending)) → (count_by is_none cs == 0) ≡ is_some (every cs)
over_is [] = refl
over_is (None ∷ cs) = some_not (count_by is_none (none ∷ cs)) (let n = sum_by-cons (λ (o : Option Ending). cond (is_none o) 1 0) none cs in omega (arith, n))
  where
    some_not : (n : ℕ) → 1 ≤ n → (n == 0) ≡ false
    some_not n h = grind (arith, nat_tests)
over_is (Some e ∷ cs) =
    ap (λ n. n == 0) (let n = sum_by-cons (λ (o : Option Ending). cond (is_none o) 1 0) (Some e) cs in let same : count_by is_none (Some e ∷ cs) ≡ count_by is_none cs = omega (arith, n) in same)
    ∙ over_is cs ∙ go (every cs)
  where
    go : (o : Option (List Ending)) → is_some o ≡ is_some (option_map (λ (ys : List Ending). e ∷ ys) o)
    go None = refl
    go (Some x) = refl

pub over_row : {k : Call} {g : List PartOutcome} {parts sent waiting : ℕ} → IsRow k g parts sent waiting → (waiting == 0) ≡ is_some (every (came g k))
over_row {k} {g} r = ap (λ n. n == 0) r.still_waiting ∙ over_is (came g k)
