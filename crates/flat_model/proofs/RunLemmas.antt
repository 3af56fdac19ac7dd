-- Steps and runs of the flat machine.
use Rattle.std.proofs.Common.{◌≡◌, ℕ, zero, suc, ◌%◌, ◌==◌, Bool, true, false, cond, List, [], ◌∷◌, ◌++◌, refl, sym, ap, ◌∙◌, Option, Some, None, Ok, Err, slice_get, slice_set, arith}
use Rattle.std.proofs.lemmas.Bool.Decides.{nat_tests}
use Rattle.cl_types.specs.Requests.{is_changing}
use Rattle.cl_types.specs.declared.line.Entry.{Entry}
use Rattle.cl_types.specs.declared.request.Request.TheVariants as request
use Rattle.flat_model.specs.Objects.{Object, KvObject, Pairs, Given, kv_step, object_step}
use Rattle.flat_model.specs.State.{FlatState}
use Rattle.flat_model.specs.Step.{given, on_object}
use Rattle.flat_model.specs.Run.{after, after_entry, changing_of, IsRunFrom}
use Rattle.flat_model.specs.RunLaws.{StateAfterIsFixed, ReadingChangesNothing, ChangingEntriesSuffice, RunsSplit}
use Rattle.flat_model.proofs.CheckLemmas.{read_keeps}

pub state_after_is_fixed : StateAfterIsFixed
state_after_is_fixed s pid request reply new other step step' = step.after ∙ sym step'.after

-- ---- reading requests
pub set_same : {A : Type 0} (xs : List A) (i : ℕ) (x : A) → slice_get xs i ≡ Some x → slice_set xs i x ≡ xs
set_same [] i x there = refl
set_same (y ∷ xs) zero x there = cc there
set_same (y ∷ xs) (suc i) x there = ap (λ ys. y ∷ ys) (set_same xs i x there)

-- an even operation leaves the object
even_keeps : (records : ℕ) (pairs : Pairs) (op : ℕ) (bytes answer : List ℕ) (object : Object)
    → op % 2 == 1 ≡ false → kv_step records pairs op bytes ≡ Ok (answer, object) → object ≡ KvObject records pairs
even_keeps records pairs op bytes answer object even is = grind (arith, nat_tests)

even_step : (object new : Object) (op : ℕ) (bytes answer : List ℕ)
    → op % 2 == 1 ≡ false → object_step object op bytes ≡ Ok (answer, new) → new ≡ object
even_step (KvObject records pairs) new op bytes answer even is = even_keeps records pairs op bytes answer new even is

given_keeps : (s : FlatState) (number out : ℕ) (object : Object) (g : Given) → slice_get s.objects number ≡ Some object
    → ((answer : List ℕ) (new : Object) → g ≡ Ok (answer, new) → new ≡ object) → (given s number out g).state ≡ s
given_keeps s number out object (Err refusal) there same = refl
given_keeps s number out object (Ok (answer, new)) there same =
    let kept : slice_set s.objects number new ≡ s.objects = rw (same answer new refl) (set_same s.objects number object there) in
    ap (λ (objects : List Object). record s { objects = objects }) kept

object_keeps : (s : FlatState) (number op out : ℕ) (bytes : List ℕ) (found : Option Object)
    → slice_get s.objects number ≡ found → op % 2 == 1 ≡ false → (on_object s number op out bytes found).state ≡ s
object_keeps s number op out bytes None there even = refl
object_keeps s number op out bytes (Some object) there even =
    given_keeps s number out object (object_step object op bytes) there (λ answer new is. even_step object new op bytes answer even is)

pub reading_keeps : ReadingChangesNothing
reading_keeps s pid (request.Alloc n perm) reply reading = absurd cc
reading_keeps s pid (request.Free addr n) reply reading = absurd cc
reading_keeps s pid (request.Read addr n) reply reading = read_keeps s pid addr n
reading_keeps s pid (request.Write addr bytes) reply reading = absurd cc
reading_keeps s pid (request.Atomic addr op) reply reading = absurd cc
reading_keeps s pid (request.Offload number op out bytes) reply reading =
    object_keeps s number op out bytes (slice_get s.objects number) refl reading

-- ---- runs
after_choice : (s : FlatState) (e : Entry) (es : List Entry) (b : Bool) → is_changing e.request ≡ b
    → ((t : FlatState) → after t (changing_of es) ≡ after t es)
    → after s (cond b (e ∷ changing_of es) (changing_of es)) ≡ after (after_entry s e) es
after_choice s e es true is rest = rest (after_entry s e)
after_choice s e es false is rest = rest s ∙ ap (λ t. after t es) (sym (reading_keeps s e.pid e.request e.reply is))

pub after_changing : ChangingEntriesSuffice
after_changing s [] = refl
after_changing s (e ∷ es) = after_choice s e es (is_changing e.request) refl (λ t. after_changing t es)

pub after-append : (s : FlatState) (front back : List Entry) → after s (front ++ back) ≡ after (after s front) back
after-append s [] back = refl
after-append s (e ∷ front) back = after-append (after_entry s e) front back

pub run_append : (s : FlatState) (front back : List Entry) → IsRunFrom s front → IsRunFrom (after s front) back → IsRunFrom s (front ++ back)
run_append s [] back first second = second
run_append s (e ∷ front) back first second = (first.0, run_append (after_entry s e) front back first.1 second)

pub run_split : (s : FlatState) (front back : List Entry) → IsRunFrom s (front ++ back) → IsRunFrom s front × IsRunFrom (after s front) back
run_split s [] back run = (tt, run)
run_split s (e ∷ front) back run =
    let rest = run_split (after_entry s e) front back run.1 in ((run.0, rest.0), rest.1)

pub runs_split : RunsSplit
runs_split s front back = (run_split s front back, λ both. run_append s front back both.0 both.1)
