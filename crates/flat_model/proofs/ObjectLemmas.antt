-- What a checked operation of an object is of the whole machine.
use Rattle.std.proofs.Common.{IfOk, IfSome, Result, ◌≡◌, ◌≤◌, ◌<◌, ◌↔◌, ℕ, zero, suc, Bool, true, false, IsTrue, List, [], ◌∷◌, length, Option, Some, None, Ok, Err, slice_get, slice_set, refl, sym, ap, subst, ◌∙◌, arith, if◌then◌else◌}
use Rattle.std.proofs.lemmas.Option.{slice_get_past}
use Rattle.std.proofs.lemmas.Result.{IfOk-weaker}
use Rattle.cl_types.specs.declared.items.NoMemory.{NoMemory}
use Rattle.cl_types.specs.declared.reply.Refusal.TheVariants.{NoOffload}
use Rattle.cl_types.specs.declared.reply.Reply.{Reply}
use Rattle.cl_types.specs.declared.reply.Reply.TheVariants.{Refused}
use Rattle.flat_model.specs.Checks.{Checks, ChecksObject, ChecksOne, reply_given, object_given}
use Rattle.flat_model.specs.Objects.{Object, Given, object_step}
use Rattle.flat_model.specs.State.{FlatState}
use Rattle.flat_model.specs.Step.{Transition, given, offload, on_object}
use Rattle.flat_model.proofs.CheckLemmas.{checks_refused}
use Rattle.flat_model.proofs.RunLemmas.{set_same}

module _ (s : FlatState) (number out : ℕ) (object : Object) (there : slice_get s.objects number ≡ Some object) where
  given_reply : (g : Given) → (given s number out g).reply ≡ reply_given out g
  given_reply (Err refusal) = refl
  given_reply (Ok (answer, new)) = refl

  given_state : (g : Given) → (given s number out g).state ≡ record s { objects = slice_set s.objects number (object_given object g) }
  given_state (Err refusal) = ap (λ (os : List Object). record s { objects = os }) (sym (set_same s.objects number object there))
  given_state (Ok (answer, new)) = refl

  after_given : (g : Given) (may : Bool) (new : Object) → new ≡ (if may then object_given object g else object)
      → record s { objects = slice_set s.objects number new } ≡ (if may then (given s number out g).state else s)
  after_given g true new is = ap (λ (o : Object). record s { objects = slice_set s.objects number o }) is ∙ sym (given_state g)
  after_given g false new is =
      ap (λ (o : Object). record s { objects = slice_set s.objects number o }) is
      ∙ ap (λ (os : List Object). record s { objects = os }) (set_same s.objects number object there)

  -- an operation of the object is one of the machine
  checks_given : (g : Given) (reply : Reply) (may : Bool) (new : Object) → ChecksObject object g out reply may new
      → Checks s (given s number out g) reply may (record s { objects = slice_set s.objects number new })
  checks_given g reply may new checks = record {
    allowed = subst (λ r. IsTrue may ↔ (reply ≡ r)) (sym (given_reply g)) checks.allowed;
    after = after_given g may new checks.after;
  }

  pub checks_offload : (op : ℕ) (bytes : List ℕ) (reply : Reply) (may : Bool) (rest : List Object) → ChecksOne s.objects number object op bytes out reply may rest
      → Checks s (offload s number op out bytes) reply may (record s { objects = rest })
  checks_offload op bytes reply may rest one =
      subst (λ (o : Transition). Checks s o reply may (record s { objects = rest })) (ap (on_object s number op out bytes) (sym there))
      (subst (λ (os : List Object). Checks s (given s number out (object_step object op bytes)) reply may (record s { objects = os })) (sym one.set)
      (checks_given (object_step object op bytes) reply may one.new one.checks))

pub checks_no_offload : (s : FlatState) (number op out : ℕ) (bytes : List ℕ) (reply : Reply) (may : Bool) → length s.objects ≤ number → IsTrue may ↔ (reply ≡ Refused NoOffload)
    → Checks s (offload s number op out bytes) reply may s
checks_no_offload s number op out bytes reply may past test =
    checks_refused s (offload s number op out bytes) reply NoOffload may (ap (on_object s number op out bytes) (slice_get_past s.objects number past)) test

is_there : {A : Type 0} (xs : List A) (i : ℕ) → i < length xs → slice_get xs i ≡ None → ⊥
is_there [] i within none = absurd (omega (arith, within))
is_there (x ∷ xs) zero within none = cc none
is_there (x ∷ xs) (suc i) within none = is_there xs i (omega (arith, within)) none

module _ (was : FlatState) (number op out : ℕ) (bytes : List ℕ) (reply : Reply) (rest : List Object) where
  at_object : number < length was.objects → (may : Bool) (found : Option Object) → slice_get was.objects number ≡ found → IfSome found (λ object. ChecksOne was.objects number object op bytes out reply may rest)
      → Checks was (offload was number op out bytes) reply may (record was { objects = rest })
  at_object within may None there one = absurd (is_there was.objects number within there)
  at_object within may (Some object) there one = checks_offload was number out object there op bytes reply may rest one

  -- what a list of objects says of one is what the machine says of an offload
  pub checks_from_one : (s : FlatState) → was ≡ s → number < length s.objects → (result : Result Bool NoMemory)
      → IfOk result (λ may. IfSome (slice_get was.objects number) (λ object. ChecksOne was.objects number object op bytes out reply may rest))
      → IfOk result (λ may. Checks s (offload s number op out bytes) reply may (record was { objects = rest }))
  checks_from_one s same inside result one =
      let within : number < length was.objects = subst (λ (t : FlatState). number < length t.objects) (sym same) inside in
      subst (λ (t : FlatState). IfOk result (λ may. Checks t (offload t number op out bytes) reply may (record was { objects = rest }))) same
      (IfOk-weaker result (λ may. IfSome (slice_get was.objects number) (λ object. ChecksOne was.objects number object op bytes out reply may rest))
      (λ may. Checks was (offload was number op out bytes) reply may (record was { objects = rest })) (λ may h. at_object within may (slice_get was.objects number) refl h) one)
