-- Lemmas on the first of a list, and on the entries of a history.
use Rattle.std.proofs.Common.{◌≡◌, List, [], ◌∷◌, ◌++◌, refl, Some, None, Option, arith}
use Rattle.std.specs.Prelude.{unwrap_or}
use Rattle.std.specs.List.{AllByRecursion as Each}
use Rattle.cl_types.specs.declared.line.Entry.{Entry}
use Rattle.trace.specs.Account.{with_entry, with_entries}
use Rattle.trace.specs.Clients.{first_of}
use Rattle.client_model.specs.Client.{first_some}
use Rattle.trace.proofs.HistoryLemmas.{each_with_entry}

pub first_of-append : {X : Type 0} (xs ys : List X) (x : X) → first_of xs ≡ Some x → first_of (xs ++ ys) ≡ Some x
first_of-append [] ys x e = grind arith
first_of-append (y ∷ xs) ys x e = e

pub first_of-append_none : {X : Type 0} (xs ys : List X) → first_of xs ≡ None → first_of (xs ++ ys) ≡ first_of ys
first_of-append_none [] ys e = refl
first_of-append_none (y ∷ xs) ys e = grind arith

pub each_first : {X : Type 0} (P : X → Type 0) (xs : List X) (x : X) → Each P xs → first_of xs ≡ Some x → P x
each_first P [] x h e = grind arith
each_first P (y ∷ xs) x h e = let r : y ≡ x = cc in rw r at h.0

pub first_case : {X : Type 0} (P : X → Type 0) (os : List (Option X)) (d : X) → Each (λ o. (x : X) → o ≡ Some x → P x) os → P d → P (unwrap_or (first_some os) d)
first_case P [] d h k = k
first_case P (None ∷ os) d h k = first_case P os d h.1 k
first_case P (Some x ∷ os) d h k = h.0 x refl

pub each_with_entries : (P : Entry → Type 0) (es h : List Entry) → Each P es → Each P h → Each P (with_entries es h)
each_with_entries P [] h k m = m
each_with_entries P (e ∷ es) h k m = each_with_entries P es (with_entry e h) k.1 (each_with_entry P e h k.0 m)
