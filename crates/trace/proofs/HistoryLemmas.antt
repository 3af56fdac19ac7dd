-- Every account's history stands in the order of line and position.
use Rattle.std.proofs.Common.{◌≡◌, ℕ, Bool, true, false, List, [], ◌∷◌, refl, arith}
use Rattle.std.proofs.lemmas.Bool.Decides.{nat_tests}
use Rattle.std.specs.List.{AllByRecursion as Each}
use Rattle.cl_types.specs.declared.config.Config.{Config}
use Rattle.cl_types.specs.declared.line.Entry.{Entry}
use Rattle.cl_types.specs.declared.schedule.Event.{Event}
use Rattle.trace.specs.Account.{Account, is_before, with_entry, with_entries, nothing_yet}
use Rattle.trace.specs.Events.{effect, next_account, account_from, keep_all}
use Rattle.node_model.specs.Handling.{latest}
use Rattle.trace.specs.Properties.{IsInOrder}
use Rattle.trace.specs.HistoryLaws.{HistoriesAreInOrder}

-- the later entry doesn't stand before the earlier one
abbrev pub Follows : Entry → Entry → Type 0
Follows e later = is_before e.line e.position later ≡ false

-- of an entry that stands before a place, one at that place is no predecessor
not_back : (e x : Entry) → is_before e.line e.position x ≡ true → Follows x e
not_back e x before = grind (arith, nat_tests)

-- what follows an entry follows all that the entry follows
pub follows_on : (e x y : Entry) → Follows e x → Follows x y → Follows e y
follows_on e x y first second = grind (arith, nat_tests)

each_weaker : (P Q : Entry → Type 0) → ((e : Entry) → P e → Q e) → (es : List Entry) → Each P es → Each Q es
each_weaker P Q weaker [] each = tt
each_weaker P Q weaker (e ∷ es) each = (weaker e each.0, each_weaker P Q weaker es each.1)

pub each_with_entry : (P : Entry → Type 0) (e : Entry) (h : List Entry) → P e → Each P h → Each P (with_entry e h)
each_with_entry P e [] it each = (it, tt)
each_with_entry P e (x ∷ h) it each = step (is_before e.line e.position x) (each_with_entry P e h it each.1) where
  step : (b : Bool) → Each P (with_entry e h) → Each P (elim b [ true ↦ x ∷ with_entry e h | false ↦ e ∷ x ∷ h ])
  step true rest = (each.0, rest)
  step false rest = (it, each)

pub order_with_entry : (e : Entry) (h : List Entry) → IsInOrder h → IsInOrder (with_entry e h)
order_with_entry e [] order = (tt, tt)
order_with_entry e (x ∷ h) order = step (is_before e.line e.position x) refl (order_with_entry e h order.1) where
  step : (b : Bool) → is_before e.line e.position x ≡ b → IsInOrder (with_entry e h) → IsInOrder (elim b [ true ↦ x ∷ with_entry e h | false ↦ e ∷ x ∷ h ])
  step true is rest = (each_with_entry (Follows x) e h (not_back e x is) order.0, rest)
  step false is rest = ((is, each_weaker (Follows x) (Follows e) (λ y follows. follows_on e x y is follows) h order.0), order)

order_with_entries : (es h : List Entry) → IsInOrder h → IsInOrder (with_entries es h)
order_with_entries [] h order = order
order_with_entries (e ∷ es) h order = order_with_entries es (with_entry e h) (order_with_entry e h order)

order_account : (keep : List Entry → List Entry) (config : Config) (a : Account) (events : List (ℕ × Event))
    → IsInOrder a.history → IsInOrder (account_from keep config a events).history
order_account keep config a [] order = order
order_account keep config a (e ∷ es) order =
    order_account keep config (next_account keep config a e) es (order_with_entries (effect keep config a e.0 e.1).entries a.history order)

pub histories_are_in_order : HistoriesAreInOrder
histories_are_in_order config events =
    (order_account keep_all config nothing_yet events tt, order_account (latest config.node.retry) config nothing_yet events tt)
