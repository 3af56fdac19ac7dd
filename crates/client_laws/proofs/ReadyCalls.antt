-- A client of an account lets a call go exactly where it depends on none of the calls that have not ended.
use Rattle.std.proofs.Common.{◌≡◌, ℕ, zero, suc, ◌+◌, List, [], ◌∷◌, refl, ap, sym, ◌∙◌, subst, Some, Bool, true, false, cond, arith, map}
use Rattle.std.specs.Prelude.{filter, ◌&&◌, not, nat_lt, slice_get}
use Rattle.std.specs.List.{list_all}
use Rattle.std.proofs.lemmas.Bool.Decides.{nat_tests}
use Rattle.cl_types.specs.declared.numbers.ClientNo.{ClientNo}
use Rattle.cl_types.specs.declared.config.Config.{Config}
use Rattle.cl_types.specs.declared.call.Call.{Call}
use Rattle.cl_types.specs.declared.call.Call.TheVariants as call
use Rattle.client_model.specs.Order.{Footprint, footprint, waits_for, may_go}
use Rattle.trace.specs.Account.{Account, nothing_yet}
use Rattle.client_model.specs.Client.{ClientCall, emptied, call_standing, prints}
use Rattle.trace.specs.Clients.{issued, numbered, standing_at, has_ended, client_at}
use Rattle.trace.specs.Events.{account_from}
use Rattle.client_laws.specs.Readiness.{WaitsForNone, runs, ReadyInAccounts}
use Rattle.client_laws.proofs.Fences.{Followed, followed, runs_is, standing_calls, standing_place}
use Rattle.client_laws.proofs.Readiness.{ready_means, means_ready}
use Rattle.lemmas.proofs.SameParts.{and_left, and_right}
use Rattle.client_model.proofs.Buffers.{print_emptied}

-- ---- what holds of all that pass a test
all_passes : {Y Z : Type 0} (T : Z → Bool) (f : Y → Z) (test : Y → Bool) (ys : List Y) → list_all T (map f (filter test ys)) ≡ true → (m : ℕ) (y : Y) → slice_get ys m ≡ Some y → test y ≡ true → T (f y) ≡ true
all_passes T f test [] h m y at_place passes = grind arith
all_passes {Y} {Z} T f test (x ∷ ys) h zero y at_place passes = go (test x) (let same : x ≡ y = cc in subst (λ (z : Y). test z ≡ true) (sym same) passes) h where
  go : (b : Bool) → b ≡ true → list_all T (map f (cond b (x ∷ filter test ys) (filter test ys))) ≡ true → T (f y) ≡ true
  go true t h = let same : x ≡ y = cc in subst (λ (z : Y). T (f z) ≡ true) same (and_left (T (f x)) (list_all T (map f (filter test ys))) h)
  go false t h = grind arith
all_passes {Y} {Z} T f test (x ∷ ys) h (suc m) y at_place passes = all_passes T f test ys (go (test x) h) m y at_place passes where
  go : (b : Bool) → list_all T (map f (cond b (x ∷ filter test ys) (filter test ys))) ≡ true → list_all T (map f (filter test ys)) ≡ true
  go true h = and_right (T (f x)) (list_all T (map f (filter test ys))) h
  go false h = h

passes_all : {Y Z : Type 0} (T : Z → Bool) (f : Y → Z) (test : Y → Bool) (ys : List Y) → ((m : ℕ) (y : Y) → slice_get ys m ≡ Some y → test y ≡ true → T (f y) ≡ true) → list_all T (map f (filter test ys)) ≡ true
passes_all T f test [] h = refl
passes_all {Y} {Z} T f test (x ∷ ys) h = go (test x) refl (passes_all T f test ys (λ m. h (suc m))) where
  both : (a b : Bool) → a ≡ true → b ≡ true → (a && b) ≡ true
  both true b e f = f
  both false b e f = grind arith

  go : (b : Bool) → test x ≡ b → list_all T (map f (filter test ys)) ≡ true → list_all T (map f (cond b (x ∷ filter test ys) (filter test ys))) ≡ true
  go true t rest = both (T (f x)) (list_all T (map f (filter test ys))) (h zero x refl t) rest
  go false t rest = rest

-- ---- the calls of the account
-- it is not earlier and waited for
abbrev Lets : ℕ → Footprint → ℕ × Footprint → Bool
Lets n print other = not (nat_lt other.0 n && waits_for other.1 print)

lets_not : (b w : Bool) → b ≡ true → not (b && w) ≡ true → w ≡ false
lets_not true true e h = grind arith
lets_not true false e h = refl
lets_not false w e h = grind arith

not_lets : (b w : Bool) → (b ≡ true → w ≡ false) → not (b && w) ≡ true
not_lets true true h = let z : true ≡ false = h refl in grind arith
not_lets true false h = refl
not_lets false w h = refl

pub goes_waits : (config : Config) (a : Account) (c : ClientNo) (n : ℕ) (k : Footprint) (call : Call) → footprint call ≡ k → may_go (prints (client_at config a c).calls) (n + 1, k) ≡ true → WaitsForNone (issued a c) (runs a c) n call
goes_waits config a c n k call is goes m x at_place less running =
    let passes = all_passes (Lets (n + 1) k) (λ (j : ClientCall). (j.number, footprint j.call)) (λ (j : ClientCall). not (has_ended a c j)) (map (call_standing (standing_at a c)) (numbered a c)) goes
    m (call_standing (standing_at a c) (m + 1, x)) (standing_calls (call_standing (standing_at a c)) 1 (issued a c) m x at_place) (sym (runs_is a c m x at_place) ∙ running) in
    (λ i. waits_for (sym (print_emptied x) i) (is i)) ∙ lets_not (nat_lt (m + 1) (n + 1)) (waits_for (footprint (emptied x)) k) (grind (arith, nat_tests)) passes

waits_goes : (config : Config) (a : Account) (c : ClientNo) (n : ℕ) (call : Call) → WaitsForNone (issued a c) (runs a c) n call → may_go (prints (client_at config a c).calls) (n + 1, footprint call) ≡ true
waits_goes config a c n call waits =
    passes_all (Lets (n + 1) (footprint call)) (λ (j : ClientCall). (j.number, footprint j.call)) (λ (j : ClientCall). not (has_ended a c j)) (map (call_standing (standing_at a c)) (numbered a c))
    (λ m y at_place running. lets m y (standing_place (call_standing (standing_at a c)) 1 (issued a c) m y at_place) running)
  where
    lets : (m : ℕ) (y : ClientCall) → ((x : Call) × (slice_get (issued a c) m ≡ Some x) × (y ≡ call_standing (standing_at a c) (m + 1, x))) → not (has_ended a c y) ≡ true → Lets (n + 1) (footprint call) (y.number, footprint y.call) ≡ true
    lets m y x running =
        let still : runs a c m ≡ true = runs_is a c m x.0 x.1 ∙ ap (λ (j : ClientCall). not (has_ended a c j)) (sym x.2) ∙ running in
        subst (λ (j : ClientCall). Lets (n + 1) (footprint call) (j.number, footprint j.call) ≡ true) (sym x.2)
        (not_lets (nat_lt (m + 1) (n + 1)) (waits_for (footprint (emptied x.0)) (footprint call))
        (λ earlier. (λ i. waits_for (print_emptied x.0 i) (footprint call)) ∙ waits m x.0 x.1 (grind (arith, nat_tests)) still))

pub ready_in_accounts : ReadyInAccounts
ready_in_accounts keep config events c n k at_place =
    let a : Account = account_from keep config nothing_yet events in
    let h : Followed (account_from keep config nothing_yet events) c = followed keep config events c in (
      λ goes. ready_means (issued a c) (runs a c) n k at_place h.fences (goes_waits config a c n (footprint k) k refl goes),
      λ none. waits_goes config a c n k (means_ready (issued a c) (runs a c) n k at_place none),
    )
