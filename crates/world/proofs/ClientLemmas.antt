-- A client is found by its number, and changed in its place.
use Rattle.std.proofs.Common.{◌≡◌, ℕ, zero, suc, Bool, true, false, cond, List, [], ◌∷◌, Some, None, refl, sym, ap, ◌∙◌, subst, set}
use Rattle.std.specs.Prelude.{Option, IfSome, is_some, option_and_then, slice_get, ◌==◌, ◌||◌}
use Rattle.std.specs.List.{list_any}
use Rattle.std.specs.Map.{keys_of, lookup, values_of}
use Rattle.cl_types.specs.declared.numbers.ClientNo.{ClientNo}
use Rattle.client_model.specs.Apart.{AreApart}
use Rattle.client_model.specs.Client.{ClientState}
use Rattle.indexmap.specs.IndexMap.{set_value_at}
use Rattle.world.specs.Fields.{numbers_of}
use Rattle.world.specs.Worlds.{client_in, with_client}
use Rattle.std.proofs.lemmas.Bool.{eq-eqb as same_number}
use Rattle.lemmas.proofs.SameParts.{eqb_turned as turned}

-- ---- clients under their numbers
-- a look-up by the number finds the client of the number
pub found_under : (entries : List (ℕ × ClientState)) (c : ClientNo) → keys_of entries ≡ numbers_of (values_of entries) → lookup (λ n. c.0 == n) entries ≡ client_in (values_of entries) c
found_under [] c keyed = refl
found_under (e ∷ entries) c keyed =
    let own : e.0 ≡ e.1.client.0 = cc in
    let rest : keys_of entries ≡ numbers_of (values_of entries) = cc in
    λ i. cond (c.0 == own i) (Some e.1) (found_under entries c rest i)

-- what stands at the place that was found is what was looked for
pub at_place : (at : Option ℕ) (clients : List ClientState) (o : Option ClientState) → is_some at ≡ is_some o → IfSome at (λ k. slice_get clients k ≡ o) → option_and_then (slice_get clients) at ≡ o
at_place None clients None found value = refl
at_place None clients (Some s) found value = absurd cc
at_place (Some k) clients o found value = value

-- a client that is changed in its place stands in that place of the list
pub written : (entries : List (ℕ × ClientState)) (at : ℕ) (new : ClientState) → values_of (set_value_at entries at new) ≡ set (values_of entries) at new
written [] at new = refl
written (e ∷ entries) zero new = refl
written (e ∷ entries) (suc at) new = ap (λ xs. e.1 ∷ xs) (written entries at new)

-- each stands under its number after it too
pub keyed_after : (entries : List (ℕ × ClientState)) (at : ℕ) (s new : ClientState) → slice_get (values_of entries) at ≡ Some s → new.client ≡ s.client → keys_of entries ≡ numbers_of (values_of entries)
    → keys_of (set_value_at entries at new) ≡ numbers_of (values_of (set_value_at entries at new))
keyed_after [] at s new there same keyed = refl
keyed_after (e ∷ entries) zero s new there same keyed =
    let is : e.1 ≡ s = cc in
    let own : e.0 ≡ e.1.client.0 = cc in
    let rest : keys_of entries ≡ numbers_of (values_of entries) = cc in
    let number : e.0 ≡ new.client.0 = own ∙ ap (λ (y : ClientState). y.client.0) is ∙ ap (λ c. c.0) (sym same) in
    λ i. number i ∷ rest i
keyed_after (e ∷ entries) (suc at) s new there same keyed =
    let own : e.0 ≡ e.1.client.0 = cc in
    let rest : keys_of entries ≡ numbers_of (values_of entries) = cc in
    λ i. own i ∷ keyed_after entries at s new there same rest i

-- no client of the rest has the number
none_changed : (new : ClientState) (clients : List ClientState) → list_any (λ m. m == new.client.0) (numbers_of clients) ≡ false → with_client new clients ≡ clients
none_changed new [] h = refl
none_changed new (s ∷ clients) h = go (s.client.0 == new.client.0) refl h (none_changed new clients) where
  go : (b : Bool) → (s.client.0 == new.client.0) ≡ b → (b || list_any (λ m. m == new.client.0) (numbers_of clients)) ≡ false
      → (list_any (λ m. m == new.client.0) (numbers_of clients) ≡ false → with_client new clients ≡ clients) → with_client new (s ∷ clients) ≡ s ∷ clients
  go true is h rest = absurd cc
  go false is h rest = (λ i. cond (turned s.client.0 new.client.0 is i) new s ∷ with_client new clients) ∙ ap (λ xs. s ∷ xs) (rest h)

-- a client of the rest has another number
apart_from : (clients : List ClientState) (at n : ℕ) (s : ClientState) → slice_get clients at ≡ Some s → list_any (λ m. m == n) (numbers_of clients) ≡ false → (s.client.0 == n) ≡ false
apart_from [] at n s there apart = absurd cc
apart_from (x ∷ clients) zero n s there apart = let is : x ≡ s = cc in ap (λ (y : ClientState). y.client.0 == n) (sym is) ∙ no_first (x.client.0 == n) apart where
  no_first : (b : Bool) → (b || list_any (λ m. m == n) (numbers_of clients)) ≡ false → b ≡ false
  no_first true h = absurd cc
  no_first false h = refl
apart_from (x ∷ clients) (suc at) n s there apart = apart_from clients at n s there (rest (x.client.0 == n) apart) where
  rest : (b : Bool) → (b || list_any (λ m. m == n) (numbers_of clients)) ≡ false → list_any (λ m. m == n) (numbers_of clients) ≡ false
  rest true h = absurd cc
  rest false h = h

-- the client in its place is the only one that is changed
pub changed_at : (clients : List ClientState) (at : ℕ) (s new : ClientState) → slice_get clients at ≡ Some s → new.client ≡ s.client → AreApart (numbers_of clients)
    → with_client new clients ≡ set clients at new
changed_at [] at s new there same apart = absurd cc
changed_at (x ∷ clients) zero s new there same apart =
    let is : x ≡ s = cc in
    let number : new.client.0 ≡ x.client.0 = ap (λ c. c.0) same ∙ ap (λ (y : ClientState). y.client.0) (sym is) in
    (λ i. cond (same_number new.client.0 x.client.0 number i) new x ∷ with_client new clients)
    ∙ ap (λ xs. new ∷ xs) (none_changed new clients (subst (λ n. list_any (λ m. m == n) (numbers_of clients) ≡ false) (sym number) apart.0))
changed_at (x ∷ clients) (suc at) s new there same apart =
    let other : (new.client.0 == x.client.0) ≡ false = ap (λ c. c.0 == x.client.0) same ∙ apart_from clients at x.client.0 s there apart.0 in
    (λ i. cond (other i) new x ∷ with_client new clients) ∙ ap (λ xs. x ∷ xs) (changed_at clients at s new there same apart.1)

-- a client in its own place changes nothing
pub same_at : (clients : List ClientState) (at : ℕ) (s : ClientState) → slice_get clients at ≡ Some s → set clients at s ≡ clients
same_at [] at s there = absurd cc
same_at (x ∷ clients) zero s there = let is : x ≡ s = cc in ap (λ y. y ∷ clients) (sym is)
same_at (x ∷ clients) (suc at) s there = ap (λ xs. x ∷ xs) (same_at clients at s there)
