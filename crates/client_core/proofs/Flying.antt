-- The flight follows the client's state: what is sent stands in its place, what is over is gone.
use Rattle.std.proofs.Common.{◌≡◌, ℕ, List, [], ◌∷◌, refl, ap, sym, ◌∙◌, subst, ◌⊎◌, ⊎_elim, None, Bool, true, false, cond, arith, map}
use Rattle.std.specs.Prelude.{◌==◌, ◌||◌, ◌&&◌, not, nat_lt, filter_map}
use Rattle.std.proofs.lemmas.Bool.Decides.{nat_tests}
use Rattle.std.specs.List.{cons_option, AllByRecursion as Each}
use Rattle.cl_types.specs.declared.request.Request.{Request}
use Rattle.cl_types.specs.declared.reply.Part.{Part}
use Rattle.cl_types.specs.Parts.{same_part}
use Rattle.client_model.specs.Client.{ClientPart, Standing, Unsent, InFlight, Over, Outgoing, flight, part_changed, gone_out}
use Rattle.client_retry.specs.declared.flown.Flown.{Flown}
use Rattle.client_retry.specs.Flights.{is_before, with_flown, without, sent_again}
use Rattle.client_core.specs.Fields.{flown_of, flown_among as flown}

-- parts in order, each before all that follow
abbrev pub InOrder : List ClientPart → Type 0
InOrder [] = Unit {0}
InOrder (p ∷ ps) = Each (λ (q : ClientPart). is_before p.part q.part ≡ true) ps × InOrder ps

-- the part is one of these, and stands so
abbrev pub HasStanding : Part → Standing → List ClientPart → Type 0
HasStanding p st [] = ⊥
HasStanding p st (q ∷ ps) = ((same_part q.part p ≡ true) × (q.standing ≡ st)) ⊎ ((same_part q.part p ≡ false) × HasStanding p st ps)

-- the part is one of these, and unsent
abbrev pub HasUnsent : Part → List ClientPart → Type 0
HasUnsent p ps = HasStanding p Unsent ps

-- ---- names
pub before_other : (p q : Part) → is_before p q ≡ true → same_part q p ≡ false
before_other p q h = go p.call.0 q.call.0 p.part q.part h
  where
    go : (a b x y : ℕ) → (nat_lt a b || a == b && nat_lt x y) ≡ true → (b == a && y == x) ≡ false
    go a b x y e = grind (arith, nat_tests)

pub not_before : (p q : Part) → is_before q p ≡ true → is_before p q ≡ false
not_before p q h = go p.call.0 q.call.0 p.part q.part h
  where
    go : (a b x y : ℕ) → (nat_lt b a || b == a && nat_lt y x) ≡ true → (nat_lt a b || a == b && nat_lt x y) ≡ false
    go a b x y e = grind (arith, nat_tests)

pub same_is : (p q : Part) → same_part p q ≡ true → p ≡ q
same_is p q h =
    let x : p.call.0 ≡ q.call.0 = left p.call.0 q.call.0 p.part q.part h in
    let y : p.part ≡ q.part = right p.call.0 q.call.0 p.part q.part h in
    λ i. record { call = record { 0 = x i }; part = y i }
  where
    left : (a b x y : ℕ) → (a == b && x == y) ≡ true → a ≡ b
    left a b x y e = grind (arith, nat_tests)

    right : (a b x y : ℕ) → (a == b && x == y) ≡ true → x ≡ y
    right a b x y e = grind (arith, nat_tests)

-- ---- parts that are not changed
pub unchanged : (p : Part) (f : Standing → Standing) (ps : List ClientPart) → Each (λ (q : ClientPart). is_before p q.part ≡ true) ps → map (part_changed p f) ps ≡ ps
unchanged p f [] h = refl
unchanged p f (q ∷ ps) h = λ i. record { part = q.part; request = q.request; standing = ap (λ b. cond b (f q.standing) q.standing) (before_other p q.part h.0) i } ∷ unchanged p f ps h.1 i

flown_after : (p : Part) (ps : List ClientPart) → Each (λ (q : ClientPart). is_before p q.part ≡ true) ps → Each (λ (g : Flown). is_before p g.part ≡ true) (flown ps)
flown_after p [] h = tt
flown_after p (q ∷ ps) h = go q.standing (flown_after p ps h.1)
  where
    go : (s : Standing) → Each (λ (g : Flown). is_before p g.part ≡ true) (flown ps) → Each (λ (g : Flown). is_before p g.part ≡ true) (flown (record { part = q.part; request = q.request; standing = s } ∷ ps))
    go Unsent r = r
    go (InFlight orig first last) r = (h.0, r)
    go (Over e) r = r

comes_first : (f : Flown) (gs : List Flown) → Each (λ (g : Flown). is_before f.part g.part ≡ true) gs → with_flown f gs ≡ f ∷ gs
comes_first f [] h = refl
comes_first f (g ∷ gs) h = ap (λ b. elim b as (λ z. List Flown) [ true ↦ f ∷ g ∷ gs | false ↦ g ∷ with_flown f gs ]) h.0

later_has : (q p : Part) (ps : List ClientPart) → Each (λ (x : ClientPart). is_before q x.part ≡ true) ps → HasUnsent p ps → is_before q p ≡ true
later_has q p [] h u = absurd u
later_has q p (x ∷ ps) h u = ⊎_elim
    (λ (y : (same_part x.part p ≡ true) × (x.standing ≡ Unsent)). subst (λ z. is_before q z ≡ true) (same_is x.part p y.0) h.0)
    (λ (y : (same_part x.part p ≡ false) × HasUnsent p ps). later_has q p ps h.1 y.1) u

-- ---- a part is sent
pub flown_sent : (t id : ℕ) (o : Outgoing) (ps : List ClientPart) → o.again ≡ false → InOrder ps → HasUnsent o.part ps →
    flown (map (part_changed o.part (gone_out t o)) ps) ≡ with_flown (record { part = o.part; orig = o.id; first = t; last = t }) (flown ps)
flown_sent t id o [] no_more order u = absurd u
flown_sent t id o (q ∷ ps) first_time order u = ⊎_elim here (λ (y : (same_part q.part o.part ≡ false) × HasUnsent o.part ps). there y (flown_sent t id o ps first_time order.1 y.1)) u
  where
    new : Flown
    new = record { part = o.part; orig = o.id; first = t; last = t }

    sent_now : gone_out t o Unsent ≡ InFlight o.id t t
    sent_now = ap (λ b. cond b Unsent (InFlight o.id t t)) first_time

    here : (same_part q.part o.part ≡ true) × (q.standing ≡ Unsent) → flown (map (part_changed o.part (gone_out t o)) (q ∷ ps)) ≡ with_flown new (flown (q ∷ ps))
    here y =
        let same : q.part ≡ o.part = same_is q.part o.part y.0 in
        let rest : Each (λ (x : ClientPart). is_before o.part x.part ≡ true) ps = subst (λ z. Each (λ (x : ClientPart). is_before z x.part ≡ true) ps) same order.0 in
        (λ i. flown (record { part = same i; request = q.request; standing = (ap (λ b. cond b (gone_out t o q.standing) q.standing) y.0 ∙ ap (gone_out t o) y.1 ∙ sent_now) i } ∷ unchanged o.part (gone_out t o) ps rest i))
        ∙ sym (comes_first new (flown ps) (flown_after o.part ps rest))
        ∙ ap (λ s. with_flown new (flown (record { part = q.part; request = q.request; standing = s } ∷ ps))) (sym y.1)

    there : (same_part q.part o.part ≡ false) × HasUnsent o.part ps → flown (map (part_changed o.part (gone_out t o)) ps) ≡ with_flown new (flown ps) → flown (map (part_changed o.part (gone_out t o)) (q ∷ ps)) ≡ with_flown new (flown (q ∷ ps))
    there y rec =
        ap (λ b. flown (record { part = q.part; request = q.request; standing = cond b (gone_out t o q.standing) q.standing } ∷ map (part_changed o.part (gone_out t o)) ps)) y.0
        ∙ go q.standing
      where
        go : (s : Standing) → flown (record { part = q.part; request = q.request; standing = s } ∷ map (part_changed o.part (gone_out t o)) ps) ≡ with_flown new (flown (record { part = q.part; request = q.request; standing = s } ∷ ps))
        go Unsent = rec
        go (Over e) = rec
        go (InFlight orig first last) =
            ap (λ gs. record { part = q.part; orig = orig; first = first; last = last } ∷ gs) rec
            ∙ sym (ap (λ b. elim b as (λ z. List Flown) [ true ↦ new ∷ record { part = q.part; orig = orig; first = first; last = last } ∷ flown ps | false ↦ record { part = q.part; orig = orig; first = first; last = last } ∷ with_flown new (flown ps) ]) (not_before o.part q.part (later_has q.part o.part ps order.0 y.1)))

-- ---- a part is over
-- of the parts in flight the one of this name alone has this id
abbrev pub IsNamed : Part → ℕ → ClientPart → Type 0
IsNamed p orig q = (o first last : ℕ) → q.standing ≡ InFlight o first last → (o == orig) ≡ same_part q.part p

pub flown_without : (p : Part) (orig : ℕ) (f : Standing → Standing) → ((q : Part) (r : Request) (s : Standing) → flight q r (f s) ≡ None) → (ps : List ClientPart) → Each (IsNamed p orig) ps →
    flown (map (part_changed p f) ps) ≡ without orig (flown ps)
flown_without p orig f gone [] h = refl
flown_without p orig f gone (q ∷ ps) h = go (same_part q.part p) q.standing (h.0) (flown_without p orig f gone ps h.1)
  where
    go : (b : Bool) (s : Standing) → ((o first last : ℕ) → s ≡ InFlight o first last → (o == orig) ≡ b) → flown (map (part_changed p f) ps) ≡ without orig (flown ps) →
        flown (record { part = q.part; request = q.request; standing = cond b (f s) s } ∷ map (part_changed p f) ps) ≡ without orig (flown (record { part = q.part; request = q.request; standing = s } ∷ ps))
    go true Unsent h rec = ap (λ z. map flown_of (cons_option z (filter_map (λ p. flight p.part p.request p.standing) (map (part_changed p f) ps)))) (gone q.part q.request Unsent) ∙ rec
    go true (Over e) h rec = ap (λ z. map flown_of (cons_option z (filter_map (λ p. flight p.part p.request p.standing) (map (part_changed p f) ps)))) (gone q.part q.request (Over e)) ∙ rec
    go true (InFlight o first last) h rec =
        ap (λ z. map flown_of (cons_option z (filter_map (λ p. flight p.part p.request p.standing) (map (part_changed p f) ps)))) (gone q.part q.request (InFlight o first last)) ∙ rec
        ∙ sym (ap (λ b. cond (not b) (record { part = q.part; orig = o; first = first; last = last } ∷ without orig (flown ps)) (without orig (flown ps))) (h o first last refl))
    go false Unsent h rec = rec
    go false (Over e) h rec = rec
    go false (InFlight o first last) h rec =
        ap (λ gs. record { part = q.part; orig = o; first = first; last = last } ∷ gs) rec
        ∙ sym (ap (λ b. cond (not b) (record { part = q.part; orig = o; first = first; last = last } ∷ without orig (flown ps)) (without orig (flown ps))) (h o first last refl))

-- ---- a part is sent again
pub flown_again : (t orig : ℕ) (o : Outgoing) → o.again ≡ true → (ps : List ClientPart) → Each (IsNamed o.part orig) ps →
    flown (map (part_changed o.part (gone_out t o)) ps) ≡ sent_again orig t (flown ps)
flown_again t orig o is_again [] h = refl
flown_again t orig o is_again (q ∷ ps) h = go (same_part q.part o.part) q.standing h.0 (flown_again t orig o is_again ps h.1)
  where
    go : (b : Bool) (s : Standing) → ((o' first last : ℕ) → s ≡ InFlight o' first last → (o' == orig) ≡ b) → flown (map (part_changed o.part (gone_out t o)) ps) ≡ sent_again orig t (flown ps) →
        flown (record { part = q.part; request = q.request; standing = cond b (gone_out t o s) s } ∷ map (part_changed o.part (gone_out t o)) ps) ≡ sent_again orig t (flown (record { part = q.part; request = q.request; standing = s } ∷ ps))
    go true Unsent h rec = ap (λ b. flown (record { part = q.part; request = q.request; standing = cond b Unsent (InFlight o.id t t) } ∷ map (part_changed o.part (gone_out t o)) ps)) is_again ∙ rec
    go true (Over e) h rec = rec
    go true (InFlight o' first last) h rec =
        ap (λ gs. record { part = q.part; orig = o'; first = first; last = t } ∷ gs) rec
        ∙ sym (ap (λ b. record { part = q.part; orig = o'; first = first; last = cond b t last } ∷ sent_again orig t (flown ps)) (h o' first last refl))
    go false Unsent h rec = rec
    go false (Over e) h rec = rec
    go false (InFlight o' first last) h rec =
        ap (λ gs. record { part = q.part; orig = o'; first = first; last = last } ∷ gs) rec
        ∙ sym (ap (λ b. record { part = q.part; orig = o'; first = first; last = cond b t last } ∷ sent_again orig t (flown ps)) (h o' first last refl))
