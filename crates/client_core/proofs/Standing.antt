-- What the steps do to the calls is what they do to how the parts stand.
use Rattle.std.proofs.Common.{◌≡◌, ◌≢◌, ℕ, zero, suc, ◌+◌, ◌<◌, List, [], ◌∷◌, refl, ap, sym, ◌∙◌, subst, Some, None, Option, Bool, true, false, cond, arith, map, length, get_or, set}
use Rattle.std.specs.Prelude.{◌==◌, ◌||◌, ◌&&◌, not, nat_lt, find, option_map}
use Rattle.std.specs.List.{AllByRecursion as Each, enumerate_from}
use Rattle.std.proofs.lemmas.Bool.Decides.{nat_tests}
use Rattle.std.proofs.lemmas.List.{get_or-set_other, get_or-set_same}
use Rattle.cl_types.specs.declared.call.Call.{Call}
use Rattle.cl_types.specs.declared.request.Request.{Request}
use Rattle.cl_types.specs.declared.reply.Part.{Part}
use Rattle.client_model.specs.Cut.{cut, Ending}
use Rattle.cl_types.specs.Parts.{same_part}
use Rattle.client_model.specs.Client.{ClientCall, ClientPart, Standing, Unsent, InFlight, Over, Outgoing, call_changed, call_standing, emptied, gone_out, named, part_changed, standing_so}
use Rattle.client_retry.specs.declared.flown.Flown.{Flown}
use Rattle.client_retry.specs.Flights.{is_before, with_flown, without, sent_again, has_part}
use Rattle.client_core.specs.Held.{Held, changed, with_came, with_one_sent}
use Rattle.client_core.specs.Fields.{standing_by, standing_flown, standing_in, call_in}
use Rattle.client_core.proofs.Basics.{contrary}
use Rattle.client_core.proofs.Flying.{same_is}
use Rattle.lemmas.proofs.SameParts.{eqb_same, eqb_is}

abbrev pub part_at : ℕ → ℕ → Part
part_at n j = record { call = record { 0 = n }; part = j }

pub same_refl : (p : Part) → same_part p p ≡ true
same_refl p = go p.call.0 p.part
  where
    go : (a x : ℕ) → (a == a && x == x) ≡ true
    go a x = grind (arith, nat_tests)

-- ---- a call by how its parts stand
parts_so : (how new : Part → Standing) (n : ℕ) (q : Part) (f : Standing → Standing) → ((j : ℕ) → new (part_at n j) ≡ cond (same_part (part_at n j) q) (f (how (part_at n j))) (how (part_at n j))) → (es : List (ℕ × Request)) →
    map (standing_so new) (map (named n) es) ≡ map (part_changed q f) (map (standing_so how) (map (named n) es))
parts_so how new n q f h [] = refl
parts_so how new n q f h (e ∷ es) = λ i. record { part = part_at n e.0; request = e.1; standing = h e.0 i } ∷ parts_so how new n q f h es i

call_so : (how new : Part → Standing) (n : ℕ) (q : Part) (f : Standing → Standing) → ((j : ℕ) → new (part_at n j) ≡ cond (same_part (part_at n j) q) (f (how (part_at n j))) (how (part_at n j))) → (k : Call) →
    call_standing new (n, k) ≡ call_changed q f (call_standing how (n, k))
call_so how new n q f h k = λ i. record { number = n; call = emptied k; parts = parts_so how new n q f h (enumerate_from 0 (cut k)) i }

-- ---- finding a part in the flight
-- of the parts in flight the one of this name alone has this id
abbrev pub Only : Part → ℕ → Flown → Type 0
Only p orig g = (g.orig == orig) ≡ same_part g.part p

abbrev pub of_part : Part → List Flown → Option Flown
of_part q fs = find (λ f. same_part q f.part) fs

find_without : (p q : Part) (orig : ℕ) → same_part q p ≡ false → (fs : List Flown) → Each (Only p orig) fs → of_part q (without orig fs) ≡ of_part q fs
find_without p q orig other [] h = refl
find_without p q orig other (g ∷ fs) h = go (g.orig == orig) refl (find_without p q orig other fs h.1)
  where
    go : (b : Bool) → (g.orig == orig) ≡ b → of_part q (without orig fs) ≡ of_part q fs → of_part q (cond (not b) (g ∷ without orig fs) (without orig fs)) ≡ cond (same_part q g.part) (Some g) (of_part q fs)
    go true e rec =
        let not_it : same_part q g.part ≡ false = subst (λ z. same_part q z ≡ false) (sym (same_is g.part p (sym h.0 ∙ e))) other in
        rec ∙ sym (ap (λ b. cond b (Some g) (of_part q fs)) not_it)
    go false e rec = ap (cond (same_part q g.part) (Some g)) rec

find_with_other : (q : Part) (new : Flown) → same_part q new.part ≡ false → (fs : List Flown) → of_part q (with_flown new fs) ≡ of_part q fs
find_with_other q new other [] = ap (λ b. cond b (Some new) None) other
find_with_other q new other (g ∷ fs) = go (is_before new.part g.part) (find_with_other q new other fs)
  where
    go : (b : Bool) → of_part q (with_flown new fs) ≡ of_part q fs → of_part q (elim b as (λ z. List Flown) [ true ↦ new ∷ g ∷ fs | false ↦ g ∷ with_flown new fs ]) ≡ of_part q (g ∷ fs)
    go true rec = ap (λ b. cond b (Some new) (of_part q (g ∷ fs))) other
    go false rec = ap (cond (same_part q g.part) (Some g)) rec

find_with_same : (new : Flown) (fs : List Flown) → has_part new.part fs ≡ false → of_part new.part (with_flown new fs) ≡ Some new
find_with_same new [] h = ap (λ b. cond b (Some new) None) (same_refl new.part)
find_with_same new (g ∷ fs) h = go (is_before new.part g.part) (same_part new.part g.part) h (find_with_same new fs)
  where
    go : (b c : Bool) → (c || has_part new.part fs) ≡ false → (has_part new.part fs ≡ false → of_part new.part (with_flown new fs) ≡ Some new) →
        find (λ f. same_part new.part f.part) (elim b as (λ z. List Flown) [ true ↦ new ∷ g ∷ fs | false ↦ g ∷ with_flown new fs ]) ≡ Some new
    go true c k rec = ap (λ b. cond b (Some new) (of_part new.part (g ∷ fs))) (same_refl new.part)
    go false true k rec = absurd cc
    go false false k rec = ap (λ b. cond b (Some g) (of_part new.part (with_flown new fs))) (not_first h) ∙ rec k
      where
        not_first : (same_part new.part g.part || has_part new.part fs) ≡ false → same_part new.part g.part ≡ false
        not_first k = grind arith

-- the part in flight, last sent at moment t where it is this one
abbrev moved : Bool → ℕ → Flown → Flown
moved b t g = record g { last = cond b t g.last }

find_again : (p q : Part) (orig t : ℕ) (fs : List Flown) → Each (Only p orig) fs → of_part q (sent_again orig t fs) ≡ option_map (moved (same_part q p) t) (of_part q fs)
find_again p q orig t [] h = refl
find_again p q orig t (g ∷ fs) h = go (same_part q g.part) refl (find_again p q orig t fs h.1)
  where
    go : (b : Bool) → same_part q g.part ≡ b → of_part q (sent_again orig t fs) ≡ option_map (moved (same_part q p) t) (of_part q fs) →
        cond b (Some (moved (g.orig == orig) t g)) (of_part q (sent_again orig t fs)) ≡ option_map (moved (same_part q p) t) (cond b (Some g) (of_part q fs))
    go true e rec = ap (λ b. Some (moved b t g)) (h.0 ∙ ap (λ z. same_part z p) (sym (same_is q g.part e)))
    go false e rec = rec

-- ---- something came of a part
-- the part leaves flight
module _ (p : Part) (orig : ℕ) (fs : List Flown) (only : Each (Only p orig) fs) where
  came_at : (e : Ending) (f : Standing → Standing) (h : Held) → h.number ≡ p.call.0 → p.part < length h.came → f (standing_in fs h p) ≡ Over e → (j : ℕ) →
      standing_in (without orig fs) (with_came p.part e h) (part_at h.number j) ≡ cond (same_part (part_at h.number j) p) (f (standing_in fs h (part_at h.number j))) (standing_in fs h (part_at h.number j))
  came_at e f h number within over j = go (same_part (part_at h.number j) p) refl
    where
      sent : Bool
      sent = nat_lt j h.sent

      go : (b : Bool) → same_part (part_at h.number j) p ≡ b →
          standing_by (get_or (set h.came p.part (Some e)) j None) sent (of_part (part_at h.number j) (without orig fs)) ≡ cond b (f (standing_in fs h (part_at h.number j))) (standing_in fs h (part_at h.number j))
      go true s =
          let same : part_at h.number j ≡ p = same_is (part_at h.number j) p s in
          let at : j ≡ p.part = ap (λ (q : Part). q.part) same in
          ap (λ o. standing_by o sent (of_part (part_at h.number j) (without orig fs))) (ap (λ m. get_or (set h.came p.part (Some e)) m None) at ∙ get_or-set_same h.came p.part (Some e) None within)
          ∙ sym (ap (λ q. f (standing_in fs h q)) same ∙ over)
      go false s =
          let apart : j ≢ p.part = λ e. contrary (same_part (part_at h.number j) p) (subst (λ q. same_part q p ≡ true) (λ i. record { call = record { 0 = sym number i }; part = sym e i }) (same_refl p)) s in
          (λ i. standing_by (get_or-set_other h.came p.part j (Some e) None apart i) sent (find_without p (part_at h.number j) orig s fs only i))

  others_at : (f : Standing → Standing) (h : Held) → (h.number == p.call.0) ≡ false → (j : ℕ) →
      standing_in (without orig fs) h (part_at h.number j) ≡ cond (same_part (part_at h.number j) p) (f (standing_in fs h (part_at h.number j))) (standing_in fs h (part_at h.number j))
  others_at f h number j =
      let other : same_part (part_at h.number j) p ≡ false = ap (λ b. b && j == p.part) number in
      ap (standing_by (get_or h.came j None) (nat_lt j h.sent)) (find_without p (part_at h.number j) orig other fs only)
      ∙ sym (ap (λ b. cond b (f (standing_in fs h (part_at h.number j))) (standing_in fs h (part_at h.number j))) other)

  abbrev pub Comes : Ending → (Standing → Standing) → Held → Type 0
  Comes e f h = (h.number == p.call.0) ≡ true → (p.part < length h.came) × (f (standing_in fs h p) ≡ Over e)

  pub calls_came : (e : Ending) (f : Standing → Standing) (hs : List Held) → Each (Comes e f) hs →
      map (call_in (without orig fs)) (changed p.call.0 (with_came p.part e) hs) ≡ map (call_changed p f) (map (call_in fs) hs)
  calls_came e f [] c = refl
  calls_came e f (h ∷ hs) c = go (h.number == p.call.0) refl (calls_came e f hs c.1)
    where
      go : (b : Bool) → (h.number == p.call.0) ≡ b → map (call_in (without orig fs)) (changed p.call.0 (with_came p.part e) hs) ≡ map (call_changed p f) (map (call_in fs) hs) →
          call_in (without orig fs) (cond b (with_came p.part e h) h) ∷ map (call_in (without orig fs)) (changed p.call.0 (with_came p.part e) hs) ≡ call_changed p f (call_in fs h) ∷ map (call_changed p f) (map (call_in fs) hs)
      go true n rec =
          let this = c.0 n in
          let made = call_so (standing_in fs h) (standing_in (without orig fs) (with_came p.part e h)) h.number p f (came_at e f h (eqb_is h.number p.call.0 n) this.0 this.1) h.call in
          (λ i. made i ∷ rec i)
      go false n rec =
          let made = call_so (standing_in fs h) (standing_in (without orig fs) h) h.number p f (others_at f h n) h.call in
          (λ i. made i ∷ rec i)

  -- ---- a part is sent again
  pub calls_again : (t : ℕ) (o : Outgoing) (g : Flown) → o.again ≡ true → o.part ≡ p → of_part p fs ≡ Some g → (hs : List Held) → map (call_in (sent_again orig t fs)) hs ≡ map (call_changed p (gone_out t o)) (map (call_in fs) hs)
  calls_again t o g is_again part there [] = refl
  calls_again t o g is_again part there (h ∷ hs) = λ i. call_so (standing_in fs h) (standing_in (sent_again orig t fs) h) h.number p (gone_out t o) at h.call i ∷ calls_again t o g is_again part there hs i
    where
      by : (came : Option Ending) (sent b : Bool) (found : Option Flown) → (b ≡ true → (x : Flown) × (found ≡ Some x)) →
          standing_by came sent (option_map (moved b t) found) ≡ cond b (gone_out t o (standing_by came sent found)) (standing_by came sent found)
      by (Some e) sent true found w = refl
      by (Some e) sent false found w = refl
      by None true true (Some x) w = refl
      by None true true None w = none_is (w refl)
        where
          none_is : (x : Flown) × (◌≡◌ {A = Option Flown} None (Some x)) → InFlight 0 0 0 ≡ InFlight 0 0 t
          none_is w = absurd cc
      by None true false (Some x) w = refl
      by None true false None w = refl
      by None false true found w = sym (ap (λ b. cond b Unsent (InFlight o.id t t)) is_again)
      by None false false found w = refl

      at : (j : ℕ) → standing_in (sent_again orig t fs) h (part_at h.number j) ≡ cond (same_part (part_at h.number j) p) (gone_out t o (standing_in fs h (part_at h.number j))) (standing_in fs h (part_at h.number j))
      at j =
          ap (standing_by (get_or h.came j None) (nat_lt j h.sent)) (find_again p (part_at h.number j) orig t fs only)
          ∙ by (get_or h.came j None) (nat_lt j h.sent) (same_part (part_at h.number j) p) (of_part (part_at h.number j) fs)
          (λ s. (g, ap (λ q. of_part q fs) (same_is (part_at h.number j) p s) ∙ there))

-- ---- a part is sent for the first time
module _ (t : ℕ) (o : Outgoing) (fs : List Flown) (first_time : o.again ≡ false) (vacant : has_part o.part fs ≡ false) where
  abbrev pub new_flown : Flown
  new_flown = record { part = o.part; orig = o.id; first = t; last = t }

  sent_at : (h : Held) → h.number ≡ o.part.call.0 → o.part.part ≡ h.sent → get_or h.came h.sent None ≡ None → (j : ℕ) →
      standing_in (with_flown new_flown fs) (with_one_sent h) (part_at h.number j) ≡ cond (same_part (part_at h.number j) o.part) (gone_out t o (standing_in fs h (part_at h.number j))) (standing_in fs h (part_at h.number j))
  sent_at h number next still j = go (same_part (part_at h.number j) o.part) refl
    where
      before : (j sent : ℕ) → j ≢ sent → nat_lt j (sent + 1) ≡ nat_lt j sent
      before j sent ne = grind (arith, nat_tests)

      now : (j sent : ℕ) → j ≡ sent → nat_lt j (sent + 1) ≡ true
      now j sent e = grind (arith, nat_tests)

      not_yet : (j sent : ℕ) → j ≡ sent → nat_lt j sent ≡ false
      not_yet j sent e = grind (arith, nat_tests)

      go : (b : Bool) → same_part (part_at h.number j) o.part ≡ b →
          standing_by (get_or h.came j None) (nat_lt j (h.sent + 1)) (of_part (part_at h.number j) (with_flown new_flown fs)) ≡ cond b (gone_out t o (standing_in fs h (part_at h.number j))) (standing_in fs h (part_at h.number j))
      go true s =
          let same : part_at h.number j ≡ o.part = same_is (part_at h.number j) o.part s in
          let at : j ≡ h.sent = ap (λ (q : Part). q.part) same ∙ next in
          let none : get_or h.came j None ≡ None = ap (λ m. get_or h.came m None) at ∙ still in
          (λ i. standing_by (none i) (now j h.sent at i) ((ap (λ q. of_part q (with_flown new_flown fs)) same ∙ find_with_same new_flown fs vacant) i))
          ∙ sym (ap (gone_out t o) (λ i. standing_by (none i) (not_yet j h.sent at i) (of_part (part_at h.number j) fs)) ∙ ap (λ b. cond b Unsent (InFlight o.id t t)) first_time)
      go false s =
          let apart : j ≢ h.sent = λ e. contrary (same_part (part_at h.number j) o.part) (subst (λ q. same_part q o.part ≡ true) (λ i. record { call = record { 0 = sym number i }; part = (next ∙ sym e) i }) (same_refl o.part)) s in
          (λ i. standing_by (get_or h.came j None) (before j h.sent apart i) (find_with_other (part_at h.number j) new_flown s fs i))

  unsent_at : (h : Held) → (h.number == o.part.call.0) ≡ false → (j : ℕ) →
      standing_in (with_flown new_flown fs) h (part_at h.number j) ≡ cond (same_part (part_at h.number j) o.part) (gone_out t o (standing_in fs h (part_at h.number j))) (standing_in fs h (part_at h.number j))
  unsent_at h number j =
      let other : same_part (part_at h.number j) o.part ≡ false = ap (λ b. b && j == o.part.part) number in
      ap (standing_by (get_or h.came j None) (nat_lt j h.sent)) (find_with_other (part_at h.number j) new_flown other fs)
      ∙ sym (ap (λ b. cond b (gone_out t o (standing_in fs h (part_at h.number j))) (standing_in fs h (part_at h.number j))) other)

  abbrev pub Next : Held → Type 0
  Next h = (h.number == o.part.call.0) ≡ true → (o.part.part ≡ h.sent) × (get_or h.came h.sent None ≡ None)

  pub calls_sent : (hs : List Held) → Each Next hs →
      map (call_in (with_flown new_flown fs)) (changed o.part.call.0 with_one_sent hs) ≡ map (call_changed o.part (gone_out t o)) (map (call_in fs) hs)
  calls_sent [] c = refl
  calls_sent (h ∷ hs) c = go (h.number == o.part.call.0) refl (calls_sent hs c.1)
    where
      go : (b : Bool) → (h.number == o.part.call.0) ≡ b → map (call_in (with_flown new_flown fs)) (changed o.part.call.0 with_one_sent hs) ≡ map (call_changed o.part (gone_out t o)) (map (call_in fs) hs) →
          call_in (with_flown new_flown fs) (cond b (with_one_sent h) h) ∷ map (call_in (with_flown new_flown fs)) (changed o.part.call.0 with_one_sent hs) ≡ call_changed o.part (gone_out t o) (call_in fs h) ∷ map (call_changed o.part (gone_out t o)) (map (call_in fs) hs)
      go true n rec =
          let this = c.0 n in
          let made = call_so (standing_in fs h) (standing_in (with_flown new_flown fs) (with_one_sent h)) h.number o.part (gone_out t o) (sent_at h (eqb_is h.number o.part.call.0 n) this.0 this.1) h.call in
          (λ i. made i ∷ rec i)
      go false n rec =
          let made = call_so (standing_in fs h) (standing_in (with_flown new_flown fs) h) h.number o.part (gone_out t o) (unsent_at h n) h.call in
          (λ i. made i ∷ rec i)
