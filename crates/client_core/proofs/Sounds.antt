-- Each step leaves the fields sound, and the state that they stand for is the one that the machine comes to.
use Rattle.std.proofs.Common.{◌≡◌, ◌≢◌, ℕ, zero, suc, ◌+◌, ◌-◌, ◌<◌, ◌≤◌, List, [], ◌∷◌, ◌++◌, refl, ap, sym, ◌∙◌, subst, Some, None, Option, Bool, true, false, cond, arith, map, length, get_or, set}
use Rattle.std.specs.Prelude.{◌==◌, ◌||◌, ◌&&◌, nat_lt, find, filter, filter_map, is_none, slice_get, sum_by}
use Rattle.std.specs.List.{AllByRecursion as Each, list_any}
use Rattle.std.proofs.lemmas.Bool.Decides.{nat_tests}
use Rattle.std.proofs.lemmas.List.{get_or-set_other, length-map, length-set}
use Rattle.std.proofs.lemmas.Option.{slice_get_within}
use Rattle.cl_types.specs.declared.numbers.ClientNo.{ClientNo}
use Rattle.cl_types.specs.declared.request.Request.{Request}
use Rattle.cl_types.specs.declared.reply.Part.{Part}
use Rattle.client_model.specs.Cut.{cut, Ending}
use Rattle.cl_types.specs.Parts.{same_part}
use Rattle.client_model.specs.Client.{ClientCall, ClientState, Sends, Standing, Unsent, InFlight, Over, Outgoing, after_part, after_polled, call_changed, finished, flight, gone_out, part_changed, parts_of}
use Rattle.client_retry.specs.declared.flown.Flown.{Flown}
use Rattle.client_retry.specs.Flights.{Flights, with_flown, without, sent_again, has_part}
use Rattle.client_model.specs.Apart.{AreApart}
use Rattle.client_core.specs.Valid.{AreRising, IsHeld, IsValid, sendings_left}
use Rattle.client_core.specs.Held.{Held, Holding, IsGoing, after_coming, changed, ended_of, has_unsent, held_at, next_part, with_came, with_one_sent}
use Rattle.client_core.specs.Fields.{call_in, flown_among, standing_by, standing_flown, standing_in, state_of, IsFit, IsSound}
use Rattle.client_core.proofs.Basics.{contrary}
use Rattle.client_core.proofs.Flying.{InOrder, HasStanding, flown_again, flown_sent, flown_without, same_is}
use Rattle.client_core.proofs.Standing.{Comes, Next, calls_again, calls_came, calls_sent, Only, of_part}
use Rattle.client_core.proofs.Ending.{ended_ends, finished_is, flown_ends, going_on, held_ends}
use Rattle.client_core.proofs.Naming.{IsInFlight, IsThere, all_in_flight, all_named, all_there, has_standing, in_order, numbers, only_part, only_there}
use Rattle.client_core.proofs.Laws.{IsId, ids, left, origs_are, parts_changed, sum_changed, valid_again, valid_left, valid_sent}
use Rattle.lemmas.proofs.SameParts.{eqb_is}
use Rattle.lemmas.proofs.Lists.{each_filter_from as each_filter, find_some as each_found, each_weaker, each_weaker_with as each_with}

-- ---- calls that fit
pub fit_came : (i : ℕ) (e : Ending) (h : Held) → IsFit h → i < h.sent → IsFit (with_came i e h)
fit_came i e h fit less = record {
  empty = fit.empty;
  good = fit.good;
  parts = length-set h.came i (Some e) ∙ fit.parts;
  unsent = λ j le. let other : j ≢ i = λ same. absurd (omega (arith, same, less, le)) in get_or-set_other h.came i j (Some e) None other ∙ fit.unsent j le;
}

pub fit_sent : (h : Held) → IsFit h → IsFit (with_one_sent h)
fit_sent h fit = record { empty = fit.empty; good = fit.good; parts = fit.parts; unsent = λ j le. fit.unsent j (omega (arith, le)) }

pub fits_changed : (n : ℕ) (g : Held → Held) (hs : List Held) → Each IsFit hs → Each (λ (h : Held). (h.number == n) ≡ true → IsFit (g h)) hs → Each IsFit (changed n g hs)
fits_changed n g [] fits new = tt
fits_changed n g (h ∷ hs) fits new = go (h.number == n) refl (fits_changed n g hs fits.1 new.1)
  where
    go : (b : Bool) → (h.number == n) ≡ b → Each IsFit (changed n g hs) → Each IsFit (cond b (g h) h ∷ changed n g hs)
    go true e rec = (new.0 e, rec)
    go false e rec = (fits.0, rec)

pub numbers_in : (fs : List Flown) (hs : List Held) → map (λ (k : ClientCall). k.number) (map (call_in fs) hs) ≡ numbers hs
numbers_in fs [] = refl
numbers_in fs (h ∷ hs) = ap (λ ns. h.number ∷ ns) (numbers_in fs hs)

some_ids : (n : ℕ) (fs : List Flown) → Each (IsId n) (ids fs) → Each (λ (f : Flown). 1 ≤ f.orig) fs
some_ids n [] h = tt
some_ids n (f ∷ fs) h = (h.0.0, some_ids n fs h.1)

all_going : (fs : List Flown) (hs : List Held) → Each IsFit hs → Each IsHeld (map (call_in fs) hs) → Each (λ (h : Held). ended_of h ≡ None) hs
all_going fs [] fits held = tt
all_going fs (h ∷ hs) fits held = (sym (finished_is fs h fits.0) ∙ held.0.going, all_going fs hs fits.1 held.1)

none_of_part : (hs : List Held) (all : List Flown) (p : Part) (h : Held) → held_at p.call.0 hs ≡ Some h → p.part ≡ h.sent → (fs : List Flown) → Each (IsInFlight hs all) fs → has_part p fs ≡ false
none_of_part hs all p h there next [] flying = refl
none_of_part hs all p h there next (g ∷ fs) flying = go (same_part p g.part) refl (none_of_part hs all p h there next fs flying.1)
  where
    go : (b : Bool) → same_part p g.part ≡ b → has_part p fs ≡ false → (b || has_part p fs) ≡ false
    go true e rec =
        let same : p ≡ g.part = same_is p g.part e in
        let one : g.part.part < h.sent = sent_of h flying.0.awaited.h (sym there ∙ ap (λ (q : Part). held_at q.call.0 hs) same ∙ flying.0.awaited.there) flying.0.awaited.sent in
        let part_is : p.part ≡ g.part.part = ap (λ (q : Part). q.part) same in
        absurd (omega (arith, one, part_is, next))
      where
        sent_of : (x y : Held) → ◌≡◌ {A = Option Held} (Some x) (Some y) → g.part.part < y.sent → g.part.part < x.sent
        sent_of x y e less = let same : x ≡ y = cc in subst (λ (z : Held). g.part.part < z.sent) (sym same) less
    go false e rec = rec

module _ (no : ClientNo) (pid issued sendings : ℕ) (calls : Holding) (f : Flights) (last : ℕ) (sound : IsSound (state_of no pid issued sendings calls f last) calls.held f) where
  pub rising : AreRising 0 issued (numbers calls.held)
  rising = subst (AreRising 0 issued) (numbers_in f.flown calls.held) sound.valid.rising

  pub known : Each (IsId sendings) (ids f.flown)
  known = subst (Each (IsId sendings)) (origs_are (state_of no pid issued sendings calls f last) f.flown sound.flight) sound.valid.ids

  pub apart : AreApart (ids f.flown)
  apart = subst AreApart (origs_are (state_of no pid issued sendings calls f last) f.flown sound.flight) sound.valid.apart

  pub flying : Each (IsInFlight calls.held f.flown) f.flown
  flying = all_in_flight 0 issued calls.held f.flown rising sound.fits sound.flight (some_ids sendings f.flown known)

  pub there : Each (IsThere calls.held) calls.held
  there = all_there 0 issued calls.held rising

  pub going : IsGoing calls
  going = record {
    last = issued;
    rising = rising;
    going = all_going f.flown calls.held sound.fits sound.valid.calls;
    few = subst (λ n. n + length calls.ended ≤ 256) (length-map calls.held (call_in f.flown)) sound.valid.few;
  }

  order : InOrder (parts_of (map (call_in f.flown) calls.held))
  order = in_order f.flown 0 issued calls.held rising

  -- the fields stand for the new state, and are sound
  pub record Step (new : ClientState) (issued' sendings' : ℕ) (calls' : Holding) (f' : Flights) : Type 0 where
    pub state_is : state_of no pid issued' sendings' calls' f' last ≡ new
    pub sound' : IsSound (state_of no pid issued' sendings' calls' f' last) calls'.held f'

  -- the part stands so in these calls
  stands_so : (g : Flown) (w : IsInFlight calls.held f.flown g) → HasStanding g.part (InFlight g.orig g.first g.last) (parts_of (map (call_in f.flown) calls.held))
  stands_so g w =
      let h : Held = w.awaited.h in
      let fit : IsFit h = (each_found IsFit (λ (x : Held). x.number == g.part.call.0) calls.held h sound.fits w.awaited.there).0 in
      let within : g.part.part < length (cut h.call) = subst (λ n. g.part.part < n) fit.parts (slice_get_within h.came g.part.part None w.awaited.still) in
      subst (λ st. HasStanding g.part st (parts_of (map (call_in f.flown) calls.held))) w.stands (has_standing f.flown g.part calls.held h w.awaited.there within)

  -- ---- a part leaves flight
  pub came_step : (orig : ℕ) (g : Flown) (e : Ending) (change : Standing → Standing) → find (λ x. x.orig == orig) f.flown ≡ Some g → change (InFlight g.orig g.first g.last) ≡ Over e →
      ((q : Part) (r : Request) (st : Standing) → flight q r (change st) ≡ None) → (calls' : Holding) (f' : Flights) → calls' ≡ after_coming g.part e calls → f'.flown ≡ without orig f.flown → f'.last ≡ f.last →
      Step (after_part g.part change (state_of no pid issued sendings calls f last)) issued sendings calls' f'
  came_step orig g e change found over gone calls' f' calls_are flown_is last_is =
      let to_f : f' ≡ f1 = λ i. record { flown = flown_is i; last = last_is i } in
      subst (λ c. Step new issued sendings c f') (sym calls_are) (subst (λ x. Step new issued sendings (after_coming g.part e calls) x) (sym to_f) step)
    where
      p : Part
      p = g.part

      state : ClientState
      state = state_of no pid issued sendings calls f last

      new : ClientState
      new = after_part p change state

      f1 : Flights
      f1 = record { flown = without orig f.flown; last = f.last }

      w : IsInFlight calls.held f.flown g
      w = (each_found (IsInFlight calls.held f.flown) (λ x. x.orig == orig) f.flown g flying found).0

      only : Each (Only p orig) f.flown
      only = only_part calls.held f.flown orig g apart flying found

      alone : Each (λ (x : Held). (x.number == p.call.0) ≡ true → x ≡ w.awaited.h) calls.held
      alone = only_there p.call.0 calls.held w.awaited.h there w.awaited.there

      comes : Each (Comes p orig f.flown only e change) calls.held
      comes = each_weaker (λ (x : Held). (x.number == p.call.0) ≡ true → x ≡ w.awaited.h) (Comes p orig f.flown only e change)
          (λ x is n. (subst (λ (z : Held). p.part < length z.came) (sym (is n)) (slice_get_within w.awaited.h.came p.part None w.awaited.still), ap (λ (z : Held). change (standing_in f.flown z p)) (is n) ∙ ap change w.stands ∙ over)) calls.held alone

      held1 : List Held
      held1 = changed p.call.0 (with_came p.part e) calls.held

      fits1 : Each IsFit held1
      fits1 = fits_changed p.call.0 (with_came p.part e) calls.held sound.fits
          (each_with IsFit (λ (x : Held). (x.number == p.call.0) ≡ true → x ≡ w.awaited.h) (λ (x : Held). (x.number == p.call.0) ≡ true → IsFit (with_came p.part e x))
          (λ x fit is n. fit_came p.part e x fit (subst (λ (z : Held). p.part < z.sent) (sym (is n)) w.awaited.sent)) calls.held sound.fits alone)

      mapped : map (call_in f1.flown) held1 ≡ map (call_changed p change) (map (call_in f.flown) calls.held)
      mapped = calls_came p orig f.flown only e change calls.held comes

      state_is : state_of no pid issued sendings (after_coming p e calls) f1 last ≡ new
      state_is = λ i. record {
        client = no;
        pid = pid;
        issued = issued;
        sendings = sendings;
        calls = (sym (held_ends f1.flown held1 fits1) ∙ ap going_on mapped) i;
        ended = ap (λ es. calls.ended ++ es) (sym (ended_ends f1.flown held1 fits1) ∙ ap (filter_map finished) mapped) i;
        last = last;
      }

      flown1 : flown_among (parts_of new.calls) ≡ f1.flown
      flown1 =
          flown_ends (map (call_changed p change) state.calls) ∙ ap flown_among (parts_changed p change state.calls)
          ∙ flown_without p orig change gone (parts_of state.calls) (all_named p orig (parts_of state.calls) f.flown sound.flight only) ∙ ap (without orig) sound.flight

      fewer : sum_by left (parts_of (map (call_changed p change) state.calls)) ≤ sum_by left (parts_of state.calls)
      fewer =
          less _ _ _ _ (ap (sum_by left) (parts_changed p change state.calls)) (sum_changed p (InFlight g.orig g.first g.last) change (parts_of state.calls) order (stands_so g w) ∙ ap (λ st. sum_by left (parts_of state.calls) + sendings_left st) over)
        where
          less : (a b c d : ℕ) → a ≡ b → b + d ≡ c + 0 → a ≤ c
          less a b c d x y = omega arith

      sound1 : IsSound new (after_coming p e calls).held f1
      sound1 = record {
        valid = valid_left state p orig change f.flown sound.valid sound.flight flown1 fewer;
        fits = each_filter IsFit (λ h. is_none (ended_of h)) held1 fits1;
        flight = flown1;
        moment = sound.moment;
      }

      step : Step new issued sendings (after_coming p e calls) f1
      step = record { state_is = state_is; sound' = subst (λ s. IsSound s (after_coming p e calls).held f1) (sym state_is) sound1 }

  -- ---- a part is sent
  pub vacant : (p : Part) (h : Held) → held_at p.call.0 calls.held ≡ Some h → p.part ≡ h.sent → has_part p f.flown ≡ false
  vacant p h at next = none_of_part calls.held f.flown p h at next f.flown flying

  pub sent_step : (o : Outgoing) (h : Held) → held_at o.part.call.0 calls.held ≡ Some h → o.part.part ≡ h.sent → has_unsent h ≡ true → o.id ≡ sendings + 1 → o.again ≡ false → (calls' : Holding) (f' : Flights) →
      calls'.held ≡ changed o.part.call.0 with_one_sent calls.held → calls'.ended ≡ calls.ended → f'.flown ≡ with_flown (record { part = o.part; orig = o.id; first = last; last = last }) f.flown → f'.last ≡ last →
      Step (after_polled last (Sends (o ∷ [])) (state_of no pid issued sendings calls f last)) issued (sendings + 1) calls' f'
  sent_step o h at next unsent id first_time calls' f' held_is ended_is flown_is last_is =
      let to_f : f' ≡ f1 = λ i. record { flown = flown_is i; last = last_is i } in
      let to_calls : calls' ≡ calls1 = λ i. record { held = held_is i; ended = ended_is i } in
      subst (λ c. Step new issued (sendings + 1) c f') (sym to_calls) (subst (λ x. Step new issued (sendings + 1) calls1 x) (sym to_f) step)
    where
      state : ClientState
      state = state_of no pid issued sendings calls f last

      new : ClientState
      new = after_polled last (Sends (o ∷ [])) state

      f1 : Flights
      f1 = record { flown = with_flown (record { part = o.part; orig = o.id; first = last; last = last }) f.flown; last = last }

      calls1 : Holding
      calls1 = record { held = changed o.part.call.0 with_one_sent calls.held; ended = calls.ended }

      free : has_part o.part f.flown ≡ false
      free = vacant o.part h at next

      fit : IsFit h
      fit = (each_found IsFit (λ (x : Held). x.number == o.part.call.0) calls.held h sound.fits at).0

      none : get_or h.came h.sent None ≡ None
      none = fit.unsent h.sent (omega arith)

      alone : Each (λ (x : Held). (x.number == o.part.call.0) ≡ true → x ≡ h) calls.held
      alone = only_there o.part.call.0 calls.held h there at

      nexts : Each (Next last o f.flown first_time free) calls.held
      nexts = each_weaker (λ (x : Held). (x.number == o.part.call.0) ≡ true → x ≡ h) (Next last o f.flown first_time free)
          (λ x is n. (next ∙ ap (λ (z : Held). z.sent) (sym (is n)), ap (λ (z : Held). get_or z.came z.sent None) (is n) ∙ none)) calls.held alone

      mapped : map (call_in f1.flown) calls1.held ≡ map (call_changed o.part (gone_out last o)) (map (call_in f.flown) calls.held)
      mapped = calls_sent last o f.flown first_time free calls.held nexts

      state_is : state_of no pid issued (sendings + 1) calls1 f1 last ≡ new
      state_is = λ i. record { client = no; pid = pid; issued = issued; sendings = sendings + 1; calls = mapped i; ended = calls.ended; last = last }

      within : o.part.part < length (cut h.call)
      within = subst (λ n. n < length (cut h.call)) (sym next) (subst (λ n. h.sent < n) fit.parts (below h.sent (length h.came) unsent))
        where
          below : (m n : ℕ) → nat_lt m n ≡ true → m < n
          below m n e = grind (arith, nat_tests)

      stands : standing_in f.flown h o.part ≡ Unsent
      stands = λ i. standing_by ((ap (λ m. get_or h.came m None) next ∙ none) i) (not_sent o.part.part h.sent next i) (of_part o.part f.flown)
        where
          not_sent : (m n : ℕ) → m ≡ n → nat_lt m n ≡ false
          not_sent m n e = grind (arith, nat_tests)

      unsent_there : HasStanding o.part Unsent (parts_of state.calls)
      unsent_there = subst (λ st. HasStanding o.part st (parts_of state.calls)) stands (has_standing f.flown o.part calls.held h at within)

      flown1 : flown_among (parts_of new.calls) ≡ f1.flown
      flown1 =
          ap flown_among (parts_changed o.part (gone_out last o) state.calls) ∙ flown_sent last o.id o (parts_of state.calls) first_time order unsent_there
          ∙ ap (with_flown (record { part = o.part; orig = o.id; first = last; last = last })) sound.flight

      sound1 : IsSound new calls1.held f1
      sound1 = record {
        valid = valid_sent state last o f.flown sound.valid id first_time sound.flight flown1 order unsent_there;
        fits = fits_changed o.part.call.0 with_one_sent calls.held sound.fits (each_weaker IsFit (λ (x : Held). (x.number == o.part.call.0) ≡ true → IsFit (with_one_sent x)) (λ x fits n. fit_sent x fits) calls.held sound.fits);
        flight = flown1;
        moment = omega arith;
      }

      step : Step new issued (sendings + 1) calls1 f1
      step = record { state_is = state_is; sound' = subst (λ s. IsSound s calls1.held f1) (sym state_is) sound1 }

  -- ---- a part is sent again
  pub again_step : (o : Outgoing) (orig : ℕ) (g : Flown) → find (λ x. x.orig == orig) f.flown ≡ Some g → o.part ≡ g.part → o.again ≡ true → 100 ≤ last - g.last → last - g.first ≤ 300 → (f' : Flights) →
      f'.flown ≡ sent_again orig last f.flown → f'.last ≡ last → Step (after_polled last (Sends (o ∷ [])) (state_of no pid issued sendings calls f last)) issued (sendings + 1) calls f'
  again_step o orig g found part is_again since age f' flown_is last_is =
      let to_f : f' ≡ f1 = λ i. record { flown = flown_is i; last = last_is i } in
      subst (λ x. Step new issued (sendings + 1) calls x) (sym to_f) step
    where
      state : ClientState
      state = state_of no pid issued sendings calls f last

      new : ClientState
      new = after_polled last (Sends (o ∷ [])) state

      f1 : Flights
      f1 = record { flown = sent_again orig last f.flown; last = last }

      w : IsInFlight calls.held f.flown g
      w = (each_found (IsInFlight calls.held f.flown) (λ x. x.orig == orig) f.flown g flying found).0

      only : Each (Only o.part orig) f.flown
      only = subst (λ q. Each (Only q orig) f.flown) (sym part) (only_part calls.held f.flown orig g apart flying found)

      mapped : map (call_in f1.flown) calls.held ≡ map (call_changed o.part (gone_out last o)) (map (call_in f.flown) calls.held)
      mapped = calls_again o.part orig f.flown only last o g is_again refl (ap (λ q. of_part q f.flown) part ∙ w.entry) calls.held

      state_is : state_of no pid issued (sendings + 1) calls f1 last ≡ new
      state_is = λ i. record { client = no; pid = pid; issued = issued; sendings = sendings + 1; calls = mapped i; ended = calls.ended; last = last }

      flown1 : flown_among (parts_of new.calls) ≡ f1.flown
      flown1 =
          ap flown_among (parts_changed o.part (gone_out last o) state.calls) ∙ flown_again last orig o is_again (parts_of state.calls) (all_named o.part orig (parts_of state.calls) f.flown sound.flight only)
          ∙ ap (sent_again orig last) sound.flight

      sound1 : IsSound new calls.held f1
      sound1 = record {
        valid = valid_again state last g.orig g.first g.last o f.flown sound.valid sound.flight (flown_orig flown1) order (subst (λ q. HasStanding q (InFlight g.orig g.first g.last) (parts_of state.calls)) (sym part) (stands_so g w)) since age;
        fits = sound.fits;
        flight = flown1;
        moment = omega arith;
      }
        where
          -- the id is the one of the entry
          flown_orig : flown_among (parts_of new.calls) ≡ f1.flown → flown_among (parts_of new.calls) ≡ sent_again g.orig last f.flown
          flown_orig e = e ∙ ap (λ n. sent_again n last f.flown) (sym same)
            where
              same : g.orig ≡ orig
              same = eqb_is g.orig orig (each_found (IsInFlight calls.held f.flown) (λ x. x.orig == orig) f.flown g flying found).1

      step : Step new issued (sendings + 1) calls f1
      step = record { state_is = state_is; sound' = subst (λ s. IsSound s calls.held f1) (sym state_is) sound1 }
