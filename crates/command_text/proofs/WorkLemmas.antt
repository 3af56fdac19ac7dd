-- The loop over the events of a schedule.
use Rattle.std.proofs.Common.{◌≡◌, ℕ, ◌+◌, ◌<◌, List, [], ◌∷◌, ◌++◌, Option, Some, None, refl, sym, ap, ◌∙◌, subst, arith, length, append-nil, append_assoc, length-append, get_or, ◌≤◌}
use Rattle.cl_outside.specs.Loops.{WroteFront}
use Rattle.cl_outside.specs.Told.{Added}
use Rattle.texts.specs.Text.{Text}
use Rattle.std.specs.Prelude.{◌^◌, slice_get}
use Rattle.std.specs.List.{AllByRecursion as Each}
use Rattle.std.proofs.lemmas.Option.{slice_get_read}
use Rattle.cl_types.specs.declared.config.Config.{Config}
use Rattle.cl_types.specs.declared.schedule.Event.{Event}
use Rattle.cl_types.specs.declared.schedule.Schedule.{Schedule}
use Rattle.trace.specs.Schedules.{IsGood, IsRisingFrom}
use Rattle.lemmas.proofs.Lists.{each_slice_get}
use Rattle.world.specs.Follows.{StandsFor, StandsOn, opened}
use Rattle.world.specs.Running.{IsFair, Running}
use Rattle.world.specs.Worlds.{step}
use Rattle.world.proofs.Beginning.{stands_for_none}
use Rattle.world.proofs.Follows.{worlds_follow}
use Rattle.command_text.specs.Working.{IsServed, Reached}

-- ---- what was added
pub added_none : (before : Option (List ℕ)) → Added [] before before
added_none None = refl
added_none (Some old) = ap Some (sym (append-nil old))

-- ---- fronts
pub front_none : (text : Text) (before : Option (List ℕ)) → WroteFront text before before
front_none text before = (0, omega arith, added_none before)

-- ---- fronts of good schedules
rising_front : (xs ys : List (ℕ × Event)) (l : ℕ) → IsRisingFrom l (xs ++ ys) → IsRisingFrom l xs
rising_front [] ys l r = tt
rising_front (x ∷ xs) ys l r = (r.0, rising_front xs ys (x.0 + 1) r.1)

each_front : {X : Type 0} (P : X → Type 0) (xs ys : List X) → Each P (xs ++ ys) → Each P xs
each_front P [] ys h = tt
each_front P (x ∷ xs) ys h = (h.0, each_front P xs ys h.1)

good_front : (config : Config) (xs ys : List (ℕ × Event)) → IsGood config (xs ++ ys) → IsGood config xs
good_front config xs ys good = record {
  rising = rising_front xs ys 1 good.rising;
  typed = each_front _ xs ys good.typed;
  known = each_front _ xs ys good.known;
  clients = good.clients;
}

-- the next of the events is the first of the rest
next_is : (done rest : List (ℕ × Event)) (e : ℕ × Event) → slice_get (done ++ rest) (length done) ≡ Some e → (more : List (ℕ × Event)) × (rest ≡ e ∷ more)
next_is [] [] e at = absurd (let never : ◌≡◌ {A = Option (ℕ × Event)} None (Some e) = at in grind arith)
next_is [] (x ∷ more) e at = let same : x ≡ e = cc in (more, ap (λ y. y ∷ more) same)
next_is (x ∷ done) rest e at = next_is done rest e at

-- the item at a loop's place is the event there
pub event_at : (items events : List (ℕ × Event)) (i : ℕ) (e : ℕ × Event) → items ≡ events → e ≡ get_or items i e → i < length items → slice_get events i ≡ Some e
event_at items events i e same is within = subst (λ (es : List (ℕ × Event)). slice_get es i ≡ Some e) same (slice_get_read items (length items) i e refl within is)

-- ---- one event more
module _ (s : Schedule) (served : IsServed s) (i : ℕ) (w : Running) (reached : Reached s i w) (e : ℕ × Event) (at : slice_get s.events i ≡ Some e) where
  pub next_event : (more : List (ℕ × Event)) × (reached.rest ≡ e ∷ more)
  next_event =
      let here : slice_get (reached.done ++ reached.rest) (length reached.done) ≡ Some e = ap (λ (es : List (ℕ × Event)). slice_get es (length reached.done)) (sym reached.split) ∙ ap (slice_get s.events) reached.place ∙ at in
      next_is reached.done reached.rest e here

  pub rest_rises : IsRisingFrom (w.line + 1) (e ∷ next_event.0)
  rest_rises = subst (IsRisingFrom (w.line + 1)) next_event.1 reached.rising

  pub events_split : s.events ≡ (reached.done ++ e ∷ []) ++ next_event.0
  events_split = reached.split ∙ ap (λ es. reached.done ++ es) next_event.1 ∙ sym (append_assoc reached.done (e ∷ []) next_event.0)

  pub event_later : w.line < e.0
  event_later = let r = rest_rises.0 in omega (arith, r)

  pub event_bounded : e.0 < 2 ^ 29
  event_bounded = each_slice_get (λ (x : ℕ × Event). x.0 < 2 ^ 29) s.events i e served.suited.bounded at

  pub event_fair : IsFair e.1
  event_fair = each_slice_get (λ (x : ℕ × Event). IsFair x.1) s.events i e served.suited.fair at

  good : IsGood s.config (reached.done ++ e ∷ [])
  good = good_front s.config (reached.done ++ e ∷ []) next_event.0 (subst (IsGood s.config) events_split served.good)

  pub stands_on : StandsOn s.config reached.done e.0 e.1 (step w.world e.0 e.1)
  stands_on =
      let place = reached.place in let late = reached.late in let later = event_later in let low = event_bounded in
      worlds_follow s.config reached.done e.0 e.1 w.world served.keeps good (omega (arith, place, late, later, low)) reached.stands.stands

  -- a world that stands for the events so far and this one
  abbrev pub reached_next : (v : Running) → v.line ≡ e.0 → StandsFor s.config (reached.done ++ e ∷ []) v → Reached s (i + 1) v
  reached_next v line stands = record {
    done = reached.done ++ e ∷ [];
    rest = next_event.0;
    split = events_split;
    place = length-append reached.done (e ∷ []) ∙ ap (λ n. n + 1) reached.place;
    late = let late = reached.late in let later = event_later in omega (arith, line, late, later);
    rising = subst (λ n. IsRisingFrom (n + 1) next_event.0) (sym line) rest_rises.1;
    stands = stands;
  }

  -- by what an event promises of a world that stands for others
  pub reached_by : (v : Running) → v.line ≡ e.0
      → ((config : Config) (events : List (ℕ × Event)) → IsGood config (events ++ e ∷ []) → StandsFor config events w → StandsFor config (events ++ e ∷ []) v)
      → Reached s (i + 1) v
  reached_by v line stands = reached_next v line (stands s.config reached.done good reached.stands)

-- ---- the beginning and the end
abbrev pub reached_none : (s : Schedule) (w : Running) → IsServed s → w ≡ opened s.config → Reached s 0 w
reached_none s w served first = record {
  done = [];
  rest = s.events;
  split = refl;
  place = refl;
  late = omega arith;
  rising = subst (λ (x : Running). IsRisingFrom (x.line + 1) s.events) (sym first) served.good.rising;
  stands = subst (StandsFor s.config []) (sym first) (stands_for_none s.config served.keeps);
}

pub all_done : (done rest : List (ℕ × Event)) → length done ≡ length (done ++ rest) → done ++ rest ≡ done
all_done done [] long = append-nil done
all_done done (e ∷ rest) long = absurd (let n : length (done ++ e ∷ rest) ≡ length done + length (e ∷ rest) = length-append done (e ∷ rest) in omega (arith, n, long))

-- the world that has reached the last event stands for all
pub reached_last : (s : Schedule) (w : Running) → Reached s (length s.events) w → StandsFor s.config s.events w
reached_last s w reached =
    subst (λ es. StandsFor s.config es w) (sym (reached.split ∙ all_done reached.done reached.rest (reached.place ∙ ap length reached.split))) reached.stands

-- the same at the end of a loop over them
pub reached_end : (s : Schedule) (items : List (ℕ × Event)) (i : ℕ) (w : Running) → items ≡ s.events → length items ≤ i → i ≤ length items → Reached s i w → StandsFor s.config s.events w
reached_end s items i w same low high reached =
    let long : length items ≡ length s.events = ap length same in
    let last : i ≡ length s.events = omega (arith, long) in
    reached_last s w (subst (λ n. Reached s n w) last reached)
