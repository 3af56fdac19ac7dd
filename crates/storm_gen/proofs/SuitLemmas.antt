-- Each drawn event is one that a world takes.
use Rattle.std.proofs.Common.{ℕ, ◌+◌, ◌*◌, ◌^◌, ◌≡◌, ◌<◌, ◌≤◌, ◌==◌, zero, suc, true, nat_lt, List, [], ◌∷◌, ◌++◌, length, length-append, arith, refl}
use Rattle.std.proofs.lemmas.Bool.{cond_both, lt-ltb}
use Rattle.std.proofs.lemmas.Bool.Decides.{nat_tests}
use Rattle.std.specs.List.{AllByRecursion as Each, enumerate_from}
use Rattle.rand_pcg.specs.Lcg.{Lcg}
use Rattle.cl_types.specs.Ranges.{is_typed, is_typed_call}
use Rattle.cl_types.specs.declared.limits.TheConstants.{LINES_END}
use Rattle.cl_types.specs.declared.schedule.CallText.{CallText}
use Rattle.cl_types.specs.declared.schedule.Event.{Event}
use Rattle.cl_types.specs.declared.schedule.Event.TheVariants as event
use Rattle.trace.specs.Schedules.{IsClient, IsRisingFrom, has_client, is_of_clients}
use Rattle.lemmas.proofs.Lists.{each_append, each_enumerate, each_weaker}
use Rattle.storm_gen.specs.Suitable.{GeneratedSuit, IsPlain}
use Rattle.storm_gen.specs.declared.choice.Choice.{Choice}
use Rattle.storm_gen.specs.Generated.{Drawn, allocates, call_drawn, called, choice, config, deliveries, draw, frame_drawn, frames_drawn, polls, repeat_of, round, rounds, settle, settles, tick_of, events_drawn, generator}
use Rattle.storm_gen.specs.declared.limits.TheConstants.{MOST_CALLS, MOST_EVENTS}
use Rattle.storm_gen.proofs.RoundLemmas.{length-rounds}
use Rattle.storm_gen.proofs.SettlingLemmas.{length-settles}
use Rattle.std.specs.Prelude.{flat_map}

-- ---- numbers
-- a draw is below its bound
below : (n : ℕ) (g : Lcg) → 0 < n → (draw n g).0 < n
unfolding draw
below n g some = omega arith

-- one of the four clients was drawn
known : (n : ℕ) → n < 4 → has_client config.clients (record { 0 = 1 + n }) ≡ true
known zero few = refl
known (suc zero) few = refl
known (suc (suc zero)) few = refl
known (suc (suc (suc zero))) few = refl
known (suc (suc (suc (suc n)))) few = absurd (omega arith)

-- the lines that are numbered from m on rise from n on
pub rises : (n m : ℕ) (events : List Event) → n ≤ m → IsRisingFrom n (enumerate_from m events)
rises n m [] later = tt
rises n m (e ∷ es) later = (later, let same : m + 1 ≤ m + 1 = omega arith in rises (m + 1) (m + 1) es same)

-- the lines that are numbered from n on are below this end
pub numbers_below : (n end : ℕ) (events : List Event) → n + length events ≤ end
    → Each (λ (e : ℕ × Event). e.0 < end) (enumerate_from n events)
numbers_below n end [] few = tt
numbers_below n end (e ∷ es) few =
    let here : n < end = omega arith in
    let rest : n + 1 + length es ≤ end = omega arith in
    (here, numbers_below (n + 1) end es rest)

-- ---- what holds of each drawn event
pub record IsOrdinary (e : Event) : Type 0 where
  pub typed : is_typed e ≡ true
  pub known : is_of_clients config.clients e ≡ true
  pub plain : IsPlain e

-- the calls of a choice whose numbers are those of their types
typed_call : (c : Choice) (g : Lcg) → c.addr.0 < 2 ^ 32 → c.len < 2 ^ 32 → is_typed_call (call_drawn c g).0 ≡ true
typed_call c g address len =
    let a : nat_lt c.addr.0 (2 ^ 32) ≡ true = lt-ltb c.addr.0 (2 ^ 32) address in
    let l : nat_lt c.len (2 ^ 32) ≡ true = lt-ltb c.len (2 ^ 32) len in
    let some : 0 < 256 = omega arith in
    let v : nat_lt (draw 256 g).0 256 ≡ true = lt-ltb (draw 256 g).0 256 (below 256 g some) in
    let P : Drawn CallText → Type 0 = λ (d : Drawn CallText). is_typed_call d.0 ≡ true in
    cond_both (nat_lt c.kind 3) _ _ P (λ _. grind arith)
    (λ _. cond_both (nat_lt c.kind 6) _ _ P (λ _. grind arith)
    (λ _. cond_both (c.kind == 6) _ _ P (λ _. grind arith) (λ _. grind arith)))

-- the address and the length of a choice
address_fits : (g : Lcg) → (choice g).0.addr.0 < 2 ^ 32
address_fits g =
    let client : Drawn ℕ = draw 4 g in
    let kind : Drawn ℕ = draw 8 client.1 in
    let page : Drawn ℕ = draw 136 kind.1 in
    let pages : page.0 < 136 = below 136 kind.1 (omega arith) in
    let offsets : (draw 504 page.1).0 < 504 = below 504 page.1 (omega arith) in
    omega arith

length_fits : (g : Lcg) → (choice g).0.len < 2 ^ 32
length_fits g =
    let client : Drawn ℕ = draw 4 g in
    let kind : Drawn ℕ = draw 8 client.1 in
    let page : Drawn ℕ = draw 136 kind.1 in
    let offset : Drawn ℕ = draw 504 page.1 in
    let lengths : (draw 64 offset.1).0 < 64 = below 64 offset.1 (omega arith) in
    omega arith

-- a poll of a client
ordinary_poll : (n : ℕ) → n < 4 → IsOrdinary (event.Poll (record { 0 = 1 + n }))
ordinary_poll n few = record { typed = refl; known = known n few; plain = tt }

ordinary_called : (g : Lcg) → Each IsOrdinary (called g).0
ordinary_called g =
    let c : Drawn Choice = choice g in
    let call : Drawn CallText = call_drawn c.0 c.1 in
    let client : (draw 4 g).0 < 4 = below 4 g (omega arith) in
    let other : (draw 4 call.1).0 < 4 = below 4 call.1 (omega arith) in (
      record { typed = typed_call c.0 c.1 (address_fits g) (length_fits g); known = known (draw 4 g).0 client; plain = tt },
      (ordinary_poll (draw 4 g).0 client, (ordinary_poll (draw 4 call.1).0 other, tt)),
    )

ordinary_frame : (g : Lcg) → IsOrdinary (frame_drawn g).0
ordinary_frame g = cond_both ((draw 20 g).0 == 0) _ _ IsOrdinary
    (λ _. record { typed = refl; known = refl; plain = tt }) (λ _. record { typed = refl; known = refl; plain = tt })

ordinary_repeat : (i : ℕ) (chance : Drawn ℕ) → Each IsOrdinary (repeat_of i chance).0
ordinary_repeat i chance = cond_both (chance.0 == 0) _ _ (λ (d : Drawn (List Event)). Each IsOrdinary d.0)
    (λ _. (record { typed = refl; known = refl; plain = tt }, tt)) (λ _. tt)

ordinary_tick : (by : Drawn ℕ) → by.0 < 3 → Each IsOrdinary (tick_of by).0
ordinary_tick by few = cond_both (by.0 == 0) _ _ (Each IsOrdinary) (λ _. tt)
    (λ some. (record { typed = refl; known = refl; plain = (grind (arith, nat_tests), omega arith) }, tt))

-- the events of a round
pub ordinary_round : (i : ℕ) (g : Lcg) → Each IsOrdinary (round i g).0
unfolding round
ordinary_round i g =
    let call : Drawn (List Event) = called g in
    let frames : Drawn (List Event) = frames_drawn call.1 in
    let repeat : Drawn (List Event) = repeat_of i (draw 10 frames.1) in
    let first : Drawn Event = frame_drawn call.1 in
    let second : Drawn Event = frame_drawn first.1 in
    let tick : Drawn (List Event) = tick_of (draw 3 repeat.1) in
    each_append IsOrdinary (call.0 ++ frames.0 ++ repeat.0) tick.0
    (each_append IsOrdinary (call.0 ++ frames.0) repeat.0
    (each_append IsOrdinary call.0 frames.0 (ordinary_called g)
    (ordinary_frame call.1, (ordinary_frame first.1, (ordinary_frame second.1, tt))))
    (ordinary_repeat i (draw 10 frames.1)))
    (ordinary_tick (draw 3 repeat.1) (below 3 repeat.1 (omega arith)))

-- the events of the rounds
pub ordinary_rounds : (i n : ℕ) (g : Lcg) → Each IsOrdinary (rounds i n g)
ordinary_rounds i zero g = tt
ordinary_rounds i (suc n) g =
    each_append IsOrdinary (round i g).0 (rounds (i + 1) n (round i g).1) (ordinary_round i g)
    (ordinary_rounds (i + 1) n (round i g).1)

-- ---- before and after the rounds
ordinary_deliveries : (n : ℕ) → Each IsOrdinary (deliveries n)
ordinary_deliveries zero = tt
ordinary_deliveries (suc n) = (record { typed = refl; known = refl; plain = tt }, ordinary_deliveries n)

-- the client of this number allocates
pub ordinary_allocates : (n : ℕ) → n < 4 → Each IsOrdinary (allocates (1 + n))
ordinary_allocates n few = (
  record { typed = refl; known = known n few; plain = tt },
  (ordinary_poll n few, ordinary_deliveries 2),
)

ordinary_settle : Each IsOrdinary settle
unfolding settle
ordinary_settle =
    let each : Each IsOrdinary (polls (1 ∷ 2 ∷ 3 ∷ 4 ∷ []))
    = (
      ordinary_poll 0 (omega arith),
      (
        ordinary_poll 1 (omega arith),
        (ordinary_poll 2 (omega arith), (ordinary_poll 3 (omega arith), tt)),
      ),
    ) in
    each_append IsOrdinary (polls (1 ∷ 2 ∷ 3 ∷ 4 ∷ []) ++ deliveries 8) (event.Tick 10 ∷ [])
    (each_append IsOrdinary (polls (1 ∷ 2 ∷ 3 ∷ 4 ∷ [])) (deliveries 8) each (ordinary_deliveries 8))
    (record { typed = refl; known = refl; plain = (omega arith, omega arith) }, tt)

ordinary_settles : (n : ℕ) → Each IsOrdinary (settles n)
unfolding settles
ordinary_settles zero = tt
ordinary_settles (suc n) = each_append IsOrdinary settle (settles n) ordinary_settle (ordinary_settles n)

-- ---- the whole
-- the clients 1 to 4 allocate
ordinary_first : Each IsOrdinary (flat_map allocates (1 ∷ 2 ∷ 3 ∷ 4 ∷ []))
ordinary_first =
    let from_four : Each IsOrdinary (flat_map allocates (4 ∷ [])) = ordinary_allocates 3 (omega arith) in
    let from_three : Each IsOrdinary (flat_map allocates (3 ∷ 4 ∷ []))
    = each_append IsOrdinary (allocates 3) (flat_map allocates (4 ∷ [])) (ordinary_allocates 2 (omega arith)) from_four in
    let from_two : Each IsOrdinary (flat_map allocates (2 ∷ 3 ∷ 4 ∷ []))
    = each_append IsOrdinary (allocates 2) (flat_map allocates (3 ∷ 4 ∷ [])) (ordinary_allocates 1 (omega arith)) from_three in
    each_append IsOrdinary (allocates 1) (flat_map allocates (2 ∷ 3 ∷ 4 ∷ [])) (ordinary_allocates 0 (omega arith)) from_two

-- every drawn event is one that a world takes
pub ordinary_drawn : (seed calls : ℕ) → Each IsOrdinary (events_drawn seed calls)
ordinary_drawn seed calls =
    let first : List Event = flat_map allocates (1 ∷ 2 ∷ 3 ∷ 4 ∷ []) in
    let drawn : List Event = rounds 1 calls (generator seed) in
    each_append IsOrdinary (first ++ drawn) (settles 64)
    (each_append IsOrdinary first drawn ordinary_first (ordinary_rounds 1 calls (generator seed))) (ordinary_settles 64)

-- there are at most as many as the crate says
pub length-events_drawn : (seed calls : ℕ) → calls ≤ MOST_CALLS → length (events_drawn seed calls) ≤ MOST_EVENTS
length-events_drawn seed calls few =
    let first : List Event = flat_map allocates (1 ∷ 2 ∷ 3 ∷ 4 ∷ []) in
    let drawn : List Event = rounds 1 calls (generator seed) in
    let rounded : length drawn ≤ 8 * calls = length-rounds 1 calls (generator seed) in
    let settled : length (settles 64) ≡ 13 * 64 = length-settles 64 in
    let joined : length (first ++ drawn) ≡ 16 + length drawn = length-append first drawn in
    rw (length-append (first ++ drawn) (settles 64)) (omega arith)

-- ---- the whole
-- each generated schedule suits a world
pub generated_suit : GeneratedSuit
generated_suit seed calls few =
    let drawn = events_drawn seed calls in
    let ordinary : Each IsOrdinary drawn = ordinary_drawn seed calls in
    let all : length drawn ≤ MOST_EVENTS = length-events_drawn seed calls few in
    let typed : Each (λ (e : Event). is_typed e ≡ true) drawn = each_weaker IsOrdinary _ (λ e o. o.typed) drawn ordinary in
    let known : Each (λ (e : Event). is_of_clients config.clients e ≡ true) drawn
    = each_weaker IsOrdinary _ (λ e o. o.known) drawn ordinary in
    let plain : Each IsPlain drawn = each_weaker IsOrdinary IsPlain (λ e o. o.plain) drawn ordinary in
    let client : (n pid : ℕ) → n < 5 → (1 ≤ pid) × (pid ≤ 2) → IsClient (record { 0 = n }, pid)
    = λ n pid low process. record { number = omega arith; process = (process.0, omega arith) } in
    record {
      good = record {
        rising = rises 1 6 drawn (omega arith);
        typed = each_enumerate _ 6 drawn typed;
        known = each_enumerate _ 6 drawn known;
        clients = (
          client 1 1 (omega arith) (omega arith, omega arith),
          (
            client 2 1 (omega arith) (omega arith, omega arith),
            (client 3 2 (omega arith) (omega arith, omega arith), (client 4 2 (omega arith) (omega arith, omega arith), tt)),
          ),
        );
      };
      bounded = numbers_below 6 LINES_END drawn (omega arith);
      plain = each_enumerate IsPlain 6 drawn plain;
      apart = (refl, (refl, (refl, (refl, tt))));
      opens = refl;
    }
