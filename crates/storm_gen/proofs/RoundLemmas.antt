-- The events of a round are those of its parts, and at most eight.
use Rattle.std.proofs.Common.{ℕ, ◌+◌, ◌≡◌, ◌≤◌, ◌*◌, zero, suc, List, ◌++◌, length, length-append, append_assoc, arith, ap, refl, subst, ◌∙◌}
use Rattle.rand_pcg.specs.Lcg.{Lcg}
use Rattle.cl_types.specs.declared.schedule.Event.{Event}
use Rattle.storm_gen.specs.Drawing.{Adds}
use Rattle.storm_gen.specs.Generated.{Drawn, called, draw, frames_drawn, repeat_of, round, rounds, tick_of}

-- events that are drawn after others
pub adds_after : (draws : Lcg → Drawn (List Event)) (l0 l1 l2 : List Event) (first : Drawn (List Event)) (a b : Lcg)
    → Adds l0 first l1 a → Adds l1 (draws a) l2 b → Adds l0 (first.0 ++ (draws first.1).0, (draws first.1).1) l2 b
adds_after draws l0 l1 l2 first a b one two =
    let then : Adds l1 (draws first.1) l2 b = subst (λ (g : Lcg). Adds l1 (draws g) l2 b) one.rest two in record {
      events = then.events ∙ ap (λ (lines : List Event). lines ++ (draws first.1).0) one.events
          ∙ append_assoc l0 first.0 (draws first.1).0;
      rest = then.rest;
    }

-- a round is its call and polls, its frames, its repeat and its tick
pub round_by_parts : (i : ℕ) (g a b c d : Lcg) (l0 l1 l2 l3 l4 : List Event)
    → Adds l0 (called g) l1 a → Adds l1 (frames_drawn a) l2 b → Adds l2 (repeat_of i (draw 10 b)) l3 c
    → Adds l3 (tick_of (draw 3 c)) l4 d → Adds l0 (round i g) l4 d
unfolding round
round_by_parts i g a b c d l0 l1 l2 l3 l4 one two three four =
    adds_after (λ (s : Lcg). tick_of (draw 3 s)) l0 l3 l4 _ c d
    (adds_after (λ (s : Lcg). repeat_of i (draw 10 s)) l0 l2 l3 _ b c
    (adds_after frames_drawn l0 l1 l2 (called g) a b one two) three) four

-- one round more
pub rounds-more : (i left next : ℕ) (g : Lcg) → left ≡ next + 1
    → rounds i left g ≡ (round i g).0 ++ rounds (i + 1) next (round i g).1
rounds-more i left next g more =
    let one : left ≡ suc next = omega arith in
    ap (λ (n : ℕ). rounds i n g) one

-- at most one repeat
length-repeat_of : (i : ℕ) (chance : Drawn ℕ) → length (repeat_of i chance).0 ≤ 1
length-repeat_of i chance = grind arith

-- at most one tick
length-tick_of : (by : Drawn ℕ) → length (tick_of by).0 ≤ 1
length-tick_of by = grind arith

-- the lengths of four lists
length_of_four : (a b c d : List Event) → length a ≡ 3 → length b ≡ 3 → length c ≤ 1 → length d ≤ 1
    → length (a ++ b ++ c ++ d) ≤ 8
length_of_four a b c d la lb lc ld = simp length-append (omega arith)

-- at most eight events a round
pub length-round : (i : ℕ) (g : Lcg) → length (round i g).0 ≤ 8
unfolding round
length-round i g =
    let call : Drawn (List Event) = called g in
    let frames : Drawn (List Event) = frames_drawn call.1 in
    let repeat : Drawn (List Event) = repeat_of i (draw 10 frames.1) in
    length_of_four call.0 frames.0 repeat.0 (tick_of (draw 3 repeat.1)).0 refl refl
    (length-repeat_of i (draw 10 frames.1)) (length-tick_of (draw 3 repeat.1))

-- at most eight events for each round
pub length-rounds : (i n : ℕ) (g : Lcg) → length (rounds i n g) ≤ 8 * n
length-rounds i zero g = omega arith
length-rounds i (suc n) g =
    let here : length (round i g).0 ≤ 8 = length-round i g in
    let rest : length (rounds (i + 1) n (round i g).1) ≤ 8 * n = length-rounds (i + 1) n (round i g).1 in
    rw length-append (omega arith)
