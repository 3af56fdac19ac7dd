-- Turns of driving one after another, and their end.
use Rattle.std.proofs.Common.{◌≡◌, ℕ, zero, suc, ◌+◌, ◌<◌, ◌≤◌, Bool, true, false, leb, List, [], ◌∷◌, ◌++◌, Option, Some, None, map, drop, refl, sym, ◌∙◌, subst, append_assoc, append-nil, arith, length, ◌⊎◌, ⊎_elim, inl, inr}
use Rattle.std.specs.Prelude.{◌&&◌, ◌==◌, if◌then◌else◌}
use Rattle.std.proofs.lemmas.Bool.{le-leb, lt-leb}
use Rattle.std.proofs.lemmas.Bool.Decides.{nat_tests}
use Rattle.std.proofs.lemmas.List.{map-append}
use Rattle.cl_types.specs.declared.limits.TheConstants.{STALL_TURNS}
use Rattle.texts.specs.Text.{is_empty}
use Rattle.cl_outside.specs.Counts.{NoneFailed}
use Rattle.cl_outside.specs.Told.{Added}
use Rattle.cl_outside.specs.declared.faults.Faults.{Faults}
use Rattle.cl_outside.specs.Wire.{Message}
use Rattle.cl_outside.specs.declared.wire.Peer.{Peer}
use Rattle.cl_types.specs.declared.schedule.CallText.{CallText}
use Rattle.client_model.specs.Client.{ClientState, held}
use Rattle.wire_loop.specs.Driving.{Driving, Printed, DriveStop, AllEnded, Stalled, WireFailed, driving_of, stop_at, turn, turns}
use Rattle.wire_loop.specs.Outside.{ClockAnswers, Received}
use Rattle.wire_loop.specs.Drives.{BreaksOff, Drives, Drove, HasReceiving, StandsAt, message_to, next_poll}
use Rattle.wire_loop.specs.Driven.{BrokeTurning, CountsFruit, Ran, Stood, TurnsOnce, driving, fails, fruitless_by}
use Rattle.wire_loop.specs.Serves.{Gave, Incoming, IsTold, Told}
use Rattle.wire_loop.specs.declared.driving.Fruit.{Fruit}
use Rattle.wire_loop.specs.declared.driving.Fruit.TheVariants as fruit
use Rattle.wire_loop.proofs.BreakLemmas.{some_clock}
use Rattle.wire_loop.proofs.IssueLemmas.{added_texts}
use Rattle.wire_loop.proofs.OnceLemmas.{fruit_counts}
use Rattle.wire_loop.proofs.RanLemmas.{added_both, added_none}

-- ---- turns of the definition
pub drove_none : (d : Driving Peer) → Drove d d
drove_none d = record { count = 0; after = refl; goes_on = λ k small. absurd (omega (arith, small)); received = λ k small. absurd (omega (arith, small)) }

pub drove_first : (d e : Driving Peer) → stop_at d ≡ None → HasReceiving (next_poll d) d.receives → Drove (turn d) e → Drove d e
drove_first d e none has t = record { count = suc t.count; after = t.after; goes_on = goes; received = receives } where
  goes : (k : ℕ) → k < suc t.count → stop_at (turns k d) ≡ None
  goes zero small = none
  goes (suc k) small = t.goes_on k (omega (arith, small))

  receives : (k : ℕ) → k < suc t.count → HasReceiving (next_poll (turns k d)) (turns k d).receives
  receives zero small = has
  receives (suc k) small = t.received k (omega (arith, small))

gave_all : (rs ss : List (Received Peer)) (a b c : Incoming) → Gave rs a b → Gave ss b c → Gave (rs ++ ss) a c
gave_all [] ss a b c first second = subst (λ o. Gave ss o c) first second
gave_all (r ∷ rs) ss a b c first second = (first.0, first.1, gave_all rs ss first.0 b c first.2 second)

-- ---- the run of turns
module _ (calls : List (ℕ × CallText)) (node : Peer) (start : ClientState) where
  pub ran_none : (lines : List ℕ) (told : Told) (w : Option (List ℕ)) → lines ≡ [] → Ran calls node start start 0 lines told told w w 0 false
  ran_none lines told w none = record {
    receives = [];
    sendings = [];
    frames = [];
    printed = [];
    gave = refl;
    messages = added_none told.sent;
    text = added_none w;
    holds = λ clock is. (
      clock,
      is,
      λ rest more end drove. subst (λ ls. Drove (driving start calls ls clock rest more [] [] 0 false) end) none drove,
    );
  }

  module _ (now : ClientState) (next : ℕ) (lines : List ℕ) (before between : Told) (w w' : Option (List ℕ)) (fruitless : ℕ) where
    ran_more : (r : Ran calls node start now next lines before between w w' fruitless false) (new : ClientState) (to : ℕ) (lines' : List ℕ) (after : Told) (w'' : Option (List ℕ)) (how : Fruit)
        → ((clock : ClockAnswers) (rest : List (Received Peer)) (more : List Bool) (sent : List (List ℕ)) (printed : List Printed) → stop_at (driving now (drop next calls) lines clock rest more sent printed fruitless false) ≡ None)
        → (t : TurnsOnce calls node now new next to lines lines' between after w' w'' how)
        → Ran calls node start new to lines' before after w w'' (fruitless_by t.is_fruit fruitless) (fails how)
    ran_more r new to lines' after w'' how none t = record {
      receives = r.receives ++ t.receives;
      sendings = r.sendings ++ t.sendings;
      frames = r.frames ++ t.frames;
      printed = r.printed ++ t.printed;
      gave = gave_all r.receives t.receives before.coming between.coming after.coming r.gave t.gave;
      messages = subst (λ ms. Added ms before.sent after.sent) (sym (map-append (message_to node) r.frames t.frames))
          (added_both (map (message_to node) r.frames) (map (message_to node) t.frames) before.sent between.sent after.sent r.messages t.messages);
      text = added_texts r.printed t.printed w w' w'' r.text t.text;
      holds = λ clock is.
          let last = t.holds clock is in
          let first = r.holds last.0 last.1 in (
            first.0,
            first.1,
            λ rest more end drove.
                let d : Driving Peer = driving now (drop next calls) lines last.0 (t.receives ++ rest) (t.sendings ++ more) r.frames r.printed fruitless false in
                let one = last.2 rest more r.frames r.printed fruitless in
                let same : turn d ≡ driving new (drop to calls) lines' clock rest more (r.frames ++ t.frames) (r.printed ++ t.printed) (fruitless_by t.is_fruit fruitless) (fails how) =
                one.0 ∙ fruit_counts t.is_fruit new (drop to calls) lines' clock rest more (r.frames ++ t.frames) (r.printed ++ t.printed) fruitless (fails how) in
                let all : Drove (driving_of start calls first.0 (r.receives ++ (t.receives ++ rest)) (r.sendings ++ (t.sendings ++ more))) end =
                first.2 (t.receives ++ rest) (t.sendings ++ more) end (drove_first d end (none last.0 (t.receives ++ rest) (t.sendings ++ more) r.frames r.printed) one.1 (subst (λ (x : Driving Peer). Drove x end) (sym same) drove)) in
                subst (λ (rs : List (Received Peer)). Drove (driving_of start calls first.0 rs ((r.sendings ++ t.sendings) ++ more)) end) (sym (append_assoc r.receives t.receives rest))
                (subst (λ (bs : List Bool). Drove (driving_of start calls first.0 (r.receives ++ (t.receives ++ rest)) bs) end) (sym (append_assoc r.sendings t.sendings more)) all),
          );
    }

-- the end of the run is that of the definition
module _ (calls : List (ℕ × CallText)) (node : Peer) (start now : ClientState) (next : ℕ) (lines : List ℕ) (before after : Told) (w w' : Option (List ℕ)) (fruitless : ℕ) (failed : Bool) where
  ran_to_end : (r : Ran calls node start now next lines before after w w' fruitless failed) (clock : ClockAnswers) → IsTold clock after.moments → (stop : DriveStop)
      → ((sent : List (List ℕ)) (printed : List Printed) → stop_at (driving now (drop next calls) lines clock [] [] sent printed fruitless failed) ≡ Some stop)
      → Drives start now calls node before after w w' stop
  ran_to_end r clock is stop stops =
      let first = r.holds clock is in
      let e : Driving Peer = driving now (drop next calls) lines clock [] [] r.frames r.printed fruitless failed in
      let drove : Drove (driving_of start calls first.0 (r.receives ++ []) (r.sendings ++ [])) e = first.2 [] [] e (drove_none e) in record {
        clock = first.0;
        sendings = r.sendings ++ [];
        receives = r.receives ++ [];
        at_end = e;
        told = first.1;
        gave = subst (λ (rs : List (Received Peer)). Gave rs before.coming after.coming) (sym (append-nil r.receives)) r.gave;
        drives = record { count = drove.count; after = drove.after; stops = stops r.frames r.printed; goes_on = drove.goes_on };
        received = drove.received;
        stands = record { all = refl; sent = r.messages; still = is };
        client = refl;
        text = r.text;
      }

-- ---- the run broke off
module _ (calls : List (ℕ × CallText)) (node : Peer) (start now : ClientState) (next : ℕ) (lines : List ℕ) (before between after : Told) (w w' w'' : Option (List ℕ)) (fruitless : ℕ) where
  stood_at : (r : Ran calls node start now next lines before between w w' fruitless false) (d : Driving Peer) → d.sent ≡ r.frames → Stood node d r.frames between after
      → StandsAt node d before after ⊎ (HasReceiving (next_poll d) d.receives × StandsAt node (turn d) before after)
  stood_at r d frames stood = ⊎_elim
      (λ (x : (d.receives ≡ []) × Added [] between.sent after.sent × IsTold d.clock after.moments). inl (record {
        all = x.0;
        sent = subst (λ fs. Added (map (message_to node) fs) before.sent after.sent) (sym frames)
            (subst (λ ms. Added ms before.sent after.sent) (append-nil (map (message_to node) r.frames))
            (added_both (map (message_to node) r.frames) [] before.sent between.sent after.sent r.messages x.1));
        still = x.2;
      }))
      (λ (x : HasReceiving (next_poll d) d.receives × ((turn d).receives ≡ [])
      × ((fs : List (List ℕ)) × ((turn d).sent ≡ r.frames ++ fs) × Added (map (message_to node) fs) between.sent after.sent) × IsTold (turn d).clock after.moments).
      inr (
        x.0,
        record {
          all = x.1;
          sent = subst (λ fs. Added (map (message_to node) fs) before.sent after.sent) (sym x.2.1)
              (subst (λ ms. Added ms before.sent after.sent) (sym (map-append (message_to node) r.frames x.2.0))
              (added_both (map (message_to node) r.frames) (map (message_to node) x.2.0) before.sent between.sent after.sent r.messages x.2.2));
          still = x.3;
        },
      ))
      stood

  ran_and_broke : (r : Ran calls node start now next lines before between w w' fruitless false)
      → ((clock : ClockAnswers) (rest : List (Received Peer)) (more : List Bool) (sent : List (List ℕ)) (printed : List Printed) → stop_at (driving now (drop next calls) lines clock rest more sent printed fruitless false) ≡ None)
      → BrokeTurning calls node now next lines between after w' w'' → BreaksOff start calls node before after w w''
  ran_and_broke r none b =
      let first = r.holds b.clock b.told in
      let d : Driving Peer = driving now (drop next calls) lines b.clock b.receives b.sendings r.frames r.printed fruitless false in
      let broke = b.holds r.frames r.printed fruitless in record {
        clock = first.0;
        sendings = r.sendings ++ b.sendings;
        receives = r.receives ++ b.receives;
        at = d;
        told = first.1;
        gave = gave_all r.receives b.receives before.coming between.coming after.coming r.gave b.gave;
        drove = first.2 b.receives b.sendings d (drove_none d);
        goes_on = none b.clock b.receives b.sendings r.frames r.printed;
        stands = stood_at r d refl broke.1;
        printed = broke.0.0;
        prints = broke.0.1;
        between = w';
        whole = r.text;
        front = broke.0.2;
      }

-- ---- why it ends
shifted : (m n : ℕ) → leb m n ≡ leb (suc m) (suc n)
shifted m n = go (leb m n) refl where
  go : (b : Bool) → leb m n ≡ b → b ≡ leb (suc m) (suc n)
  go true is = grind (arith, nat_tests)
  go false is = grind (arith, nat_tests)

none_left : (calls : List (ℕ × CallText)) (n : ℕ) → is_empty (drop n calls) ≡ leb (length calls) n
none_left [] zero = refl
none_left [] (suc n) = sym (le-leb 0 (suc n) (omega arith))
none_left (c ∷ calls) zero = sym (lt-leb (suc (length calls)) 0 (omega arith))
none_left (c ∷ calls) (suc n) = none_left calls n ∙ shifted (length calls) n

module _ (calls : List (ℕ × CallText)) (now : ClientState) (next : ℕ) (fruitless : ℕ) where
  -- the stop before a turn, by whether all calls have ended and whether too many turns in a row were fruitless
  abbrev stop_by : (done stalled : Bool) → Option DriveStop
  stop_by done stalled = if done then Some AllEnded else if stalled then Some (Stalled now.last) else None

  module _ (lines : List ℕ) (clock : ClockAnswers) (rest : List (Received Peer)) (more : List Bool) (sent : List (List ℕ)) (printed : List Printed) where
    stops_by : (done stalled : Bool) → (leb (length calls) next && held now == 0) ≡ done → leb STALL_TURNS fruitless ≡ stalled
        → stop_at (driving now (drop next calls) lines clock rest more sent printed fruitless false) ≡ stop_by done stalled
    stops_by done stalled is row =
        (λ j. stop_by (none_left calls next j && held now == 0) (leb STALL_TURNS fruitless)) ∙ (λ j. stop_by (is j) (row j))

    goes_on : (leb (length calls) next && held now == 0) ≡ false → fruitless < STALL_TURNS
        → stop_at (driving now (drop next calls) lines clock rest more sent printed fruitless false) ≡ None
    goes_on is small = stops_by false false is (lt-leb STALL_TURNS fruitless small)

    all_ended : (leb (length calls) next && held now == 0) ≡ true → stop_at (driving now (drop next calls) lines clock rest more sent printed fruitless false) ≡ Some AllEnded
    all_ended is = stops_by true (leb STALL_TURNS fruitless) is refl

    stalled : (leb (length calls) next && held now == 0) ≡ false → STALL_TURNS ≤ fruitless
        → stop_at (driving now (drop next calls) lines clock rest more sent printed fruitless false) ≡ Some (Stalled now.last)
    stalled is many = stops_by false true is (le-leb STALL_TURNS fruitless many)

-- ---- what the loop knows after a turn
module _ (calls : List (ℕ × CallText)) (node : Peer) (start now : ClientState) (next : ℕ) (lines : List ℕ) (before between : Told) (w w' : Option (List ℕ)) (fruitless : ℕ)
    (r : Ran calls node start now next lines before between w w' fruitless false) where
  module _ (is : (leb (length calls) next && held now == 0) ≡ false) (small : fruitless < STALL_TURNS) where
    none : (clock : ClockAnswers) (rest : List (Received Peer)) (more : List Bool) (sent : List (List ℕ)) (printed : List Printed) → stop_at (driving now (drop next calls) lines clock rest more sent printed fruitless false) ≡ None
    none clock rest more sent printed = goes_on calls now next fruitless lines clock rest more sent printed is small

    module _ (new : ClientState) (to : ℕ) (lines' : List ℕ) (after : Told) (w'' : Option (List ℕ)) where
      pub ran_fruitful : (how : Fruit) → how ≡ fruit.Fruitful → TurnsOnce calls node now new next to lines lines' between after w' w'' how → Ran calls node start new to lines' before after w w'' 0 false
      ran_fruitful how at turned =
          let t : TurnsOnce calls node now new next to lines lines' between after w' w'' fruit.Fruitful = subst (λ h. TurnsOnce calls node now new next to lines lines' between after w' w'' h) at turned in
          subst (λ b. Ran calls node start new to lines' before after w w'' (fruitless_by b fruitless) false) t.fruit
          (ran_more calls node start now next lines before between w w' fruitless r new to lines' after w'' fruit.Fruitful none t)

      pub ran_fruitless : (how : Fruit) → how ≡ fruit.Fruitless → TurnsOnce calls node now new next to lines lines' between after w' w'' how → Ran calls node start new to lines' before after w w'' (fruitless + 1) false
      ran_fruitless how at turned =
          let t : TurnsOnce calls node now new next to lines lines' between after w' w'' fruit.Fruitless = subst (λ h. TurnsOnce calls node now new next to lines lines' between after w' w'' h) at turned in
          subst (λ b. Ran calls node start new to lines' before after w w'' (fruitless_by b fruitless) false) t.fruit
          (ran_more calls node start now next lines before between w w' fruitless r new to lines' after w'' fruit.Fruitless none t)

      pub ran_failed : (script : List (ℕ × CallText)) → calls ≡ script → (how : Fruit) → how ≡ fruit.Failed → TurnsOnce calls node now new next to lines lines' between after w' w'' how
          → Drives start new script node before after w w'' WireFailed
      ran_failed script same how at turned =
          let t : TurnsOnce calls node now new next to lines lines' between after w' w'' fruit.Failed = subst (λ h. TurnsOnce calls node now new next to lines lines' between after w' w'' h) at turned in
          let ran = ran_more calls node start now next lines before between w w' fruitless r new to lines' after w'' fruit.Failed none t in
          let clock = some_clock after.moments in
          subst (λ cs. Drives start new cs node before after w w'' WireFailed) same
          (ran_to_end calls node start new to lines' before after w w'' (fruitless_by t.is_fruit fruitless) true ran clock.0 clock.1 WireFailed (λ sent printed. refl))

    pub ran_broken : (after : Told) (w'' : Option (List ℕ)) (script : List (ℕ × CallText)) → calls ≡ script
        → BrokeTurning calls node now next lines between after w' w'' → BreaksOff start script node before after w w''
    ran_broken after w'' script same b =
        subst (λ cs. BreaksOff start cs node before after w w'') same (ran_and_broke calls node start now next lines before between after w w' w'' fruitless r none b)

  module _ (script : List (ℕ × CallText)) (same : calls ≡ script) where
    pub ran_ended : (leb (length calls) next && held now == 0) ≡ true → Drives start now script node before between w w' AllEnded
    ran_ended is =
        let clock = some_clock between.moments in
        subst (λ cs. Drives start now cs node before between w w' AllEnded) same
        (ran_to_end calls node start now next lines before between w w' fruitless false r clock.0 clock.1 AllEnded
        (λ sent printed. all_ended calls now next fruitless lines clock.0 [] [] sent printed is))

    pub ran_stalled : (moment : ℕ) → moment ≡ now.last → (leb (length calls) next && held now == 0) ≡ false → STALL_TURNS ≤ fruitless
        → Drives start now script node before between w w' (Stalled moment)
    ran_stalled moment at is many =
        let clock = some_clock between.moments in
        subst (λ t. Drives start now script node before between w w' (Stalled t)) (sym at)
        (subst (λ cs. Drives start now cs node before between w w' (Stalled now.last)) same
        (ran_to_end calls node start now next lines before between w w' fruitless false r clock.0 clock.1 (Stalled now.last)
        (λ sent printed. stalled calls now next fruitless lines clock.0 [] [] sent printed is many)))

-- the wire did not fail
pub none_failed : (how : Fruit) (before now : Faults) → fails how ≡ false → CountsFruit before now how → NoneFailed before now
none_failed fruit.Fruitful before now went counts = counts
none_failed fruit.Fruitless before now went counts = counts
none_failed fruit.Failed before now went counts = absurd cc
