-- One turn of driving is the definition's.
use Rattle.std.proofs.Common.{◌≡◌, ℕ, List, [], ◌++◌, Bool, true, false, Option, refl, sym, ap, ◌∙◌, subst, drop, map, max, append_assoc}
use Rattle.std.specs.Prelude.{IfSome}
use Rattle.std.specs.Option.{option_map}
use Rattle.cl_outside.specs.Clock.{Moments, after_moment, next_moment}
use Rattle.cl_outside.specs.Told.{Added}
use Rattle.cl_outside.specs.Wire.{Message}
use Rattle.cl_outside.specs.declared.wire.Peer.{Peer}
use Rattle.cl_types.specs.declared.schedule.CallText.{CallText}
use Rattle.client_model.specs.Client.{ClientState, Finished, Polled, handed_out, poll, told}
use Rattle.wire_loop.specs.Driving.{Answered, Driving, Printed, line_of, polls, prints, turn, turn_on, with_fruit}
use Rattle.wire_loop.specs.Outside.{ClockAnswers, Received, moment_of}
use Rattle.wire_loop.specs.Drives.{HasReceiving, next_poll, text_of}
use Rattle.wire_loop.specs.Driven.{Issued, PollsOnce, TurnsOnce, answered_by, driving, fails, fruitless_by}
use Rattle.wire_loop.specs.Serves.{Incoming, IsTold, told_of}
use Rattle.wire_loop.specs.declared.driving.Fruit.{Fruit}
use Rattle.wire_loop.proofs.ClockLemmas.{clock_before}
use Rattle.wire_loop.proofs.IssueLemmas.{added_texts}
use Rattle.wire_loop.proofs.RanLemmas.{added_none}

-- the rest of a turn whose calls are issued
abbrev moment_in : Driving Peer → ℕ
moment_in r = moment_of r.clock r.client.last

abbrev rest_of_turn : Driving Peer → Driving Peer
rest_of_turn r = turn_on (moment_in r) (poll r.client (moment_in r)) r

module _ (calls : List (ℕ × CallText)) (node : Peer) (old mid polled new : ClientState) (from to : ℕ) (lines lines' : List ℕ)
    (coming coming' : Incoming) (sent sent' : Option (List Message)) (moments : Option Moments) (w w' : Option (List ℕ)) (how : Fruit) (answer now : ℕ)
    (i : Issued calls old mid from to lines lines' w w') (p : PollsOnce node mid polled now coming coming' sent sent' how) where
  -- the turn of the definition, whatever comes later
  pub turn_is : IfSome moments (λ told. answer ≡ next_moment told) → max answer mid.last ≡ now → new ≡ handed_out polled
      → (clock : ClockAnswers) → IsTold clock (option_map after_moment moments) → (first : ClockAnswers) × IsTold first moments
      × ((rest : List (Received Peer)) (more : List Bool) (others : List (List ℕ)) (said : List Printed) (fruitless : ℕ)
      → (turn (driving old (drop from calls) lines first (p.receives ++ rest) (p.sendings ++ more) others said fruitless false)
      ≡ with_fruit p.is_fruit (driving new (drop to calls) lines' clock rest more (others ++ p.frames) (said ++ (i.printed ++ answered_by polled lines')) fruitless (fails how)))
      × HasReceiving (next_poll (driving old (drop from calls) lines first (p.receives ++ rest) (p.sendings ++ more) others said fruitless false)) (p.receives ++ rest))
  turn_is gives at state clock is =
      let b = clock_before moments answer gives clock is in
      let when : moment_of b.first mid.last ≡ now = ap (λ n. max n mid.last) b.gives ∙ at in (
        b.first,
        b.told,
        λ rest more others said fruitless. (
          ap rest_of_turn (i.holds b.first (p.receives ++ rest) (p.sendings ++ more) others said fruitless)
              ∙ (λ j. turn_on (when j) (poll mid (when j)) (driving mid (drop to calls) lines' b.first (p.receives ++ rest) (p.sendings ++ more) others (said ++ i.printed) fruitless false))
              ∙ (λ j. with_fruit (p.fruitful (drop to calls) lines' b.first rest more others (said ++ i.printed) fruitless j)
              (prints (polls now (poll mid now) (driving mid (drop to calls) lines' (b.after j) (p.receives ++ rest) (p.sendings ++ more) others (said ++ i.printed) fruitless false))))
              ∙ ap (λ (x : Driving Peer). with_fruit p.is_fruit (prints x)) (p.holds (drop to calls) lines' clock rest more others (said ++ i.printed) fruitless)
              ∙ (λ j. with_fruit p.is_fruit (driving (sym state j) (drop to calls) lines' clock rest more (others ++ p.frames) (append_assoc said i.printed (answered_by polled lines') j) fruitless (fails how))),
          subst (λ (q : Polled). HasReceiving q (p.receives ++ rest))
              (sym (ap (λ (r : Driving Peer). poll r.client (moment_in r)) (i.holds b.first (p.receives ++ rest) (p.sendings ++ more) others said fruitless) ∙ ap (λ t. poll mid t) when))
              (p.received rest),
        ),
      )

  pub turned_once : IfSome moments (λ told. answer ≡ next_moment told) → max answer mid.last ≡ now
      → new ≡ handed_out polled → (w'' : Option (List ℕ)) → Added (text_of (answered_by polled lines')) w' w''
      → TurnsOnce calls node old new from to lines lines' (told_of coming sent moments) (told_of coming' sent' (option_map after_moment moments)) w w'' how
  turned_once gives at state w'' text = record {
    receives = p.receives;
    sendings = p.sendings;
    frames = p.frames;
    printed = i.printed ++ answered_by polled lines';
    is_fruit = p.is_fruit;
    gave = p.gave;
    messages = p.messages;
    text = added_texts i.printed (answered_by polled lines') w w' w'' i.text text;
    fruit = p.fruit;
    holds = turn_is gives at state;
  }

-- the turn is counted as fruitful or not
pub fruit_counts : (b : Bool) (s : ClientState) (script : List (ℕ × CallText)) (lines : List ℕ) (clock : ClockAnswers) (receives : List (Received Peer)) (sendings : List Bool) (sent : List (List ℕ)) (printed : List Printed) (n : ℕ) (failed : Bool)
    → with_fruit b (driving s script lines clock receives sendings sent printed n failed) ≡ driving s script lines clock receives sendings sent printed (fruitless_by b n) failed
fruit_counts true s script lines clock receives sendings sent printed n failed = refl
fruit_counts false s script lines clock receives sendings sent printed n failed = refl

-- a client of which nothing ended
pub none_to_hand : (s : ClientState) → s.ended ≡ [] → s ≡ handed_out s
none_to_hand s none = λ j. record s { ended = none j }

pub none_to_say : (s : ClientState) (lines : List ℕ) (w : Option (List ℕ)) → s.ended ≡ [] → Added (text_of (answered_by s lines)) w w
none_to_say s lines w none =
    subst (λ (fs : List Finished). Added (text_of (map (λ f. Answered (line_of lines f.number) (told s.client f)) fs)) w w) (sym none) (added_none w)

-- the clock stands as it was told
pub with_moments : (calls : List (ℕ × CallText)) (node : Peer) (old new : ClientState) (from to : ℕ) (lines lines' : List ℕ) (coming coming' : Incoming) (sent sent' : Option (List Message)) (moments moments' : Option Moments) (w w' : Option (List ℕ)) (how : Fruit)
    → moments' ≡ option_map after_moment moments
    → TurnsOnce calls node old new from to lines lines' (told_of coming sent moments) (told_of coming' sent' (option_map after_moment moments)) w w' how
    → TurnsOnce calls node old new from to lines lines' (told_of coming sent moments) (told_of coming' sent' moments') w w' how
with_moments calls node old new from to lines lines' coming coming' sent sent' moments moments' w w' how is t =
    subst (λ (m : Option Moments). TurnsOnce calls node old new from to lines lines' (told_of coming sent moments) (told_of coming' sent' m) w w' how) (sym is) t
