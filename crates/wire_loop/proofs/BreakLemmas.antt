-- A turn that breaks off.
use Rattle.std.proofs.Common.{◌≡◌, ℕ, List, [], ◌∷◌, ◌++◌, Bool, true, false, Option, Some, None, refl, sym, ap, ◌∙◌, subst, drop, map, max, append_assoc, append-nil, inl, inr}
use Rattle.std.specs.Prelude.{IfSome, if◌then◌else◌}
use Rattle.std.specs.Option.{option_map}
use Rattle.cl_outside.specs.Clock.{Moments, after_moment, next_moment}
use Rattle.cl_outside.specs.Loops.{WroteFront}
use Rattle.cl_outside.specs.Wire.{Message}
use Rattle.cl_outside.specs.declared.wire.Peer.{Peer}
use Rattle.cl_types.specs.declared.schedule.CallText.{CallText}
use Rattle.client_model.specs.Client.{ClientState, Polled, GivesUp, EndsFence, Sends, Idles, after_poll, handed_out, poll, told}
use Rattle.wire_loop.specs.Driving.{Answered, Driving, Printed, frame_of, is_fruitful, issues, line_of, polls, prints, receives_one, sends, turn, with_frame, with_fruit}
use Rattle.wire_loop.specs.Outside.{ClockAnswers, Received, Datagram, NothingCame, ReceivingFailed, after_answer, goes_through, moment_of}
use Rattle.wire_loop.specs.Drives.{text_of}
use Rattle.wire_loop.specs.Driven.{BrokeIssuing, BrokeTurning, Issued, PollsOnce, answered_by, driving, fails, fruitless_by}
use Rattle.wire_loop.specs.Serves.{Gave, Incoming, IsTold, Told, clock_of, told_of}
use Rattle.wire_loop.specs.declared.driving.Fruit.{Fruit}
use Rattle.wire_loop.proofs.IssueLemmas.{front_before, front_of_texts, text_both}
use Rattle.wire_loop.proofs.OnceLemmas.{fruit_counts, turn_is}
use Rattle.wire_loop.proofs.RanLemmas.{added_none}

-- ---- what a turn prints besides what issuing printed
fruit_printed : (b : Bool) (d : Driving Peer) → (with_fruit b d).printed ≡ d.printed
fruit_printed true d = refl
fruit_printed false d = refl

frame_printed : (bytes : List ℕ) (b : Bool) (d : Driving Peer) → (with_frame bytes b d).printed ≡ d.printed
frame_printed bytes true d = refl
frame_printed bytes false d = refl

sends_printed : (frames : List (List ℕ)) (d : Driving Peer) → (sends frames d).printed ≡ d.printed
sends_printed [] d = refl
sends_printed (bytes ∷ rest) d = by_fault d.failed (sends_printed rest (with_frame bytes (goes_through d.sendings) d)) where
  by_fault : (b : Bool) → (sends rest (with_frame bytes (goes_through d.sendings) d)).printed ≡ (with_frame bytes (goes_through d.sendings) d).printed
      → (if b then d else sends rest (with_frame bytes (goes_through d.sendings) d)).printed ≡ d.printed
  by_fault true later = refl
  by_fault false later = later ∙ frame_printed bytes (goes_through d.sendings) d

receives_printed : (rs : List (Received Peer)) (d : Driving Peer) → (receives_one rs d).printed ≡ d.printed
receives_printed [] d = refl
receives_printed (Datagram bytes from ∷ rs) d = refl
receives_printed (NothingCame ∷ rs) d = refl
receives_printed (ReceivingFailed ∷ rs) d = refl

polls_printed : (t : ℕ) (p : Polled) (d : Driving Peer) → (polls t p d).printed ≡ d.printed
polls_printed t (GivesUp f) d = refl
polls_printed t (EndsFence n) d = refl
polls_printed t (Sends items) d = sends_printed (map (frame_of d.client) items) (record d { client = after_poll t (Sends items) d.client })
polls_printed t Idles d = receives_printed d.receives (record d { client = after_poll t Idles d.client })

turn_prints : (d : Driving Peer) → (more : List Printed) × ((turn d).printed ≡ (issues d.script d).printed ++ more)
turn_prints d =
    let ready : Driving Peer = issues d.script d in
    let t : ℕ = moment_of ready.clock ready.client.last in
    let p : Polled = poll ready.client t in
    let answered : Driving Peer = record ready { clock = after_answer ready.clock } in
    let polled : Driving Peer = polls t p answered in
    let more : List Printed = map (λ f. Answered (line_of polled.lines f.number) (told polled.client.client f)) polled.client.ended in
    (more, fruit_printed (is_fruitful t p ready) (prints polled) ∙ ap (λ (xs : List Printed). xs ++ more) (polls_printed t p answered))

-- ---- a clock that answers as it is told of
pub some_clock : (moments : Option Moments) → (clock : ClockAnswers) × IsTold clock moments
some_clock None = (record { answers = []; repeats = 0 }, tt)
some_clock (Some moments) = (clock_of moments, refl)

-- ---- it breaks off while calls are issued
pub broke_issuing : (calls : List (ℕ × CallText)) (node : Peer) (old : ClientState) (from : ℕ) (lines : List ℕ) (told : Told) (w w' : Option (List ℕ))
    → BrokeIssuing calls old from lines w w' → BrokeTurning calls node old from lines told told w w'
broke_issuing calls node old from lines told w w' b =
    let clock = some_clock told.moments in record {
      clock = clock.0;
      receives = [];
      sendings = [];
      told = clock.1;
      gave = refl;
      holds = λ others said fruitless.
          let d : Driving Peer = driving old (drop from calls) lines clock.0 [] [] others said fruitless false in
          let m = b.holds clock.0 [] [] others said fruitless in
          let more = turn_prints d in
          let rest : List Printed = m.0 ++ more.0 in (
            (
              b.printed ++ rest,
              more.1 ∙ ap (λ (xs : List Printed). xs ++ more.0) m.1 ∙ append_assoc said (b.printed ++ m.0) more.0
                  ∙ ap (λ (xs : List Printed). said ++ xs) (append_assoc b.printed m.0 more.0),
              subst (λ text. WroteFront text w w') (sym (text_both b.printed rest)) (front_before (text_of b.printed) (text_of rest) w w' b.front),
            ),
            inl (refl, added_none told.sent, clock.1),
          );
    }

-- ---- it breaks off while answers are written
module _ (calls : List (ℕ × CallText)) (node : Peer) (old mid polled : ClientState) (from to : ℕ) (lines lines' : List ℕ)
    (coming coming' : Incoming) (sent sent' : Option (List Message)) (moments : Option Moments) (w w' w'' : Option (List ℕ)) (how : Fruit) (answer now : ℕ)
    (i : Issued calls old mid from to lines lines' w w') (p : PollsOnce node mid polled now coming coming' sent sent' how) where
  pub broke_handing : IfSome moments (λ told. answer ≡ next_moment told) → max answer mid.last ≡ now → WroteFront (text_of (answered_by polled lines')) w' w''
      → BrokeTurning calls node old from lines (told_of coming sent moments) (told_of coming' sent' (option_map after_moment moments)) w w''
  broke_handing gives at front =
      let clock = some_clock (option_map after_moment moments) in
      let one = turn_is calls node old mid polled (handed_out polled) from to lines lines' coming coming' sent sent' moments w w' how answer now i p gives at refl clock.0 clock.1 in
      let said_now : List Printed = i.printed ++ answered_by polled lines' in record {
        clock = one.0;
        receives = p.receives ++ [];
        sendings = p.sendings ++ [];
        told = one.1;
        gave = subst (λ (rs : List (Received Peer)). Gave rs coming coming') (sym (append-nil p.receives)) p.gave;
        holds = λ others said fruitless.
            let turned = one.2 [] [] others said fruitless in
            let d : Driving Peer = driving old (drop from calls) lines one.0 (p.receives ++ []) (p.sendings ++ []) others said fruitless false in
            let same : turn d ≡ driving (handed_out polled) (drop to calls) lines' clock.0 [] [] (others ++ p.frames) (said ++ said_now) (fruitless_by p.is_fruit fruitless) (fails how) =
            turned.0 ∙ fruit_counts p.is_fruit (handed_out polled) (drop to calls) lines' clock.0 [] [] (others ++ p.frames) (said ++ said_now) fruitless (fails how) in (
              (
                said_now,
                ap (λ (x : Driving Peer). x.printed) same,
                front_of_texts i.printed (answered_by polled lines') w w' w'' i.text front,
              ),
              inr (
                turned.1,
                ap (λ (x : Driving Peer). x.receives) same,
                (p.frames, ap (λ (x : Driving Peer). x.sent) same, p.messages),
                subst (λ (x : Driving Peer). IsTold x.clock (option_map after_moment moments)) (sym same) clock.1,
              ),
            );
      }

-- the clock stands as it was told
pub broke_with_moments : (calls : List (ℕ × CallText)) (node : Peer) (old : ClientState) (from : ℕ) (lines : List ℕ) (coming coming' : Incoming) (sent sent' : Option (List Message)) (moments moments' : Option Moments) (w w' : Option (List ℕ))
    → moments' ≡ option_map after_moment moments
    → BrokeTurning calls node old from lines (told_of coming sent moments) (told_of coming' sent' (option_map after_moment moments)) w w'
    → BrokeTurning calls node old from lines (told_of coming sent moments) (told_of coming' sent' moments') w w'
broke_with_moments calls node old from lines coming coming' sent sent' moments moments' w w' is b =
    subst (λ (m : Option Moments). BrokeTurning calls node old from lines (told_of coming sent moments) (told_of coming' sent' m) w w') (sym is) b
