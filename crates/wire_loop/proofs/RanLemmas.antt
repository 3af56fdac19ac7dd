-- Turns one after another, and their end.
use Rattle.std.proofs.Common.{◌≡◌, ℕ, ◌<◌, Bool, true, false, leb, List, [], ◌∷◌, ◌++◌, Option, Some, None, map, refl, sym, ap, ◌∙◌, subst, ◌||◌}
use Rattle.std.proofs.lemmas.Bool.{lt-leb}
use Rattle.std.proofs.lemmas.List.{append-nil, append_assoc, map-append}
use Rattle.std.specs.Option.{option_map}
use Rattle.cl_outside.specs.Clock.{Moments}
use Rattle.cl_outside.specs.Told.{Added}
use Rattle.cl_outside.specs.Wire.{Message}
use Rattle.cl_outside.specs.declared.wire.Peer.{Peer}
use Rattle.wire_loop.specs.Outside.{ClockAnswers, Received}
use Rattle.wire_loop.specs.Serving.{Serving, Turned, turn, served_over, is_over, serve_stop}
use Rattle.node_core.specs.Keeping.{KeptNode}
use Rattle.node_model.specs.Handling.{latest}
use Rattle.node_model.specs.Nodes.{Record}
use Rattle.wire_loop.specs.Ran.{Ran}
use Rattle.wire_loop.specs.Serves.{Gave, GaveOne, Incoming, IsTold, Serves, Told, clock_of, end_of, incoming, message_of}
use Rattle.wire_loop.specs.Turns.{Turns, fails, idles_by, served_by, serving}
use Rattle.wire_loop.specs.declared.serving.TurnEnd.{TurnEnd}
use Rattle.wire_loop.specs.declared.serving.ServeEnd.{ServeEnd}

-- ---- a choice
on_false : (b : Bool) → b ≡ false → (s u : Serving Peer) → (elim b [ true ↦ s | false ↦ u ]) ≡ u
on_false true e s u = absurd cc
on_false false e s u = refl

on_true : (b : Bool) → b ≡ true → (s u : Serving Peer) → (elim b [ true ↦ s | false ↦ u ]) ≡ s
on_true true e s u = refl
on_true false e s u = absurd cc

-- ---- lists that are told
pub added_none : {A : Type 0} → (o : Option (List A)) → Added [] o o
added_none None = refl
added_none (Some xs) = ap Some (sym (append-nil xs))

pub added_same : {A : Type 0} → (a b : Option (List A)) → b ≡ a → Added [] a b
added_same a b same = same ∙ added_none a

-- what is to come stands, and so does the count of receivings that gave nothing
pub incoming_same : {coming coming' : Option (List Message)} {idles idles' : ℕ} → coming' ≡ coming → idles' ≡ idles
    → incoming coming' idles' ≡ incoming coming idles
incoming_same same_coming same_idles = λ i. incoming (same_coming i) (same_idles i)

pub added_both : {A : Type 0} → (xs ys : List A) (a b c : Option (List A)) → Added xs a b → Added ys b c → Added (xs ++ ys) a c
added_both xs ys None b c first second = second ∙ ap (λ o. option_map (λ old. old ++ ys) o) first
added_both xs ys (Some zs) b c first second =
    second ∙ ap (λ o. option_map (λ old. old ++ ys) o) first ∙ ap Some (append_assoc zs xs ys)

gave_more : (rs : List (Received Peer)) (r : Received Peer) (a b c : Incoming) → Gave rs a b → GaveOne r b c
    → Gave (rs ++ r ∷ []) a c
gave_more [] r a b c first second = (c, subst (λ o. GaveOne r o c) first second, refl)
gave_more (s ∷ rs) r a b c first second = (first.0, first.1, gave_more rs r first.0 b c first.2 second)

appended : {A : Type 0} → (xs : List A) (y : A) (zs : List A) → (xs ++ y ∷ []) ++ zs ≡ xs ++ y ∷ zs
appended xs y zs = append_assoc xs (y ∷ []) zs

-- ---- the first turn, and one more
module _ (frames idles : ℕ) where
  pub ran_none : (old : KeptNode) (told : Told) → Ran frames idles old old told told 0 0 false
  ran_none old told = record {
    receives = [];
    sendings = [];
    sent = [];
    gave = refl;
    messages = added_none told.sent;
    holds = λ clock is. (clock, is, λ more rest finish turned. turned);
  }

  module _ (old now then : KeptNode) (before between after : Told) (served idle : ℕ) (how : TurnEnd) where
    pub ran_more : served < frames → idle < idles → Ran frames idles old now before between served idle false
        → Turns now then between after how
        → Ran frames idles old then before after (served_by how served) (idles_by how idle) (fails how)
    ran_more few short r t = record {
      receives = r.receives ++ t.received ∷ [];
      sendings = r.sendings ++ t.turns.sendings;
      sent = r.sent ++ t.turns.sent;
      gave = gave_more r.receives t.received before.coming between.coming after.coming r.gave t.gave;
      messages = subst (λ ms. Added ms before.sent after.sent) (sym (map-append message_of r.sent t.turns.sent))
          (added_both (map message_of r.sent) (map message_of t.turns.sent) before.sent between.sent after.sent r.messages
          t.turns.messages);
      holds = λ clock is.
          let last = t.turns.holds clock is in
          let first = r.holds last.0 last.1 in (
            first.0,
            first.1,
            λ more rest finish turned. one clock last.0 first.0 more rest finish
                (first.2 (t.turns.sendings ++ more) (t.received ∷ rest) finish) (last.2 more r.sent served idle) turned,
          );
    } where
      start : ClockAnswers → List Bool → Serving Peer
      start first more = serving old.node old.last first more [] 0 0 false

      middle : ClockAnswers → List Bool → Serving Peer
      middle clock more = serving now.node now.last clock more r.sent served idle false

      end : ClockAnswers → List Bool → Serving Peer
      end clock more = serving then.node then.last clock more (r.sent ++ t.turns.sent) (served_by how served) (idles_by how idle)
          (fails how)

      goes_on : (clock : ClockAnswers) (more : List Bool) → is_over frames idles (middle clock more) ≡ false
      goes_on clock more = rw (lt-leb frames served few, lt-leb idles idle short) refl

      one : (clock between first : ClockAnswers) (more : List Bool) (rest : List (Received Peer)) (finish : Serving Peer)
          → (Turned latest frames idles (middle between (t.turns.sendings ++ more)) (t.received ∷ rest) finish
          → Turned latest frames idles (start first (r.sendings ++ (t.turns.sendings ++ more))) (r.receives ++ t.received ∷ rest) finish)
          → turn latest (middle between (t.turns.sendings ++ more)) t.received ≡ end clock more
          → Turned latest frames idles (end clock more) rest finish
          → Turned latest frames idles (start first ((r.sendings ++ t.turns.sendings) ++ more))
          ((r.receives ++ t.received ∷ []) ++ rest) finish
      one clock between first more rest finish so same later =
          subst (λ rs. Turned latest frames idles (start first ((r.sendings ++ t.turns.sendings) ++ more)) rs finish)
          (sym (appended r.receives t.received rest))
          (subst (λ ss. Turned latest frames idles (start first ss) (r.receives ++ t.received ∷ rest) finish)
          (sym (append_assoc r.sendings t.turns.sendings more))
          (so (goes_on between (t.turns.sendings ++ more), subst (λ s. Turned latest frames idles s rest finish) (sym same) later)))

  -- ---- the end
  told_clock : (moments : Option Moments) → (clock : ClockAnswers) × IsTold clock moments
  told_clock None = (record { answers = []; repeats = 0 }, tt)
  told_clock (Some told) = (clock_of told, refl)

  module _ (old now : KeptNode) (before after : Told) (served idle : ℕ) (failed : Bool) (answer : ServeEnd) where
    pub ran_to_end : Ran frames idles old now before after served idle failed
        → (failed || leb frames served || leb idles idle) ≡ true
        → ((clock : ClockAnswers) (sent : List (Peer × List ℕ))
        → answer ≡ end_of (serve_stop frames (serving now.node now.last clock [] sent served idle failed)) served)
        → Serves frames idles old now before after answer
    ran_to_end r over ends =
        let clock = told_clock after.moments in
        let first = r.holds clock.0 clock.1 in
        let at_end = serving now.node now.last clock.0 [] r.sent served idle failed in record {
          clock = first.0;
          sendings = r.sendings ++ [];
          receives = r.receives ++ [];
          at_end = at_end;
          told = first.1;
          gave = subst (λ rs. Gave rs before.coming after.coming) (sym (append-nil r.receives)) r.gave;
          turned = first.2 [] [] at_end (refl, over);
          node = refl;
          last = refl;
          sent = r.messages;
          still = clock.1;
          ends = ends clock.0 r.sent;
        }

-- such turns are the run that the definition has for what was received
pub turned_so : (keep : ℕ → List Record → List Record) (frames idles : ℕ) (s e : Serving Peer) (rs : List (Received Peer))
    → Turned keep frames idles s rs e → e ≡ served_over keep frames idles s rs
turned_so keep frames idles s e [] turned =
    turned.0 ∙ sym (on_true (is_over frames idles s) turned.1 s (record s { idles = idles }))
turned_so keep frames idles s e (r ∷ rs) turned =
    turned_so keep frames idles (turn keep s r) e rs turned.1
    ∙ sym (on_false (is_over frames idles s) turned.0 s (served_over keep frames idles (turn keep s r) rs))
