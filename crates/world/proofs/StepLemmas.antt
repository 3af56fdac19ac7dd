-- A step of the whole is the step of its client, or of its node.
use Rattle.std.proofs.Common.{◌≡◌, ℕ, ◌+◌, List, [], ◌∷◌, Bool, true, false, cond, Option, Some, None, refl, sym, ap, ◌∙◌, set, arith}
use Rattle.std.specs.Prelude.{slice_get}
use Rattle.std.proofs.lemmas.Bool.Decides.{nat_tests}
use Rattle.cl_types.specs.declared.call.Call.{Call}
use Rattle.cl_types.specs.declared.frame.End.{End}
use Rattle.cl_types.specs.declared.frame.End.TheVariants as to
use Rattle.cl_types.specs.declared.frame.IssueFault.{IssueFault}
use Rattle.cl_types.specs.declared.line.Did.{Did}
use Rattle.cl_types.specs.declared.line.Did.TheVariants as did
use Rattle.cl_types.specs.declared.line.Entry.{Entry}
use Rattle.cl_types.specs.declared.line.EventLine.{EventLine}
use Rattle.cl_types.specs.declared.numbers.ClientNo.{ClientNo}
use Rattle.cl_types.specs.declared.request.Request.{Request}
use Rattle.client_core.specs.Answers.{heard_as, issue_state}
use Rattle.client_model.specs.Apart.{AreApart}
use Rattle.client_model.specs.Client.{ClientState, Polled, GivesUp, EndsFence, Sends, Idles, after_issue, after_poll, after_reply, handed_out, poll}
use Rattle.cl_types.specs.Parts.{same_client}
use Rattle.node_model.specs.Handling.{latest}
use Rattle.client_model.specs.Hearing.{Hearing, HearsBad, HearsOther, HearsLate, HearsUnfit, HearsReply, hearing}
use Rattle.client_model.specs.Issue.{issue_fault}
use Rattle.node_model.specs.Nodes.{NodeState, node_answer, node_given}
use Rattle.link_sim.specs.Got.{Live, found_at}
use Rattle.link_sim.specs.LinkFrames.{frame_at}
use Rattle.world.specs.declared.ask.FrameAnswer.{FrameAnswer}
use Rattle.world.specs.declared.listen.Listened.{Listened}
use Rattle.world.specs.declared.listen.Listened.TheVariants as listened
use Rattle.world.specs.declared.note.Note.{Note}
use Rattle.world.specs.declared.turn.ClientTurn.{ClientTurn}
use Rattle.world.specs.declared.turn.ClientTurn.TheVariants as turned
use Rattle.world.specs.Fields.{numbers_of}
use Rattle.world.specs.Running.{stepped}
use Rattle.world.specs.Saying.{IsListened, IsSaid, IsTurned, issue_did, listened_step, look_entry, said_step, state_heard, turned_step, with_look}
use Rattle.world.specs.Worlds.{WorldState, arrived, call_judged, client_heard, client_in, client_stands, deliver, delivered, next_frame, note_on, polled, sends_frame, shows, taken_entry, with_found}
use Rattle.world.proofs.ClientLemmas.{changed_at, same_at}
use Rattle.world.proofs.ListenLemmas.{as_heard}
use Rattle.world.proofs.NodeLemmas.{node_so}
use Rattle.world.proofs.TurnLemmas.{after_client}

-- ---- clients
number_is : (c d : ClientNo) → same_client c d ≡ true → d ≡ c
number_is c d same = let is : d.0 ≡ c.0 = grind (arith, nat_tests) in λ i. record { 0 = is i }

-- the one that is found has the number
pub found_number : (clients : List ClientState) (c : ClientNo) (s : ClientState) → client_in clients c ≡ Some s → s.client ≡ c
found_number [] c s is = absurd cc
found_number (x ∷ clients) c s is = go (same_client c x.client) refl is (found_number clients c s) where
  go : (b : Bool) → same_client c x.client ≡ b → cond b (Some x) (client_in clients c) ≡ Some s → (client_in clients c ≡ Some s → s.client ≡ c) → s.client ≡ c
  go true same is rest = let one : x ≡ s = cc in ap (λ (y : ClientState). y.client) (sym one) ∙ number_is c x.client same
  go false same is rest = rest is

-- ---- a call
-- the clients after a call was judged
pub issued_so : (w : WorldState) (at : ℕ) (s : ClientState) (k : Call) (o : Option IssueFault) → slice_get w.clients at ≡ Some s → AreApart (numbers_of w.clients)
    → record { did = issue_did s o; ended = None; world = record w { clients = set w.clients at (issue_state s k o) } } ≡ call_judged w s k o
issued_so w at s k (Some fault) there apart = ap (λ xs. shows (record w { clients = xs }) (did.NotIssued fault)) (same_at w.clients at s there)
issued_so w at s k None there apart =
    ap (λ xs. shows (record w { clients = xs }) (did.Issued s.client (record { 0 = s.issued + 1 }))) (sym (changed_at w.clients at s (after_issue k s) there refl apart))

-- ---- a poll
module _ (w : WorldState) (l : ℕ) (s : ClientState) where
  turned_one : (p : Polled) (t : ClientTurn) (out : List ℕ) → IsTurned s w.moment p t out → turned_step (client_stands w (after_poll w.moment p s)) l s.client t out ≡ polled w l s p
  turned_one (GivesUp f) (turned.Quiet line) out told = λ i. record { did = told.0 i; ended = told.1 i; world = client_stands w (after_poll w.moment (GivesUp f) s) }
  turned_one (GivesUp f) (turned.Sends len part id orig again) out told = absurd told
  turned_one (EndsFence n) (turned.Quiet line) out told = λ i. record { did = told.0 i; ended = told.1 i; world = client_stands w (after_poll w.moment (EndsFence n) s) }
  turned_one (EndsFence n) (turned.Sends len part id orig again) out told = absurd told
  turned_one (Sends []) t out told = absurd told
  turned_one (Sends (o ∷ [])) (turned.Quiet line) out told = absurd told
  turned_one (Sends (o ∷ [])) (turned.Sends len part id orig again) out told = λ i. shows
      (sends_frame (client_stands w (after_poll w.moment (Sends (o ∷ [])) s)) l to.Node (told.4 i) (record { part = told.0 i; looked = None }))
      (cond (told.3 i) (did.Again (next_frame w) s.client (told.0 i) (told.1 i) (told.2 i)) (did.Sent (next_frame w) s.client (told.0 i) (told.1 i)))
  turned_one (Sends (o ∷ u ∷ items)) t out told = absurd told
  turned_one Idles (turned.Quiet line) out told = λ i. record { did = told.0 i; ended = told.1 i; world = client_stands w (after_poll w.moment Idles s) }
  turned_one Idles (turned.Sends len part id orig again) out told = absurd told

-- the step of a poll, by what is told of it, where the client stands at its place
pub turned_so : (w : WorldState) (l at : ℕ) (s new : ClientState) (p : Polled) (t : ClientTurn) (out : List ℕ) → slice_get w.clients at ≡ Some s → AreApart (numbers_of w.clients)
    → new ≡ handed_out (after_poll w.moment p s) → IsTurned s w.moment p t out → turned_step (record w { clients = set w.clients at new }) l s.client t out ≡ polled w l s p
turned_so w l at s new p t out there apart is told =
    ap (λ (xs : List ClientState). turned_step (record w { clients = xs }) l s.client t out)
    (ap (set w.clients at) is ∙ sym (changed_at w.clients at s (handed_out (after_poll w.moment p s)) there (after_client w.moment p s) apart))
    ∙ turned_one w l s p t out told

-- ---- hearing
taken_is : (line : ℕ) (bytes : List ℕ) (note : Note) (h : List Entry) → with_look (look_entry line bytes note) h ≡ taken_entry line bytes note.part note.looked h
taken_is line bytes note h = go note.looked where
  go : (o : Option Request) → with_look (look_entry line bytes (record note { looked = o })) h ≡ taken_entry line bytes note.part o h
  go None = refl
  go (Some r) = refl

listened_so : (w : WorldState) (k line at : ℕ) (s new : ClientState) (bytes : List ℕ) (note : Note) (h : Hearing) (t : Listened) → slice_get w.clients at ≡ Some s → AreApart (numbers_of w.clients)
    → new ≡ state_heard s h → IsListened s bytes note line h t → listened_step (record w { clients = set w.clients at new }) k s.client t ≡ client_heard w k line note s bytes h
listened_so w k line at s new bytes note (HearsBad f) (listened.Bad fault) there apart is told =
    λ i. shows (record w { clients = (ap (set w.clients at) is ∙ same_at w.clients at s there) i }) (did.Bad (told i))
listened_so w k line at s new bytes note (HearsOther c) listened.Other there apart is told =
    λ i. shows (record w { clients = (ap (set w.clients at) is ∙ same_at w.clients at s there) i }) did.Idle
listened_so w k line at s new bytes note (HearsLate orig) (listened.Late o) there apart is told =
    λ i. shows (record w { clients = (ap (set w.clients at) is ∙ same_at w.clients at s there) i }) (did.Late k (told i))
listened_so w k line at s new bytes note (HearsUnfit orig) (listened.Late o) there apart is told =
    λ i. shows (record w { clients = (ap (set w.clients at) is ∙ same_at w.clients at s there) i }) (did.Late k (told i))
listened_so w k line at s new bytes note (HearsReply f reply) (listened.Took t) there apart is told = λ i. record {
  did = did.Took k s.client (told.0 i);
  ended = told.1 i;
  world = record w {
    clients = (ap (set w.clients at) is ∙ sym (changed_at w.clients at s (handed_out (after_reply f.part reply s)) there refl apart)) i;
    history = (ap (λ e. with_look e w.history) told.2 ∙ taken_is line bytes note w.history) i;
  };
}
listened_so w k line at s new bytes note (HearsBad f) listened.Other there apart is told = absurd told
listened_so w k line at s new bytes note (HearsBad f) (listened.Late o) there apart is told = absurd told
listened_so w k line at s new bytes note (HearsBad f) (listened.Took t) there apart is told = absurd told
listened_so w k line at s new bytes note (HearsOther c) (listened.Bad o) there apart is told = absurd told
listened_so w k line at s new bytes note (HearsOther c) (listened.Late o) there apart is told = absurd told
listened_so w k line at s new bytes note (HearsOther c) (listened.Took t) there apart is told = absurd told
listened_so w k line at s new bytes note (HearsLate orig) (listened.Bad o) there apart is told = absurd told
listened_so w k line at s new bytes note (HearsLate orig) listened.Other there apart is told = absurd told
listened_so w k line at s new bytes note (HearsLate orig) (listened.Took t) there apart is told = absurd told
listened_so w k line at s new bytes note (HearsUnfit orig) (listened.Bad o) there apart is told = absurd told
listened_so w k line at s new bytes note (HearsUnfit orig) listened.Other there apart is told = absurd told
listened_so w k line at s new bytes note (HearsUnfit orig) (listened.Took t) there apart is told = absurd told
listened_so w k line at s new bytes note (HearsReply f reply) (listened.Bad o) there apart is told = absurd told
listened_so w k line at s new bytes note (HearsReply f reply) listened.Other there apart is told = absurd told
listened_so w k line at s new bytes note (HearsReply f reply) (listened.Late o) there apart is told = absurd told

-- ---- a delivery
module _ (w : WorldState) (l k : ℕ) where
  pub live : (note : Note) (bytes : List ℕ) (end : End) (line : ℕ) → note_on w.notes k ≡ Some note → found_at w.moment (frame_at w.link k) ≡ Live bytes end line
      → deliver w l k ≡ arrived w l k (Some note) bytes end line
  live note bytes end line noted found = λ i. delivered w l k (noted i) (found i)

-- ---- what the code found
pub record IsThere (w : WorldState) (number : ClientNo) (at : ℕ) (s : ClientState) : Type 0 where
  pub at_place : slice_get w.clients at ≡ Some s
  pub found : client_in w.clients number ≡ Some s

pub is_there : (w : WorldState) (number : ClientNo) (at : ℕ) (s : ClientState) → slice_get w.clients at ≡ client_in w.clients number → slice_get w.clients at ≡ Some s → IsThere w number at s
is_there w number at s found place = record { at_place = place; found = sym found ∙ place }

pub called_so : (w : WorldState) (number : ClientNo) (k : Call) (at : ℕ) (s new : ClientState) (d : Did) (told : EventLine) → IsThere w number at s → AreApart (numbers_of w.clients)
    → told.did ≡ d → told.ended ≡ None → d ≡ issue_did s (issue_fault s k) → new ≡ issue_state s k (issue_fault s k)
    → stepped told (record w { clients = set w.clients at new }) ≡ with_found w (client_in w.clients number) (λ x. call_judged w x k (issue_fault x k))
called_so w number k at s new d told there apart did_is ended_is d_is new_is =
    (λ i. record { did = (did_is ∙ d_is) i; ended = ended_is i; world = record w { clients = set w.clients at (new_is i) } })
    ∙ issued_so w at s k (issue_fault s k) there.at_place apart
    ∙ ap (λ o. with_found w o (λ x. call_judged w x k (issue_fault x k))) (sym there.found)

pub polled_so : (w : WorldState) (l : ℕ) (number : ClientNo) (at : ℕ) (s new : ClientState) (t : ClientTurn) (out : List ℕ) → IsThere w number at s → AreApart (numbers_of w.clients)
    → new ≡ handed_out (after_poll w.moment (poll s w.moment) s) → IsTurned s w.moment (poll s w.moment) t out
    → turned_step (record w { clients = set w.clients at new }) l number t out ≡ with_found w (client_in w.clients number) (λ x. polled w l x (poll x w.moment))
polled_so w l number at s new t out there apart is told =
    ap (λ c. turned_step (record w { clients = set w.clients at new }) l c t out) (sym (found_number w.clients number s there.found))
    ∙ turned_so w l at s new (poll s w.moment) t out there.at_place apart is told
    ∙ ap (λ o. with_found w o (λ x. polled w l x (poll x w.moment))) (sym there.found)

pub heard_so : (w : WorldState) (k line : ℕ) (number : ClientNo) (at : ℕ) (s new : ClientState) (bytes : List ℕ) (note : Note) (t : Listened) → IsThere w number at s → AreApart (numbers_of w.clients)
    → new ≡ state_heard s (heard_as s bytes) → IsListened s bytes note line (heard_as s bytes) t
    → listened_step (record w { clients = set w.clients at new }) k number t ≡ with_found w (client_in w.clients number) (λ x. client_heard w k line note x bytes (hearing x bytes))
heard_so w k line number at s new bytes note t there apart is told =
    ap (λ c. listened_step (record w { clients = set w.clients at new }) k c t) (sym (found_number w.clients number s there.found))
    ∙ listened_so w k line at s new bytes note (heard_as s bytes) t there.at_place apart is told
    ∙ ap (client_heard w k line note s bytes) (as_heard s bytes)
    ∙ ap (λ o. with_found w o (λ x. client_heard w k line note x bytes (hearing x bytes))) (sym there.found)

-- ---- a live frame
pub to_node : (w : WorldState) (l k : ℕ) (note : Note) (bytes : List ℕ) (end : End) (line : ℕ) (n : NodeState) (s : FrameAnswer) (out : List ℕ) → Some note ≡ note_on w.notes k
    → Live bytes end line ≡ found_at w.moment (frame_at w.link k) → end ≡ to.Node
    → n ≡ node_given latest w.node w.moment bytes → IsSaid bytes (node_answer latest w.node w.moment bytes) s out → said_step (record w { node = n }) l k note.part s out ≡ deliver w l k
to_node w l k note bytes end line n s out noted found is_end is_node told =
    sym (node_so l k note.part w bytes n s out is_node told)
    ∙ ap (λ e. arrived w l k (Some note) bytes e line) (sym is_end)
    ∙ sym (live w l k note bytes end line (sym noted) (sym found))

pub to_client : (w : WorldState) (l k : ℕ) (note : Note) (bytes : List ℕ) (end : End) (line : ℕ) (number : ClientNo) (at : ℕ) (s new : ClientState) (t : Listened) → Some note ≡ note_on w.notes k
    → Live bytes end line ≡ found_at w.moment (frame_at w.link k) → end ≡ to.Client number → IsThere w number at s → AreApart (numbers_of w.clients)
    → new ≡ state_heard s (heard_as s bytes) → IsListened s bytes note line (heard_as s bytes) t → listened_step (record w { clients = set w.clients at new }) k number t ≡ deliver w l k
to_client w l k note bytes end line number at s new t noted found is_end there apart is told =
    heard_so w k line number at s new bytes note t there apart is told
    ∙ ap (λ e. arrived w l k (Some note) bytes e line) (sym is_end)
    ∙ sym (live w l k note bytes end line (sym noted) (sym found))
