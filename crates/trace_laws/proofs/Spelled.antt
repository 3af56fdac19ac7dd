-- Each event keeps that the frames spell what they carry.
use Rattle.std.proofs.Common.{◌≡◌, ℕ, suc, ◌+◌, ◌<◌, ◌≤◌, ◌^◌, List, [], ◌∷◌, refl, sym, ap, ◌∙◌, subst, Bool, true, false, cond, arith, Some, None, Option, length, length-append, ⊎_elim}
use Rattle.std.specs.Prelude.{count_by, filter_map, find, option_map, unwrap_or, ◌&&◌, ◌||◌, ◌==◌, slice_index}
use Rattle.std.specs.List.{AllByRecursion as Each, cons_option}
use Rattle.std.proofs.lemmas.Bool.Decides.{nat_tests}
use Rattle.cl_types.specs.Kinds.{kind_number}
use Rattle.cl_types.specs.Parts.{same_part}
use Rattle.cl_types.specs.Requests.{is_changing}
use Rattle.cl_types.specs.declared.config.Config.{Config}
use Rattle.cl_types.specs.declared.frame.Head.{Head}
use Rattle.cl_types.specs.declared.line.Did.{Did}
use Rattle.cl_types.specs.declared.line.Did.TheVariants as did
use Rattle.cl_types.specs.declared.line.Entry.{Entry}
use Rattle.cl_types.specs.declared.numbers.ClientNo.{ClientNo}
use Rattle.cl_types.specs.declared.reply.Part.{Part}
use Rattle.cl_types.specs.declared.reply.Reply.{Reply}
use Rattle.cl_types.specs.declared.request.Request.{Request}
use Rattle.cl_types.specs.declared.schedule.Event.{Event}
use Rattle.cl_types.specs.declared.schedule.Event.TheVariants as event
use Rattle.frame_model.proofs.ReplyFrameLemmas.{replies_are_read_again}
use Rattle.trace.specs.Account.{Account, Frame, Carried, Load, Asks, Answers, Effect, says, extended, now, items_of, memory_at, recorded, entries_before, is_before, nothing_yet, next_frame_number}
use Rattle.client_model.specs.Client.{ClientPart, Outgoing, Sending, GivesUp, EndsFence, Sends, again, anew, flight_under, flights, head_of, next_id}
use Rattle.cl_types.specs.Parts.{same_client}
use Rattle.trace.specs.Clients.{client_at, first_of, first_sending, first_sent, is_sending, pid_of, request_of_part, sendings}
use Rattle.trace.specs.Events.{account, account_from, effect, entry_of, handled, item_handling, keep_all, next_account, on_flight, on_item, on_items, on_polled, reply_frame_of}
use Rattle.frame_model.specs.FrameLaws.{ReadsAsReply}
use Rattle.frame_model.specs.Frames.{IsHead, SpellsReply, SpellsRequest, head_in, kind_of, reply_in}
use Rattle.node_model.specs.Handling.{Handling, Repeats, RefusesForNow, Executes, Looks, item_outcome}
use Rattle.client_model.specs.Hearing.{HearsLate, HearsReply, HearsUnfit, HearsOther, hearing, heard_judged, heard_in_flight, is_as_long, is_fit}
use Rattle.flat_model.specs.Run.{after}
use Rattle.flat_model.specs.State.{opening}
use Rattle.flat_model.specs.Step.{outcome}
use Rattle.client_laws.specs.Flights.{FlightOf}
use Rattle.trace.specs.Schedules.{AreOfClients, IsClient, IsGood, has_client, is_of_clients, IsRisingFrom, AreTyped}
use Rattle.node_laws.specs.RepliesFit.{IsReplyTo}
use Rattle.trace_laws.specs.Spelled.{IsLookOf, SpellsLoad, FramesAreSpelled, heard_as, RepliesAreHeard}
use Rattle.client_laws.proofs.Cases.{Cases, IsQuiet, effect_by, peek_is_quiet}
use Rattle.client_laws.proofs.ClientLines.{sendings_extended}
use Rattle.client_laws.proofs.Following.{none_count, quiet_unsaid}
use Rattle.trace_laws.proofs.Insert.{all_before}
use Rattle.client_laws.proofs.Items.{Tells, handling_tells, items_texts}
use Rattle.lemmas.proofs.Lists.{each_append, each_filter_from, each_weaker, each_weaker_with, find_some, none_some}
use Rattle.trace_laws.proofs.OnceKept.{Base, base_later, base_next, base_nothing}
use Rattle.trace_laws.proofs.Parts.{NotSent, none_sent, owned_kept, quiet_not_sent, sent_cases}
use Rattle.trace_laws.proofs.PartsOnce.{EntryOwned, ItemOwned, Owned}
use Rattle.trace_laws.proofs.Ran.{InRange}
use Rattle.node_laws.proofs.Replies.{may_outcome}
use Rattle.trace_laws.proofs.RunKept.{part_in_range}
use Rattle.lemmas.proofs.SameParts.{eqb_is, eqb_same, same_is}
use Rattle.node_laws.proofs.SoundStates.{IsSound, outcome_fits, replies_fit, sound_after, sound_opening}
use Rattle.client_laws.proofs.StateRead.{SendableOf, flights_are}
use Rattle.trace_laws.proofs.TimesKept.{frame_at_each}

-- ---- what is kept
-- the bytes spell what the frame carries, and a reply is one to its part's request
abbrev LoadSpells : Config → Account → List ℕ → ℕ → Load → Type 0
LoadSpells config a bytes line (Asks items) = (i : Carried) × (items ≡ i ∷ []) × SpellsRequest bytes i.item.head i.item.request
LoadSpells config a bytes line (Answers head reply if_taken) =
    (p : Part) × (r : Request) × Owned config a head.client head.pid p r head.orig × SpellsReply bytes head (kind_of r) reply × IsReplyTo r reply × Each (IsLookOf line head) if_taken

abbrev FrameSpells : Config → Account → Frame → Type 0
FrameSpells config a f = LoadSpells config a f.bytes f.line f.load

-- ids are counted from 1, at most one a line
record Spelling (config : Config) (a : Account) : Type 0 where
  few : (c : ClientNo) → sendings a c ≤ length a.lines
  some : (c : ClientNo) (p : Part) (o m : ℕ) → first_sent a c p ≡ Some (o, m) → 1 ≤ o
  frames : Each (FrameSpells config a) a.frames

-- what is asked of an effect
record SpellFits (config : Config) (a new : Account) (t : ℕ) (e : Effect) : Type 0 where
  few : (c : ClientNo) → count_by (is_sending c) e.texts ≤ 1
  some : (c : ClientNo) (p : Part) (o m : ℕ) → first_of (filter_map (first_sending c p t) e.texts) ≡ Some (o, m) → 1 ≤ o
  frames : Each (FrameSpells config new) e.frames

abbrev SpellFit : Config → Account → ℕ → Event → Effect → Type 0
SpellFit config a l event e = is_of_clients config.clients event ≡ true → SpellFits config a (extended a l event e) (now a l) e

load_kept : (config : Config) (a : Account) (l : ℕ) (event : Event) (e : Effect) (bytes : List ℕ) (line : ℕ) (load : Load) → LoadSpells config a bytes line load → LoadSpells config (extended a l event e) bytes line load
load_kept config a l event e bytes line (Asks items) k = k
load_kept config a l event e bytes line (Answers head reply if_taken) k = (k.0, k.1, owned_kept config a l event e head.client head.pid k.0 k.1 head.orig k.2, k.3, k.4, k.5)

spelling_kept : (config : Config) (a : Account) (l : ℕ) (event : Event) (e : Effect) → Spelling config a → SpellFits config a (extended a l event e) (now a l) e → Spelling config (extended a l event e)
spelling_kept config a l event e s f = record {
  few = λ c. let before : sendings a c ≤ length a.lines = s.few c in let one : count_by (is_sending c) e.texts ≤ 1 = f.few c in
      omega (arith, sendings_extended a l event e c, length-append a.lines (record { number = l; moment = now a l; event = event; texts = e.texts; ended = e.ended } ∷ []));
  some = λ c p o m h. ⊎_elim (λ (x : first_sent a c p ≡ Some (o, m)). s.some c p o m x)
      (λ (x : (first_sent a c p ≡ None) × (first_of (filter_map (first_sending c p (now a l)) e.texts) ≡ Some (o, m))). f.some c p o m x.1) (sent_cases a l event e c p (o, m) h);
  frames = each_append (FrameSpells config (extended a l event e)) a.frames e.frames (each_weaker (FrameSpells config a) (FrameSpells config (extended a l event e)) (λ x. load_kept config a l event e x.bytes x.line x.load) a.frames s.frames) f.frames;
}

-- ---- texts that tell no sending
-- the text tells no sending, the first or another
record IsUnsent (d : Did) : Type 0 where
  no_first : NotSent d
  none : (c : ClientNo) → is_sending c d ≡ false

quiet_unsent : (d : Did) → IsQuiet d → IsUnsent d
quiet_unsent d quiet = record { no_first = quiet_not_sent d quiet; none = λ c. (quiet_unsaid c 0 d quiet).not_sent }

unsent_fits : (config : Config) (a : Account) (l : ℕ) (event : Event) (e : Effect) → Each IsUnsent e.texts → Each (FrameSpells config (extended a l event e)) e.frames → SpellFits config a (extended a l event e) (now a l) e
unsent_fits config a l event e unsent frames = record {
  few = λ c. let none : count_by (is_sending c) e.texts ≡ 0 = none_count (is_sending c) e.texts (each_weaker IsUnsent (λ (d : Did). is_sending c d ≡ false) (λ d u. u.none c) e.texts unsent) in omega arith;
  some = λ c p o m h. absurd (none_some (o, m) (sym (ap first_of (none_sent c p (now a l) e.texts (each_weaker IsUnsent NotSent (λ d u. u.no_first) e.texts unsent))) ∙ h));
  frames = frames;
}

text_fits : (config : Config) (a : Account) (l : ℕ) (event : Event) (d : Did) → IsUnsent d → SpellFit config a l event (says d)
text_fits config a l event d unsent known = unsent_fits config a l event (says d) (unsent, tt) tt

-- ---- a poll
-- the client of a poll has numbers that a head can carry
found_client : (clients : List (ClientNo × ℕ)) (c : ClientNo) → Each IsClient clients → has_client clients c ≡ true
    → IsClient (c, unwrap_or (option_map (λ (entry : ClientNo × ℕ). entry.1) (find (λ (entry : ClientNo × ℕ). same_client c entry.0) clients)) 0)
found_client [] c good has = absurd (no has) where
  no : false ≡ true → ⊥
  no h = grind arith
found_client (x ∷ xs) c good has = go (same_client c x.0) refl (found_client xs c good.1) where
  -- the two tests are one
  turned : (m n : ℕ) → (m == n) ≡ false → (n == m) ≡ false
  turned m n h = grind (arith, nat_tests)

  rest_has : same_client c x.0 ≡ false → has_client xs c ≡ true
  rest_has apart = subst (λ b. (b || has_client xs c) ≡ true) (turned c.0 x.0.0 apart) has

  go : (b : Bool) → same_client c x.0 ≡ b → (has_client xs c ≡ true → IsClient (c, unwrap_or (option_map (λ (entry : ClientNo × ℕ). entry.1) (find (λ (entry : ClientNo × ℕ). same_client c entry.0) xs)) 0))
      → IsClient (c, unwrap_or (option_map (λ (entry : ClientNo × ℕ). entry.1) (cond b (Some x) (find (λ (entry : ClientNo × ℕ). same_client c entry.0) xs))) 0)
  go true same rest = record { number = let n : c.0 ≡ x.0.0 = eqb_is c.0 x.0.0 same in let k : x.0.0 < 65536 = good.0.number in omega arith; process = good.0.process }
  go false same rest = rest (rest_has same)

module _ (config : Config) (a : Account) (l : ℕ) (b : Base config a l) (s : Spelling config a) (clients : Each IsClient config.clients) (room : length a.lines + 1 < 2 ^ 64) where
  -- the frame of a part that goes out spells its item
  goes_out : (c : ClientNo) (o : Outgoing) → is_of_clients config.clients (event.Poll c) ≡ true → o.id ≡ next_id (client_at config a c) → (1 ≤ o.orig) × (o.orig ≤ o.id) → request_of_part a c o.part ≡ Some o.request
      → Each (FrameSpells config (extended a l (event.Poll c) (on_polled a l (client_at config a c) (Sends (o ∷ []))))) (on_polled a l (client_at config a c) (Sends (o ∷ []))).frames
  goes_out c o known id orig request = (
    (
      record { part = o.part; item = record { head = head_of c (pid_of config c) o; request = o.request } },
      refl,
      record {
        good_head = let is = found_client config.clients c clients known in let few : sendings a c ≤ length a.lines = s.few c in
            record { client = is.number; pid = is.process; id = let same : o.id ≡ sendings a c + 1 = id in let small : length a.lines + 1 < 2 ^ 64 = room in omega arith; orig = orig };
        good_body = part_in_range config a l 0 c o.part o.request b.ran request;
        spelling = refl;
      },
    ),
    tt,
  )

  again_fits : (c : ClientNo) (f : Sending) → FlightOf a c f → SpellFit config a l (event.Poll c) (on_polled a l (client_at config a c) (Sends (again (next_id (client_at config a c)) f ∷ [])))
  again_fits c f of known = record {
    few = λ d. at_most d;
    some = λ d p o m h. absurd (none_some (o, m) (sym (ap first_of (none_sent d p (now a l) (on_polled a l (client_at config a c) (Sends (again (next_id (client_at config a c)) f ∷ []))).texts (tt, tt))) ∙ h));
    frames = goes_out c (again (next_id (client_at config a c)) f) known refl
        (let low : 1 ≤ f.orig = s.some c f.part f.orig f.first of.sent in let high : f.orig ≤ sendings a c = b.once.ids.below c f.part f.orig f.first of.sent in (low, omega arith)) of.request;
  }
    where
      at_most : (d : ClientNo) → count_by (is_sending d) (did.Again (next_frame_number a) c f.part (next_id (client_at config a c)) f.orig ∷ []) ≤ 1
      at_most d = one (same_client d c) where
        one : (x : Bool) → 0 + cond x 1 0 ≤ 1
        one true = omega arith
        one false = omega arith

  sends_fits : (c : ClientNo) (p : ClientPart) → SendableOf config a c p → SpellFit config a l (event.Poll c) (on_polled a l (client_at config a c) (Sends (anew (next_id (client_at config a c)) p ∷ [])))
  sends_fits c p of known = record {
    few = λ d. at_most d;
    some = λ d q o m h. positive d q o m h;
    frames = goes_out c (anew (next_id (client_at config a c)) p) known refl ((let z : 1 ≤ sendings a c + 1 = omega arith in z), (let z : sendings a c + 1 ≤ sendings a c + 1 = omega arith in z)) of.request;
  }
    where
      at_most : (d : ClientNo) → count_by (is_sending d) (did.Sent (next_frame_number a) c p.part (next_id (client_at config a c)) ∷ []) ≤ 1
      at_most d = one (same_client d c) where
        one : (x : Bool) → 0 + cond x 1 0 ≤ 1
        one true = omega arith
        one false = omega arith

      positive : (d : ClientNo) (q : Part) (o m : ℕ) → first_of (filter_map (first_sending d q (now a l)) (did.Sent (next_frame_number a) c p.part (next_id (client_at config a c)) ∷ [])) ≡ Some (o, m) → 1 ≤ o
      positive d q o m h = go (same_client d c && same_part q p.part) h where
        go : (x : Bool) → first_of {A = ℕ × ℕ} (cons_option (cond x (Some (sendings a c + 1, now a l)) None) []) ≡ Some (o, m) → 1 ≤ o
        go true h = let same : o ≡ sendings a c + 1 = grind arith in omega arith
        go false h = absurd (none_some (o, m) h)

  -- ---- a delivery at the node
  sound : IsSound (after (opening config.node) a.history)
  sound = sound_after a.history (opening config.node) (sound_opening config.node) b.ran.run

  -- each entry is its part's own, and its reply is one to its request
  record IsMade (e : Entry) : Type 0 where
    owned : EntryOwned config a e
    fits : IsReplyTo e.request e.reply

  all_made : Each IsMade a.history
  all_made = each_weaker_with (EntryOwned config a) (λ (e : Entry). IsReplyTo e.request e.reply) IsMade (λ e o f. record { owned = o; fits = f }) a.history b.once.entries (replies_fit config.node a.history b.ran.run)

  module _ (event : Event) (k : ℕ) (i : Carried) (own : ItemOwned config a i) (range : InRange i.item.request) (head : IsHead i.item.head) (x : Effect) where
    abbrev new : Account
    new = extended a l event x

    answer : (reply : Reply) → IsReplyTo i.item.request reply → (if_taken : List Entry) → Each (IsLookOf l i.item.head) if_taken → FrameSpells config new (reply_frame_of (now a l) l i reply if_taken)
    answer reply fits if_taken looks = (
      i.part,
      i.item.request,
      owned_kept config a l event x i.item.head.client i.item.head.pid i.part i.item.request i.item.head.orig own,
      record { good_head = head; good_body = fits.carried; spelling = refl },
      fits,
      looks,
    )

    -- the machine's reply
    made : IsReplyTo i.item.request (item_outcome (memory_at config a.history l 0) i.item).reply
    made =
        let whole : memory_at config a.history l 0 ≡ after (opening config.node) a.history = ap (after (opening config.node)) (all_before (is_before l 0) a.history b.ran.before) in
        subst (λ z. IsReplyTo i.item.request (outcome z i.item.head.pid i.item.request).reply) (sym whole)
        (outcome_fits (after (opening config.node) a.history) i.item.head.pid i.item.request _ range sound (may_outcome (after (opening config.node) a.history) i.item.head.pid i.item.request range))

    -- the reply of a record is one to the item, which is of its part
    repeated : (reply : Reply) → Tells (recorded a.history l 0) config.node.retry a l i (Repeats reply) → IsReplyTo i.item.request reply
    repeated reply tells =
        let e : Entry = tells.1 in
        let found = find_some IsMade (λ (e : Entry). same_client i.item.head.client e.client && same_part i.part e.part) (recorded a.history l 0) tells.1
        (each_filter_from IsMade (λ (e : Entry). is_changing e.request) (entries_before a.history l 0) (each_filter_from IsMade (is_before l 0) a.history all_made)) tells.2 in
        let s = same_is i.item.head.client tells.1.client i.part tells.1.part found.1 in
        let mine : request_of_part a tells.1.client tells.1.part ≡ Some i.item.request =
        subst (λ c. request_of_part a c tells.1.part ≡ Some i.item.request) s.0 (subst (λ p. request_of_part a i.item.head.client p ≡ Some i.item.request) s.1 own.request) in
        let its : request_of_part a tells.1.client tells.1.part ≡ Some tells.1.request = found.0.owned.owned.request in
        let request : tells.1.request ≡ i.item.request = cc in
        subst (λ r. IsReplyTo r reply) request (subst (IsReplyTo tells.1.request) tells.3 found.0.fits)

    handled_spells : (h : Handling) → Tells (recorded a.history l 0) config.node.retry a l i h → Each (FrameSpells config new) (handled (memory_at config a.history l 0) a l k 0 i h).frames
    handled_spells (Repeats reply) tells = (answer reply (repeated reply tells) [] tt, tt)
    handled_spells (RefusesForNow oldest) tells = tt
    handled_spells Executes tells = (answer (item_outcome (memory_at config a.history l 0) i.item).reply made [] tt, tt)
    handled_spells Looks tells = (answer (item_outcome (memory_at config a.history l 0) i.item).reply made (entry_of l 0 i (item_outcome (memory_at config a.history l 0) i.item).reply ∷ []) (record { on_line = refl; first = refl; process = refl }, tt), tt)

  items_fit : (event : Event) (k : ℕ) (items : List Carried) (i : Carried) → items ≡ i ∷ [] → Each (ItemOwned config a) items → Each (λ (i : Carried). InRange i.item.request) items → IsHead i.item.head
      → SpellFit config a l event (on_items keep_all config a l k 0 items)
  items_fit event k items i one own range head known =
      unsent_fits config a l event (on_items keep_all config a l k 0 items)
      (items_texts IsUnsent ((λ frame client part how status reply. record { no_first = tt; none = λ c. refl }), (λ frame client part oldest at. record { no_first = tt; none = λ c. refl })) keep_all config l k items a 0)
      (subst (λ is. Each (FrameSpells config (extended a l event (on_items keep_all config a l k 0 items))) (on_items keep_all config a l k 0 is).frames) (sym one)
      (each_append (FrameSpells config (extended a l event (on_items keep_all config a l k 0 items))) (on_item keep_all config a l k 0 i).frames []
      (handled_spells event k i (subst (Each (ItemOwned config a)) one own).0 (subst (Each (λ (i : Carried). InRange i.item.request)) one range).0 head (on_items keep_all config a l k 0 items)
      (item_handling (recorded a.history l 0) config.node.retry a l i) (handling_tells (recorded a.history l 0) config.node.retry a l i)) tt))

  -- ---- the cases
  spell_cases : Cases keep_all config a l (SpellFit config a l)
  spell_cases = record {
    quiet = λ event d no_peek quiet. text_fits config a l event d (quiet_unsent d quiet);
    peeks = λ pid addr n. peek_is_quiet (SpellFit config a l (event.Peek pid addr n)) (λ d quiet. text_fits config a l (event.Peek pid addr n) d (quiet_unsent d quiet)) (memory_at config a.history l 0) pid addr n;
    issues = λ c text none. text_fits config a l (event.Call c text) (did.Issued _ _) (record { no_first = tt; none = λ c. refl });
    gives_up = λ c f of old known. unsent_fits config a l (event.Poll c) (on_polled a l (client_at config a c) (GivesUp f)) (record { no_first = tt; none = λ c. refl }, tt) tt;
    ends_fence = λ c k rest is fence known. unsent_fits config a l (event.Poll c) (on_polled a l (client_at config a c) (EndsFence k.number)) (record { no_first = tt; none = λ c. refl }, tt) tt;
    sends_again = λ c f of due. again_fits c f of;
    sends = λ c p of. sends_fits c p of;
    items = λ event k frame items delivers given.
        let spelled : LoadSpells config a frame.bytes frame.line (Asks items) = subst (LoadSpells config a frame.bytes frame.line) given.carries (frame_at_each (FrameSpells config a) a k frame s.frames given.is_frame) in
        items_fit event k items spelled.0 spelled.1
        (subst (λ (x : Load). Each (ItemOwned config a) (items_of x)) given.carries (frame_at_each (λ (f : Frame). Each (ItemOwned config a) (items_of f.load)) a k frame b.once.items given.is_frame))
        (subst (λ (x : Load). Each (λ (i : Carried). InRange i.item.request) (items_of x)) given.carries (frame_at_each (λ (f : Frame). Each (λ (i : Carried). InRange i.item.request) (items_of f.load)) a k frame b.ran.items given.is_frame))
        spelled.2.good_head;
    takes = λ event k frame head reply if_taken f delivers given of orig known.
        unsent_fits config a l event (on_flight (client_at config a head.client) k head reply if_taken (Some f)) (record { no_first = tt; none = λ c. refl }, tt) tt;
  }

  spelling_next : (e : Event) → is_of_clients config.clients e ≡ true → Spelling config (extended a l e (effect keep_all config a l e))
  spelling_next e known = spelling_kept config a l e (effect keep_all config a l e) s (effect_by keep_all config a l (SpellFit config a l) spell_cases e known)

-- ---- every schedule
-- an account with all that the laws on frames rest on
record Spelled (config : Config) (a : Account) : Type 0 where
  line : ℕ
  base : Base config a line
  spelling : Spelling config a

spelled_from : (config : Config) → Each IsClient config.clients → (events : List (ℕ × Event)) (a : Account) (l : ℕ) → IsRisingFrom l events → AreTyped events → AreOfClients config.clients events
    → length a.lines + length events < 2 ^ 64 → Base config a l → Spelling config a → Spelled config (account_from keep_all config a events)
spelled_from config clients [] a l rising typed known room b s = record { line = l; base = b; spelling = s }
spelled_from config clients (e ∷ es) a l rising typed known room b s =
    let here : Base config a e.0 = base_later config a l e.0 rising.0 b in
    let next : Base config (next_account keep_all config a e) (suc e.0) = base_next config a e.0 e.1 typed.0 here in
    let small : length a.lines + suc (length es) < 2 ^ 64 = room in
    let longer : length (next_account keep_all config a e).lines ≡ length a.lines + 1 = length-append a.lines _ in
    spelled_from config clients es (next_account keep_all config a e) (e.0 + 1) rising.1 typed.1 known.1 (omega (arith, longer))
    (base_later config (next_account keep_all config a e) (suc e.0) (e.0 + 1) (omega arith) next) (spelling_next config a e.0 here s clients (omega arith) e.1 known.0)

pub rises_from_zero : (events : List (ℕ × Event)) → IsRisingFrom 1 events → IsRisingFrom 0 events
rises_from_zero [] r = tt
rises_from_zero (e ∷ es) r = (omega arith, r.1)

spelled : (config : Config) (events : List (ℕ × Event)) → IsGood config events → length events < 2 ^ 64 → Spelled config (account config events)
spelled config events good room =
    spelled_from config good.clients events nothing_yet 0 (rises_from_zero events good.rising) good.typed good.known (omega arith) (base_nothing config)
    (record { few = λ c. omega arith; some = λ c p o m h. absurd (none_some (o, m) h); frames = tt })

-- what the law says of a frame
load_says : (config : Config) (a : Account) (bytes : List ℕ) (line : ℕ) (load : Load) → LoadSpells config a bytes line load → SpellsLoad bytes line load
load_says config a bytes line (Asks items) k = k
load_says config a bytes line (Answers head reply if_taken) k = (k.1, k.3, k.4, k.5)

pub frames_are_spelled : FramesAreSpelled
frames_are_spelled config events good room =
    each_weaker (FrameSpells config (account config events)) (λ (f : Frame). SpellsLoad f.bytes f.line f.load) (λ f. load_says config (account config events) f.bytes f.line f.load) (account config events).frames
    (spelled config events good room).spelling.frames

-- ---- a reply is heard
module _ (config : Config) (a : Account) (w : Spelled config a) (bytes : List ℕ) (line : ℕ) (head : Head) (reply : Reply) (if_taken : List Entry) (k : LoadSpells config a bytes line (Answers head reply if_taken)) where
  reads : ReadsAsReply bytes head (kind_of k.1) reply
  reads = replies_are_read_again bytes head (kind_of k.1) reply k.3

  -- the part in flight under its orig is its own
  own_request : (f : Sending) → FlightOf a head.client f → f.orig ≡ head.orig → f.request ≡ k.1
  own_request f of orig =
      let sent : first_sent a head.client f.part ≡ Some (head.orig, f.first) = subst (λ n. first_sent a head.client f.part ≡ Some (n, f.first)) orig of.sent in
      let part : f.part ≡ k.0 = w.base.once.ids.one head.client f.part k.0 head.orig f.first k.2.moment sent k.2.sent in
      let its : request_of_part a head.client k.0 ≡ Some f.request = subst (λ p. request_of_part a head.client p ≡ Some f.request) part of.request in
      let mine : request_of_part a head.client k.0 ≡ Some k.1 = k.2.request in cc

  fit : (f : Sending) → f.request ≡ k.1 → is_fit (pid_of config head.client) bytes f ≡ true
  fit f request =
      let kind : (slice_index bytes 3 == 128 + kind_number (kind_of f.request)) ≡ true =
      subst (λ r. (slice_index bytes 3 == 128 + kind_number (kind_of r)) ≡ true) (sym request) (subst (λ n. (n == 128 + kind_number (kind_of k.1)) ≡ true) (sym reads.same_kind) (eqb_same (128 + kind_number (kind_of k.1)))) in
      let process : ((head_in bytes).pid == pid_of config head.client) ≡ true =
      subst (λ (h : Head). (h.pid == pid_of config head.client) ≡ true) (sym reads.same_head) (subst (λ n. (n == pid_of config head.client) ≡ true) (sym k.2.process) (eqb_same (pid_of config head.client))) in
      let long : is_as_long f.request (reply_in bytes) ≡ true = subst (λ r. is_as_long r (reply_in bytes) ≡ true) (sym request) (subst (λ x. is_as_long k.1 x ≡ true) (sym reads.same_body) k.4.as_long) in
      rw (kind, process, long) refl

  in_flight : (o : Option Sending) → ((f : Sending) → o ≡ Some f → f.request ≡ k.1) → heard_in_flight (pid_of config head.client) bytes o ≡ heard_as head reply o
  in_flight None own = ap (λ (h : Head). HearsLate h.orig) reads.same_head
  in_flight (Some f) own =
      ap (λ b. cond b (HearsReply f (reply_in bytes)) (HearsUnfit (head_in bytes).orig)) (fit f (own f refl)) ∙ ap (HearsReply f) reads.same_body

  heard : hearing (client_at config a head.client) bytes ≡ heard_as head reply (flight_under head.orig (client_at config a head.client))
  heard =
      ap (heard_judged (client_at config a head.client) bytes) reads.faultless
      ∙ ap (λ (h : Head). cond (same_client h.client head.client) (heard_in_flight (pid_of config head.client) bytes (flight_under h.orig (client_at config a head.client))) (HearsOther h.client)) reads.same_head
      ∙ ap (λ b. cond b (heard_in_flight (pid_of config head.client) bytes (flight_under head.orig (client_at config a head.client))) (HearsOther head.client)) (eqb_same head.client.0)
      ∙ in_flight (flight_under head.orig (client_at config a head.client)) own
    where
      own : (f : Sending) → flight_under head.orig (client_at config a head.client) ≡ Some f → f.request ≡ k.1
      own f is =
          let h = find_some (FlightOf a head.client) (λ (f : Sending). f.orig == head.orig) (flights (client_at config a head.client)) f (flights_are config a head.client) is in
          own_request f h.0 (eqb_is f.orig head.orig h.1)

pub replies_are_heard : RepliesAreHeard
replies_are_heard config events good room k f head reply if_taken is carries =
    let w : Spelled config (account config events) = spelled config events good room in
    heard config (account config events) w f.bytes f.line head reply if_taken
    (subst (LoadSpells config (account config events) f.bytes f.line) carries (frame_at_each (FrameSpells config (account config events)) (account config events) k f w.spelling.frames is))
