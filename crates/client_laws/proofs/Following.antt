-- In every account each line leaves each client as its machine does.
use Rattle.std.proofs.Common.{◌≡◌, ℕ, ◌+◌, List, [], ◌∷◌, refl, ap, ◌∙◌, subst, Some, None, Option, Bool, true, false, cond, arith, map}
use Rattle.std.specs.Prelude.{count_by, ◌&&◌, ◌||◌, ◌==◌}
use Rattle.std.specs.List.{AllByRecursion as Each}
use Rattle.std.proofs.lemmas.List.Sums.{sum_by-cons}
use Rattle.cl_types.specs.declared.numbers.ClientNo.{ClientNo}
use Rattle.cl_types.specs.declared.config.Config.{Config}
use Rattle.cl_types.specs.declared.frame.BadFrame.{BadFrame}
use Rattle.cl_types.specs.declared.frame.Head.{Head}
use Rattle.cl_types.specs.declared.frame.IssueFault.{IssueFault}
use Rattle.cl_types.specs.declared.reply.Part.{Part}
use Rattle.cl_types.specs.declared.reply.Reply.{Reply}
use Rattle.cl_types.specs.declared.schedule.CallText.{CallText}
use Rattle.cl_types.specs.declared.schedule.Event.{Event}
use Rattle.cl_types.specs.declared.schedule.Event.TheVariants as event
use Rattle.cl_types.specs.declared.line.Did.{Did}
use Rattle.cl_types.specs.declared.line.Did.TheVariants as did
use Rattle.cl_types.specs.declared.line.Entry.{Entry}
use Rattle.cl_types.specs.Parts.{same_part}
use Rattle.cl_types.specs.Times.{is_live}
use Rattle.frame_model.specs.Frames.{request_fault, reply_fault}
use Rattle.client_model.specs.Issue.{issue_fault, after_judged}
use Rattle.trace.specs.Account.{Account, Frame, Load, Asks, Answers, Effect, says, extended, now, frame_at, next_frame_number, taken_in_order, memory_at, nothing_yet}
use Rattle.client_model.specs.Client.{Sending, Outgoing, Polled, GivesUp, EndsFence, Sends, Idles, poll, flight_under, handed_out, after_poll}
use Rattle.cl_types.specs.Parts.{same_client}
use Rattle.cl_types.specs.Written.{call_of, expanded}
use Rattle.trace.specs.Clients.{issued_on, polled_on, is_sending, part_end, first_sending, sending_on, says_fence_ended, ends_fence, TookFrame, GaveUpAt, replied, client_at}
use Rattle.trace.specs.Events.{on_judged, on_call, on_polled, on_flight, on_reply, on_items, handed, if_live, on_frame, on_delivery, if_there, on_next, shown, on_garbage, sent_text, effect, account_from}
use Rattle.client_laws.specs.ClientLines.{Quiet}
use Rattle.client_laws.specs.Following.{after_heard, after_load, after_delivered, after_frame, after_event, ClientsFollow, AccountsTell}
use Rattle.lemmas.proofs.Lists.{each_weaker, none_read}
use Rattle.lemmas.proofs.SameParts.{same_clients}
use Rattle.client_laws.proofs.Items.{items_texts}
use Rattle.client_laws.proofs.Standings.{line_of}
use Rattle.client_laws.proofs.ClientLines.{poll_law, after_issuing, after_taking, after_quiet}
use Rattle.client_laws.proofs.Cases.{IsQuiet, peek_is_quiet}
use Rattle.client_laws.proofs.Premises.{Silent, quiet_is_silent, quiet_ends_none, items_end_none, sent_silent, sent_ends_none, cond_none, no_fence_ends, Premises}
use Rattle.client_laws.proofs.Fences.{Followed, followed}
use Rattle.std.proofs.Math.Bool.{and-false as and_false}

-- ---- lines that say nothing of the client
pub none_count : {X : Type 0} (test : X → Bool) (xs : List X) → Each (λ (x : X). test x ≡ false) xs → count_by test xs ≡ 0
none_count test [] h = refl
none_count test (x ∷ xs) h = sum_by-cons (λ y. cond (test y) 1 0) x xs ∙ go (test x) h.0 (none_count test xs h.1) where
  go : (b : Bool) → b ≡ false → count_by test xs ≡ 0 → cond b 1 0 + count_by test xs ≡ 0
  go true e k = grind arith
  go false e k = omega arith

-- what a text leaves unsaid of a client
pub record Unsaid (c : ClientNo) (t : ℕ) (d : Did) : Type 0 where
  silent : (p : Part) → Silent c p t d
  pub not_sent : is_sending c d ≡ false

is_unsaid : (a : Account) (l : ℕ) (event : Event) (e : Effect) (c : ClientNo) → Each (Unsaid c (now a l)) e.texts → ((n : ℕ) → ends_fence c n (line_of a l event e) ≡ false)
    → issued_on c event e.texts ≡ None → polled_on c (now a l) event ≡ None → Quiet a l event e c
is_unsaid a l event e c unsaid fences no_call no_poll = record {
  no_call = no_call;
  no_sending = none_count (is_sending c) e.texts (each_weaker _ _ (λ d u. u.not_sent) e.texts unsaid);
  no_fence = fences;
  no_poll = no_poll;
  no_end = λ p. none_read (part_end c p (now a l)) e.texts (each_weaker _ _ (λ d u. (u.silent p).no_end) e.texts unsaid);
  no_first = λ p. none_read (first_sending c p (now a l)) e.texts (each_weaker _ _ (λ d u. (u.silent p).no_first) e.texts unsaid);
  no_moment = λ p. none_read (sending_on c p (now a l)) e.texts (each_weaker _ _ (λ d u. (u.silent p).no_moment) e.texts unsaid);
}

pub quiet_unsaid : (c : ClientNo) (t : ℕ) (d : Did) → IsQuiet d → Unsaid c t d
quiet_unsaid c t d quiet = record { silent = λ p. quiet_is_silent c p t d quiet; not_sent = not_sent d quiet } where
  not_sent : (d : Did) → IsQuiet d → is_sending c d ≡ false
  not_sent (did.Sent frame client part id) q = absurd q
  not_sent (did.Again frame client part id orig) q = absurd q
  not_sent other q = refl

-- the event is no call and no poll of the client
record Neither (c : ClientNo) (t : ℕ) (event : Event) (texts : List Did) : Type 0 where
  no_call : issued_on c event texts ≡ None
  no_poll : polled_on c t event ≡ None

quiet_leaves : (config : Config) (a : Account) (l : ℕ) (event : Event) (c : ClientNo) → Premises a c → (d : Did) → IsQuiet d → Neither c (now a l) event (d ∷ []) → client_at config (extended a l event (says d)) c ≡ client_at config a c
quiet_leaves config a l event c h d quiet neither =
    after_quiet config a l event (says d) c h.told (is_unsaid a l event (says d) c (quiet_unsaid c (now a l) d quiet, tt) (λ n. no_fence_ends a l event (says d) c n (quiet_ends_none d quiet, tt)) neither.no_call neither.no_poll)

-- ---- a call
own_call : (config : Config) (a : Account) (l : ℕ) (c : ClientNo) (text : CallText) → Premises a c → (o : Option IssueFault) → issue_fault (client_at config a c) (call_of text) ≡ o
    → client_at config (extended a l (event.Call c text) (on_judged (client_at config a c) o)) c ≡ after_judged o (call_of text) (client_at config a c)
own_call config a l c text h None is = after_issuing config a l c text h.told h.fresh is
own_call config a l c text h (Some fault) is =
    quiet_leaves config a l (event.Call c text) c h (did.NotIssued fault) tt (record { no_call = cond_none (same_client c c && (false || false)) (call_of text) (and_false (same_client c c)); no_poll = refl })

other_call : (config : Config) (a : Account) (l : ℕ) (c d : ClientNo) (text : CallText) → Premises a c → same_client c d ≡ false → (o : Option IssueFault)
    → client_at config (extended a l (event.Call d text) (on_judged (client_at config a d) o)) c ≡ client_at config a c
other_call config a l c d text h apart (Some fault) =
    quiet_leaves config a l (event.Call d text) c h (did.NotIssued fault) tt (record { no_call = cond_none (same_client c d && (false || false)) (call_of text) (and_false (same_client c d)); no_poll = refl })
other_call config a l c d text h apart None =
    after_quiet config a l (event.Call d text) (on_judged (client_at config a d) None) c h.told (is_unsaid a l (event.Call d text) (on_judged (client_at config a d) None) c
    (record { silent = λ p. record { no_end = refl; no_first = refl; no_moment = refl }; not_sent = refl }, tt)
    (λ n. no_fence_ends a l (event.Call d text) (on_judged (client_at config a d) None) c n (refl, tt))
    (cond_none (same_client c d && (true || false)) (call_of text) (ap (λ b. b && (true || false)) apart)) refl)

follows_call : (config : Config) (a : Account) (l : ℕ) (c d : ClientNo) (text : CallText) → Premises a c → (b : Bool) → same_client c d ≡ b
    → client_at config (extended a l (event.Call d text) (on_call (client_at config a d) (call_of text))) c
    ≡ cond b (after_judged (issue_fault (client_at config a c) (call_of text)) (call_of text) (client_at config a c)) (client_at config a c)
follows_call config a l c d text h true same =
    subst (λ (x : ClientNo). client_at config (extended a l (event.Call x text) (on_call (client_at config a x) (call_of text))) c ≡ after_judged (issue_fault (client_at config a c) (call_of text)) (call_of text) (client_at config a c))
    (same_clients c d same) (own_call config a l c text h (issue_fault (client_at config a c) (call_of text)) refl)
follows_call config a l c d text h false apart = other_call config a l c d text h apart (issue_fault (client_at config a d) (call_of text))

-- ---- a poll
sent_unsaid : (c d : ClientNo) (t n : ℕ) (o : Outgoing) → same_client c d ≡ false → Unsaid c t (sent_text d n o)
sent_unsaid c d t n o apart = record { silent = λ p. sent_silent c d p t n o (ap (λ b. b && same_part p o.part) apart); not_sent = go o.again } where
  go : (b : Bool) → is_sending c (cond b (did.Again n d o.part o.id o.orig) (did.Sent n d o.part o.id)) ≡ false
  go true = apart
  go false = apart

all_unsaid : (c d : ClientNo) (t n : ℕ) (items : List Outgoing) → same_client c d ≡ false → Each (Unsaid c t) (map (sent_text d n) items)
all_unsaid c d t n [] apart = tt
all_unsaid c d t n (o ∷ os) apart = (sent_unsaid c d t n o apart, all_unsaid c d t n os apart)

none_end : (d : ClientNo) (n : ℕ) (items : List Outgoing) → Each (λ (x : Did). says_fence_ended x ≡ false) (map (sent_text d n) items)
none_end d n [] = tt
none_end d n (o ∷ os) = (sent_ends_none d n o, none_end d n os)

other_poll : (config : Config) (a : Account) (l : ℕ) (c d : ClientNo) → Premises a c → same_client c d ≡ false → (p : Polled)
    → client_at config (extended a l (event.Poll d) (on_polled a l (client_at config a d) p)) c ≡ client_at config a c
other_poll config a l c d h apart p = after_quiet config a l (event.Poll d) (on_polled a l (client_at config a d) p) c h.told (quiet p) where
  no_poll : polled_on c (now a l) (event.Poll d) ≡ None
  no_poll = cond_none (same_client c d) (now a l) apart

  quiet : (p : Polled) → Quiet a l (event.Poll d) (on_polled a l (client_at config a d) p) c
  quiet (GivesUp f) = is_unsaid a l (event.Poll d) (on_polled a l (client_at config a d) (GivesUp f)) c
      (record { silent = λ q. record { no_end = cond_none (same_client c d && same_part q f.part) (GaveUpAt (now a l)) (ap (λ b. b && same_part q f.part) apart); no_first = refl; no_moment = refl }; not_sent = refl }, tt)
      (λ n. no_fence_ends a l (event.Poll d) (on_polled a l (client_at config a d) (GivesUp f)) c n (refl, tt)) refl no_poll
  quiet (EndsFence k) = is_unsaid a l (event.Poll d) (on_polled a l (client_at config a d) (EndsFence k)) c
      (record { silent = λ q. record { no_end = refl; no_first = refl; no_moment = refl }; not_sent = refl }, tt)
      (λ n. ap (λ b. b && k == n) apart) refl no_poll
  quiet (Sends items) = is_unsaid a l (event.Poll d) (on_polled a l (client_at config a d) (Sends items)) c
      (all_unsaid c d (now a l) (next_frame_number a) items apart)
      (λ n. no_fence_ends a l (event.Poll d) (on_polled a l (client_at config a d) (Sends items)) c n (none_end d (next_frame_number a) items)) refl no_poll
  quiet Idles = is_unsaid a l (event.Poll d) (on_polled a l (client_at config a d) Idles) c
      (quiet_unsaid c (now a l) did.Idle tt, tt) (λ n. no_fence_ends a l (event.Poll d) (on_polled a l (client_at config a d) Idles) c n (refl, tt)) refl no_poll

follows_poll : (config : Config) (a : Account) (l : ℕ) (c d : ClientNo) → Premises a c → (b : Bool) → same_client c d ≡ b
    → client_at config (extended a l (event.Poll d) (on_polled a l (client_at config a d) (poll (client_at config a d) (now a l)))) c
    ≡ cond b (handed_out (after_poll (now a l) (poll (client_at config a c) (now a l)) (client_at config a c))) (client_at config a c)
follows_poll config a l c d h true same =
    subst (λ (x : ClientNo). client_at config (extended a l (event.Poll x) (on_polled a l (client_at config a x) (poll (client_at config a x) (now a l)))) c
    ≡ handed_out (after_poll (now a l) (poll (client_at config a c) (now a l)) (client_at config a c)))
    (same_clients c d same) (poll_law config a l c (poll (client_at config a c) (now a l)) h.told)
follows_poll config a l c d h false apart = other_poll config a l c d h apart (poll (client_at config a d) (now a l))

-- ---- a delivery
-- the event is no call and no poll, whatever is said
abbrev Delivering : ClientNo → ℕ → Event → Type 0
Delivering c t event = (texts : List Did) → Neither c t event texts

module _ (keep : List Entry → List Entry) (config : Config) (a : Account) (l : ℕ) (event : Event) (c : ClientNo) (h : Premises a c) (delivering : Delivering c (now a l) event) where
  own_reply : (k : ℕ) (frame : Frame) (head : Head) (reply : Reply) (if_taken : List Entry) → frame_at a k ≡ Some frame → frame.load ≡ Answers head reply if_taken → (o : Option Sending)
      → client_at config (extended a l event (on_flight (client_at config a c) k head reply if_taken o)) c ≡ after_heard o reply (client_at config a c)
  own_reply k frame head reply if_taken at_number carries None = quiet_leaves config a l event c h (did.Late k head.orig) tt (delivering (did.Late k head.orig ∷ []))
  own_reply k frame head reply if_taken at_number carries (Some f) =
      after_taking config a l event c k head reply if_taken f frame h.told at_number (ap replied carries)
      (delivering (did.Took k c f.part ∷ [])).no_call (delivering (did.Took k c f.part ∷ [])).no_poll

  other_reply : (d : ClientNo) (k : ℕ) (head : Head) (reply : Reply) (if_taken : List Entry) → same_client c d ≡ false → (o : Option Sending)
      → client_at config (extended a l event (on_flight (client_at config a d) k head reply if_taken o)) c ≡ client_at config a c
  other_reply d k head reply if_taken apart None = quiet_leaves config a l event c h (did.Late k head.orig) tt (delivering (did.Late k head.orig ∷ []))
  other_reply d k head reply if_taken apart (Some f) =
      after_quiet config a l event (on_flight (client_at config a d) k head reply if_taken (Some f)) c h.told (is_unsaid a l event (on_flight (client_at config a d) k head reply if_taken (Some f)) c
      (record { silent = λ q. record { no_end = cond_none (same_client c d && same_part q f.part) (TookFrame k) (ap (λ b. b && same_part q f.part) apart); no_first = refl; no_moment = refl }; not_sent = refl }, tt)
      (λ n. no_fence_ends a l event (on_flight (client_at config a d) k head reply if_taken (Some f)) c n (refl, tt))
      (delivering (did.Took k d f.part ∷ [])).no_call (delivering (did.Took k d f.part ∷ [])).no_poll)

  follows_reply : (k : ℕ) (frame : Frame) (head : Head) (reply : Reply) (if_taken : List Entry) → frame_at a k ≡ Some frame → frame.load ≡ Answers head reply if_taken → (b : Bool) → same_client c head.client ≡ b
      → client_at config (extended a l event (on_reply (client_at config a head.client) k head reply if_taken)) c ≡ cond b (after_heard (flight_under head.orig (client_at config a c)) reply (client_at config a c)) (client_at config a c)
  follows_reply k frame head reply if_taken at_number carries true same =
      subst (λ (x : ClientNo). client_at config (extended a l event (on_reply (client_at config a x) k head reply if_taken)) c ≡ after_heard (flight_under head.orig (client_at config a c)) reply (client_at config a c))
      (same_clients c head.client same) (own_reply k frame head reply if_taken at_number carries (flight_under head.orig (client_at config a c)))
  follows_reply k frame head reply if_taken at_number carries false apart = other_reply head.client k head reply if_taken apart (flight_under head.orig (client_at config a head.client))

  follows_load : (k : ℕ) (frame : Frame) (load : Load) → frame_at a k ≡ Some frame → frame.load ≡ load
      → client_at config (extended a l event (handed keep config a l k load)) c ≡ after_load load (client_at config a c)
  follows_load k frame (Asks items) at_number carries =
      after_quiet config a l event (on_items keep config a l k 0 items) c h.told (is_unsaid a l event (on_items keep config a l k 0 items) c
      (items_texts (Unsaid c (now a l)) (
        (λ f client part how status reply. record { silent = λ p. record { no_end = refl; no_first = refl; no_moment = refl }; not_sent = refl }),
        (λ f client part oldest at. record { silent = λ p. record { no_end = refl; no_first = refl; no_moment = refl }; not_sent = refl }),
      ) keep config l k items a 0)
      (λ n. no_fence_ends a l event (on_items keep config a l k 0 items) c n (items_end_none keep config a l k items))
      (delivering (on_items keep config a l k 0 items).texts).no_call (delivering (on_items keep config a l k 0 items).texts).no_poll)
  follows_load k frame (Answers head reply if_taken) at_number carries = follows_reply k frame head reply if_taken at_number carries (same_client c head.client) refl

  follows_frame : (k : ℕ) (o : Option Frame) → frame_at a k ≡ o → client_at config (extended a l event (on_frame keep config a l k o)) c ≡ after_frame (now a l) o (client_at config a c)
  follows_frame k None at_number = quiet_leaves config a l event c h (did.Absent k) tt (delivering (did.Absent k ∷ []))
  follows_frame k (Some frame) at_number = go (is_live (now a l) frame.moment) where
    go : (b : Bool) → client_at config (extended a l event (if_live keep config a l k frame b)) c ≡ after_delivered b frame (client_at config a c)
    go true = follows_load k frame frame.load at_number refl
    go false = quiet_leaves config a l event c h (did.Expired k frame.moment) tt (delivering (did.Expired k frame.moment ∷ []))

  follows_delivery : (k : ℕ) → client_at config (extended a l event (on_delivery keep config a l k)) c ≡ after_frame (now a l) (frame_at a k) (client_at config a c)
  follows_delivery k = follows_frame k (frame_at a k) refl

  follows_next : client_at config (extended a l event (on_next keep config a (on_delivery keep config a l))) c ≡ after_frame (now a l) (frame_at a (taken_in_order a + 1)) (client_at config a c)
  follows_next = go (frame_at a (taken_in_order a + 1)) refl where
    go : (o : Option Frame) → frame_at a (taken_in_order a + 1) ≡ o → client_at config (extended a l event (if_there keep config (on_delivery keep config a l) (taken_in_order a + 1) o)) c ≡ after_frame (now a l) o (client_at config a c)
    go None is = quiet_leaves config a l event c h did.NoFrame tt (delivering (did.NoFrame ∷ []))
    go (Some frame) is = follows_delivery (taken_in_order a + 1) ∙ ap (λ o. after_frame (now a l) o (client_at config a c)) is

  -- ---- what only shows
  calm : (d : Did) → IsQuiet d → client_at config (extended a l event (says d)) c ≡ client_at config a c
  calm d quiet = quiet_leaves config a l event c h d quiet (delivering (d ∷ []))

  follows_drop : client_at config (extended a l event (on_next keep config a (λ k. says (did.Dropped k)))) c ≡ client_at config a c
  follows_drop = go (frame_at a (taken_in_order a + 1)) where
    go : (o : Option Frame) → client_at config (extended a l event (if_there keep config (λ k. says (did.Dropped k)) (taken_in_order a + 1) o)) c ≡ client_at config a c
    go None = calm did.NoFrame tt
    go (Some frame) = calm (did.Dropped (taken_in_order a + 1)) tt

  follows_show : (k : ℕ) (o : Option Frame) → client_at config (extended a l event (shown k o)) c ≡ client_at config a c
  follows_show k None = calm (did.ShownAbsent k) tt
  follows_show k (Some frame) = calm (did.Shown k frame.bytes) tt

  follows_garbage : (o : Option BadFrame) → client_at config (extended a l event (on_garbage o)) c ≡ client_at config a c
  follows_garbage None = calm did.Idle tt
  follows_garbage (Some fault) = calm (did.Bad fault) tt

-- ---- together
pub follows : (keep : List Entry → List Entry) (config : Config) (a : Account) (l : ℕ) (e : Event) (c : ClientNo) → Premises a c → client_at config (extended a l e (effect keep config a l e)) c ≡ after_event a l e (client_at config a c)
follows keep config a l (event.Call client text) c h = follows_call config a l c client text h (same_client c client) refl
follows keep config a l (event.Poll client) c h = follows_poll config a l c client h (same_client c client) refl
follows keep config a l (event.Deliver frame) c h = follows_delivery keep config a l (event.Deliver frame) c h (λ texts. record { no_call = refl; no_poll = refl }) frame
follows keep config a l event.DeliverNext c h = follows_next keep config a l event.DeliverNext c h (λ texts. record { no_call = refl; no_poll = refl })
follows keep config a l event.Drop c h = follows_drop keep config a l event.Drop c h (λ texts. record { no_call = refl; no_poll = refl })
follows keep config a l (event.Tick by) c h = calm keep config a l (event.Tick by) c h (λ texts. record { no_call = refl; no_poll = refl }) (did.Now (now a l + by)) tt
follows keep config a l (event.Peek pid addr len) c h =
    peek_is_quiet (λ e. client_at config (extended a l (event.Peek pid addr len) e) c ≡ client_at config a c)
    (calm keep config a l (event.Peek pid addr len) c h (λ texts. record { no_call = refl; no_poll = refl })) (memory_at config a.history l 0) pid addr len
follows keep config a l (event.Show frame) c h = follows_show keep config a l (event.Show frame) c h (λ texts. record { no_call = refl; no_poll = refl }) frame (frame_at a frame)
follows keep config a l event.Stat c h = calm keep config a l event.Stat c h (λ texts. record { no_call = refl; no_poll = refl }) (did.Stat _ _) tt
follows keep config a l (event.GarbageNode bytes) c h = follows_garbage keep config a l (event.GarbageNode bytes) c h (λ texts. record { no_call = refl; no_poll = refl }) (request_fault (expanded bytes))
follows keep config a l (event.GarbageClient client bytes) c h = follows_garbage keep config a l (event.GarbageClient client bytes) c h (λ texts. record { no_call = refl; no_poll = refl }) (reply_fault (expanded bytes))

pub clients_follow : ClientsFollow
clients_follow keep config events l event c =
    let h : Followed (account_from keep config nothing_yet events) c = followed keep config events c in
    follows keep config (account_from keep config nothing_yet events) l event c h.premises

pub accounts_tell : AccountsTell
accounts_tell keep config events c =
    let h : Followed (account_from keep config nothing_yet events) c = followed keep config events c in (h.premises.told, h.premises.fresh)
