-- The state that is read off an account after a line is the machine's state after its step.
use Rattle.std.proofs.Common.{◌≡◌, ℕ, zero, suc, ◌+◌, ◌-◌, leb, ◌<◌, List, [], ◌∷◌, ◌++◌, refl, ap, ◌∙◌, subst, length-append, Some, None, Option, Bool, true, false, cond, arith, map, length}
use Rattle.std.specs.Prelude.{nat_lt, ◌^◌, filter, filter_map, flat_map, count_by, ◌&&◌, ◌||◌, ◌==◌, not, is_some, option_map}
use Rattle.std.specs.List.{list_any, enumerate_from, cons_option}
use Rattle.std.proofs.lemmas.List.{append-nil, map-append}
use Rattle.std.proofs.lemmas.List.Elements.{filter_map-append, filter-append}
use Rattle.std.proofs.lemmas.List.Folds.{list_any-append}
use Rattle.std.proofs.lemmas.List.Sums.{sum_by-append, sum_by-cons}
use Rattle.std.proofs.lemmas.Grind.{flat_map-append}
use Rattle.cl_types.specs.declared.numbers.ClientNo.{ClientNo}
use Rattle.cl_types.specs.declared.call.Call.{Call}
use Rattle.cl_types.specs.declared.call.Call.TheVariants as call
use Rattle.cl_types.specs.declared.request.Request.TheVariants as request
use Rattle.cl_types.specs.declared.frame.IssueFault.{IssueFault}
use Rattle.cl_types.specs.declared.frame.IssueFault.TheVariants as fault
use Rattle.cl_types.specs.Bytes.{bytes_at}
use Rattle.cl_types.specs.declared.config.Config.{Config}
use Rattle.cl_types.specs.declared.frame.Head.{Head}
use Rattle.cl_types.specs.declared.reply.Part.{Part}
use Rattle.cl_types.specs.declared.reply.Reply.{Reply}
use Rattle.cl_types.specs.declared.line.Did.TheVariants as did
use Rattle.cl_types.specs.declared.line.Entry.{Entry}
use Rattle.cl_types.specs.declared.schedule.Event.{Event}
use Rattle.cl_types.specs.declared.schedule.Event.TheVariants as event
use Rattle.cl_types.specs.declared.schedule.CallText.{CallText}
use Rattle.cl_types.specs.declared.request.Request.{Request}
use Rattle.client_model.specs.Issue.{issue_fault, as_far_as_told}
use Rattle.frame_model.specs.Faults.{first_fault}
use Rattle.client_model.specs.Cut.{Ending, Replied, cut, pieces, pieces_within, piece_len}
use Rattle.client_model.specs.Order.{is_fence}
use Rattle.trace.specs.Account.{Account, Line, Frame, Effect, now, extended, frame_at, next_frame_number}
use Rattle.client_model.specs.Client.{ClientCall, ClientPart, Finished, finished_with, every, ending_of, held, Standing, Unsent, standing_so, named, emptied, after_issue, Sending, Outgoing, Polled, GivesUp, EndsFence, Sends, Idles, call_standing, given_up, answered, finished, after_poll, after_reply, handed_out}
use Rattle.cl_types.specs.Parts.{same_client}
use Rattle.cl_types.specs.Written.{call_of}
use Rattle.trace.specs.Clients.{issued, issued_on, numbered, replied, standing_at, ends_fence, says_fence_ended, is_sending, sendings, polled_on, last_of, last_polled, pid_of, client_at}
use Rattle.trace.specs.Events.{sent_text, on_judged, on_polled, on_flight}
use Rattle.client_laws.specs.ClientLines.{Told, Fresh, Quiet}
use Rattle.client_laws.proofs.Standings.{line_of, all_gone_out, standing_quiet, standing_given_up, standing_answered, standing_sent, last_of-append}
use Rattle.lemmas.proofs.SameParts.{eqb_same}
use Rattle.client_laws.proofs.CallsOfClient.{open_by, map_same, call_same, filter_same, calls_after_part, calls_after_sending, calls_after_fence}

abbrev pub over : Account → ClientNo → ℕ → Bool
over a c n = list_any (ends_fence c n) a.lines

issued_extended : (a : Account) (l : ℕ) (event : Event) (e : Effect) (c : ClientNo) → issued_on c event e.texts ≡ None → issued (extended a l event e) c ≡ issued a c
issued_extended a l event e c h =
    filter_map-append (λ (line : Line). issued_on c line.event line.texts) a.lines (line_of a l event e ∷ [])
    ∙ ap (λ z. issued a c ++ cons_option z []) h ∙ append-nil (issued a c)

pub sendings_extended : (a : Account) (l : ℕ) (event : Event) (e : Effect) (c : ClientNo) → sendings (extended a l event e) c ≡ sendings a c + count_by (is_sending c) e.texts
sendings_extended a l event e c =
    ap (count_by (is_sending c)) (flat_map-append (λ (line : Line). line.texts) a.lines (line_of a l event e ∷ []) ∙ ap (λ z. flat_map (λ (line : Line). line.texts) a.lines ++ z) (append-nil e.texts))
    ∙ sum_by-append (λ d. cond (is_sending c d) 1 0) (flat_map (λ (line : Line). line.texts) a.lines) e.texts

last_extended : (a : Account) (l : ℕ) (event : Event) (e : Effect) (c : ClientNo) → last_polled (extended a l event e) c ≡ last_of (last_polled a c) (cons_option (polled_on c (now a l) event) [])
last_extended a l event e c =
    ap (last_of 0) (filter_map-append (λ (line : Line). polled_on c line.moment line.event) a.lines (line_of a l event e ∷ []))
    ∙ last_of-append 0 (filter_map (λ (line : Line). polled_on c line.moment line.event) a.lines) (cons_option (polled_on c (now a l) event) [])

last_of_poll : (a : Account) (l : ℕ) (e : Effect) (c : ClientNo) → last_polled (extended a l (event.Poll c) e) c ≡ now a l
last_of_poll a l e c = last_extended a l (event.Poll c) e c ∙ ap (λ b. last_of (last_polled a c) (cons_option (cond b (Some (now a l)) None) [])) (eqb_same c.0)

or_none : (a b : Bool) → b ≡ false → (a || (b || false)) ≡ a
or_none a true h = grind arith
or_none true false h = refl
or_none false false h = refl

-- no Fence ends on the line
over_same : (a : Account) (l : ℕ) (event : Event) (e : Effect) (c : ClientNo) → list_any says_fence_ended e.texts ≡ false → (n : ℕ) → over (extended a l event e) c n ≡ over a c n
over_same a l event e c h n =
    list_any-append (ends_fence c n) a.lines (line_of a l event e ∷ [])
    ∙ or_none (over a c n) (ends_fence c n (line_of a l event e)) (ap (λ b. b && elim e.ended [ None ↦ false | Some x ↦ same_client c x.client && x.call.0 == n ]) h)

-- the fields that the line changes, put together
client_is : (config : Config) (a : Account) (l : ℕ) (event : Event) (e : Effect) (c : ClientNo) (n : ℕ) (calls : List ClientCall) (m : ℕ) →
    issued_on c event e.texts ≡ None → sendings (extended a l event e) c ≡ n →
    filter (open_by (over (extended a l event e) c)) (map (call_standing (standing_at (extended a l event e) c)) (numbered a c)) ≡ calls →
    last_polled (extended a l event e) c ≡ m →
    client_at config (extended a l event e) c ≡ record (client_at config a c) { sendings = n; calls = calls; last = m }
client_is config a l event e c n calls m i s k p = λ t. record {
  client = c;
  pid = pid_of config c;
  issued = length (issued_extended a l event e c i t);
  sendings = s t;
  calls = (ap (λ ks. filter (open_by (over (extended a l event e) c)) (map (call_standing (standing_at (extended a l event e) c)) (enumerate_from 1 ks))) (issued_extended a l event e c i) ∙ k) t;
  ended = [];
  last = p t;
}

plus_none : (n m : ℕ) → m ≡ 0 → n + m ≡ n
plus_none n m h = omega arith

pub after_giving_up : (config : Config) (a : Account) (l : ℕ) (c : ClientNo) (f : Sending) → Told a c →
    client_at config (extended a l (event.Poll c) (on_polled a l (client_at config a c) (GivesUp f))) c ≡ handed_out (after_poll (now a l) (GivesUp f) (client_at config a c))
after_giving_up config a l c f told =
    let e : Effect = on_polled a l (client_at config a c) (GivesUp f) in
    client_is config a l (event.Poll c) e c _ _ _ refl (sendings_extended a l (event.Poll c) e c ∙ plus_none (sendings a c) 0 refl)
    (calls_after_part (over a c) (over (extended a l (event.Poll c) e) c) (standing_at a c) (standing_at (extended a l (event.Poll c) e) c) f.part (given_up (now a l)) (λ y. refl)
    (over_same a l (event.Poll c) e c refl) (λ p. standing_given_up a l (event.Poll c) e c p f.part told refl) (numbered a c))
    (last_of_poll a l e c)

no_fence_sent : (c : ClientNo) (n : ℕ) (items : List Outgoing) → list_any says_fence_ended (map (sent_text c n) items) ≡ false
no_fence_sent c n [] = refl
no_fence_sent c n (o ∷ os) = go o.again (no_fence_sent c n os)
  where
    go : (g : Bool) → list_any says_fence_ended (map (sent_text c n) os) ≡ false → (says_fence_ended (cond g (did.Again n c o.part o.id o.orig) (did.Sent n c o.part o.id)) || list_any says_fence_ended (map (sent_text c n) os)) ≡ false
    go true h = h
    go false h = h

one_more : {k m : ℕ} → k ≡ m → 1 + k ≡ suc m
one_more {k} {m} h = omega arith

all_sent : (c : ClientNo) (n : ℕ) (items : List Outgoing) → count_by (is_sending c) (map (sent_text c n) items) ≡ length items
all_sent c n [] = refl
all_sent c n (o ∷ os) = go o.again (same_client c c) (eqb_same c.0) (all_sent c n os)
  where
    go : (g d : Bool) → d ≡ true → count_by (is_sending c) (map (sent_text c n) os) ≡ length os → count_by (is_sending c) (cond g (did.Again n c o.part o.id o.orig) (did.Sent n c o.part o.id) ∷ map (sent_text c n) os) ≡ length (o ∷ os)
    go true d h r = sum_by-cons (λ x. cond (is_sending c x) 1 0) (did.Again n c o.part o.id o.orig) (map (sent_text c n) os) ∙ ap (λ b. cond b 1 0 + count_by (is_sending c) (map (sent_text c n) os)) (eqb_same c.0) ∙ one_more r
    go false d h r = sum_by-cons (λ x. cond (is_sending c x) 1 0) (did.Sent n c o.part o.id) (map (sent_text c n) os) ∙ ap (λ b. cond b 1 0 + count_by (is_sending c) (map (sent_text c n) os)) (eqb_same c.0) ∙ one_more r

pub after_sending : (config : Config) (a : Account) (l : ℕ) (c : ClientNo) (items : List Outgoing) → Told a c →
    client_at config (extended a l (event.Poll c) (on_polled a l (client_at config a c) (Sends items))) c ≡ handed_out (after_poll (now a l) (Sends items) (client_at config a c))
after_sending config a l c items told =
    let e : Effect = on_polled a l (client_at config a c) (Sends items) in
    client_is config a l (event.Poll c) e c _ _ _ refl (sendings_extended a l (event.Poll c) e c ∙ ap (λ z. sendings a c + z) (all_sent c (next_frame_number a) items))
    (ap (filter (open_by (over (extended a l (event.Poll c) e) c))) (map_same _ _ (call_same (λ p. all_gone_out (now a l) p items (standing_at a c p)) (standing_at (extended a l (event.Poll c) e) c) (λ p. standing_sent a l (event.Poll c) e c p (next_frame_number a) items told refl)) (numbered a c))
    ∙ filter_same _ (open_by (over a c)) (λ k. ap (λ b. not (cond (is_fence k.call) b (is_some (finished k)))) (over_same a l (event.Poll c) e c (no_fence_sent c (next_frame_number a) items) k.number)) (map (call_standing (λ p. all_gone_out (now a l) p items (standing_at a c p))) (numbered a c))
    ∙ calls_after_sending (over a c) (now a l) items (standing_at a c) (numbered a c))
    (last_of_poll a l e c)

pub after_idling : (config : Config) (a : Account) (l : ℕ) (c : ClientNo) → Told a c →
    client_at config (extended a l (event.Poll c) (on_polled a l (client_at config a c) Idles)) c ≡ handed_out (after_poll (now a l) Idles (client_at config a c))
after_idling config a l c told =
    let e : Effect = on_polled a l (client_at config a c) Idles in
    client_is config a l (event.Poll c) e c _ _ _ refl (sendings_extended a l (event.Poll c) e c ∙ plus_none (sendings a c) 0 refl)
    (ap (filter (open_by (over (extended a l (event.Poll c) e) c))) (map_same _ _ (call_same (standing_at a c) (standing_at (extended a l (event.Poll c) e) c) (λ p. standing_quiet a l (event.Poll c) e c p told refl refl refl)) (numbered a c))
    ∙ calls_same)
    (last_of_poll a l e c)
  where
    calls_same : filter (open_by (over (extended a l (event.Poll c) (on_polled a l (client_at config a c) Idles)) c)) (map (call_standing (standing_at a c)) (numbered a c)) ≡ (client_at config a c).calls
    calls_same = filter_same _ (open_by (over a c)) (λ k. ap (λ b. not (cond (is_fence k.call) b (is_some (finished k)))) (over_same a l (event.Poll c) (on_polled a l (client_at config a c) Idles) c refl k.number)) (map (call_standing (standing_at a c)) (numbered a c))

pub after_fence : (config : Config) (a : Account) (l : ℕ) (c : ClientNo) (n : ℕ) → Told a c →
    client_at config (extended a l (event.Poll c) (on_polled a l (client_at config a c) (EndsFence n))) c ≡ handed_out (after_poll (now a l) (EndsFence n) (client_at config a c))
after_fence config a l c n told =
    let e : Effect = on_polled a l (client_at config a c) (EndsFence n) in
    client_is config a l (event.Poll c) e c _ _ _ refl (sendings_extended a l (event.Poll c) e c ∙ plus_none (sendings a c) 0 refl)
    (ap (filter (open_by (over (extended a l (event.Poll c) e) c))) (map_same _ _ (call_same (standing_at a c) (standing_at (extended a l (event.Poll c) e) c) (λ p. standing_quiet a l (event.Poll c) e c p told refl refl refl)) (numbered a c))
    ∙ calls_after_fence (over a c) (over (extended a l (event.Poll c) e) c) n (λ m. list_any-append (ends_fence c m) a.lines (line_of a l (event.Poll c) e ∷ []) ∙ ends m) (map (call_standing (standing_at a c)) (numbered a c)))
    (last_of_poll a l e c)
  where
    ends : (m : ℕ) → (over a c m || (((true || false) && (same_client c c && n == m)) || false)) ≡ (over a c m || n == m)
    ends m = go (over a c m) (same_client c c) (n == m) (eqb_same c.0)
      where
        go : (x d z : Bool) → d ≡ true → (x || ((d && z) || false)) ≡ (x || z)
        go x false z h = grind arith
        go true true z h = refl
        go false true true h = refl
        go false true false h = refl

-- a reply is taken
pub after_taking : (config : Config) (a : Account) (l : ℕ) (event : Event) (c : ClientNo) (k : ℕ) (head : Head) (r : Reply) (if_taken : List Entry) (f : Sending) (frame : Frame) → Told a c →
    frame_at a k ≡ Some frame → replied frame.load ≡ Some (Replied r) → issued_on c event (did.Took k c f.part ∷ []) ≡ None → polled_on c (now a l) event ≡ None →
    client_at config (extended a l event (on_flight (client_at config a c) k head r if_taken (Some f))) c ≡ handed_out (after_reply f.part r (client_at config a c))
after_taking config a l event c k head r if_taken f frame told at says no_call no_poll =
    let e : Effect = on_flight (client_at config a c) k head r if_taken (Some f) in
    client_is config a l event e c _ _ _ no_call (sendings_extended a l event e c ∙ plus_none (sendings a c) 0 refl)
    (calls_after_part (over a c) (over (extended a l event e) c) (standing_at a c) (standing_at (extended a l event e) c) f.part (answered r) (λ y. refl)
    (over_same a l event e c refl) (λ p. standing_answered a l event e c p f.part k frame r told refl at says) (numbered a c))
    (last_extended a l event e c ∙ ap (λ z. last_of (last_polled a c) (cons_option z [])) no_poll)

-- a line that says nothing of the client leaves it
pub after_quiet : (config : Config) (a : Account) (l : ℕ) (event : Event) (e : Effect) (c : ClientNo) → Told a c → Quiet a l event e c → client_at config (extended a l event e) c ≡ client_at config a c
after_quiet config a l event e c told q =
    client_is config a l event e c _ _ _ q.no_call (sendings_extended a l event e c ∙ plus_none (sendings a c) (count_by (is_sending c) e.texts) q.no_sending)
    (ap (filter (open_by (over (extended a l event e) c))) (map_same _ _ (call_same (standing_at a c) (standing_at (extended a l event e) c) (λ p. standing_quiet a l event e c p told (q.no_end p) (q.no_first p) (q.no_moment p))) (numbered a c))
    ∙ filter_same _ (open_by (over a c)) (λ k. ap (λ b. not (cond (is_fence k.call) b (is_some (finished k)))) (list_any-append (ends_fence c k.number) a.lines (line_of a l event e ∷ []) ∙ or_none (over a c k.number) _ (q.no_fence k.number))) (map (call_standing (standing_at a c)) (numbered a c)))
    (last_extended a l event e c ∙ ap (λ z. last_of (last_polled a c) (cons_option z [])) q.no_poll)

-- ---- a call is issued
enumerate-append : {X : Type 0} (n : ℕ) (xs : List X) (x : X) → enumerate_from n (xs ++ x ∷ []) ≡ enumerate_from n xs ++ (length xs + n, x) ∷ []
enumerate-append n [] x = λ i. ((let z : n ≡ 0 + n = omega arith in z) i, x) ∷ []
enumerate-append n (y ∷ xs) x = ap (λ z. (n, y) ∷ z) (enumerate-append (n + 1) xs x ∙ ap (λ m. enumerate_from (n + 1) xs ++ (m, x) ∷ []) (shift (length xs) n))
  where
    shift : (k n : ℕ) → k + (n + 1) ≡ suc k + n
    shift k n = omega arith

issued_more : (a : Account) (l : ℕ) (event : Event) (e : Effect) (c : ClientNo) (k : Call) → issued_on c event e.texts ≡ Some k → issued (extended a l event e) c ≡ issued a c ++ k ∷ []
issued_more a l event e c k h =
    filter_map-append (λ (line : Line). issued_on c line.event line.texts) a.lines (line_of a l event e ∷ [])
    ∙ ap (λ z. issued a c ++ cons_option z []) h

-- the parts of the new call are unsent
new_parts : (how : Part → Standing) (n : ℕ) → ((p : Part) → n ≡ p.call.0 → how p ≡ Unsent) → (s : ℕ) (rs : List Request) → map (standing_so how) (map (named n) (enumerate_from s rs)) ≡ map (standing_so (λ p. Unsent)) (map (named n) (enumerate_from s rs))
new_parts how n h s [] = refl
new_parts how n h s (r ∷ rs) = λ i. record { part = record { call = record { 0 = n }; part = s }; request = r; standing = h (record { call = record { 0 = n }; part = s }) refl i } ∷ new_parts how n h (s + 1) rs i

new_call : (how : Part → Standing) (n : ℕ) (k : Call) → ((p : Part) → n ≡ p.call.0 → how p ≡ Unsent) → call_standing how (n, k) ≡ call_standing (λ p. Unsent) (n, k)
new_call how n k h = λ i. record { number = n; call = emptied k; parts = new_parts how n h 0 (cut k) i }

-- a sound call has not ended
pieces_some : (m at : ℕ) → (m == 0) ≡ false → (p : ℕ × ℕ) × (ps : List (ℕ × ℕ)) × (pieces at m ≡ p ∷ ps)
pieces_some zero at h = absurd (no h)
  where
    no : (zero == 0) ≡ false → ⊥
    no e = grind arith
pieces_some (suc m) at h = (
  (at, piece_len at (suc m)),
  pieces_within m (at + piece_len at (suc m)) (suc m - piece_len at (suc m)),
  ap (λ b. elim b as (λ z. List (ℕ × ℕ)) [
    | true ↦ []
    | false ↦ (at, piece_len at (suc m)) ∷ pieces_within m (at + piece_len at (suc m)) (suc m - piece_len at (suc m))
  ]) h,
)

abbrev parts_over : ℕ → List Request → Option (List Ending)
parts_over n rs = every (map (λ (p : ClientPart). ending_of p.standing) (map (standing_so (λ p. Unsent)) (map (named n) (enumerate_from 0 rs))))

some_part_open : {X : Type 0} (n : ℕ) (f : List Ending → Finished) (g : X → Request) (xs : List X) (y : X) (ys : List X) → xs ≡ y ∷ ys → not (is_some (option_map f (parts_over n (map g xs)))) ≡ true
some_part_open n f g xs y ys h = ap (λ z. not (is_some (option_map f (parts_over n (map g z))))) h

not_empty : (q b : Bool) (rest : List (Bool × IssueFault)) → first_fault ((q, fault.QueueFull) ∷ (b, fault.Empty) ∷ rest) ≡ None → b ≡ false
not_empty true true rest h = grind arith
not_empty true false rest h = refl
not_empty false true rest h = grind arith
not_empty false false rest h = refl

new_is_open : (config : Config) (a : Account) (c : ClientNo) (k : Call) (fences : ℕ → Bool) (n : ℕ) → fences n ≡ false → issue_fault (client_at config a c) k ≡ None → open_by fences (call_standing (λ p. Unsent) (n, k)) ≡ true
new_is_open config a c (call.Alloc pages perm) fences n h sound = refl
new_is_open config a c (call.Free addr pages) fences n h sound = refl
new_is_open config a c (call.Read addr buf) fences n h sound =
    let some = pieces_some (length buf) addr.0 (not_empty (leb 256 (held (client_at config a c))) (length buf == 0) ((nat_lt 65536 (length buf), fault.TooLong (as_far_as_told (length buf))) ∷ (nat_lt (2 ^ 28) (addr.0 + length buf), fault.BadAddress addr (as_far_as_told (length buf))) ∷ []) sound) in
    some_part_open n (finished_with (call_standing (λ p. Unsent) (n, call.Read addr buf))) (λ (p : ℕ × ℕ). request.Read (record { 0 = p.0 }) p.1) (pieces addr.0 (length buf)) some.0 some.1 some.2
new_is_open config a c (call.Write addr bytes) fences n h sound =
    let some = pieces_some (length bytes) addr.0 (not_empty (leb 256 (held (client_at config a c))) (length bytes == 0) ((nat_lt 65536 (length bytes), fault.TooLong (as_far_as_told (length bytes))) ∷ (nat_lt (2 ^ 28) (addr.0 + length bytes), fault.BadAddress addr (as_far_as_told (length bytes))) ∷ []) sound) in
    some_part_open n (finished_with (call_standing (λ p. Unsent) (n, call.Write addr bytes))) (λ (p : ℕ × ℕ). request.Write (record { 0 = p.0 }) (bytes_at (p.0 - addr.0) p.1 bytes)) (pieces addr.0 (length bytes)) some.0 some.1 some.2
new_is_open config a c (call.Atomic addr op) fences n h sound = refl
new_is_open config a c (call.Offload number op bytes buf) fences n h sound = refl
new_is_open config a c call.Fence fences n h sound = ap not h

pub after_issuing : (config : Config) (a : Account) (l : ℕ) (c : ClientNo) (text : CallText) → Told a c → Fresh a c → issue_fault (client_at config a c) (call_of text) ≡ None →
    client_at config (extended a l (event.Call c text) (on_judged (client_at config a c) None)) c ≡ after_issue (call_of text) (client_at config a c)
after_issuing config a l c text told fresh sound = λ t. record {
  client = c;
  pid = pid_of config c;
  issued = count t;
  sendings = (sendings_extended a l event_is e c ∙ plus_none (sendings a c) 0 refl) t;
  calls = (ap (λ ks. filter (open_by (over (extended a l event_is e) c)) (map (call_standing (standing_at (extended a l event_is e) c)) (enumerate_from 1 ks))) list_is ∙ calls_are) t;
  ended = [];
  last = last_extended a l event_is e c t;
}
  where
    event_is : Event
    event_is = event.Call c text

    e : Effect
    e = on_judged (client_at config a c) None

    k : Call
    k = call_of text

    list_is : issued (extended a l event_is e) c ≡ issued a c ++ k ∷ []
    list_is = issued_more a l event_is e c k (ap (λ b. cond (b && true) (Some k) None) (eqb_same c.0))

    count : length (issued (extended a l event_is e) c) ≡ length (issued a c) + 1
    count = ap length list_is ∙ length-append (issued a c) (k ∷ [])

    n : ℕ
    n = length (issued a c) + 1

    how_same : (p : Part) → standing_at (extended a l event_is e) c p ≡ standing_at a c p
    how_same p = standing_quiet a l event_is e c p told refl refl refl

    open_same : (j : ClientCall) → open_by (over (extended a l event_is e) c) j ≡ open_by (over a c) j
    open_same j = ap (λ b. not (cond (is_fence j.call) b (is_some (finished j)))) (over_same a l event_is e c refl j.number)

    is_open_new : open_by (over a c) (call_standing (λ p. Unsent) (n, k)) ≡ true
    is_open_new = new_is_open config a c k (over a c) n (fresh.unended n (omega arith)) sound

    calls_are : filter (open_by (over (extended a l event_is e) c)) (map (call_standing (standing_at (extended a l event_is e) c)) (enumerate_from 1 (issued a c ++ k ∷ []))) ≡ (client_at config a c).calls ++ call_standing (λ p. Unsent) (n, k) ∷ []
    calls_are =
        filter_same (open_by (over (extended a l event_is e) c)) (open_by (over a c)) open_same (map (call_standing (standing_at (extended a l event_is e) c)) (enumerate_from 1 (issued a c ++ k ∷ [])))
        ∙ ap (filter (open_by (over a c))) (map_same (call_standing (standing_at (extended a l event_is e) c)) (call_standing (standing_at a c)) (call_same (standing_at a c) (standing_at (extended a l event_is e) c) how_same) (enumerate_from 1 (issued a c ++ k ∷ []))
        ∙ ap (map (call_standing (standing_at a c))) (enumerate-append 1 (issued a c) k) ∙ map-append (call_standing (standing_at a c)) (numbered a c) ((n, k) ∷ [])
        ∙ ap (λ z. map (call_standing (standing_at a c)) (numbered a c) ++ z ∷ []) (new_call (standing_at a c) n k (λ p h. fresh.unsent p (subst (λ z. length (issued a c) < z) h (omega arith)))))
        ∙ filter-append (open_by (over a c)) (map (call_standing (standing_at a c)) (numbered a c)) (call_standing (λ p. Unsent) (n, k) ∷ [])
        ∙ ap (λ b. (client_at config a c).calls ++ cond b (call_standing (λ p. Unsent) (n, k) ∷ []) []) is_open_new

-- ---- together
pub poll_law : (config : Config) (a : Account) (l : ℕ) (c : ClientNo) (p : Polled) → Told a c →
    client_at config (extended a l (event.Poll c) (on_polled a l (client_at config a c) p)) c ≡ handed_out (after_poll (now a l) p (client_at config a c))
poll_law config a l c (GivesUp f) told = after_giving_up config a l c f told
poll_law config a l c (EndsFence n) told = after_fence config a l c n told
poll_law config a l c (Sends items) told = after_sending config a l c items told
poll_law config a l c Idles told = after_idling config a l c told
