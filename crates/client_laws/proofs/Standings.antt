-- How a part stands as an account grows.
use Rattle.std.proofs.Common.{◌≡◌, ℕ, zero, suc, List, [], ◌∷◌, ◌++◌, refl, ap, sym, ◌∙◌, Some, None, Option, Bool, true, false, cond, arith, map}
use Rattle.std.specs.List.{cons_option}
use Rattle.std.proofs.Common.{append_assoc}
use Rattle.std.specs.Prelude.{filter_map, ◌&&◌, option_map, option_and_then}
use Rattle.std.proofs.lemmas.List.{append-nil}
use Rattle.std.proofs.lemmas.Grind.{flat_map-append}
use Rattle.cl_types.specs.declared.numbers.ClientNo.{ClientNo}
use Rattle.cl_types.specs.declared.reply.Part.{Part}
use Rattle.cl_types.specs.declared.reply.Reply.{Reply}
use Rattle.cl_types.specs.declared.line.Did.{Did}
use Rattle.cl_types.specs.declared.line.Did.TheVariants as did
use Rattle.cl_types.specs.declared.schedule.Event.{Event}
use Rattle.cl_types.specs.Parts.{same_part}
use Rattle.client_model.specs.Cut.{Ending, Replied, GivenUp}
use Rattle.trace.specs.Account.{Account, Line, Frame, Effect, now, extended, frame_at}
use Rattle.client_model.specs.Client.{Standing, Unsent, InFlight, Over, Outgoing, given_up, answered, gone_out}
use Rattle.cl_types.specs.Parts.{same_client}
use Rattle.trace.specs.Events.{sent_text}
use Rattle.trace.specs.Clients.{texts_on, texts_with, first_of, last_of, first_sending, first_sent, sending_on, moments_sent, PartEnd, TookFrame, GaveUpAt, part_end, end_of_part, replied, ending_by, ending, standing, standing_at}
use Rattle.client_laws.specs.ClientLines.{Told}
use Rattle.lemmas.proofs.SameParts.{eqb_same}
use Rattle.client_laws.proofs.Entries.{first_of-append, first_of-append_none}
use Rattle.lemmas.proofs.Lists.{slice_get-append, and_then_some, option_map_some}

abbrev pub line_of : Account → ℕ → Event → Effect → Line
line_of a l event e = record { number = l; moment = now a l; event = event; texts = e.texts; ended = e.ended }

pub texts_extended : {A : Type 0} (f : ℕ → Did → Option A) (a : Account) (l : ℕ) (event : Event) (e : Effect) → texts_with (extended a l event e) f ≡ texts_with a f ++ filter_map (f (now a l)) e.texts
texts_extended f a l event e = flat_map-append (texts_on f) a.lines (line_of a l event e ∷ []) ∙ ap (λ z. texts_with a f ++ z) (append-nil _)

pub last_of-append : {X : Type 0} (x : X) (xs ys : List X) → last_of x (xs ++ ys) ≡ last_of (last_of x xs) ys
last_of-append x [] ys = refl
last_of-append x (y ∷ xs) ys = last_of-append y xs ys

-- ---- what stays
pub frame_kept : (a : Account) (l : ℕ) (event : Event) (e : Effect) (k : ℕ) (f : Frame) → frame_at a k ≡ Some f → frame_at (extended a l event e) k ≡ Some f
frame_kept a l event e zero f h = grind arith
frame_kept a l event e (suc k) f h = slice_get-append a.frames e.frames k f h

pub sent_kept : (a : Account) (l : ℕ) (event : Event) (e : Effect) (c : ClientNo) (p : Part) (s : ℕ × ℕ) → first_sent a c p ≡ Some s → first_sent (extended a l event e) c p ≡ Some s
sent_kept a l event e c p s h = ap first_of (texts_extended (first_sending c p) a l event e) ∙ first_of-append (texts_with a (first_sending c p)) _ s h

pub ending_by_kept : (a : Account) (l : ℕ) (event : Event) (e : Effect) (c : ClientNo) (p : Part) (x : PartEnd) (y : Ending) → ending_by a c p x ≡ Some y → ending_by (extended a l event e) c p x ≡ Some y
ending_by_kept a l event e c p (TookFrame k) y h =
    let f = and_then_some (λ (f : Frame). replied f.load) (frame_at a k) y h in
    ap (option_and_then (λ (f : Frame). replied f.load)) (frame_kept a l event e k f.0 f.1) ∙ f.2
ending_by_kept a l event e c p (GaveUpAt t) y h =
    let s = option_map_some (λ (first : ℕ × ℕ). GivenUp first.1 t) (first_sent a c p) y h in
    ap (option_map (λ (first : ℕ × ℕ). GivenUp first.1 t)) (sent_kept a l event e c p s.0 s.1) ∙ ap Some s.2

pub end_kept : (a : Account) (l : ℕ) (event : Event) (e : Effect) (c : ClientNo) (p : Part) (x : PartEnd) → end_of_part a c p ≡ Some x → end_of_part (extended a l event e) c p ≡ Some x
end_kept a l event e c p x h = ap first_of (texts_extended (part_end c p) a l event e) ∙ first_of-append (texts_with a (part_end c p)) _ x h

-- the ending of a part that is over stays
pub over_kept : (a : Account) (l : ℕ) (event : Event) (e : Effect) (c : ClientNo) (p : Part) (x : PartEnd) → Told a c → end_of_part a c p ≡ Some x → (y : Ending) × (ending a c p ≡ Some y) × (ending (extended a l event e) c p ≡ Some y)
over_kept a l event e c p x t h =
    let y = t.told p x h in
    (y.0, ap (option_and_then (ending_by a c p)) h ∙ y.1, ap (option_and_then (ending_by (extended a l event e) c p)) (end_kept a l event e c p x h) ∙ ending_by_kept a l event e c p x y.0 y.1)

-- ---- how a part stands afterwards, by what the texts of the line say of it
abbrev pub end_said : Account → ℕ → Event → Effect → ClientNo → Part → Option PartEnd
end_said a l event e c p = first_of (filter_map (part_end c p (now a l)) e.texts)

abbrev pub stands_said : Account → ℕ → Event → Effect → ClientNo → Part → Option Ending → Standing
stands_said a l event e c p ended =
    standing ended (first_of (texts_with a (first_sending c p) ++ filter_map (first_sending c p (now a l)) e.texts)) (moments_sent a c p ++ filter_map (sending_on c p (now a l)) e.texts)

-- a part that was over stands as before; of another the texts tell
pub standing_extended : (a : Account) (l : ℕ) (event : Event) (e : Effect) (c : ClientNo) (p : Part) → Told a c → (f : Standing → Standing) → ((y : Ending) → f (Over y) ≡ Over y) →
    (ending a c p ≡ None → stands_said a l event e c p (option_and_then (ending_by (extended a l event e) c p) (end_said a l event e c p)) ≡ f (standing None (first_sent a c p) (moments_sent a c p))) →
    standing_at (extended a l event e) c p ≡ f (standing_at a c p)
standing_extended a l event e c p t f keeps tells = go (end_of_part a c p) refl
  where
    go : (o : Option PartEnd) → end_of_part a c p ≡ o → standing_at (extended a l event e) c p ≡ f (standing_at a c p)
    go (Some x) h = let y = over_kept a l event e c p x t h in
        ap (λ z. standing z (first_sent (extended a l event e) c p) (moments_sent (extended a l event e) c p)) y.2
        ∙ sym (ap (λ z. f (standing z (first_sent a c p) (moments_sent a c p))) y.1 ∙ keeps y.0)
    go None h =
        let open_yet : ending a c p ≡ None = ap (option_and_then (ending_by a c p)) h in
        (λ i. standing
        (option_and_then (ending_by (extended a l event e) c p) ((ap first_of (texts_extended (part_end c p) a l event e) ∙ first_of-append_none (texts_with a (part_end c p)) _ h) i))
        (first_of (texts_extended (first_sending c p) a l event e i))
        (texts_extended (sending_on c p) a l event e i))
        ∙ tells open_yet
        ∙ sym (ap (λ z. f (standing z (first_sent a c p) (moments_sent a c p))) open_yet)

-- ---- the cases
-- nothing is said of the part
pub standing_quiet : (a : Account) (l : ℕ) (event : Event) (e : Effect) (c : ClientNo) (p : Part) → Told a c →
    filter_map (part_end c p (now a l)) e.texts ≡ [] → filter_map (first_sending c p (now a l)) e.texts ≡ [] → filter_map (sending_on c p (now a l)) e.texts ≡ [] →
    standing_at (extended a l event e) c p ≡ standing_at a c p
standing_quiet a l event e c p t no_end no_first no_later =
    standing_extended a l event e c p t (λ s. s) (λ y. refl)
    (λ k. (λ i. standing (option_and_then (ending_by (extended a l event e) c p) (first_of (no_end i)))
    (first_of ((ap (λ z. texts_with a (first_sending c p) ++ z) no_first ∙ append-nil _) i))
    ((ap (λ z. moments_sent a c p ++ z) no_later ∙ append-nil _) i)))

-- the part is given up
abbrev changed_if : Bool → (Standing → Standing) → Standing → Standing
changed_if b f s = cond b (f s) s

pub keeps_if : (b : Bool) (f : Standing → Standing) → ((y : Ending) → f (Over y) ≡ Over y) → (y : Ending) → cond b (f (Over y)) (Over y) ≡ Over y
keeps_if true f k y = k y
keeps_if false f k y = refl

given_up_tells : (b d : Bool) (t : ℕ) (o : Option (ℕ × ℕ)) (ms : List ℕ) → d ≡ true →
    standing (option_and_then (λ (x : PartEnd). option_map (λ (first : ℕ × ℕ). GivenUp first.1 t) o) (cond (d && b) (Some (GaveUpAt t)) None)) o ms ≡ cond b (given_up t (standing None o ms)) (standing None o ms)
given_up_tells b false t o ms h = grind arith
given_up_tells true true t None ms h = refl
given_up_tells true true t (Some (orig, first)) ms h = refl
given_up_tells false true t o ms h = refl

pub standing_given_up : (a : Account) (l : ℕ) (event : Event) (e : Effect) (c : ClientNo) (p q : Part) → Told a c → e.texts ≡ did.GaveUp c q ∷ [] →
    standing_at (extended a l event e) c p ≡ cond (same_part p q) (given_up (now a l) (standing_at a c p)) (standing_at a c p)
standing_given_up a l event e c p q told is =
    standing_extended a l event e c p told (λ s. cond (same_part p q) (given_up (now a l) s) s) (λ y. keeps_if (same_part p q) (given_up (now a l)) (λ z. refl) y)
    (λ k. (λ i. standing (option_and_then (ending_by (extended a l event e) c p) (first_of (filter_map (part_end c p (now a l)) (is i))))
    (first_of (texts_with a (first_sending c p) ++ filter_map (first_sending c p (now a l)) (is i)))
    (moments_sent a c p ++ filter_map (sending_on c p (now a l)) (is i)))
    ∙ nothing_more)
  where
    t : ℕ
    t = now a l

    first_same : first_sent (extended a l event e) c p ≡ first_sent a c p
    first_same = ap first_of (texts_extended (first_sending c p) a l event e ∙ ap (λ z. texts_with a (first_sending c p) ++ filter_map (first_sending c p (now a l)) z) is ∙ append-nil _)

    by_case : (b d : Bool) → d ≡ true →
        standing (option_and_then (ending_by (extended a l event e) c p) (first_of (cons_option (cond (d && b) (Some (GaveUpAt t)) None) []))) (first_of (texts_with a (first_sending c p) ++ [])) (moments_sent a c p ++ [])
        ≡ cond b (given_up t (standing None (first_sent a c p) (moments_sent a c p))) (standing None (first_sent a c p) (moments_sent a c p))
    by_case b false h = grind arith
    by_case true true h =
        (λ i. standing (option_map (λ (first : ℕ × ℕ). GivenUp first.1 t) (first_same i)) (first_of (append-nil (texts_with a (first_sending c p)) i)) (append-nil (moments_sent a c p) i))
        ∙ given_up_tells true true t (first_sent a c p) (moments_sent a c p) refl
    by_case false true h = (λ i. standing None (first_of (append-nil (texts_with a (first_sending c p)) i)) (append-nil (moments_sent a c p) i))

    nothing_more : standing (option_and_then (ending_by (extended a l event e) c p) (first_of (cons_option (cond (same_client c c && same_part p q) (Some (GaveUpAt t)) None) []))) (first_of (texts_with a (first_sending c p) ++ [])) (moments_sent a c p ++ [])
        ≡ cond (same_part p q) (given_up t (standing None (first_sent a c p) (moments_sent a c p))) (standing None (first_sent a c p) (moments_sent a c p))
    nothing_more = by_case (same_part p q) (same_client c c) (eqb_same c.0)

-- its reply is taken
answered_is : (r : Reply) (o : Option (ℕ × ℕ)) (ms : List ℕ) → answered r (standing None o ms) ≡ Over (Replied r)
answered_is r None ms = refl
answered_is r (Some (orig, first)) ms = refl

pub standing_answered : (a : Account) (l : ℕ) (event : Event) (e : Effect) (c : ClientNo) (p q : Part) (k : ℕ) (f : Frame) (r : Reply) → Told a c → e.texts ≡ did.Took k c q ∷ [] → frame_at a k ≡ Some f → replied f.load ≡ Some (Replied r) →
    standing_at (extended a l event e) c p ≡ cond (same_part p q) (answered r (standing_at a c p)) (standing_at a c p)
standing_answered a l event e c p q k f r told is at says =
    standing_extended a l event e c p told (λ s. cond (same_part p q) (answered r s) s) (λ y. keeps_if (same_part p q) (answered r) (λ z. refl) y)
    (λ open_yet. (λ i. standing (option_and_then (ending_by (extended a l event e) c p) (first_of (filter_map (part_end c p (now a l)) (is i))))
    (first_of (texts_with a (first_sending c p) ++ filter_map (first_sending c p (now a l)) (is i)))
    (moments_sent a c p ++ filter_map (sending_on c p (now a l)) (is i)))
    ∙ by_case (same_part p q) (same_client c c) (eqb_same c.0))
  where
    by_case : (b d : Bool) → d ≡ true →
        standing (option_and_then (ending_by (extended a l event e) c p) (first_of (cons_option (cond (d && b) (Some (TookFrame k)) None) []))) (first_of (texts_with a (first_sending c p) ++ [])) (moments_sent a c p ++ [])
        ≡ cond b (answered r (standing None (first_sent a c p) (moments_sent a c p))) (standing None (first_sent a c p) (moments_sent a c p))
    by_case b false h = grind arith
    by_case true true h =
        ap (λ z. standing z (first_of (texts_with a (first_sending c p) ++ [])) (moments_sent a c p ++ [])) (ap (option_and_then (λ (g : Frame). replied g.load)) (frame_kept a l event e k f at) ∙ says)
        ∙ sym (answered_is r (first_sent a c p) (moments_sent a c p))
    by_case false true h = (λ i. standing None (first_of (append-nil (texts_with a (first_sending c p)) i)) (append-nil (moments_sent a c p) i))

-- parts are sent
abbrev pub all_gone_out : ℕ → Part → List Outgoing → Standing → Standing
all_gone_out t p [] s = s
all_gone_out t p (o ∷ os) s = all_gone_out t p os (cond (same_part p o.part) (gone_out t o s) s)

gone_out_keeps : (t : ℕ) (p : Part) (items : List Outgoing) (y : Ending) → all_gone_out t p items (Over y) ≡ Over y
gone_out_keeps t p [] y = refl
gone_out_keeps t p (o ∷ os) y = ap (all_gone_out t p os) (keeps_if (same_part p o.part) (gone_out t o) (λ z. refl) y) ∙ gone_out_keeps t p os y

pub no_end_sent : (c : ClientNo) (p : Part) (t n : ℕ) (items : List Outgoing) → filter_map (part_end c p t) (map (sent_text c n) items) ≡ []
no_end_sent c p t n [] = refl
no_end_sent c p t n (o ∷ os) = go o.again (no_end_sent c p t n os)
  where
    go : (b : Bool) → filter_map (part_end c p t) (map (sent_text c n) os) ≡ [] →
        filter_map (part_end c p t) (cond b (did.Again n c o.part o.id o.orig) (did.Sent n c o.part o.id) ∷ map (sent_text c n) os) ≡ []
    go true h = h
    go false h = h

sent_tells : (c : ClientNo) (p : Part) (t n : ℕ) (items : List Outgoing) (xs : List (ℕ × ℕ)) (ms : List ℕ) →
    standing None (first_of (xs ++ filter_map (first_sending c p t) (map (sent_text c n) items))) (ms ++ filter_map (sending_on c p t) (map (sent_text c n) items))
    ≡ all_gone_out t p items (standing None (first_of xs) ms)
sent_tells c p t n [] xs ms = λ i. standing None (first_of (append-nil xs i)) (append-nil ms i)
sent_tells c p t n (o ∷ os) xs ms = outer o.again refl (λ ys ns. sent_tells c p t n os ys ns)
  where
    firsts : List (ℕ × ℕ)
    firsts = filter_map (first_sending c p t) (map (sent_text c n) os)

    moments : List ℕ
    moments = filter_map (sending_on c p t) (map (sent_text c n) os)

    go : (g : Bool) → o.again ≡ g → (b d : Bool) → d ≡ true → (xs : List (ℕ × ℕ)) →
        ((ys : List (ℕ × ℕ)) (ns : List ℕ) → standing None (first_of (ys ++ firsts)) (ns ++ moments) ≡ all_gone_out t p os (standing None (first_of ys) ns)) →
        standing None (first_of (xs ++ cons_option (cond g None (cond (d && b) (Some (o.id, t)) None)) firsts)) (ms ++ cons_option (cond g (cond (d && b) (Some t) None) (cond (d && b) (Some t) None)) moments)
        ≡ all_gone_out t p os (cond b (gone_out t o (standing None (first_of xs) ms)) (standing None (first_of xs) ms))
    go g e b false h xs rec = grind arith
    go true e true true h [] rec =
        ap (λ z. standing None (first_of firsts) z) (sym (append_assoc ms (t ∷ []) moments))
        ∙ rec [] (ms ++ t ∷ [])
        ∙ ap (all_gone_out t p os) (sym (ap (λ z. cond z Unsent (InFlight o.id t t)) e))
    go false e true true h [] rec =
        ap (λ z. standing None (Some (o.id, t)) z) (sym (append_assoc ms (t ∷ []) moments))
        ∙ rec ((o.id, t) ∷ []) (ms ++ t ∷ [])
        ∙ ap (all_gone_out t p os) (ap (InFlight o.id t) (last_of-append t ms (t ∷ [])) ∙ sym (ap (λ z. cond z Unsent (InFlight o.id t t)) e))
    go true e true true h ((orig, first) ∷ xs) rec =
        ap (λ z. standing None (Some (orig, first)) z) (sym (append_assoc ms (t ∷ []) moments))
        ∙ rec ((orig, first) ∷ xs) (ms ++ t ∷ [])
        ∙ ap (all_gone_out t p os) (ap (InFlight orig first) (last_of-append first ms (t ∷ [])))
    go false e true true h ((orig, first) ∷ xs) rec =
        ap (λ z. standing None (Some (orig, first)) z) (sym (append_assoc ms (t ∷ []) moments))
        ∙ rec ((orig, first) ∷ xs) (ms ++ t ∷ [])
        ∙ ap (all_gone_out t p os) (ap (InFlight orig first) (last_of-append first ms (t ∷ [])))
    go true e false true h xs rec = rec xs ms
    go false e false true h xs rec = rec xs ms

    outer : (g : Bool) → o.again ≡ g →
        ((ys : List (ℕ × ℕ)) (ns : List ℕ) → standing None (first_of (ys ++ firsts)) (ns ++ moments) ≡ all_gone_out t p os (standing None (first_of ys) ns)) →
        standing None (first_of (xs ++ cons_option (first_sending c p t (cond g (did.Again n c o.part o.id o.orig) (did.Sent n c o.part o.id))) firsts)) (ms ++ cons_option (sending_on c p t (cond g (did.Again n c o.part o.id o.orig) (did.Sent n c o.part o.id))) moments)
        ≡ all_gone_out t p os (cond (same_part p o.part) (gone_out t o (standing None (first_of xs) ms)) (standing None (first_of xs) ms))
    outer true e rec = go true e (same_part p o.part) (same_client c c) (eqb_same c.0) xs rec
    outer false e rec = go false e (same_part p o.part) (same_client c c) (eqb_same c.0) xs rec

pub standing_sent : (a : Account) (l : ℕ) (event : Event) (e : Effect) (c : ClientNo) (p : Part) (n : ℕ) (items : List Outgoing) → Told a c → e.texts ≡ map (sent_text c n) items →
    standing_at (extended a l event e) c p ≡ all_gone_out (now a l) p items (standing_at a c p)
standing_sent a l event e c p n items told is =
    standing_extended a l event e c p told (all_gone_out (now a l) p items) (gone_out_keeps (now a l) p items)
    (λ open_yet. (λ i. standing (option_and_then (ending_by (extended a l event e) c p) (first_of (filter_map (part_end c p (now a l)) (is i))))
    (first_of (texts_with a (first_sending c p) ++ filter_map (first_sending c p (now a l)) (is i)))
    (moments_sent a c p ++ filter_map (sending_on c p (now a l)) (is i)))
    ∙ ap (λ z. standing (option_and_then (ending_by (extended a l event e) c p) (first_of z))
    (first_of (texts_with a (first_sending c p) ++ filter_map (first_sending c p (now a l)) (map (sent_text c n) items)))
    (moments_sent a c p ++ filter_map (sending_on c p (now a l)) (map (sent_text c n) items))) (no_end_sent c p (now a l) n items)
    ∙ sent_tells c p (now a l) n items (texts_with a (first_sending c p)) (moments_sent a c p))
