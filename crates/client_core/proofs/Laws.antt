-- What holds of a client's state at every moment is kept by what its calls do.
use Rattle.std.proofs.Common.{◌≡◌, ℕ, zero, suc, ◌+◌, ◌-◌, ◌*◌, ◌/◌, ◌<◌, ◌≤◌, List, [], ◌∷◌, ◌++◌, refl, ap, sym, ◌∙◌, subst, ⊎_elim, Some, None, Option, Bool, true, false, cond, arith, map, length, length-append}
use Rattle.std.specs.Prelude.{◌==◌, ◌||◌, ◌&&◌, not, leb, filter, filter_map, flat_map, is_none, sum_by, option_map}
use Rattle.std.specs.List.{AllByRecursion as Each, list_any}
use Rattle.std.proofs.lemmas.Bool.Decides.{nat_tests}
use Rattle.std.proofs.lemmas.List.{length-map, map-append}
use Rattle.std.proofs.lemmas.List.Sums.{sum_by-cons}
use Rattle.cl_types.specs.declared.request.Request.{Request}
use Rattle.cl_types.specs.declared.reply.Part.{Part}
use Rattle.cl_types.specs.declared.limits.TheConstants.{HELD_CALLS, LAST_RESEND, TIMEOUT}
use Rattle.client_model.specs.Cut.{Ending}
use Rattle.client_model.specs.Order.{is_fence}
use Rattle.cl_types.specs.Parts.{same_part}
use Rattle.client_model.specs.Client.{ClientCall, ClientPart, ClientState, Finished, Sending, Standing, Unsent, InFlight, Over, Outgoing, after_part, all_over, call_changed, ending_of, every, finished, finished_with, flight, flights, gone_out, held, part_changed, parts_of, sent_calls}
use Rattle.client_retry.specs.declared.flown.Flown.{Flown}
use Rattle.client_retry.specs.Flights.{is_before, with_flown, without, sent_again, has_orig}
use Rattle.client_model.specs.Apart.{AreApart}
use Rattle.client_core.specs.Valid.{AreRising, IsHeld, IsValid, name_of, origs, sendings_left}
use Rattle.client_core.specs.Fields.{flown_of, flown_among}
use Rattle.client_core.proofs.Basics.{none_some}
use Rattle.client_core.proofs.Flying.{InOrder, HasStanding, unchanged, same_is}
use Rattle.client_core.proofs.Ending.{going_on, counted_ends, sum_ends}
use Rattle.lemmas.proofs.Lists.{each_weaker, each_filter_from as each_filter}

-- ---- numbers that rise
pub rising_lower : (m n last : ℕ) (ns : List ℕ) → m ≤ n → AreRising n last ns → AreRising m last ns
rising_lower m n last [] le r = let within : n ≤ last = r in omega arith
rising_lower m n last (x ∷ ns) le r = let less : n < x = r.0 in (omega arith, r.1)

pub rising_filter : (test : ClientCall → Bool) (m last : ℕ) (ks : List ClientCall) → AreRising m last (map (λ k. k.number) ks) → AreRising m last (map (λ k. k.number) (filter test ks))
rising_filter test m last [] r = r
rising_filter test m last (k ∷ ks) r = go (test k) (rising_filter test k.number last ks r.1)
  where
    go : (b : Bool) → AreRising k.number last (map (λ k. k.number) (filter test ks)) → AreRising m last (map (λ k. k.number) (cond b (k ∷ filter test ks) (filter test ks)))
    go true rec = (r.0, rec)
    go false rec = rising_lower m k.number last _ (let less : m < k.number = r.0 in omega arith) rec

pub rising_end : (m last n : ℕ) (ns : List ℕ) → AreRising m last ns → last < n → AreRising m n (ns ++ n ∷ [])
rising_end m last n [] r less = let within : m ≤ last = r in (omega arith, omega arith)
rising_end m last n (x ∷ ns) r less = (r.0, rising_end x last n ns r.1 less)

numbers_same : (p : Part) (f : Standing → Standing) (ks : List ClientCall) → map (λ k. k.number) (map (call_changed p f) ks) ≡ map (λ k. k.number) ks
numbers_same p f [] = refl
numbers_same p f (k ∷ ks) = ap (λ ns. k.number ∷ ns) (numbers_same p f ks)

-- ---- the parts of changed calls
pub parts_changed : (p : Part) (f : Standing → Standing) (ks : List ClientCall) → parts_of (map (call_changed p f) ks) ≡ map (part_changed p f) (parts_of ks)
parts_changed p f [] = refl
parts_changed p f (k ∷ ks) = ap (λ ps. map (part_changed p f) k.parts ++ ps) (parts_changed p f ks) ∙ sym (map-append (part_changed p f) k.parts (parts_of ks))

names_same : (p : Part) (f : Standing → Standing) (ps : List ClientPart) → map name_of (map (part_changed p f) ps) ≡ map name_of ps
names_same p f [] = refl
names_same p f (q ∷ ps) = ap (λ ns. name_of q ∷ ns) (names_same p f ps)

endings_same : (p : Part) (f : Standing → Standing) → ((s : Standing) → ending_of (f s) ≡ ending_of s) → (ps : List ClientPart) → map (λ (q : ClientPart). ending_of q.standing) (map (part_changed p f) ps) ≡ map (λ (q : ClientPart). ending_of q.standing) ps
endings_same p f same [] = refl
endings_same p f same (q ∷ ps) = λ i. go (same_part q.part p) i ∷ endings_same p f same ps i
  where
    go : (b : Bool) → ending_of (cond b (f q.standing) q.standing) ≡ ending_of q.standing
    go true = same q.standing
    go false = refl

finished_same : (p : Part) (f : Standing → Standing) → ((s : Standing) → ending_of (f s) ≡ ending_of s) → (k : ClientCall) → finished (call_changed p f k) ≡ finished k
finished_same p f same k = λ i. cond (is_fence k.call) None (option_map (finished_with k) (every (endings_same p f same k.parts i)))

held_same : (p : Part) (f : Standing → Standing) → ((s : Standing) → ending_of (f s) ≡ ending_of s) → (ks : List ClientCall) → Each IsHeld ks → Each IsHeld (map (call_changed p f) ks)
held_same p f same [] h = tt
held_same p f same (k ∷ ks) h = (
  record { good = h.0.good; parts = names_same p f k.parts ∙ h.0.parts; going = finished_same p f same k ∙ h.0.going },
  held_same p f same ks h.1,
)

held_going : (p : Part) (f : Standing → Standing) (ks : List ClientCall) → Each IsHeld ks → Each IsHeld (going_on (map (call_changed p f) ks))
held_going p f [] h = tt
held_going p f (k ∷ ks) h = go (finished (call_changed p f k)) refl (held_going p f ks h.1)
  where
    go : (o : Option Finished) → finished (call_changed p f k) ≡ o → Each IsHeld (going_on (map (call_changed p f) ks)) → Each IsHeld (cond (is_none o) (call_changed p f k ∷ going_on (map (call_changed p f) ks)) (going_on (map (call_changed p f) ks)))
    go None e rec = (record { good = h.0.good; parts = names_same p f k.parts ∙ h.0.parts; going = e }, rec)
    go (Some x) e rec = rec

-- ---- how often parts may still be sent
abbrev pub left : ClientPart → ℕ
left q = sendings_left q.standing

pub sum_changed : (p : Part) (st : Standing) (f : Standing → Standing) (ps : List ClientPart) → InOrder ps → HasStanding p st ps → sum_by left (map (part_changed p f) ps) + sendings_left st ≡ sum_by left ps + sendings_left (f st)
sum_changed p st f [] order u = absurd u
sum_changed p st f (q ∷ ps) order u = ⊎_elim here (λ (y : (same_part q.part p ≡ false) × HasStanding p st ps). there y.0 (sum_changed p st f ps order.1 y.1)) u
  where
    put_together : (a b c d e m n : ℕ) → a ≡ b + c → c ≡ d → e ≡ m + d → b ≡ n → m ≡ sendings_left st → a + sendings_left st ≡ e + n
    put_together a b c d e m n x y z u v = omega arith

    join : (a b c d e m n : ℕ) → a ≡ b + c → d ≡ e + m → b ≡ e → c + sendings_left st ≡ m + n → a + sendings_left st ≡ d + n
    join a b c d e m n x y z u = omega arith

    here : (same_part q.part p ≡ true) × (q.standing ≡ st) → sum_by left (map (part_changed p f) (q ∷ ps)) + sendings_left st ≡ sum_by left (q ∷ ps) + sendings_left (f st)
    here y =
        let rest : map (part_changed p f) ps ≡ ps = unchanged p f ps (subst (λ z. Each (λ (x : ClientPart). is_before z x.part ≡ true) ps) (same_is q.part p y.0) order.0) in
        let first : left (part_changed p f q) ≡ sendings_left (f st) = ap (λ b. sendings_left (cond b (f q.standing) q.standing)) y.0 ∙ ap (λ s. sendings_left (f s)) y.1 in
        let was : left q ≡ sendings_left st = ap sendings_left y.1 in
        let sum : sum_by left (map (part_changed p f) (q ∷ ps)) ≡ left (part_changed p f q) + sum_by left (map (part_changed p f) ps) = sum_by-cons left (part_changed p f q) (map (part_changed p f) ps) in
        let sums : sum_by left (map (part_changed p f) ps) ≡ sum_by left ps = ap (sum_by left) rest in
        let before : sum_by left (q ∷ ps) ≡ left q + sum_by left ps = sum_by-cons left q ps in
        put_together _ _ _ _ _ _ _ sum sums before first was

    there : same_part q.part p ≡ false → sum_by left (map (part_changed p f) ps) + sendings_left st ≡ sum_by left ps + sendings_left (f st) → sum_by left (map (part_changed p f) (q ∷ ps)) + sendings_left st ≡ sum_by left (q ∷ ps) + sendings_left (f st)
    there y rec =
        let same : left (part_changed p f q) ≡ left q = ap (λ b. sendings_left (cond b (f q.standing) q.standing)) y in
        let sum : sum_by left (map (part_changed p f) (q ∷ ps)) ≡ left (part_changed p f q) + sum_by left (map (part_changed p f) ps) = sum_by-cons left (part_changed p f q) (map (part_changed p f) ps) in
        let before : sum_by left (q ∷ ps) ≡ left q + sum_by left ps = sum_by-cons left q ps in
        join _ _ _ _ _ _ _ sum before same rec

-- ---- ids
abbrev pub ids : List Flown → List ℕ
ids fs = map (λ f. f.orig) fs

ids_flown : (ss : List Sending) → map (λ (f : Sending). f.orig) ss ≡ ids (map flown_of ss)
ids_flown [] = refl
ids_flown (s ∷ ss) = ap (λ ns. s.orig ∷ ns) (ids_flown ss)

pub origs_are : (s : ClientState) (fs : List Flown) → flown_among (parts_of s.calls) ≡ fs → origs s ≡ ids fs
origs_are s fs h = ids_flown (flights s) ∙ ap ids h

any_ids : (n : ℕ) (fs : List Flown) → list_any (λ m. m == n) (ids fs) ≡ has_orig n fs
any_ids n [] = refl
any_ids n (f ∷ fs) = ap (λ b. f.orig == n || b) (any_ids n fs)

any_less : (n orig : ℕ) (fs : List Flown) → list_any (λ m. m == n) (ids fs) ≡ false → list_any (λ m. m == n) (ids (without orig fs)) ≡ false
any_less n orig [] h = refl
any_less n orig (f ∷ fs) h = go (f.orig == n) refl h (f.orig == orig) (any_less n orig fs)
  where
    go : (b : Bool) → (f.orig == n) ≡ b → (b || list_any (λ m. m == n) (ids fs)) ≡ false → (c : Bool) → (list_any (λ m. m == n) (ids fs) ≡ false → list_any (λ m. m == n) (ids (without orig fs)) ≡ false) → list_any (λ m. m == n) (ids (cond (not c) (f ∷ without orig fs) (without orig fs))) ≡ false
    go true e k c rec = absurd cc
    go false e k true rec = rec k
    go false e k false rec = ap (λ b. b || list_any (λ m. m == n) (ids (without orig fs))) e ∙ rec k

apart_without : (orig : ℕ) (fs : List Flown) → AreApart (ids fs) → AreApart (ids (without orig fs))
apart_without orig [] h = tt
apart_without orig (f ∷ fs) h = go (f.orig == orig) (apart_without orig fs h.1)
  where
    go : (b : Bool) → AreApart (ids (without orig fs)) → AreApart (ids (cond (not b) (f ∷ without orig fs) (without orig fs)))
    go true rec = rec
    go false rec = (any_less f.orig orig fs h.0, rec)

each_without : (P : ℕ → Type 0) (orig : ℕ) (fs : List Flown) → Each P (ids fs) → Each P (ids (without orig fs))
each_without P orig [] h = tt
each_without P orig (f ∷ fs) h = go (f.orig == orig) (each_without P orig fs h.1)
  where
    go : (b : Bool) → Each P (ids (without orig fs)) → Each P (ids (cond (not b) (f ∷ without orig fs) (without orig fs)))
    go true rec = rec
    go false rec = (h.0, rec)

any_with : (n : ℕ) (new : Flown) (fs : List Flown) → (new.orig == n) ≡ false → list_any (λ m. m == n) (ids fs) ≡ false → list_any (λ m. m == n) (ids (with_flown new fs)) ≡ false
any_with n new [] other h = ap (λ b. b || false) other
any_with n new (f ∷ fs) other h = go (is_before new.part f.part) (f.orig == n) refl h (any_with n new fs other)
  where
    go : (b c : Bool) → (f.orig == n) ≡ c → (c || list_any (λ m. m == n) (ids fs)) ≡ false → (list_any (λ m. m == n) (ids fs) ≡ false → list_any (λ m. m == n) (ids (with_flown new fs)) ≡ false) →
        list_any (λ m. m == n) (ids (elim b as (λ z. List Flown) [ true ↦ new ∷ f ∷ fs | false ↦ f ∷ with_flown new fs ])) ≡ false
    go b true e k rec = absurd cc
    go true false e k rec = (λ i. other i || (e i || list_any (λ m. m == n) (ids fs))) ∙ k
    go false false e k rec = ap (λ b. b || list_any (λ m. m == n) (ids (with_flown new fs))) e ∙ rec k

apart_with : (new : Flown) (fs : List Flown) → has_orig new.orig fs ≡ false → AreApart (ids fs) → AreApart (ids (with_flown new fs))
apart_with new [] fresh h = (refl, tt)
apart_with new (f ∷ fs) fresh h = go (is_before new.part f.part) (f.orig == new.orig) refl fresh (apart_with new fs)
  where
    turned : (m n : ℕ) → (m == n) ≡ false → (n == m) ≡ false
    turned m n h = grind (arith, nat_tests)

    go : (b c : Bool) → (f.orig == new.orig) ≡ c → (c || has_orig new.orig fs) ≡ false → (has_orig new.orig fs ≡ false → AreApart (ids fs) → AreApart (ids (with_flown new fs))) →
        AreApart (ids (elim b as (λ z. List Flown) [ true ↦ new ∷ f ∷ fs | false ↦ f ∷ with_flown new fs ]))
    go b true e k rec = absurd cc
    go true false e k rec = (any_ids new.orig (f ∷ fs) ∙ fresh, h)
    go false false e k rec = (any_with f.orig new fs (turned f.orig new.orig e) h.0, rec k h.1)

each_with_flown : (P : ℕ → Type 0) (new : Flown) (fs : List Flown) → P new.orig → Each P (ids fs) → Each P (ids (with_flown new fs))
each_with_flown P new [] p h = (p, tt)
each_with_flown P new (f ∷ fs) p h = go (is_before new.part f.part) (each_with_flown P new fs p h.1)
  where
    go : (b : Bool) → Each P (ids (with_flown new fs)) → Each P (ids (elim b as (λ z. List Flown) [ true ↦ new ∷ f ∷ fs | false ↦ f ∷ with_flown new fs ]))
    go true rec = (p, h)
    go false rec = (h.0, rec)

ids_again : (orig t : ℕ) (fs : List Flown) → ids (sent_again orig t fs) ≡ ids fs
ids_again orig t [] = refl
ids_again orig t (f ∷ fs) = ap (λ ns. f.orig ∷ ns) (ids_again orig t fs)

abbrev pub IsId : ℕ → ℕ → Type 0
IsId n id = (1 ≤ id) × (id ≤ n)

pub fresh_id : (n : ℕ) (fs : List Flown) → Each (IsId n) (ids fs) → has_orig (n + 1) fs ≡ false
fresh_id n [] h = refl
fresh_id n (f ∷ fs) h = ap (λ b. b || has_orig (n + 1) fs) (below f.orig h.0.1) ∙ fresh_id n fs h.1
  where
    below : (m : ℕ) → m ≤ n → (m == n + 1) ≡ false
    below m le = grind (arith, nat_tests)

-- ---- a part left flight
pub valid_left : (s : ClientState) (p : Part) (orig : ℕ) (f : Standing → Standing) (fs : List Flown) → IsValid s → flown_among (parts_of s.calls) ≡ fs → flown_among (parts_of (after_part p f s).calls) ≡ without orig fs →
    sum_by left (parts_of (map (call_changed p f) s.calls)) ≤ sum_by left (parts_of s.calls) → IsValid (after_part p f s)
valid_left s p orig f fs v was now less = record {
  rising = rising_filter (λ k. is_none (finished k)) 0 s.issued (map (call_changed p f) s.calls) (subst (AreRising 0 s.issued) (sym (numbers_same p f s.calls)) v.rising);
  calls = held_going p f s.calls v.calls;
  few =
      let parts = counted_ends (map (call_changed p f) s.calls) in
      let as_many : length (map (call_changed p f) s.calls) ≡ length s.calls = length-map s.calls (call_changed p f) in
      let ended : length (s.ended ++ filter_map finished (map (call_changed p f) s.calls)) ≡ length s.ended + length (filter_map finished (map (call_changed p f) s.calls)) = length-append s.ended (filter_map finished (map (call_changed p f) s.calls)) in
      few_still _ _ _ _ _ _ _ parts as_many ended v.few;
  counted =
      let parts = counted_ends (map (call_changed p f) s.calls) in
      let as_many : length (map (call_changed p f) s.calls) ≡ length s.calls = length-map s.calls (call_changed p f) in
      let ended : length (s.ended ++ filter_map finished (map (call_changed p f) s.calls)) ≡ length s.ended + length (filter_map finished (map (call_changed p f) s.calls)) = length-append s.ended (filter_map finished (map (call_changed p f) s.calls)) in
      few_still _ _ _ _ _ _ _ parts as_many ended v.counted;
  apart = subst AreApart (sym (origs_are (after_part p f s) (without orig fs) now)) (apart_without orig fs (subst AreApart (origs_are s fs was) v.apart));
  ids = subst (Each (IsId s.sendings)) (sym (origs_are (after_part p f s) (without orig fs) now)) (each_without (IsId s.sendings) orig fs (subst (Each (IsId s.sendings)) (origs_are s fs was) v.ids));
  sendings =
      let fewer = sum_ends left (map (call_changed p f) s.calls) in
      still_within _ _ _ _ _ v.sendings less fewer;
}
  where
    few_still : (a b c d e m most : ℕ) → a + b ≡ c → c ≡ d → e ≡ m + b → d + m ≤ most → a + e ≤ most
    few_still a b c d e m most x y z u = omega arith

    still_within : (n x y z m : ℕ) → n + x ≤ m → y ≤ x → z ≤ y → n + z ≤ m
    still_within n x y z m a b c = omega arith

-- ---- a part is sent
out_same : (t : ℕ) (o : Outgoing) (s : Standing) → ending_of (gone_out t o s) ≡ ending_of s
out_same t o Unsent = go o.again
  where
    go : (b : Bool) → ending_of (cond b Unsent (InFlight o.id t t)) ≡ None
    go true = refl
    go false = refl
out_same t o (InFlight orig first last) = refl
out_same t o (Over e) = refl

valid_out : (s : ClientState) (t : ℕ) (o : Outgoing) (fs' : List Flown) → IsValid s → flown_among (parts_of (map (call_changed o.part (gone_out t o)) s.calls)) ≡ fs' → AreApart (ids fs') → Each (IsId (s.sendings + 1)) (ids fs') →
    sum_by left (parts_of (map (call_changed o.part (gone_out t o)) s.calls)) + 1 ≤ sum_by left (parts_of s.calls) →
    IsValid (record s { sendings = s.sendings + 1; calls = map (call_changed o.part (gone_out t o)) s.calls })
valid_out s t o fs' v now apart known less =
    let new : ClientState = record s { sendings = s.sendings + 1; calls = map (call_changed o.part (gone_out t o)) s.calls } in
    record {
      rising = subst (AreRising 0 s.issued) (sym (numbers_same o.part (gone_out t o) s.calls)) v.rising;
      calls = held_same o.part (gone_out t o) (out_same t o) s.calls v.calls;
      few = subst (λ n. n + length s.ended ≤ 256) (sym (length-map s.calls (call_changed o.part (gone_out t o)))) v.few;
      counted = subst (λ n. n + length s.ended ≤ s.issued) (sym (length-map s.calls (call_changed o.part (gone_out t o)))) v.counted;
      apart = subst AreApart (sym (origs_are new fs' now)) apart;
      ids = subst (Each (IsId (s.sendings + 1))) (sym (origs_are new fs' now)) known;
      sendings = within _ _ _ _ v.sendings less;
    }
  where
    within : (n x y m : ℕ) → n + x ≤ m → y + 1 ≤ x → n + 1 + y ≤ m
    within n x y m a b = omega arith

one_more : (n : ℕ) (ns : List ℕ) → Each (IsId n) ns → Each (IsId (n + 1)) ns
one_more n ns h = each_weaker (IsId n) (IsId (n + 1)) (λ id i. (i.0, let le : id ≤ n = i.1 in omega arith)) ns h

pub valid_sent : (s : ClientState) (t : ℕ) (o : Outgoing) (fs : List Flown) → IsValid s → o.id ≡ s.sendings + 1 → o.again ≡ false → flown_among (parts_of s.calls) ≡ fs →
    flown_among (parts_of (map (call_changed o.part (gone_out t o)) s.calls)) ≡ with_flown (record { part = o.part; orig = o.id; first = t; last = t }) fs →
    InOrder (parts_of s.calls) → HasStanding o.part Unsent (parts_of s.calls) →
    IsValid (record s { sendings = s.sendings + 1; calls = map (call_changed o.part (gone_out t o)) s.calls })
valid_sent s t o fs v id first_time was now order there =
    let known : Each (IsId s.sendings) (ids fs) = subst (Each (IsId s.sendings)) (origs_are s fs was) v.ids in
    let fresh : has_orig o.id fs ≡ false = ap (λ n. has_orig n fs) id ∙ fresh_id s.sendings fs known in
    let new : Flown = record { part = o.part; orig = o.id; first = t; last = t } in
    valid_out s t o (with_flown new fs) v now
    (apart_with new fs fresh (subst AreApart (origs_are s fs was) v.apart))
    (each_with_flown (IsId (s.sendings + 1)) new fs (omega (arith, id), omega (arith, id)) (one_more s.sendings (ids fs) known))
    (less (sum_by left (parts_of (map (call_changed o.part (gone_out t o)) s.calls))) (sum_by left (map (part_changed o.part (gone_out t o)) (parts_of s.calls))) (sum_by left (parts_of s.calls)) (sendings_left (gone_out t o Unsent))
    (ap (sum_by left) (parts_changed o.part (gone_out t o) s.calls)) (sum_changed o.part Unsent (gone_out t o) (parts_of s.calls) order there)
    (ap (λ b. sendings_left (cond b Unsent (InFlight o.id t t))) first_time ∙ three t))
  where
    three : (t : ℕ) → (t + 300 - t) / 100 ≡ 3
    three t = omega arith

    less : (a b c d : ℕ) → a ≡ b → b + 4 ≡ c + d → d ≡ 3 → a + 1 ≤ c
    less a b c d x y z = omega arith

pub valid_again : (s : ClientState) (t orig first last : ℕ) (o : Outgoing) (fs : List Flown) → IsValid s → flown_among (parts_of s.calls) ≡ fs →
    flown_among (parts_of (map (call_changed o.part (gone_out t o)) s.calls)) ≡ sent_again orig t fs →
    InOrder (parts_of s.calls) → HasStanding o.part (InFlight orig first last) (parts_of s.calls) → 100 ≤ t - last → t - first ≤ 300 →
    IsValid (record s { sendings = s.sendings + 1; calls = map (call_changed o.part (gone_out t o)) s.calls })
valid_again s t orig first last o fs v was now order there since age =
    let known : Each (IsId s.sendings) (ids fs) = subst (Each (IsId s.sendings)) (origs_are s fs was) v.ids in
    valid_out s t o (sent_again orig t fs) v now
    (subst AreApart (sym (ids_again orig t fs)) (subst AreApart (origs_are s fs was) v.apart))
    (subst (Each (IsId (s.sendings + 1))) (sym (ids_again orig t fs)) (one_more s.sendings (ids fs) known))
    (less (sum_by left (parts_of (map (call_changed o.part (gone_out t o)) s.calls))) (sum_by left (map (part_changed o.part (gone_out t o)) (parts_of s.calls))) (sum_by left (parts_of s.calls)) ((first + 300 - last) / 100) ((first + 300 - t) / 100)
    (ap (sum_by left) (parts_changed o.part (gone_out t o) s.calls)) (sum_changed o.part (InFlight orig first last) (gone_out t o) (parts_of s.calls) order there) fewer)
  where
    fewer : (first + 300 - t) / 100 + 1 ≤ (first + 300 - last) / 100
    fewer = omega arith

    less : (a b c d e : ℕ) → a ≡ b → b + d ≡ c + e → e + 1 ≤ d → a + 1 ≤ c
    less a b c d e x y z = omega arith
