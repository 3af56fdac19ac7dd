-- What the fields find is what the rules of the machine's poll find.
use Rattle.std.proofs.Common.{◌≡◌, ℕ, zero, suc, ◌+◌, ◌<◌, ◌≤◌, List, [], ◌∷◌, ◌++◌, refl, ap, sym, ◌∙◌, subst, Some, None, Option, Bool, true, false, cond, arith, map, length, get_or}
use Rattle.std.specs.Prelude.{◌==◌, ◌||◌, ◌&&◌, nat_lt, find, filter, filter_map, flat_map, slice_get, option_map, option_and_then}
use Rattle.std.specs.List.{AllByRecursion as Each, list_any, enumerate_from}
use Rattle.std.proofs.lemmas.Bool.Decides.{nat_tests}
use Rattle.cl_types.specs.declared.request.Request.{Request}
use Rattle.cl_types.specs.declared.numbers.CallNo.{CallNo}
use Rattle.cl_types.specs.declared.reply.Part.{Part}
use Rattle.client_model.specs.Cut.{cut, Ending}
use Rattle.client_model.specs.Order.{Footprint, footprint, is_fence, may_go, ready_in}
use Rattle.cl_types.specs.Parts.{same_part}
use Rattle.client_model.specs.Client.{ClientCall, ClientPart, ClientState, EndsFence, Polled, Sending, Standing, Unsent, InFlight, Over, fence_first, flight, flights, is_unsent, named, parts_of, prints, sendable, standing_so}
use Rattle.client_retry.specs.declared.flown.Flown.{Flown}
use Rattle.client_model.specs.Apart.{AreApart}
use Rattle.client_core.specs.Valid.{AreRising}
use Rattle.client_core.specs.Held.{Held, fence_first_in, has_unsent, held_at, may_send, next_part, part_to_send, print_of, request_at}
use Rattle.client_core.specs.Fields.{call_in, flown_of, standing_by, standing_flown, standing_in, IsFit}
use Rattle.client_core.proofs.Basics.{eqb_below, fence_emptied, none_some}
use Rattle.client_core.proofs.Standing.{of_part, part_at}
use Rattle.client_core.proofs.Naming.{IsThere, all_above, each_part, numbers, none_has, parts_from}
use Rattle.client_core.proofs.Laws.{ids}
use Rattle.lemmas.proofs.Lists.{each_append, each_filter_from as each_filter, each_filter_map_from as each_filter_map, find_some as each_found, each_weaker_with as each_with}
use Rattle.lemmas.proofs.SameParts.{eqb_same, eqb_turned as turned}
use Rattle.client_model.proofs.Buffers.{print_emptied}

-- ---- finding
pub find_flown : (test : Flown → Bool) (ss : List Sending) → find test (map flown_of ss) ≡ option_map flown_of (find (λ s. test (flown_of s)) ss)
find_flown test [] = refl
find_flown test (s ∷ ss) = go (test (flown_of s)) (find_flown test ss)
  where
    go : (b : Bool) → find test (map flown_of ss) ≡ option_map flown_of (find (λ s. test (flown_of s)) ss) → cond b (Some (flown_of s)) (find test (map flown_of ss)) ≡ option_map flown_of (cond b (Some s) (find (λ s. test (flown_of s)) ss))
    go true r = refl
    go false r = r

-- the entry that a test finds is found by its id
pub found_by_id : (test : Flown → Bool) (fs : List Flown) (g : Flown) → AreApart (ids fs) → find test fs ≡ Some g → find (λ x. x.orig == g.orig) fs ≡ Some g
found_by_id test [] g apart h = none_some g h
found_by_id test (x ∷ fs) g apart h = go (test x) h (found_by_id test fs g apart.1)
  where
    go : (b : Bool) → cond b (Some x) (find test fs) ≡ Some g → (find test fs ≡ Some g → find (λ x. x.orig == g.orig) fs ≡ Some g) → cond (x.orig == g.orig) (Some x) (find (λ x. x.orig == g.orig) fs) ≡ Some g
    go true k rec =
        let same : x ≡ g = cc in
        ap (λ b. cond b (Some x) (find (λ (x : Flown). x.orig == g.orig) fs)) (ap (λ (z : Flown). z.orig == g.orig) same ∙ eqb_same g.orig) ∙ ap (λ z. Some z) same
    go false k rec =
        let other : (g.orig == x.orig) ≡ false = (each_found (λ (z : Flown). (z.orig == x.orig) ≡ false) test fs g (none_has (λ (z : Flown). z.orig) x.orig fs apart.0) k).0 in
        ap (λ b. cond b (Some x) (find (λ (x : Flown). x.orig == g.orig) fs)) (turned g.orig x.orig other) ∙ rec k

-- ---- Fences
pub fence_found : (fs : List Flown) (hs : List Held) → fence_first (map (call_in fs) hs) ≡ option_map (λ (n : CallNo). EndsFence n.0) (fence_first_in hs)
fence_found fs [] = refl
fence_found fs (h ∷ hs) = ap (λ b. cond b (Some (EndsFence h.number)) None) (fence_emptied h.call) ∙ go (is_fence h.call)
  where
    go : (b : Bool) → cond b (Some (EndsFence h.number)) None ≡ option_map (λ (n : CallNo). EndsFence n.0) (cond b (Some (record { 0 = h.number })) None)
    go true = refl
    go false = refl

-- ---- which calls are ready
pub prints_in : (fs : List Flown) (hs : List Held) → prints (map (call_in fs) hs) ≡ map print_of hs
prints_in fs [] = refl
prints_in fs (h ∷ hs) = λ i. (h.number, print_emptied h.call i) ∷ prints_in fs hs i

none_so : (test : ℕ × Footprint → Bool) (m : ℕ) (hs : List Held) → Each (λ (h : Held). m < h.number) hs → list_any (λ (k : ℕ × Footprint). k.0 == m && test k) (map print_of hs) ≡ false
none_so test m [] r = refl
none_so test m (h ∷ hs) r = go (h.number == m) (let less : m < h.number = r.0 in grind (arith, nat_tests)) (none_so test m hs r.1)
  where
    go : (b : Bool) → b ≡ false → list_any (λ (k : ℕ × Footprint). k.0 == m && test k) (map print_of hs) ≡ false → (b && test (print_of h) || list_any (λ (k : ℕ × Footprint). k.0 == m && test k) (map print_of hs)) ≡ false
    go true e s = grind arith
    go false e s = s

abbrev ReadyIs : (ℕ × Footprint → Bool) → List (ℕ × Footprint) → Held → Type 0
ReadyIs test calls h = list_any (λ (k : ℕ × Footprint). k.0 == h.number && test k) calls ≡ test (print_of h)

ready_is : (test : ℕ × Footprint → Bool) (n last : ℕ) (hs : List Held) → AreRising n last (numbers hs) → Each (ReadyIs test (map print_of hs)) hs
ready_is test n last [] r = tt
ready_is test n last (h ∷ hs) r = (
  first (h.number == h.number) (eqb_same h.number) (test (print_of h)) (none_so test h.number hs (all_above h.number h.number last hs (omega arith) r.1)),
  each_with (λ (g : Held). h.number < g.number) (ReadyIs test (map print_of hs)) (ReadyIs test (map print_of (h ∷ hs)))
      (λ g less is. later (h.number == g.number) (eqb_below h.number g.number less) (test (print_of h)) (list_any (λ (k : ℕ × Footprint). k.0 == g.number && test k) (map print_of hs)) ∙ is)
      hs (all_above h.number h.number last hs (omega arith) r.1) (ready_is test h.number last hs r.1),
)
  where
    first : (b : Bool) → b ≡ true → (t : Bool) → {x : Bool} → x ≡ false → (b && t || x) ≡ t
    first false e t s = grind arith
    first true e true s = refl
    first true e false s = s

    later : (b : Bool) → b ≡ false → (t x : Bool) → (b && t || x) ≡ x
    later true e t x = grind arith
    later false e t x = refl

-- ---- the first unsent part
abbrev pub first_part : List ClientPart → Option Part
first_part ps = option_map (λ p. p.part) (slice_get (filter (λ p. is_unsent p.standing) ps) 0)

first_unsent : (fs : List Flown) (h : Held) → IsFit h → (s : ℕ) (rs : List Request) (rest : List ClientPart) → s ≤ h.sent →
    first_part (parts_from (standing_in fs h) h.number s rs ++ rest) ≡ cond (nat_lt h.sent (s + length rs)) (Some (part_at h.number h.sent)) (first_part rest)
first_unsent fs h fit s [] rest le = sym (ap (λ b. cond b (Some (part_at h.number h.sent)) (first_part rest)) (past s h.sent le))
  where
    past : (s sent : ℕ) → s ≤ sent → nat_lt sent (s + 0) ≡ false
    past s sent le = grind (arith, nat_tests)
first_unsent fs h fit s (r ∷ rs) rest le = go (nat_lt s h.sent) refl (λ m. first_unsent fs h fit (s + 1) rs rest m)
  where
    more : List ClientPart
    more = parts_from (standing_in fs h) h.number (s + 1) rs ++ rest

    split : (u : Bool) → option_map (λ (p : ClientPart). p.part) (slice_get (cond u (standing_so (standing_in fs h) (named h.number (s, r)) ∷ filter (λ (p : ClientPart). is_unsent p.standing) more) (filter (λ (p : ClientPart). is_unsent p.standing) more)) 0) ≡ cond u (Some (part_at h.number s)) (first_part more)
    split true = refl
    split false = refl

    step : (u : Bool) → is_unsent (standing_in fs h (part_at h.number s)) ≡ u → first_part (standing_so (standing_in fs h) (named h.number (s, r)) ∷ more) ≡ cond u (Some (part_at h.number s)) (first_part more)
    step u e =
        ap (λ b. option_map (λ (p : ClientPart). p.part) (slice_get (cond b (standing_so (standing_in fs h) (named h.number (s, r)) ∷ filter (λ (p : ClientPart). is_unsent p.standing) more) (filter (λ (p : ClientPart). is_unsent p.standing) more)) 0)) e
        ∙ split u

    sent_one : (came : Option Ending) (found : Option Flown) → is_unsent (standing_by came true found) ≡ false
    sent_one (Some e) found = refl
    sent_one None (Some f) = refl
    sent_one None None = refl

    lower : (s sent : ℕ) → nat_lt s sent ≡ true → s + 1 ≤ sent
    lower s sent e = grind (arith, nat_tests)

    equal : (s sent : ℕ) → s ≤ sent → nat_lt s sent ≡ false → s ≡ sent
    equal s sent le e = grind (arith, nat_tests)

    within : (s sent k : ℕ) → s ≤ sent → nat_lt s sent ≡ false → nat_lt sent (s + suc k) ≡ true
    within s sent k le e = grind (arith, nat_tests)

    go : (b : Bool) → nat_lt s h.sent ≡ b → (s + 1 ≤ h.sent → first_part more ≡ cond (nat_lt h.sent (s + 1 + length rs)) (Some (part_at h.number h.sent)) (first_part rest)) →
        first_part (standing_so (standing_in fs h) (named h.number (s, r)) ∷ more) ≡ cond (nat_lt h.sent (s + suc (length rs))) (Some (part_at h.number h.sent)) (first_part rest)
    go true e rec =
        step false (ap (λ b. is_unsent (standing_by (get_or h.came s None) b (of_part (part_at h.number s) fs))) e ∙ sent_one (get_or h.came s None) (of_part (part_at h.number s) fs))
        ∙ rec (lower s h.sent e)
        ∙ ap (λ k. cond (nat_lt h.sent k) (Some (part_at h.number h.sent)) (first_part rest)) (let z : s + 1 + length rs ≡ s + suc (length rs) = omega arith in z)
    go false e rec =
        let at : s ≡ h.sent = equal s h.sent le e in
        let none : get_or h.came s None ≡ None = fit.unsent s (omega (arith, at)) in
        step true ((λ i. is_unsent (standing_by (none i) (e i) (of_part (part_at h.number s) fs))))
        ∙ ap (λ k. Some (part_at h.number k)) at
        ∙ sym (ap (λ b. cond b (Some (part_at h.number h.sent)) (first_part rest)) (within s h.sent (length rs) le e))

next_in : (Q : List (ℕ × Footprint)) (fs : List Flown) (hs : List Held) → Each IsFit hs → Each (λ (h : Held). ready_in Q h.number ≡ may_go Q (print_of h)) hs →
    first_part (flat_map (λ k. k.parts) (filter (λ k. may_go Q (k.number, footprint k.call)) (map (call_in fs) hs))) ≡ option_map next_part (find (may_send Q) hs)
next_in Q fs [] fits e = refl
next_in Q fs (h ∷ hs) fits e =
    ap (λ (z : Footprint). first_part (flat_map (λ k. k.parts) (cond (may_go Q (h.number, z)) (call_in fs h ∷ more) more))) (print_emptied h.call)
    ∙ go (may_go Q (print_of h)) (ready_in Q h.number) e.0 (next_in Q fs hs fits.1 e.1)
  where
    more : List ClientCall
    more = filter (λ k. may_go Q (k.number, footprint k.call)) (map (call_in fs) hs)

    room : (b : Bool) → cond b (Some (next_part h)) (option_map next_part (find (may_send Q) hs)) ≡ option_map next_part (cond (b && true) (Some h) (find (may_send Q) hs))
    room true = refl
    room false = refl

    none : (b : Bool) → option_map next_part (find (may_send Q) hs) ≡ option_map next_part (cond (b && false) (Some h) (find (may_send Q) hs))
    none true = refl
    none false = refl

    go : (g y : Bool) → y ≡ g → first_part (flat_map (λ k. k.parts) more) ≡ option_map next_part (find (may_send Q) hs) →
        first_part (flat_map (λ k. k.parts) (cond g (call_in fs h ∷ more) more)) ≡ option_map next_part (cond (has_unsent h && y) (Some h) (find (may_send Q) hs))
    go true y yg rec =
        first_unsent fs h fits.0 0 (cut h.call) (flat_map (λ k. k.parts) more) (omega arith)
        ∙ ap (λ z. cond (nat_lt h.sent z) (Some (next_part h)) (first_part (flat_map (λ k. k.parts) more))) (let z : 0 + length (cut h.call) ≡ length (cut h.call) = omega arith in z ∙ sym fits.0.parts)
        ∙ ap (cond (has_unsent h) (Some (next_part h))) rec
        ∙ room (has_unsent h)
        ∙ ap (λ z. option_map next_part (cond (has_unsent h && z) (Some h) (find (may_send Q) hs))) (sym yg)
    go false y yg rec = rec ∙ none (has_unsent h) ∙ ap (λ z. option_map next_part (cond (has_unsent h && z) (Some h) (find (may_send Q) hs))) (sym yg)

pub next_found : (fs : List Flown) (last : ℕ) (hs : List Held) → AreRising 0 last (numbers hs) → Each IsFit hs →
    first_part (flat_map (λ k. k.parts) (filter (λ k. may_go (prints (map (call_in fs) hs)) (k.number, footprint k.call)) (map (call_in fs) hs))) ≡ part_to_send hs
next_found fs last hs rising fits =
    ap (λ z. first_part (flat_map (λ k. k.parts) (filter (λ k. may_go z (k.number, footprint k.call)) (map (call_in fs) hs)))) (prints_in fs hs)
    ∙ next_in (map print_of hs) fs hs fits (ready_is (may_go (map print_of hs)) 0 last hs rising)

-- ---- the requests of parts
abbrev pub HasRequest : List Held → ClientPart → Type 0
HasRequest hs q = request_at hs q.part ≡ Some q.request

requests_in : (all : List Held) (fs : List Flown) (h : Held) → IsThere all h → (s : ℕ) (rs : List Request) → ((j : ℕ) (r : Request) → slice_get rs j ≡ Some r → slice_get (cut h.call) (s + j) ≡ Some r) →
    Each (HasRequest all) (parts_from (standing_in fs h) h.number s rs)
requests_in all fs h there s [] at = tt
requests_in all fs h there s (r ∷ rs) at = (
  ap (option_and_then (λ (x : Held). slice_get (cut x.call) s)) there ∙ ap (slice_get (cut h.call)) (let z : s ≡ s + 0 = omega arith in z) ∙ at 0 r refl,
  requests_in all fs h there (s + 1) rs (λ j q e. ap (slice_get (cut h.call)) (let z : s + 1 + j ≡ s + suc j = omega arith in z) ∙ at (suc j) q e),
)

call_requests : (all : List Held) (fs : List Flown) (hs : List Held) → Each (IsThere all) hs → Each (λ (k : ClientCall). Each (HasRequest all) k.parts) (map (call_in fs) hs)
call_requests all fs [] there = tt
call_requests all fs (h ∷ hs) there = (
  requests_in all fs h there.0 0 (cut h.call) (λ j r e. ap (slice_get (cut h.call)) (let z : 0 + j ≡ j = omega arith in z) ∙ e),
  call_requests all fs hs there.1,
)

each_parts : (P : ClientPart → Type 0) (ks : List ClientCall) → Each (λ (k : ClientCall). Each P k.parts) ks → Each P (parts_of ks)
each_parts P [] h = tt
each_parts P (k ∷ ks) h = each_append P k.parts (parts_of ks) h.0 (each_parts P ks h.1)

each_first : {X : Type 0} (P : X → Type 0) (xs : List X) (x : X) → Each P xs → slice_get xs 0 ≡ Some x → P x
each_first P [] x h e = none_some x e
each_first P (y ∷ xs) x h e = let same : y ≡ x = cc in subst P same h.0

pub sendable_request : (s : ClientState) (fs : List Flown) (hs : List Held) → s.calls ≡ map (call_in fs) hs → Each (IsThere hs) hs → (q : ClientPart) → slice_get (sendable s) 0 ≡ Some q → HasRequest hs q
sendable_request s fs hs calls there q e =
    each_first (HasRequest hs) (sendable s) q
    (each_filter (HasRequest hs) (λ p. is_unsent p.standing) _ (each_parts (HasRequest hs) _ (each_filter (λ (k : ClientCall). Each (HasRequest hs) k.parts) (λ k. may_go (prints s.calls) (k.number, footprint k.call)) s.calls
    (subst (Each (λ (k : ClientCall). Each (HasRequest hs) k.parts)) (sym calls) (call_requests hs fs hs there))))) e

pub flight_requests : (s : ClientState) (fs : List Flown) (hs : List Held) → s.calls ≡ map (call_in fs) hs → Each (IsThere hs) hs → Each (λ (x : Sending). request_at hs x.part ≡ Some x.request) (flights s)
flight_requests s fs hs calls there =
    each_filter_map (λ (x : Sending). request_at hs x.part ≡ Some x.request) (HasRequest hs) (λ p. flight p.part p.request p.standing) (λ p x has e. go p.part p.request p.standing x has e) (parts_of s.calls)
    (each_parts (HasRequest hs) s.calls (subst (Each (λ (k : ClientCall). Each (HasRequest hs) k.parts)) (sym calls) (call_requests hs fs hs there)))
  where
    go : (p : Part) (r : Request) (st : Standing) (x : Sending) → request_at hs p ≡ Some r → flight p r st ≡ Some x → request_at hs x.part ≡ Some x.request
    go p r Unsent x has e = none_some x e
    go p r (InFlight orig first last) x has e =
        let a : p ≡ x.part = cc in let b : r ≡ x.request = cc in
        ap (request_at hs) (sym a) ∙ has ∙ ap (λ z. Some z) b
    go p r (Over y) x has e = none_some x e
