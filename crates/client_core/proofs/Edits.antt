-- A call among those that are held is changed, or ends.
use Rattle.std.proofs.Common.{◌≡◌, ℕ, zero, suc, ◌<◌, ◌≤◌, List, [], ◌∷◌, ◌++◌, refl, ap, sym, ◌∙◌, subst, Some, None, Option, Bool, true, false, cond, arith, map, set, length}
use Rattle.std.specs.Prelude.{◌==◌, ◌&&◌, not, nat_lt, filter, filter_map, find, slice_get, option_and_then, option_map, is_none, is_some, IfSome}
use Rattle.std.specs.List.{AllByRecursion as Each, remove, cons_option}
use Rattle.std.proofs.lemmas.Bool.Decides.{nat_tests}
use Rattle.std.proofs.lemmas.List.{length-set, map-append}
use Rattle.cl_types.specs.declared.reply.Part.{Part}
use Rattle.client_model.specs.Cut.{Ending, cut}
use Rattle.client_model.specs.Client.{Finished, every}
use Rattle.client_model.specs.Order.{Footprint, is_fence, ready_in}
use Rattle.client_core.specs.declared.ended.Ended.{Ended}
use Rattle.client_core.specs.Rows.{AreKept, finished_of}
use Rattle.client_core.specs.Valid.{AreRising}
use Rattle.client_core.specs.Held.{Held, Holding, after_coming, changed, ended_of, ended_with, fence_first_in, has_unsent, held_at, may_send, next_part, part_to_send, print_of, request_at, with_came, with_ends, with_one_sent}
use Rattle.client_core.proofs.Basics.{contrary, eqb_above, eqb_below, none_some}
use Rattle.client_core.proofs.Naming.{all_above, numbers}
use Rattle.lemmas.proofs.Lists.{find_some as each_found}
use Rattle.lemmas.proofs.SameParts.{eqb_is, eqb_same}

-- ---- one call is changed
none_changed : (n : ℕ) (g : Held → Held) (hs : List Held) → Each (λ (h : Held). n < h.number) hs → changed n g hs ≡ hs
none_changed n g [] above = refl
none_changed n g (h ∷ hs) above = λ i. cond (eqb_above h.number n above.0 i) (g h) h ∷ none_changed n g hs above.1 i

pub set_changed : (g : Held → Held) (m last : ℕ) (hs : List Held) (at : ℕ) (h : Held) → AreRising m last (numbers hs) → slice_get hs at ≡ Some h → set hs at (g h) ≡ changed h.number g hs
set_changed g m last [] at h r e = none_some h e
set_changed g m last (x ∷ hs) zero h r e =
    let same : x ≡ h = cc in
    let this : cond (x.number == h.number) (g x) x ≡ g h = ap (λ (z : Held). cond (x.number == z.number) (g x) x) (sym same) ∙ ap (λ b. cond b (g x) x) (eqb_same x.number) ∙ ap g same in
    let rest : changed h.number g hs ≡ hs = none_changed h.number g hs (subst (λ (z : Held). Each (λ (y : Held). z.number < y.number) hs) same (all_above x.number x.number last hs (omega arith) r.1)) in
    λ i. sym this i ∷ sym rest i
set_changed g m last (x ∷ hs) (suc at) h r e =
    let other : (x.number == h.number) ≡ false = eqb_below x.number h.number (above_at hs at (all_above x.number x.number last hs (omega arith) r.1) e) in
    λ i. cond (sym other i) (g x) x ∷ set_changed g x.number last hs at h r.1 e i
  where
    above_at : (ys : List Held) (k : ℕ) → Each (λ (y : Held). x.number < y.number) ys → slice_get ys k ≡ Some h → x.number < h.number
    above_at [] k a e = none_some h e
    above_at (y ∷ ys) zero a e = let same : y ≡ h = cc in subst (λ (z : Held). x.number < z.number) same a.0
    above_at (y ∷ ys) (suc k) a e = above_at ys k a.1 e

pub numbers_set : (hs : List Held) (at : ℕ) (h h' : Held) → slice_get hs at ≡ Some h → h'.number ≡ h.number → numbers (set hs at h') ≡ numbers hs
numbers_set [] at h h' e n = refl
numbers_set (x ∷ hs) zero h h' e n = let same : x ≡ h = cc in ap (λ m. m ∷ numbers hs) (n ∙ ap (λ (z : Held). z.number) (sym same))
numbers_set (x ∷ hs) (suc at) h h' e n = ap (λ ms. x.number ∷ ms) (numbers_set hs at h h' e n)

pub prints_set : (hs : List Held) (at : ℕ) (h h' : Held) → slice_get hs at ≡ Some h → print_of h' ≡ print_of h → map print_of (set hs at h') ≡ map print_of hs
prints_set [] at h h' e n = refl
prints_set (x ∷ hs) zero h h' e n = let same : x ≡ h = cc in ap (λ k. k ∷ map print_of hs) (n ∙ ap print_of (sym same))
prints_set (x ∷ hs) (suc at) h h' e n = ap (λ ks. print_of x ∷ ks) (prints_set hs at h h' e n)

-- the call at another place is as it was
pub others_set : (hs : List Held) (at i : ℕ) (h g : Held) → slice_get (set hs at h) i ≡ Some g → (i == at) ≡ false → slice_get hs i ≡ Some g
others_set [] at i h g e ne = e
others_set (x ∷ hs) zero zero h g e ne = contrary (zero == zero) refl ne
others_set (x ∷ hs) zero (suc i) h g e ne = e
others_set (x ∷ hs) (suc at) zero h g e ne = e
others_set (x ∷ hs) (suc at) (suc i) h g e ne = others_set hs at i h g e (down i at ne)
  where
    down : (m n : ℕ) → (suc m == suc n) ≡ false → (m == n) ≡ false
    down m n e = grind (arith, nat_tests)

pub each_at : (P : Held → Type 0) (hs : List Held) (i : ℕ) (h : Held) → Each P hs → slice_get hs i ≡ Some h → P h
each_at P [] i h p e = none_some h e
each_at P (x ∷ hs) zero h p e = let same : x ≡ h = cc in subst P same p.0
each_at P (x ∷ hs) (suc i) h p e = each_at P hs i h p.1 e

pub each_from : (P : Held → Type 0) (hs : List Held) → ((i : ℕ) (h : Held) → slice_get hs i ≡ Some h → P h) → Each P hs
each_from P [] p = tt
each_from P (x ∷ hs) p = (p 0 x refl, each_from P hs (λ i h e. p (suc i) h e))

pub set_there : (hs : List Held) (at : ℕ) (h x : Held) → slice_get hs at ≡ Some x → slice_get (set hs at h) at ≡ Some h
set_there [] at h x e = none_some x e
set_there (y ∷ hs) zero h x e = refl
set_there (y ∷ hs) (suc at) h x e = set_there hs at h x e

-- ---- none ends
abbrev pub Goes : Held → Type 0
Goes h = ended_of h ≡ None

all_go : (hs : List Held) → Each Goes hs → filter (λ h. is_none (ended_of h)) hs ≡ hs
all_go [] g = refl
all_go (h ∷ hs) g = λ i. (ap (λ (o : Option Finished). cond (is_none o) (h ∷ filter (λ h. is_none (ended_of h)) hs) (filter (λ h. is_none (ended_of h)) hs)) g.0 ∙ ap (λ ks. h ∷ ks) (all_go hs g.1)) i

none_end : (hs : List Held) → Each Goes hs → filter_map ended_of hs ≡ []
none_end [] g = refl
none_end (h ∷ hs) g = λ i. (ap (λ o. cons_option o (filter_map ended_of hs)) g.0 ∙ none_end hs g.1) i

append_none : {X : Type 0} (xs : List X) → xs ++ [] ≡ xs
append_none [] = refl
append_none (x ∷ xs) = ap (λ ys. x ∷ ys) (append_none xs)

pub no_ends : (hs : List Held) (es : List Finished) → Each Goes hs → with_ends (record { held = hs; ended = es }) ≡ record { held = hs; ended = es }
no_ends hs es g = λ i. record { held = all_go hs g i; ended = (ap (λ xs. es ++ xs) (none_end hs g) ∙ append_none es) i }

pub still_goes : (h : Held) → is_some (every h.came) ≡ false → Goes h
still_goes h e = go (is_fence h.call) (every h.came) e
  where
    go : (b : Bool) (o : Option (List Ending)) → is_some o ≡ false → cond b None (option_map (ended_with h) o) ≡ None
    go true o e = refl
    go false None e = refl
    go false (Some es) e = absurd cc

pub all_still : (hs : List Held) (at : ℕ) (h : Held) → slice_get hs at ≡ Some h → Goes h → ((i : ℕ) (g : Held) → slice_get hs i ≡ Some g → (i == at) ≡ false → Goes g) → Each Goes hs
all_still hs at h e goes others = each_from Goes hs (λ i g at_i. go i g at_i (i == at) refl)
  where
    go : (i : ℕ) (g : Held) → slice_get hs i ≡ Some g → (b : Bool) → (i == at) ≡ b → Goes g
    go i g at_i true t =
        let same : i ≡ at = grind (arith, nat_tests, t) in
        subst Goes (one g (sym at_i ∙ ap (slice_get hs) same ∙ e)) goes
      where
        one : (g : Held) → ◌≡◌ {A = Option Held} (Some g) (Some h) → h ≡ g
        one g k = cc
    go i g at_i false t = others i g at_i t

-- ---- one ends
pub ends_so : (h : Held) (es : List Ending) → is_fence h.call ≡ false → every h.came ≡ Some es → ended_of h ≡ Some (ended_with h es)
ends_so h es fence e = λ i. cond (fence i) None (option_map (ended_with h) (e i))

pub one_gone : (hs : List Held) (at : ℕ) (h : Held) (x : Finished) → slice_get hs at ≡ Some h → ended_of h ≡ Some x → ((i : ℕ) (g : Held) → slice_get hs i ≡ Some g → (i == at) ≡ false → Goes g) → filter (λ h. is_none (ended_of h)) hs ≡ remove hs at
one_gone [] at h x e ends others = none_some h e
one_gone (y ∷ hs) zero h x e ends others =
    let same : y ≡ h = cc in
    ap (λ (o : Option Finished). cond (is_none o) (y ∷ filter (λ h. is_none (ended_of h)) hs) (filter (λ h. is_none (ended_of h)) hs)) (ap ended_of same ∙ ends)
    ∙ all_go hs (each_from Goes hs (λ i g at_i. others (suc i) g at_i (next i)))
  where
    next : (i : ℕ) → (suc i == zero) ≡ false
    next i = grind (arith, nat_tests)
one_gone (y ∷ hs) (suc at) h x e ends others =
    ap (λ (o : Option Finished). cond (is_none o) (y ∷ filter (λ h. is_none (ended_of h)) hs) (filter (λ h. is_none (ended_of h)) hs)) (others 0 y refl (first at))
    ∙ ap (λ ks. y ∷ ks) (one_gone hs at h x e ends (λ i g at_i ne. others (suc i) g at_i (up i at ne)))
  where
    first : (n : ℕ) → (zero == suc n) ≡ false
    first n = grind (arith, nat_tests)

    up : (m n : ℕ) → (m == n) ≡ false → (suc m == suc n) ≡ false
    up m n e = grind (arith, nat_tests)

pub one_ends : (hs : List Held) (at : ℕ) (h : Held) (x : Finished) → slice_get hs at ≡ Some h → ended_of h ≡ Some x → ((i : ℕ) (g : Held) → slice_get hs i ≡ Some g → (i == at) ≡ false → Goes g) → filter_map ended_of hs ≡ x ∷ []
one_ends [] at h x e ends others = none_some h e
one_ends (y ∷ hs) zero h x e ends others =
    let same : y ≡ h = cc in
    ap (λ o. cons_option o (filter_map ended_of hs)) (ap ended_of same ∙ ends)
    ∙ ap (λ ks. x ∷ ks) (none_end hs (each_from Goes hs (λ i g at_i. others (suc i) g at_i (next i))))
  where
    next : (i : ℕ) → (suc i == zero) ≡ false
    next i = grind (arith, nat_tests)
one_ends (y ∷ hs) (suc at) h x e ends others =
    ap (λ o. cons_option o (filter_map ended_of hs)) (others 0 y refl (first at))
    ∙ one_ends hs at h x e ends (λ i g at_i ne. others (suc i) g at_i (up i at ne))
  where
    first : (n : ℕ) → (zero == suc n) ≡ false
    first n = grind (arith, nat_tests)

    up : (m n : ℕ) → (m == n) ≡ false → (suc m == suc n) ≡ false
    up m n e = grind (arith, nat_tests)

-- the order without the number of a call is that of the other calls
all_others : (n : ℕ) (hs : List Held) → Each (λ (h : Held). n < h.number) hs → filter (λ k. not (k.0 == n)) (map print_of hs) ≡ map print_of hs
all_others n [] above = refl
all_others n (h ∷ hs) above =
    ap (λ b. cond (not b) (print_of h ∷ filter (λ k. not (k.0 == n)) (map print_of hs)) (filter (λ k. not (k.0 == n)) (map print_of hs))) (eqb_above h.number n above.0)
    ∙ ap (λ ks. print_of h ∷ ks) (all_others n hs above.1)

pub order_ends : (m last : ℕ) (hs : List Held) (at : ℕ) (h : Held) → AreRising m last (numbers hs) → slice_get hs at ≡ Some h → filter (λ k. not (k.0 == h.number)) (map print_of hs) ≡ map print_of (remove hs at)
order_ends m last [] at h r e = none_some h e
order_ends m last (x ∷ hs) zero h r e =
    let same : x ≡ h = cc in
    let this : (x.number == h.number) ≡ true = ap (λ (z : Held). x.number == z.number) (sym same) ∙ eqb_same x.number in
    ap (λ b. cond (not b) (print_of x ∷ filter (λ k. not (k.0 == h.number)) (map print_of hs)) (filter (λ k. not (k.0 == h.number)) (map print_of hs))) this
    ∙ all_others h.number hs (subst (λ (z : Held). Each (λ (y : Held). z.number < y.number) hs) same (all_above x.number x.number last hs (omega arith) r.1))
order_ends m last (x ∷ hs) (suc at) h r e =
    let other : (x.number == h.number) ≡ false = eqb_below x.number h.number (each_at (λ (y : Held). x.number < y.number) hs at h (all_above x.number x.number last hs (omega arith) r.1) e) in
    ap (λ b. cond (not b) (print_of x ∷ filter (λ k. not (k.0 == h.number)) (map print_of hs)) (filter (λ k. not (k.0 == h.number)) (map print_of hs))) other
    ∙ ap (λ ks. print_of x ∷ ks) (order_ends x.number last hs at h r.1 e)

-- ---- what is kept
-- where nothing is noted, nothing need be shown
pub not_noted : {A : Type 0} → false ≡ true → A
not_noted h = absurd cc

pub kept_anew : {hs : List Held} {order : List (ℕ × Footprint)} {room_for_ended : ℕ} {quiet : Bool} → AreKept hs order room_for_ended quiet → AreKept hs order room_for_ended false
kept_anew kept = record { ordered = kept.ordered; reserved_for_ended = kept.reserved_for_ended; nothing_to_send = not_noted }

pub kept_quiet : {hs : List Held} {order : List (ℕ × Footprint)} {room_for_ended : ℕ} {quiet : Bool} → AreKept hs order room_for_ended quiet → part_to_send hs ≡ None → AreKept hs order room_for_ended true
kept_quiet kept none = record { ordered = kept.ordered; reserved_for_ended = kept.reserved_for_ended; nothing_to_send = λ noted. none }

pub kept_after : {hs hs' : List Held} {order order' : List (ℕ × Footprint)} {room_for_ended room_for_ended' : ℕ} {quiet : Bool} (at last : ℕ) (h : Held) → AreKept hs order room_for_ended quiet → AreRising 0 last (numbers hs) → slice_get hs at ≡ Some h →
    (n : ℕ) → n ≡ h.number → order' ≡ filter (λ k. not (k.0 == n)) order → hs' ≡ remove hs at → room_for_ended' ≡ room_for_ended → AreKept hs' order' room_for_ended' false
kept_after {hs} at last h kept rising there n n_is order_is hs_is room_for_ended_is = record {
  ordered =
      order_is ∙ (λ i. filter (λ k. not (k.0 == n_is i)) (kept.ordered i))
      ∙ order_ends 0 last hs at h rising there ∙ ap (map print_of) (sym hs_is);
  reserved_for_ended = subst (λ m. 256 ≤ m) (sym room_for_ended_is) kept.reserved_for_ended;
  nothing_to_send = not_noted;
}

pub fence_some : (hs : List Held) → is_some (fence_first_in hs) ≡ true → 0 < length hs
fence_some [] e = absurd cc
fence_some (h ∷ hs) e = omega arith

-- ---- the call that an index finds
pub record IsAt (hs : List Held) (at n : ℕ) (h : Held) : Type 0 where
  pub there : slice_get hs at ≡ Some h
  pub number : h.number ≡ n

pub is_at : (hs : List Held) (at n : ℕ) (h : Held) → slice_get hs at ≡ held_at n hs → held_at n hs ≡ Some h → IsAt hs at n h
is_at hs at n h found e = record {
  there = found ∙ e;
  number = eqb_is h.number n (each_found (λ (x : Held). Unit {0}) (λ (x : Held). x.number == n) hs h (always hs) e).1;
}
  where
    always : (xs : List Held) → Each (λ (x : Held). Unit {0}) xs
    always [] = tt
    always (x ∷ xs) = (tt, always xs)

one_of : (x y : Held) → ◌≡◌ {A = Option Held} (Some x) (Some y) → x ≡ y
one_of x y k = cc

-- what holds of a call holds of what its index has
pub at_only : (P : Held → Type 0) (hs : List Held) (at : ℕ) (h : Held) → slice_get hs at ≡ Some h → P h → (g : Held) → slice_get hs at ≡ Some g → P g
at_only P hs at h there p g here = let same : h ≡ g = one_of h g (sym there ∙ here) in subst P same p

pub kept_sent : {hs hs' : List Held} {order : List (ℕ × Footprint)} {room_for_ended : ℕ} {quiet : Bool} (at : ℕ) (row : Held) → AreKept hs order room_for_ended quiet → slice_get hs at ≡ Some row → hs' ≡ set hs at (with_one_sent row) → AreKept hs' order room_for_ended false
kept_sent {hs} at row kept there is = record {
  ordered = kept.ordered ∙ sym (ap (map print_of) is ∙ prints_set hs at row (with_one_sent row) there refl);
  reserved_for_ended = kept.reserved_for_ended;
  nothing_to_send = not_noted;
}

-- what comes of a part changes nothing of what may be sent
came_may : (ks : List (ℕ × Footprint)) (i : ℕ) (e : Ending) (row : Held) → may_send ks (with_came i e row) ≡ may_send ks row
came_may ks i e row = ap (λ n. nat_lt row.sent n && ready_in ks row.number) (length-set row.came i (Some e))

came_found : (ks : List (ℕ × Footprint)) (hs : List Held) (at i : ℕ) (e : Ending) (row : Held) → slice_get hs at ≡ Some row → option_map next_part (find (may_send ks) (set hs at (with_came i e row))) ≡ option_map next_part (find (may_send ks) hs)
came_found ks [] at i e row there = refl
came_found ks (x ∷ hs) zero i e row there =
    let same : x ≡ row = cc in
    ap (λ b. option_map next_part (cond b (Some (with_came i e row)) (find (may_send ks) hs))) (came_may ks i e row) ∙ go (may_send ks row)
    ∙ ap (λ (z : Held). option_map next_part (cond (may_send ks z) (Some z) (find (may_send ks) hs))) (sym same)
  where
    go : (b : Bool) → option_map next_part (cond b (Some (with_came i e row)) (find (may_send ks) hs)) ≡ option_map next_part (cond b (Some row) (find (may_send ks) hs))
    go true = refl
    go false = refl
came_found ks (x ∷ hs) (suc at) i e row there = go (may_send ks x) (came_found ks hs at i e row there)
  where
    go : (b : Bool) → option_map next_part (find (may_send ks) (set hs at (with_came i e row))) ≡ option_map next_part (find (may_send ks) hs) →
        option_map next_part (cond b (Some x) (find (may_send ks) (set hs at (with_came i e row)))) ≡ option_map next_part (cond b (Some x) (find (may_send ks) hs))
    go true rest = refl
    go false rest = rest

pub kept_came : {hs hs' : List Held} {order : List (ℕ × Footprint)} {room_for_ended : ℕ} {quiet : Bool} (at i : ℕ) (e : Ending) (row : Held) → AreKept hs order room_for_ended quiet → slice_get hs at ≡ Some row → hs' ≡ set hs at (with_came i e row) →
    AreKept hs' order room_for_ended quiet
kept_came {hs} at i e row kept there is = record {
  ordered = kept.ordered ∙ sym (ap (map print_of) is ∙ prints_set hs at row (with_came i e row) there refl);
  reserved_for_ended = kept.reserved_for_ended;
  nothing_to_send = λ noted.
      ap part_to_send is
      ∙ ap (λ ks. option_map next_part (find (may_send ks) (set hs at (with_came i e row)))) (prints_set hs at row (with_came i e row) there refl)
      ∙ came_found (map print_of hs) hs at i e row there ∙ kept.nothing_to_send noted;
}

-- ---- the call may have ended
pub there_within : (hs : List Held) (at : ℕ) → option_map (λ (h : Held). is_fence h.call) (slice_get hs at) ≡ Some false → at < length hs
there_within [] at e = none_some false e
there_within (h ∷ hs) zero e = omega arith
there_within (h ∷ hs) (suc at) e = let less : at < length hs = there_within hs at e in omega arith

no_fence_at : (hs : List Held) (at : ℕ) (row : Held) → option_map (λ (h : Held). is_fence h.call) (slice_get hs at) ≡ Some false → slice_get hs at ≡ Some row → is_fence row.call ≡ false
no_fence_at hs at row e there = is_false (is_fence row.call) (sym (ap (option_map (λ (h : Held). is_fence h.call)) there) ∙ e)
  where
    is_false : (b : Bool) → ◌≡◌ {A = Option Bool} (Some b) (Some false) → b ≡ false
    is_false b k = cc

pub stays_so : (c : Holding) (hs : List Held) (at : ℕ) (row : Held) → hs ≡ c.held → option_map (λ (h : Held). is_fence h.call) (slice_get c.held at) ≡ Some false → slice_get hs at ≡ Some row → is_some (every row.came) ≡ false →
    ((i : ℕ) (g : Held) → slice_get c.held i ≡ Some g → (i == at) ≡ false → Goes g) → c ≡ with_ends c
stays_so c hs at row same there read over others =
    let found : slice_get c.held at ≡ Some row = ap (λ xs. slice_get xs at) (sym same) ∙ read in
    sym (no_ends c.held c.ended (all_still c.held at row found (still_goes row over) others))

pub ends_one : (c : Holding) (hs hs' : List Held) (es es' : List Ended) (e : Ended) (at : ℕ) (first row : Held) → record { held = hs; ended = map finished_of es } ≡ c → option_map (λ (h : Held). is_fence h.call) (slice_get c.held at) ≡ Some false →
    slice_get hs at ≡ Some first → is_some (every first.came) ≡ true → slice_get hs at ≡ Some row → ((i : ℕ) (g : Held) → slice_get c.held i ≡ Some g → (i == at) ≡ false → Goes g) →
    IfSome (every row.came) (λ endings. finished_of e ≡ ended_with row endings) → hs' ≡ remove hs at → es' ≡ es ++ e ∷ [] → record { held = hs'; ended = map finished_of es' } ≡ with_ends c
ends_one c hs hs' es es' e at first row is there read_first over read others ends hs_is es_is =
    subst (λ (z : Holding). record { held = hs'; ended = map finished_of es' } ≡ with_ends z) is (go (every row.came) refl (subst (λ (x : Held). is_some (every x.came) ≡ true) same over) ends)
  where
    there' : option_map (λ (h : Held). is_fence h.call) (slice_get hs at) ≡ Some false
    there' = ap (λ (z : Holding). option_map (λ (h : Held). is_fence h.call) (slice_get z.held at)) is ∙ there

    one : (x y : Held) → ◌≡◌ {A = Option Held} (Some x) (Some y) → x ≡ y
    one x y k = cc

    same : first ≡ row
    same = one first row (sym read_first ∙ read)

    others' : (i : ℕ) (g : Held) → slice_get hs i ≡ Some g → (i == at) ≡ false → Goes g
    others' i g k ne = others i g (ap (λ (z : Holding). slice_get z.held i) (sym is) ∙ k) ne

    go : (o : Option (List Ending)) → every row.came ≡ o → is_some o ≡ true → IfSome o (λ endings. finished_of e ≡ ended_with row endings) →
        record { held = hs'; ended = map finished_of es' } ≡ with_ends (record { held = hs; ended = map finished_of es })
    go None k some f = absurd cc
    go (Some endings) k some f =
        let ended : ended_of row ≡ Some (ended_with row endings) = ends_so row endings (no_fence_at hs at row there' read) k in
        λ i. record {
          held = (hs_is ∙ sym (one_gone hs at row (ended_with row endings) read ended others')) i;
          ended = (ap (map finished_of) es_is ∙ map-append finished_of es (e ∷ []) ∙ ap (λ x. map finished_of es ++ x ∷ []) f ∙ ap (λ xs. map finished_of es ++ xs) (sym (one_ends hs at row (ended_with row endings) read ended others'))) i;
        }

-- ---- something comes of a part
pub came_so : (c c' : Holding) (hs hs' : List Held) (es : List Ended) (at : ℕ) (h : Held) (p : Part) (e : Ending) (last : ℕ) → record { held = hs; ended = map finished_of es } ≡ c → AreRising 0 last (numbers hs) → IsAt hs at p.call.0 h → hs' ≡ set hs at (with_came p.part e h) →
    c' ≡ with_ends (record { held = hs'; ended = map finished_of es }) → c' ≡ after_coming p e c
came_so c c' hs hs' es at h p e last is rising w hs_is c_is =
    c_is ∙ ap with_ends (λ i. record { held = (hs_is ∙ set_changed (with_came p.part e) 0 last hs at h rising w.there ∙ ap (λ n. changed n (with_came p.part e) hs) w.number) i; ended = map finished_of es })
    ∙ ap (after_coming p e) is

pub sent_so : (hs hs' : List Held) (at n : ℕ) (h : Held) (last : ℕ) → AreRising 0 last (numbers hs) → IsAt hs at n h → hs' ≡ set hs at (with_one_sent h) → hs' ≡ changed n with_one_sent hs
sent_so hs hs' at n h last rising w hs_is = hs_is ∙ set_changed with_one_sent 0 last hs at h rising w.there ∙ ap (λ n. changed n with_one_sent hs) w.number

pub some_held : (n : ℕ) (hs : List Held) → option_map has_unsent (held_at n hs) ≡ Some true → (h : Held) × (held_at n hs ≡ Some h)
some_held n hs e = go (held_at n hs) refl e
  where
    go : (o : Option Held) → held_at n hs ≡ o → option_map has_unsent o ≡ Some true → (h : Held) × (held_at n hs ≡ Some h)
    go None k z = none_some true z
    go (Some h) k z = (h, k)

-- ---- requests
pub request_here : (hs : List Held) (at : ℕ) (p : Part) (row : Held) → slice_get hs at ≡ held_at p.call.0 hs → slice_get hs at ≡ Some row → request_at hs p ≡ slice_get (cut row.call) p.part
request_here hs at p row found there = ap (option_and_then (λ (h : Held). slice_get (cut h.call) p.part)) (sym found ∙ there)

pub some_within : {X : Type 0} (xs : List X) (i : ℕ) → is_some (slice_get xs i) ≡ true → i < length xs
some_within [] i e = absurd cc
some_within (x ∷ xs) zero e = omega arith
some_within (x ∷ xs) (suc i) e = let less : i < length xs = some_within xs i e in omega arith
