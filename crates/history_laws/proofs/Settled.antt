-- A part is sent only when every part of the calls on which its call depends is over.
use Rattle.std.proofs.Common.{◌≡◌, ℕ, zero, suc, ◌+◌, ◌-◌, ◌<◌, ◌≤◌, List, [], ◌∷◌, ◌++◌, refl, sym, ap, ◌∙◌, subst, Bool, true, false, cond, arith, Some, None, Option, length, map, take, drop, ◌⊎◌, inl, inr, ⊎_elim}
use Rattle.std.specs.Prelude.{filter_map, is_some, slice_get, option_map, option_and_then, ◌||◌}
use Rattle.std.specs.List.{AllByRecursion as Each, list_any, slice_range}
use Rattle.std.proofs.lemmas.List.{take-append-le, drop-append-le, length-drop}
use Rattle.cl_types.specs.declared.config.Config.{Config}
use Rattle.cl_types.specs.declared.numbers.ClientNo.{ClientNo}
use Rattle.cl_types.specs.declared.call.Call.{Call}
use Rattle.cl_types.specs.declared.call.Call.TheVariants as call
use Rattle.cl_types.specs.declared.request.Request.{Request}
use Rattle.cl_types.specs.declared.reply.Part.{Part}
use Rattle.cl_types.specs.declared.line.Did.TheVariants as did
use Rattle.cl_types.specs.declared.schedule.Event.{Event}
use Rattle.client_model.specs.Cut.{Ending, cut}
use Rattle.client_model.specs.Order.{depends, both_conflict, is_fence, footprint, may_go}
use Rattle.trace.specs.Account.{Account, Line, Effect, extended, now}
use Rattle.client_model.specs.Client.{ClientPart, prints, emptied, named, parts_named, call_standing, every, all_over, finished_with}
use Rattle.trace.specs.Clients.{issued, issued_on, call_at, part_request, request_of_part, first_sent, first_sending, first_of, end_of_part, ending, ending_by, standing_at, ends_fence, has_ended, sendings, client_at}
use Rattle.trace.specs.Properties.{DependsOn}
use Rattle.client_laws.specs.Readiness.{runs, DependsOnNone}
use Rattle.lemmas.proofs.Lists.{slice_get-append, and_then_some, option_map_some, none_some, slice_get_there}
use Rattle.lemmas.proofs.SameParts.{contrary}
use Rattle.client_laws.proofs.Standings.{line_of}
use Rattle.client_laws.proofs.StateRead.{SendableOf}
use Rattle.client_laws.proofs.Premises.{call_at_within}
use Rattle.client_laws.proofs.Fences.{Followed, issued_extended, runs_not, standing_calls}
use Rattle.client_laws.proofs.ReadyCalls.{goes_waits}
use Rattle.client_laws.proofs.Readiness.{ready_means}
use Rattle.trace_laws.proofs.PartsOnce.{is_over}
use Rattle.trace_laws.proofs.Parts.{request_kept, is_over_kept, sent_cases, NotSent, none_sent, sent_of}
use Rattle.history_laws.proofs.AnswersKept.{all_over_is}
use Rattle.client_model.proofs.Buffers.{print_emptied}

-- ---- more calls
slice_get-more : {X : Type 0} (xs ys : List X) (i : ℕ) → i < length xs → slice_get (xs ++ ys) i ≡ slice_get xs i
slice_get-more xs ys i h = let x = slice_get_there xs i h in slice_get-append xs ys i x.0 x.1 ∙ sym x.1

range-more : {X : Type 0} (xs ys : List X) (i j : ℕ) → i ≤ j → j < length xs → slice_range (xs ++ ys) i (j + 1) ≡ slice_range xs i (j + 1)
range-more xs ys i j h k =
    ap (take (j + 1 - i)) (drop-append-le i xs ys (omega arith)) ∙ take-append-le (j + 1 - i) (drop i xs) ys (rw length-drop (omega arith))

-- dependence between calls stays as more are issued
depends-more : (xs ys : List Call) (i j : ℕ) → i ≤ j → j < length xs → depends (xs ++ ys) i j ≡ depends xs i j
depends-more xs ys i j h k =
    let a : slice_get (xs ++ ys) i ≡ slice_get xs i = slice_get-more xs ys i (omega arith) in
    let b : slice_get (xs ++ ys) j ≡ slice_get xs j = slice_get-more xs ys j k in
    λ t. both_conflict (a t) (b t) || list_any is_fence (range-more xs ys i j h k t)

call_back : (xs ys : List Call) (n : ℕ) → n ≤ length xs → call_at (xs ++ ys) n ≡ call_at xs n
call_back xs ys zero h = refl
call_back xs ys (suc n) h = slice_get-more xs ys n (omega arith)

-- ---- a call that has ended
-- each of a list that is there altogether is there
every_at : {X Y : Type 0} (f : X → Option Y) (xs : List X) (ys : List Y) → every (map f xs) ≡ Some ys → (i : ℕ) (x : X) → slice_get xs i ≡ Some x → (y : Y) × (f x ≡ Some y)
every_at f [] ys h i x e = absurd (none_some x e)
every_at {X} {Y} f (z ∷ xs) ys h i x e = go (f z) refl h (λ zs k j e. every_at f xs zs k j x e) where
  first : (i : ℕ) → slice_get (z ∷ xs) i ≡ Some x → (y : Y) → f z ≡ Some y → ((j : ℕ) → slice_get xs j ≡ Some x → (y : Y) × (f x ≡ Some y)) → (y : Y) × (f x ≡ Some y)
  first zero e y is rest = let same : z ≡ x = cc in (y, subst (λ (w : X). f w ≡ Some y) same is)
  first (suc j) e y is rest = rest j e

  go : (o : Option Y) → f z ≡ o → every (o ∷ map f xs) ≡ Some ys → ((zs : List Y) → every (map f xs) ≡ Some zs → (j : ℕ) → slice_get xs j ≡ Some x → (y : Y) × (f x ≡ Some y)) → (y : Y) × (f x ≡ Some y)
  go None is h rest = absurd (none_some ys h)
  go (Some y) is h rest = let o = option_map_some (λ (zs : List Y). y ∷ zs) (every (map f xs)) ys h in first i e y is (rest o.0 o.1)

has_ending : (a : Account) (c : ClientNo) (p : Part) (y : Ending) → ending a c p ≡ Some y → is_over a c p ≡ true
has_ending a c p y h = let x = and_then_some (ending_by a c p) (end_of_part a c p) y h in ap is_some x.1

some_of : {X : Type 0} (o : Option X) → is_some o ≡ true → (x : X) × (o ≡ Some x)
some_of None h = grind arith
some_of (Some x) h = (x, refl)

-- each part of a call that has ended is over
over_where_ended : (a : Account) (c : ClientNo) (m : ℕ) (k : Call) (p : Part) (r : Request) → p.call.0 ≡ m + 1 → part_request p k ≡ Some r → has_ended a c (call_standing (standing_at a c) (m + 1, k)) ≡ true → is_over a c p ≡ true
over_where_ended a c m k p r number request ended = go (is_fence (emptied k)) refl ended
  where
    no_part : (k : Call) → is_fence (emptied k) ≡ true → part_request p k ≡ Some r → ⊥
    no_part (call.Alloc pages perm) f e = grind arith
    no_part (call.Free addr pages) f e = grind arith
    no_part (call.Read addr buf) f e = grind arith
    no_part (call.Write addr bytes) f e = grind arith
    no_part (call.Atomic addr op) f e = grind arith
    no_part (call.Offload number op bytes buf) f e = grind arith
    no_part call.Fence f e = grind arith

    mapped : {X Y : Type 0} (f : X → Y) (o : Option X) → is_some (option_map f o) ≡ true → is_some o ≡ true
    mapped f None h = h
    mapped f (Some x) h = refl

    part_is : record { call = record { 0 = m + 1 }; part = p.part + 0 } ≡ p
    part_is = let x : p.call.0 ≡ m + 1 = number in let y : p.part + 0 ≡ p.part = omega arith in λ i. record { call = record { 0 = sym x i }; part = y i }

    go : (b : Bool) → is_fence (emptied k) ≡ b → cond b (list_any (ends_fence c (m + 1)) a.lines) (is_some (cond b None (option_map (finished_with (call_standing (standing_at a c) (m + 1, k))) (all_over (call_standing (standing_at a c) (m + 1, k)))))) ≡ true → is_over a c p ≡ true
    go true f h = absurd (no_part k f request)
    go false f h =
        let o = some_of (all_over (call_standing (standing_at a c) (m + 1, k))) (mapped (finished_with (call_standing (standing_at a c) (m + 1, k))) (all_over (call_standing (standing_at a c) (m + 1, k))) h) in
        let y = every_at (λ (q : Part × Request). ending a c q.0) (parts_named (m + 1) k) o.0 (sym (all_over_is a c (m + 1) k) ∙ o.1) p.part (named (m + 1) (p.part + 0, r)) (standing_calls (named (m + 1)) 0 (cut k) p.part r request) in
        has_ending a c p y.0 (subst (λ (q : Part). ending a c q ≡ Some y.0) part_is y.1)

-- where a part is sendable, each part of a call on which its call depends is over
ready_tells : (config : Config) (a : Account) (c : ClientNo) (p : Part) (r : Request) (q : ClientPart) → Followed a c → SendableOf config a c q → DependsOn a c p q.part → request_of_part a c p ≡ Some r → is_over a c p ≡ true
ready_tells config a c p r q followed of dep own = by_number of.call.number refl where
  k : (k : Call) × (call_at (issued a c) p.call.0 ≡ Some k) × (part_request p k ≡ Some r)
  k = and_then_some (part_request p) (call_at (issued a c) p.call.0) r own

  -- the place of the part's call
  at_place : (n : ℕ) → p.call.0 ≡ n → call_at (issued a c) n ≡ Some k.0 → (m : ℕ) × (p.call.0 ≡ m + 1) × (slice_get (issued a c) m ≡ Some k.0)
  at_place zero is e = absurd (none_some k.0 e)
  at_place (suc m) is e = (m, omega arith, e)

  not_false : (b : Bool) → (b ≡ true → ⊥) → b ≡ false
  not_false true h = absurd (h refl)
  not_false false h = refl

  by_number : (n : ℕ) → of.call.number ≡ n → is_over a c p ≡ true
  by_number zero is = absurd (none_some of.of.call (subst (λ z. call_at (issued a c) z ≡ Some of.of.call) is of.of.is_call))
  by_number (suc n) is =
      let m = at_place p.call.0 refl k.1 in
      let there : slice_get (issued a c) n ≡ Some of.of.call = subst (λ z. call_at (issued a c) z ≡ Some of.of.call) is of.of.is_call in
      let print : footprint of.of.call ≡ footprint of.call.call = sym (print_emptied of.of.call) ∙ sym (ap (λ j. footprint j.call) of.of.stands) in
      let none : DependsOnNone (issued a c) (runs a c) n =
      ready_means (issued a c) (runs a c) n of.of.call there followed.fences
      (goes_waits config a c n (footprint of.call.call) of.of.call print (subst (λ z. may_go (prints (client_at config a c).calls) (z, footprint of.call.call) ≡ true) (let z : of.call.number ≡ n + 1 = omega arith in z) of.goes)) in
      let number : q.part.call.0 ≡ suc n = of.number ∙ is in
      let earlier : p.call.0 < q.part.call.0 = dep.earlier in
      let place : p.call.0 ≡ m.0 + 1 = m.1 in
      let low : p.call.0 - 1 ≡ m.0 = omega arith in
      let high : q.part.call.0 - 1 ≡ n = omega arith in
      let depends_so : depends (issued a c) m.0 n ≡ true = (λ i. depends (issued a c) (sym low i) (sym high i)) ∙ dep.depend in
      let over : runs a c m.0 ≡ false = not_false (runs a c m.0) (λ still. contrary (depends (issued a c) m.0 n) depends_so (none m.0 (omega arith) still)) in
      over_where_ended a c m.0 k.0 p r m.1 k.2 (runs_not a c m.0 k.0 m.2 over)

-- ---- what is sent is settled
pub record Settled (a : Account) : Type 0 where
  pub issued_part : (c : ClientNo) (q : Part) (s : ℕ × ℕ) → first_sent a c q ≡ Some s → (r : Request) × (request_of_part a c q ≡ Some r)
  pub over : (c : ClientNo) (p q : Part) (r : Request) (s : ℕ × ℕ) → DependsOn a c p q → request_of_part a c p ≡ Some r → first_sent a c q ≡ Some s → is_over a c p ≡ true

abbrev new_calls : Account → ℕ → Event → Effect → ClientNo → List Call
new_calls a l event e c = filter_map (λ (line : Line). issued_on c line.event line.texts) (line_of a l event e ∷ [])

-- the call of an issued part lies within the calls so far
part_within : (a : Account) (c : ClientNo) (q : Part) (r : Request) → request_of_part a c q ≡ Some r → q.call.0 ≤ length (issued a c)
part_within a c q r h = let k = and_then_some (part_request q) (call_at (issued a c) q.call.0) r h in call_at_within (issued a c) q.call.0 k.0 k.1

-- what depends on a part of the calls so far did so before
pub depends_before : (a : Account) (l : ℕ) (event : Event) (e : Effect) (c : ClientNo) (p q : Part) (r : Request) → request_of_part a c q ≡ Some r → DependsOn (extended a l event e) c p q → DependsOn a c p q
depends_before a l event e c p q r own d =
    let high : q.call.0 ≤ length (issued a c) = part_within a c q r own in
    let earlier : p.call.0 < q.call.0 = d.earlier in
    let same : depends (issued (extended a l event e) c) (p.call.0 - 1) (q.call.0 - 1) ≡ depends (issued a c) (p.call.0 - 1) (q.call.0 - 1) =
    ap (λ z. depends z (p.call.0 - 1) (q.call.0 - 1)) (issued_extended a l event e c) ∙ depends-more (issued a c) (new_calls a l event e c) (p.call.0 - 1) (q.call.0 - 1) (omega arith) (omega arith) in
    record { earlier = d.earlier; depend = sym same ∙ d.depend }

request_before : (a : Account) (l : ℕ) (event : Event) (e : Effect) (c : ClientNo) (p : Part) (r : Request) → p.call.0 ≤ length (issued a c) → request_of_part (extended a l event e) c p ≡ Some r → request_of_part a c p ≡ Some r
request_before a l event e c p r w h =
    sym (ap (λ z. option_and_then (part_request p) (call_at z p.call.0)) (issued_extended a l event e c) ∙ ap (option_and_then (part_request p)) (call_back (issued a c) (new_calls a l event e c) p.call.0 w)) ∙ h

-- an old sending stays settled
old_over : (a : Account) (l : ℕ) (event : Event) (e : Effect) → Settled a → (c : ClientNo) (p q : Part) (r : Request) (s : ℕ × ℕ) →
    DependsOn (extended a l event e) c p q → request_of_part (extended a l event e) c p ≡ Some r → first_sent a c q ≡ Some s → is_over (extended a l event e) c p ≡ true
old_over a l event e t c p q r s d own sent =
    let k = t.issued_part c q s sent in
    let high : q.call.0 ≤ length (issued a c) = part_within a c q k.0 k.1 in
    let earlier : p.call.0 < q.call.0 = d.earlier in
    is_over_kept a l event e c p (t.over c p q r s (depends_before a l event e c p q k.0 k.1 d) (request_before a l event e c p r (omega arith) own) sent)

pub settled_quiet : (a : Account) (l : ℕ) (event : Event) (e : Effect) → Settled a → Each NotSent e.texts → Settled (extended a l event e)
settled_quiet a l event e t n = record {
  issued_part = λ c q s h. let k = t.issued_part c q s (old c q s h) in (k.0, request_kept a l event e c q k.0 k.1);
  over = λ c p q r s d own h. old_over a l event e t c p q r s d own (old c q s h);
}
  where
    old : (c : ClientNo) (p : Part) (s : ℕ × ℕ) → first_sent (extended a l event e) c p ≡ Some s → first_sent a c p ≡ Some s
    old c p s h = ⊎_elim (λ (x : first_sent a c p ≡ Some s). x) (λ (x : (first_sent a c p ≡ None) × (first_of (filter_map (first_sending c p (now a l)) e.texts) ≡ Some s)).
        absurd (none_some s (sym (ap first_of (none_sent c p (now a l) e.texts n)) ∙ x.1))) (sent_cases a l event e c p s h)

-- a part of a ready call is sent first
pub settled_sent : (config : Config) (a : Account) (l : ℕ) (event : Event) (e : Effect) (k : ℕ) (c' : ClientNo) (p' : ClientPart) → Followed a c' → Settled a → e.texts ≡ did.Sent k c' p'.part (sendings a c' + 1) ∷ [] →
    SendableOf config a c' p' → Settled (extended a l event e)
settled_sent config a l event e k c' p' followed t tx of = record {
  issued_part = λ c q s h. ⊎_elim
      (λ (x : first_sent a c q ≡ Some s). let k = t.issued_part c q s x in (k.0, request_kept a l event e c q k.0 k.1))
      (λ (x : (c ≡ c') × (q ≡ p'.part)). (p'.request, request_kept a l event e c q p'.request (subst (λ z. request_of_part a z q ≡ Some p'.request) (sym x.0) (subst (λ z. request_of_part a c' z ≡ Some p'.request) (sym x.1) of.request))))
      (cases c q s h);
  over = λ c p q r s d own h. ⊎_elim
      (λ (x : first_sent a c q ≡ Some s). old_over a l event e t c p q r s d own x)
      (λ (x : (c ≡ c') × (q ≡ p'.part)). new c p q r x.0 x.1 d own)
      (cases c q s h);
}
  where
    cases : (c : ClientNo) (q : Part) (s : ℕ × ℕ) → first_sent (extended a l event e) c q ≡ Some s → (first_sent a c q ≡ Some s) ⊎ ((c ≡ c') × (q ≡ p'.part))
    cases c q s h = ⊎_elim (λ (x : first_sent a c q ≡ Some s). inl x)
        (λ (x : (first_sent a c q ≡ None) × (first_of (filter_map (first_sending c q (now a l)) e.texts) ≡ Some s)).
        let y = sent_of c c' q p'.part k (sendings a c' + 1) (now a l) s.0 s.1 (subst (λ z. first_of (filter_map (first_sending c q (now a l)) z) ≡ Some s) tx x.1) in inr (y.0, y.1))
        (sent_cases a l event e c q s h)

    mine : (p : Part) (r : Request) → DependsOn a c' p p'.part → request_of_part a c' p ≡ Some r → is_over a c' p ≡ true
    mine p r d own = ready_tells config a c' p r p' followed of d own

    new : (c : ClientNo) (p q : Part) (r : Request) → c ≡ c' → q ≡ p'.part → DependsOn (extended a l event e) c p q → request_of_part (extended a l event e) c p ≡ Some r → is_over (extended a l event e) c p ≡ true
    new c p q r cs qs d own =
        let own_q : request_of_part a c q ≡ Some p'.request = subst (λ z. request_of_part a z q ≡ Some p'.request) (sym cs) (subst (λ z. request_of_part a c' z ≡ Some p'.request) (sym qs) of.request) in
        let high : q.call.0 ≤ length (issued a c) = part_within a c q p'.request own_q in
        let earlier : p.call.0 < q.call.0 = d.earlier in
        let before : DependsOn a c p q = depends_before a l event e c p q p'.request own_q d in
        let over : is_over a c p ≡ true = subst (λ z. is_over a z p ≡ true) (sym cs)
        (mine p r (subst (λ z. DependsOn a z p p'.part) cs (subst (λ z. DependsOn a c p z) qs before)) (subst (λ z. request_of_part a z p ≡ Some r) cs (request_before a l event e c p r (omega arith) own))) in
        is_over_kept a l event e c p over
