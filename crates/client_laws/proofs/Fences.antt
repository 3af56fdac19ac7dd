-- In every account a Fence has ended only where all calls before it have.
use Rattle.std.proofs.Common.{◌≡◌, ℕ, zero, suc, ◌+◌, ◌<◌, ◌≤◌, List, [], ◌∷◌, ◌++◌, refl, ap, sym, ◌∙◌, subst, Some, None, Option, Bool, true, false, cond, arith, map, length, ◌⊎◌, inl, inr, ⊎_elim}
use Rattle.std.specs.Prelude.{filter, filter_map, ◌&&◌, ◌||◌, ◌==◌, not, is_some, slice_get, option_map, option_and_then}
use Rattle.std.specs.List.{AllByRecursion as Each, list_any, enumerate_from}
use Rattle.std.proofs.lemmas.List.Elements.{filter_map-append}
use Rattle.std.proofs.lemmas.List.Folds.{list_any-append}
use Rattle.cl_types.specs.declared.numbers.ClientNo.{ClientNo}
use Rattle.cl_types.specs.declared.config.Config.{Config}
use Rattle.cl_types.specs.declared.call.Call.{Call}
use Rattle.cl_types.specs.declared.call.Call.TheVariants as call
use Rattle.cl_types.specs.declared.request.Request.{Request}
use Rattle.cl_types.specs.declared.reply.Part.{Part}
use Rattle.cl_types.specs.declared.schedule.Event.{Event}
use Rattle.cl_types.specs.declared.schedule.Event.TheVariants as event
use Rattle.cl_types.specs.declared.line.Did.{Did}
use Rattle.cl_types.specs.declared.line.Entry.{Entry}
use Rattle.client_model.specs.Cut.{Ending}
use Rattle.client_model.specs.Order.{is_fence}
use Rattle.trace.specs.Account.{Account, Line, Effect, says, extended, memory_at, next_frame_number, nothing_yet}
use Rattle.cl_types.specs.Parts.{same_client}
use Rattle.client_model.specs.Client.{GivesUp, EndsFence, Sends, again, anew, next_id, Standing, ClientPart, ClientCall, emptied, standing_so, call_standing, parts_named, every, ending_of, all_over, finished_with, finished}
use Rattle.trace.specs.Clients.{issued, issued_on, numbered, PartEnd, end_of_part, ending, ending_by, first_sent, moments_sent, standing, standing_at, says_fence_ended, ends_fence, has_ended, client_at}
use Rattle.trace.specs.Events.{on_judged, on_polled, on_flight, on_items, next_account, account_from}
use Rattle.client_laws.specs.ClientLines.{Told, Fresh}
use Rattle.client_laws.specs.Readiness.{FencesLast, runs}
use Rattle.lemmas.proofs.Lists.{slice_get-append, slice_get_within, earlier_there}
use Rattle.client_laws.proofs.Standings.{line_of, over_kept}
use Rattle.lemmas.proofs.SameParts.{contrary, eqb_is, same_clients}
use Rattle.client_laws.proofs.Cases.{Cases, peek_is_quiet, effect_by}
use Rattle.client_laws.proofs.Premises.{Premises, premises_next, premises_nothing, no_fence_ends, quiet_ends_none, items_end_none, sent_ends_none}
use Rattle.client_laws.proofs.CallsOfClient.{every_more, map_map}
use Rattle.std.proofs.lemmas.Bool.{not-false as not_false}

-- ---- what has ended stays so
over_stays : (a : Account) (l : ℕ) (event : Event) (e : Effect) (c : ClientNo) (p : Part) → Told a c → is_some (ending_of (standing_at a c p)) ≡ true → is_some (ending_of (standing_at (extended a l event e) c p)) ≡ true
over_stays a l event e c p told h = go (end_of_part a c p) refl where
  open_is : (o : Option Ending) (s : Option (ℕ × ℕ)) (ms : List ℕ) → o ≡ None → is_some (ending_of (standing o s ms)) ≡ true → ⊥
  open_is (Some x) s ms n k = grind arith
  open_is None None ms n k = grind arith
  open_is None (Some (o, f)) ms n k = grind arith

  go : (o : Option PartEnd) → end_of_part a c p ≡ o → is_some (ending_of (standing_at (extended a l event e) c p)) ≡ true
  go None is = absurd (open_is (ending a c p) (first_sent a c p) (moments_sent a c p) (ap (option_and_then (ending_by a c p)) is) h)
  go (Some x) is =
      let y = over_kept a l event e c p x told is in
      ap (λ z. is_some (ending_of (standing z (first_sent (extended a l event e) c p) (moments_sent (extended a l event e) c p)))) y.2

all_over_stays : (how new : Part → Standing) → ((p : Part) → is_some (ending_of (how p)) ≡ true → is_some (ending_of (new p)) ≡ true) → (n : ℕ) (k : Call)
    → is_some (all_over (call_standing how (n, k))) ≡ true → is_some (all_over (call_standing new (n, k))) ≡ true
all_over_stays how new stays n k h =
    let ps : List (Part × Request) = parts_named n k in
    ap (λ z. is_some (every z)) (map_map (λ (p : ClientPart). ending_of p.standing) (standing_so new) (parts_named n k))
    ∙ every_more (λ (p : Part × Request). ending_of (how p.0)) (λ (p : Part × Request). ending_of (new p.0)) (λ p. stays p.0) (parts_named n k)
    (sym (ap (λ z. is_some (every z)) (map_map (λ (p : ClientPart). ending_of p.standing) (standing_so how) (parts_named n k))) ∙ h)

or_left : (x y : Bool) → x ≡ true → (x || y) ≡ true
or_left true y e = refl
or_left false y e = grind arith

fence_stays : (a : Account) (l : ℕ) (event : Event) (e : Effect) (c : ClientNo) (n : ℕ) → list_any (ends_fence c n) a.lines ≡ true → list_any (ends_fence c n) (extended a l event e).lines ≡ true
fence_stays a l event e c n h = list_any-append (ends_fence c n) a.lines (line_of a l event e ∷ []) ∙ or_left (list_any (ends_fence c n) a.lines) _ h

false_true : false ≡ true → ⊥
false_true h = grind arith

ended_stays : (a : Account) (l : ℕ) (event : Event) (e : Effect) (c : ClientNo) (n : ℕ) (k : Call) → Told a c → has_ended a c (call_standing (standing_at a c) (n, k)) ≡ true
    → has_ended (extended a l event e) c (call_standing (standing_at (extended a l event e) c) (n, k)) ≡ true
ended_stays a l event e c n k told h =
    go (is_fence (emptied k)) (all_over (call_standing (standing_at a c) (n, k))) (all_over (call_standing (standing_at (extended a l event e) c) (n, k)))
    (all_over_stays (standing_at a c) (standing_at (extended a l event e) c) (λ p. over_stays a l event e c p told) n k) h
  where
    go : (b : Bool) (o p : Option (List Ending)) → (is_some o ≡ true → is_some p ≡ true)
        → cond b (list_any (ends_fence c n) a.lines) (is_some (cond b None (option_map (finished_with (call_standing (standing_at a c) (n, k))) o))) ≡ true
        → cond b (list_any (ends_fence c n) (extended a l event e).lines) (is_some (cond b None (option_map (finished_with (call_standing (standing_at (extended a l event e) c) (n, k))) p))) ≡ true
    go true o p stays h = fence_stays a l event e c n h
    go false None p stays h = grind arith
    go false (Some x) None stays h = absurd (false_true (stays refl))
    go false (Some x) (Some y) stays h = refl

-- ---- the places of calls
-- a place whose call has ended
pub runs_not : (a : Account) (c : ClientNo) (m : ℕ) (k : Call) → slice_get (issued a c) m ≡ Some k → runs a c m ≡ false → has_ended a c (call_standing (standing_at a c) (m + 1, k)) ≡ true
runs_not a c m k at_place h =
    not_false (has_ended a c (call_standing (standing_at a c) (m + 1, k)))
    (sym (ap (λ o. elim o as (λ z. Bool) [ None ↦ false | Some j ↦ not (has_ended a c (call_standing (standing_at a c) (m + 1, j))) ]) at_place) ∙ h)

pub runs_is : (a : Account) (c : ClientNo) (m : ℕ) (k : Call) → slice_get (issued a c) m ≡ Some k → runs a c m ≡ not (has_ended a c (call_standing (standing_at a c) (m + 1, k)))
runs_is a c m k at_place = ap (λ o. elim o as (λ z. Bool) [ None ↦ false | Some j ↦ not (has_ended a c (call_standing (standing_at a c) (m + 1, j))) ]) at_place

pub issued_extended : (a : Account) (l : ℕ) (event : Event) (e : Effect) (c : ClientNo) → issued (extended a l event e) c ≡ issued a c ++ filter_map (λ (line : Line). issued_on c line.event line.texts) (line_of a l event e ∷ [])
issued_extended a l event e c = filter_map-append (λ (line : Line). issued_on c line.event line.texts) a.lines (line_of a l event e ∷ [])

-- of a call that was issued before, its end stays
runs_stays : (a : Account) (l : ℕ) (event : Event) (e : Effect) (c : ClientNo) (m : ℕ) (k : Call) → Told a c → slice_get (issued a c) m ≡ Some k → runs a c m ≡ false → runs (extended a l event e) c m ≡ false
runs_stays a l event e c m k told at_place h =
    runs_is (extended a l event e) c m k (ap (λ z. slice_get z m) (issued_extended a l event e c) ∙ slice_get-append (issued a c) _ m k at_place)
    ∙ ap not (ended_stays a l event e c (m + 1) k told (runs_not a c m k at_place h))

-- a place of a list and another is in the first or past it
place_of : {X : Type 0} (xs ys : List X) (i : ℕ) (x : X) → slice_get (xs ++ ys) i ≡ Some x → (slice_get xs i ≡ Some x) ⊎ (length xs ≤ i)
place_of [] ys i x e = inr (omega arith)
place_of (z ∷ xs) ys zero x e = inl e
place_of (z ∷ xs) ys (suc i) x e = ⊎_elim (λ (h : slice_get xs i ≡ Some x). inl h) (λ (h : length xs ≤ i). inr (omega arith)) (place_of xs ys i x e)

-- ---- one line
-- what is asked of it: a Fence that ends on it is of an issued call, and all calls before that one have ended
pub record EndsInOrder (a : Account) (c : ClientNo) (line : Line) : Type 0 where
  pub ends : (f : ℕ) → ends_fence c (f + 1) line ≡ true → (f < length (issued a c)) × ((m : ℕ) → m < f → runs a c m ≡ false)

pub fences_kept : (a : Account) (l : ℕ) (event : Event) (e : Effect) (c : ClientNo) → Told a c → Fresh a c → FencesLast (issued a c) (runs a c) → EndsInOrder a c (line_of a l event e)
    → FencesLast (issued (extended a l event e) c) (runs (extended a l event e) c)
fences_kept a l event e c told fresh last line f x at_place fence over m less =
    ⊎_elim (λ (old : slice_get (issued a c) f ≡ Some x). of_old old)
    (λ (past : length (issued a c) ≤ f). absurd (of_new past))
    (place_of (issued a c) _ f x (sym (ap (λ z. slice_get z f) (issued_extended a l event e c)) ∙ at_place))
  where
    fence_emptied : (k : Call) → is_fence k ≡ true → is_fence (emptied k) ≡ true
    fence_emptied call.Fence h = refl
    fence_emptied (call.Alloc pages perm) h = h
    fence_emptied (call.Free addr pages) h = h
    fence_emptied (call.Read addr buf) h = h
    fence_emptied (call.Write addr bytes) h = h
    fence_emptied (call.Atomic addr op) h = h
    fence_emptied (call.Offload number op bytes buf) h = h

    -- the Fence's line of the end stands
    told_end : list_any (ends_fence c (f + 1)) (extended a l event e).lines ≡ true
    told_end = by (is_fence (emptied x)) (fence_emptied x fence) (runs_not (extended a l event e) c f x at_place over) where
      by : (b : Bool) → b ≡ true → cond b (list_any (ends_fence c (f + 1)) (extended a l event e).lines) (is_some (finished (call_standing (standing_at (extended a l event e) c) (f + 1, x)))) ≡ true
          → list_any (ends_fence c (f + 1)) (extended a l event e).lines ≡ true
      by true t h = h
      by false t h = grind arith

    or_cases : (x y : Bool) → (x || (y || false)) ≡ true → (x ≡ true) ⊎ (y ≡ true)
    or_cases true y h = inl refl
    or_cases false true h = inr refl
    or_cases false false h = grind arith

    cases : (list_any (ends_fence c (f + 1)) a.lines ≡ true) ⊎ (ends_fence c (f + 1) (line_of a l event e) ≡ true)
    cases = or_cases (list_any (ends_fence c (f + 1)) a.lines) (ends_fence c (f + 1) (line_of a l event e)) (sym (list_any-append (ends_fence c (f + 1)) a.lines (line_of a l event e ∷ [])) ∙ told_end)

    earlier_over : slice_get (issued a c) f ≡ Some x → runs a c m ≡ false → runs (extended a l event e) c m ≡ false
    earlier_over old h = let y = earlier_there (issued a c) m f x (omega arith) old in runs_stays a l event e c m y.0 told y.1 h

    of_old : slice_get (issued a c) f ≡ Some x → runs (extended a l event e) c m ≡ false
    of_old old = ⊎_elim
        (λ (before : list_any (ends_fence c (f + 1)) a.lines ≡ true). earlier_over old (last f x old fence (over_before old before) m less))
        (λ (now_ends : ends_fence c (f + 1) (line_of a l event e) ≡ true). earlier_over old ((line.ends f now_ends).1 m less))
        cases
      where
        over_before : slice_get (issued a c) f ≡ Some x → list_any (ends_fence c (f + 1)) a.lines ≡ true → runs a c f ≡ false
        over_before old before = runs_is a c f x old ∙ by (is_fence (emptied x)) (fence_emptied x fence) where
          by : (b : Bool) → b ≡ true → not (cond b (list_any (ends_fence c (f + 1)) a.lines) (is_some (finished (call_standing (standing_at a c) (f + 1, x))))) ≡ false
          by true t = ap not before
          by false t = grind arith

    of_new : length (issued a c) ≤ f → ⊥
    of_new past = ⊎_elim
        (λ (before : list_any (ends_fence c (f + 1)) a.lines ≡ true). contrary (list_any (ends_fence c (f + 1)) a.lines) before (fresh.unended (f + 1) (omega arith)))
        (λ (now_ends : ends_fence c (f + 1) (line_of a l event e) ≡ true). let low : f < length (issued a c) = (line.ends f now_ends).0 in absurd (omega arith))
        cases

-- ---- the cases
-- no Fence ends on the line
none_ends : (a : Account) (l : ℕ) (event : Event) (e : Effect) (c : ClientNo) → Each (λ (d : Did). says_fence_ended d ≡ false) e.texts → EndsInOrder a c (line_of a l event e)
none_ends a l event e c none = record { ends = λ f h. absurd (contrary (ends_fence c (f + 1) (line_of a l event e)) h (no_fence_ends a l event e c (f + 1) none)) }

-- of a list, all that stands before the first that passes fails
abbrev Fails : {X : Type 0} → (X → Bool) → List X → ℕ → Type 0
Fails {X} test xs n = (m : ℕ) (y : X) → m < n → slice_get xs m ≡ Some y → test y ≡ false

first_passes : {X : Type 0} (test : X → Bool) (xs rest : List X) (x : X) → filter test xs ≡ x ∷ rest → (n : ℕ) × (slice_get xs n ≡ Some x) × Fails test xs n
first_passes test [] rest x e = absurd (empty_not x rest e) where
  empty_not : {X : Type 0} (x : X) (rest : List X) → ◌≡◌ {A = List X} [] (x ∷ rest) → ⊥
  empty_not x rest e = grind arith
first_passes {X} test (y ∷ xs) rest x e = go (test y) refl e (first_passes test xs rest x) where
  later : (n : ℕ) → test y ≡ false → Fails test xs n → Fails test (y ∷ xs) (suc n)
  later n is fails zero z less at_place = let same : y ≡ z = cc in subst (λ (w : X). test w ≡ false) same is
  later n is fails (suc m) z less at_place = fails m z (omega arith) at_place

  go : (b : Bool) → test y ≡ b → cond b (y ∷ filter test xs) (filter test xs) ≡ x ∷ rest
      → (filter test xs ≡ x ∷ rest → (n : ℕ) × (slice_get xs n ≡ Some x) × Fails test xs n) → (n : ℕ) × (slice_get (y ∷ xs) n ≡ Some x) × Fails test (y ∷ xs) n
  go true is e rec = let same : y ≡ x = cc in (0, ap Some same, λ m z less. absurd (omega arith))
  go false is e rec = let r = rec e in (suc r.0, r.1, later r.0 is r.2)

-- the calls of the account as they stand, at their places
pub standing_calls : {X Y : Type 0} (f : ℕ × X → Y) (s : ℕ) (xs : List X) (n : ℕ) (x : X) → slice_get xs n ≡ Some x → slice_get (map f (enumerate_from s xs)) n ≡ Some (f (n + s, x))
standing_calls f s [] n x e = grind arith
standing_calls {X} {Y} f s (y ∷ xs) zero x e = let same : y ≡ x = cc in ap (λ (q : ℕ × X). Some (f q)) (λ i. ((let z : s ≡ 0 + s = omega arith in z) i, same i))
standing_calls {X} {Y} f s (y ∷ xs) (suc n) x e = standing_calls f (s + 1) xs n x e ∙ ap (λ (k : ℕ). Some (f (k, x))) (let z : n + (s + 1) ≡ suc n + s = omega arith in z)

pub standing_place : {X Y : Type 0} (f : ℕ × X → Y) (s : ℕ) (xs : List X) (n : ℕ) (y : Y) → slice_get (map f (enumerate_from s xs)) n ≡ Some y → (x : X) × (slice_get xs n ≡ Some x) × (y ≡ f (n + s, x))
standing_place f s [] n y e = grind arith
standing_place {X} {Y} f s (x ∷ xs) zero y e = let same : f (s, x) ≡ y = cc in (x, refl, sym same ∙ ap (λ (k : ℕ). f (k, x)) (let z : s ≡ 0 + s = omega arith in z))
standing_place {X} {Y} f s (x ∷ xs) (suc n) y e =
    let r = standing_place f (s + 1) xs n y e in
    (r.0, r.1, r.2 ∙ ap (λ (k : ℕ). f (k, r.0)) (let z : n + (s + 1) ≡ suc n + s = omega arith in z))

-- where a call is the first that has not ended, all calls before it have
before_first : (config : Config) (a : Account) (c : ClientNo) (k : ClientCall) (rest : List ClientCall) → (client_at config a c).calls ≡ k ∷ rest
    → (f : ℕ) → k.number ≡ f + 1 → (f < length (issued a c)) × ((m : ℕ) → m < f → runs a c m ≡ false)
before_first config a c k rest is f number =
    let r = first_passes (λ (k : ClientCall). not (has_ended a c k)) (map (call_standing (standing_at a c)) (numbered a c)) rest k is in
    let p = standing_place (call_standing (standing_at a c)) 1 (issued a c) r.0 k r.1 in
    let its : k.number ≡ r.0 + 1 = ap (λ (j : ClientCall). j.number) p.2 in
    let same : r.0 ≡ f = omega arith in
    let within : r.0 < length (issued a c) = slice_get_within (issued a c) r.0 p.0 p.1 in
    (omega arith, λ m less. all_before r.0 r.2 p.0 p.1 m (omega arith))
  where
    all_before : (n : ℕ) → Fails (λ (k : ClientCall). not (has_ended a c k)) (map (call_standing (standing_at a c)) (numbered a c)) n → (x : Call) → slice_get (issued a c) n ≡ Some x
        → (m : ℕ) → m < n → runs a c m ≡ false
    all_before n fails x at_place m less =
        let y = earlier_there (issued a c) m n x (omega arith) at_place in
        runs_is a c m y.0 y.1
        ∙ fails m (call_standing (standing_at a c) (m + 1, y.0)) less (standing_calls (call_standing (standing_at a c)) 1 (issued a c) m y.0 y.1)

fence_ends : (config : Config) (a : Account) (l : ℕ) (event : Event) (c d : ClientNo) (k : ClientCall) (rest : List ClientCall) → (client_at config a d).calls ≡ k ∷ rest
    → EndsInOrder a c (line_of a l event (on_polled a l (client_at config a d) (EndsFence k.number)))
fence_ends config a l event c d k rest is = record { ends = λ f h. go f (same_client c d) refl (k.number == f + 1) refl h } where
  go : (f : ℕ) (x : Bool) → same_client c d ≡ x → (y : Bool) → (k.number == f + 1) ≡ y → (x && y) ≡ true → (f < length (issued a c)) × ((m : ℕ) → m < f → runs a c m ≡ false)
  go f true same true number h =
      subst (λ z. (f < length (issued a z)) × ((m : ℕ) → m < f → runs a z m ≡ false)) (sym (same_clients c d same)) (before_first config a d k rest is f (eqb_is k.number (f + 1) number))
  go f true same false number h = grind arith
  go f false same y number h = grind arith

-- ---- the induction
pub record Followed (a : Account) (c : ClientNo) : Type 0 where
  pub premises : Premises a c
  pub fences : FencesLast (issued a c) (runs a c)

abbrev FencesKept : ClientNo → Account → ℕ → Event → Effect → Type 0
FencesKept c a l event e = FencesLast (issued (extended a l event e) c) (runs (extended a l event e) c)

fences_cases : (keep : List Entry → List Entry) (config : Config) (a : Account) (l : ℕ) (c : ClientNo) → Followed a c → Cases keep config a l (FencesKept c a l)
fences_cases keep config a l c h = record {
  quiet = λ event d no_peek quiet. calm event (says d) (quiet_ends_none d quiet, tt);
  peeks = λ pid addr n. peek_is_quiet (FencesKept c a l (event.Peek pid addr n)) (λ d quiet. calm (event.Peek pid addr n) (says d) (quiet_ends_none d quiet, tt)) (memory_at config a.history l 0) pid addr n;
  issues = λ d text none. calm (event.Call d text) (on_judged (client_at config a d) None) (refl, tt);
  gives_up = λ d f of old. calm (event.Poll d) (on_polled a l (client_at config a d) (GivesUp f)) (refl, tt);
  ends_fence = λ d k rest is fence. fences_kept a l (event.Poll d) (on_polled a l (client_at config a d) (EndsFence k.number)) c h.premises.told h.premises.fresh h.fences (fence_ends config a l (event.Poll d) c d k rest is);
  sends_again = λ d f of due. calm (event.Poll d) (on_polled a l (client_at config a d) (Sends (again (next_id (client_at config a d)) f ∷ []))) (sent_ends_none d (next_frame_number a) (again (next_id (client_at config a d)) f), tt);
  sends = λ d p of. calm (event.Poll d) (on_polled a l (client_at config a d) (Sends (anew (next_id (client_at config a d)) p ∷ []))) (sent_ends_none d (next_frame_number a) (anew (next_id (client_at config a d)) p), tt);
  items = λ event k frame items delivers given. calm event (on_items keep config a l k 0 items) (items_end_none keep config a l k items);
  takes = λ event k frame head reply if_taken f delivers given of orig. calm event (on_flight (client_at config a head.client) k head reply if_taken (Some f)) (refl, tt);
}
  where
    calm : (event : Event) (e : Effect) → Each (λ (d : Did). says_fence_ended d ≡ false) e.texts → FencesKept c a l event e
    calm event e none = fences_kept a l event e c h.premises.told h.premises.fresh h.fences (none_ends a l event e c none)

pub followed_next : (keep : List Entry → List Entry) (config : Config) (a : Account) (e : ℕ × Event) (c : ClientNo) → Followed a c → Followed (next_account keep config a e) c
followed_next keep config a e c h = record {
  premises = premises_next keep config a e c h.premises;
  fences = effect_by keep config a e.0 (FencesKept c a e.0) (fences_cases keep config a e.0 c h) e.1;
}

followed_from : (keep : List Entry → List Entry) (config : Config) (events : List (ℕ × Event)) (a : Account) (c : ClientNo) → Followed a c → Followed (account_from keep config a events) c
followed_from keep config [] a c h = h
followed_from keep config (e ∷ es) a c h = followed_from keep config es (next_account keep config a e) c (followed_next keep config a e c h)

pub followed_nothing : (c : ClientNo) → Followed nothing_yet c
followed_nothing c = record { premises = premises_nothing c; fences = λ f x at_place fence over m less. absurd (nowhere f x at_place) } where
  nowhere : (f : ℕ) (x : Call) → slice_get [] f ≡ Some x → ⊥
  nowhere f x e = grind arith

pub followed : (keep : List Entry → List Entry) (config : Config) (events : List (ℕ × Event)) (c : ClientNo) → Followed (account_from keep config nothing_yet events) c
followed keep config events c = followed_from keep config events nothing_yet c (followed_nothing c)
