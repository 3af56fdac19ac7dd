-- A call that is issued, and a Fence that ends.
use Rattle.std.proofs.Common.{◌≡◌, ℕ, zero, suc, ◌+◌, ◌-◌, ◌*◌, ◌<◌, ◌≤◌, List, [], ◌∷◌, ◌++◌, refl, ap, sym, ◌∙◌, subst, Some, None, Option, Bool, true, false, cond, arith, map, length, get_or, length-append, append_assoc, drop, replicate}
use Rattle.std.specs.Prelude.{◌==◌, ◌&&◌, leb, nat_lt, not, filter, filter_map, find, flat_map, is_none, option_map, sum_by}
use Rattle.std.specs.List.{AllByRecursion as Each, enumerate_from}
use Rattle.std.proofs.lemmas.Bool.Decides.{nat_tests}
use Rattle.std.proofs.lemmas.List.{append-nil, length-map, length-replicate, map-append}
use Rattle.std.proofs.lemmas.List.Elements.{filter_map-append}
use Rattle.std.proofs.lemmas.List.FromFn.{length-enumerate_from}
use Rattle.std.proofs.lemmas.List.Sums.{sum_by-append, sum_by-cons}
use Rattle.std.proofs.lemmas.Grind.{flat_map-append}
use Rattle.cl_types.specs.declared.numbers.ClientNo.{ClientNo}
use Rattle.cl_types.specs.declared.numbers.CallNo.{CallNo}
use Rattle.cl_types.specs.declared.call.Call.{Call}
use Rattle.cl_types.specs.declared.call.Call.TheVariants as call
use Rattle.cl_types.specs.declared.frame.IssueFault.{IssueFault}
use Rattle.cl_types.specs.declared.request.Request.{Request}
use Rattle.cl_types.specs.declared.reply.Part.{Part}
use Rattle.cl_types.specs.declared.limits.TheConstants.{CALL_BYTES}
use Rattle.client_model.specs.Cut.{Ending, combine, cut, pieces}
use Rattle.frame_model.specs.Faults.{first_fault}
use Rattle.client_model.specs.Issue.{call_faults, issue_fault}
use Rattle.client_model.specs.Order.{is_fence}
use Rattle.cl_types.specs.Parts.{same_part}
use Rattle.client_model.specs.Client.{ClientCall, ClientPart, ClientState, EndsFence, Finished, Standing, Unsent, after_issue, after_polled, call_standing, emptied, ending_of, every, finished, finished_with, flight, held, is_fence_of, named, parts_named, parts_of, standing_so}
use Rattle.client_retry.specs.declared.flown.Flown.{Flown}
use Rattle.client_retry.specs.Flights.{Flights}
use Rattle.call_cut.proofs.PieceLemmas.{few_pieces, pieces_next}
use Rattle.client_core.specs.Answers.{issue_state}
use Rattle.client_model.specs.Apart.{AreApart}
use Rattle.client_core.specs.declared.ids.TheConstants.{LAST_FIRST_ID}
use Rattle.client_core.specs.Valid.{AreRising, IsHeld, IsValid, name_of}
use Rattle.client_core.specs.Held.{Held, Holding, fence_first_in, new_held}
use Rattle.client_core.specs.Fields.{call_in, flown_among, flown_of, standing_by, standing_in, state_of, IsFit, IsSound}
use Rattle.client_core.proofs.Basics.{emptied_twice, eqb_below, faults_emptied, fence_emptied, fence_parts, none_some}
use Rattle.client_core.proofs.Ending.{flying}
use Rattle.client_core.proofs.Naming.{all_above, numbers, parts_from}
use Rattle.client_core.proofs.Laws.{IsId, ids, left, origs_are, rising_end, rising_lower}
use Rattle.client_core.proofs.Sounds.{Step, numbers_in, rising}
use Rattle.client_model.proofs.Buffers.{cut_emptied}
use Rattle.lemmas.proofs.Lists.{each_append}
use Rattle.lemmas.proofs.SameParts.{eqb_same}
use Rattle.std.proofs.lemmas.Bool.{ltb-false as not_more}

-- ---- a good call
no_fault : (b : Bool) (x : IssueFault) (rest : Option IssueFault) → cond b (Some x) rest ≡ None → (b ≡ false) × (rest ≡ None)
no_fault true x rest h = none_some x (sym h)
no_fault false x rest h = (refl, h)

some_bytes : (n : ℕ) → (n == 0) ≡ false → 0 < n
some_bytes n h = grind (arith, nat_tests)

pub record GoodParts (k : Call) : Type 0 where
  pub some : is_fence k ≡ false → 1 ≤ length (cut k)
  pub few : length (cut k) ≤ 65

of_pieces : (at n : ℕ) (k : Call) → length (cut k) ≡ length (pieces at n) → (n == 0) ≡ false → nat_lt CALL_BYTES n ≡ false → GoodParts k
of_pieces at n k e some most =
    let next : length (pieces at n) ≡ suc _ = ap (length {A = ℕ × ℕ}) (pieces_next at n (some_bytes n some)) in
    let few : length (pieces at n) ≤ 65 = few_pieces at n (not_more CALL_BYTES n most) in
    record { some = λ f. omega (arith, e, next); few = omega (arith, e, few) }

pub good_parts : (k : Call) → first_fault (call_faults k) ≡ None → GoodParts k
good_parts (call.Alloc pages perm) h = record { some = λ f. omega arith; few = omega arith }
good_parts (call.Free addr pages) h = record { some = λ f. omega arith; few = omega arith }
good_parts (call.Read addr buf) h =
    let first = no_fault (length buf == 0) _ _ h in
    let second = no_fault (nat_lt CALL_BYTES (length buf)) _ _ first.1 in
    of_pieces addr.0 (length buf) (call.Read addr buf) (length-map (pieces addr.0 (length buf)) _) first.0 second.0
good_parts (call.Write addr bytes) h =
    let first = no_fault (length bytes == 0) _ _ h in
    let second = no_fault (nat_lt CALL_BYTES (length bytes)) _ _ first.1 in
    of_pieces addr.0 (length bytes) (call.Write addr bytes) (length-map (pieces addr.0 (length bytes)) _) first.0 second.0
good_parts (call.Atomic addr op) h = record { some = λ f. omega arith; few = omega arith }
good_parts (call.Offload number op bytes buf) h = record { some = λ f. omega arith; few = omega arith }
good_parts call.Fence h = record { some = λ f. absurd cc; few = omega arith }

-- ---- a call of which nothing was sent
abbrev unsent_parts : ℕ → Call → List ClientPart
unsent_parts n k = map (standing_so (λ p. Unsent)) (parts_named n k)

nothing_came : (m i : ℕ) → get_or (replicate m (let none : Option Ending = None in none)) i None ≡ None
nothing_came zero i = refl
nothing_came (suc m) zero = refl
nothing_came (suc m) (suc i) = nothing_came m i

none_sent : (i : ℕ) → nat_lt i 0 ≡ false
none_sent i = grind (arith, nat_tests)

new_parts : (fs : List Flown) (n : ℕ) (k : Call) (es : List (ℕ × Request)) → map (standing_so (standing_in fs (new_held n k))) (map (named n) es) ≡ map (standing_so (λ p. Unsent)) (map (named n) es)
new_parts fs n k [] = refl
new_parts fs n k (e ∷ es) = λ i. record {
  part = record { call = record { 0 = n }; part = e.0 };
  request = e.1;
  standing = standing_by (nothing_came (length (cut k)) e.0 i) (none_sent e.0 i) (find (λ f. same_part (record { call = record { 0 = n }; part = e.0 }) f.part) fs);
} ∷ new_parts fs n k es i

pub new_call : (fs : List Flown) (n : ℕ) (k : Call) → call_in fs (new_held n k) ≡ call_standing (λ p. Unsent) (n, k)
new_call fs n k = λ i. record {
  number = n;
  call = emptied_twice k i;
  parts = (new_parts fs n k (enumerate_from 0 (cut (emptied k))) ∙ ap (λ rs. map (standing_so (λ p. Unsent)) (map (named n) (enumerate_from 0 rs))) (cut_emptied k)) i;
}

new_fit : (n : ℕ) (k : Call) → first_fault (call_faults k) ≡ None → IsFit (new_held n k)
new_fit n k good = record {
  empty = emptied_twice k;
  good = ap (first_fault {F = IssueFault}) (faults_emptied k) ∙ good;
  parts = length-replicate (length (cut k)) None ∙ sym (ap (length {A = Request}) (cut_emptied k));
  unsent = λ i le. nothing_came (length (cut k)) i;
}

names_so : (how : Part → Standing) (ps : List (Part × Request)) → map name_of (map (standing_so how) ps) ≡ ps
names_so how [] = refl
names_so how (p ∷ ps) = ap (λ qs. p ∷ qs) (names_so how ps)

none_over : (ps : List (Part × Request)) → 1 ≤ length ps → every (map (λ (q : ClientPart). ending_of q.standing) (map (standing_so (λ p. Unsent)) ps)) ≡ None
none_over [] h = absurd (omega arith)
none_over (p ∷ ps) h = refl

new_held_so : (n : ℕ) (k : Call) → first_fault (call_faults k) ≡ None → IsHeld (call_standing (λ p. Unsent) (n, k))
new_held_so n k good = record {
  good = ap (first_fault {F = IssueFault}) (faults_emptied k) ∙ good;
  parts = names_so (λ p. Unsent) (parts_named n k) ∙ sym (ap (λ rs. map (named n) (enumerate_from 0 rs)) (cut_emptied k));
  going = ap (λ b. cond b None (option_map (finished_with (call_standing (λ p. Unsent) (n, k))) (every (map (λ (q : ClientPart). ending_of q.standing) (unsent_parts n k))))) (fence_emptied k) ∙ go (is_fence k) refl;
}
  where
    go : (b : Bool) → is_fence k ≡ b → cond b None (option_map (finished_with (call_standing (λ p. Unsent) (n, k))) (every (map (λ (q : ClientPart). ending_of q.standing) (unsent_parts n k)))) ≡ None
    go true e = refl
    go false e =
        let some = (good_parts k good).some e in
        let as_many : length (parts_named n k) ≡ length (cut k) = length-map (enumerate_from 0 (cut k)) (named n) ∙ length-enumerate_from 0 (cut k) in
        ap (option_map (finished_with (call_standing (λ p. Unsent) (n, k)))) (none_over (parts_named n k) (omega (arith, some, as_many)))

unsent_sum : (ps : List (Part × Request)) → sum_by left (map (standing_so (λ p. Unsent)) ps) ≡ 4 * length ps
unsent_sum [] = refl
unsent_sum (p ∷ ps) = sum_by-cons left (standing_so (λ p. Unsent) p) (map (standing_so (λ p. Unsent)) ps) ∙ ap (λ n. 4 + n) (unsent_sum ps) ∙ more (length ps)
  where
    more : (n : ℕ) → 4 + 4 * n ≡ 4 * suc n
    more n = omega arith

unsent_flying : (ps : List (Part × Request)) → flying (map (standing_so (λ p. Unsent)) ps) ≡ []
unsent_flying [] = refl
unsent_flying (p ∷ ps) = unsent_flying ps

parts_end : (ks : List ClientCall) (k : ClientCall) → parts_of (ks ++ k ∷ []) ≡ parts_of ks ++ k.parts
parts_end [] k = append-nil k.parts
parts_end (j ∷ ks) k = ap (λ ps. j.parts ++ ps) (parts_end ks k) ∙ sym (append_assoc j.parts (parts_of ks) k.parts)

module _ (no : ClientNo) (pid issued sendings : ℕ) (calls : Holding) (f : Flights) (last : ℕ) (sound : IsSound (state_of no pid issued sendings calls f last) calls.held f) where
  pub issue_step : (k : Call) → first_fault (call_faults k) ≡ None → length calls.held + length calls.ended < 256 → (calls' : Holding) → calls'.held ≡ calls.held ++ new_held (issued + 1) k ∷ [] → calls'.ended ≡ calls.ended →
      Step no pid issued sendings calls f last sound (after_issue k (state_of no pid issued sendings calls f last)) (issued + 1) sendings calls' f
  issue_step k good few calls' held_is ended_is =
      let to_calls : calls' ≡ calls1 = λ i. record { held = held_is i; ended = ended_is i } in
      subst (λ c. Step no pid issued sendings calls f last sound new (issued + 1) sendings c f) (sym to_calls) step
    where
      state : ClientState
      state = state_of no pid issued sendings calls f last

      new : ClientState
      new = after_issue k state

      calls1 : Holding
      calls1 = record { held = calls.held ++ new_held (issued + 1) k ∷ []; ended = calls.ended }

      mapped : map (call_in f.flown) calls1.held ≡ new.calls
      mapped = map-append (call_in f.flown) calls.held (new_held (issued + 1) k ∷ []) ∙ ap (λ c. map (call_in f.flown) calls.held ++ c ∷ []) (new_call f.flown (issued + 1) k)

      state_is : state_of no pid (issued + 1) sendings calls1 f last ≡ new
      state_is = λ i. record { client = no; pid = pid; issued = issued + 1; sendings = sendings; calls = mapped i; ended = calls.ended; last = last }

      parts_are : parts_of new.calls ≡ parts_of state.calls ++ unsent_parts (issued + 1) k
      parts_are = parts_end state.calls (call_standing (λ p. Unsent) (issued + 1, k))

      flown1 : flown_among (parts_of new.calls) ≡ f.flown
      flown1 =
          ap flown_among parts_are ∙ ap (map flown_of) (filter_map-append (λ (p : ClientPart). flight p.part p.request p.standing) (parts_of state.calls) (unsent_parts (issued + 1) k) ∙ ap (λ ss. flying (parts_of state.calls) ++ ss) (unsent_flying (parts_named (issued + 1) k)) ∙ append-nil (flying (parts_of state.calls)))
          ∙ sound.flight

      valid1 : IsValid new
      valid1 = record {
        rising = subst (AreRising 0 (issued + 1)) (sym (map-append (λ (c : ClientCall). c.number) state.calls (call_standing (λ p. Unsent) (issued + 1, k) ∷ []))) (rising_end 0 issued (issued + 1) (map (λ c. c.number) state.calls) sound.valid.rising (omega arith));
        calls = each_append IsHeld state.calls (call_standing (λ p. Unsent) (issued + 1, k) ∷ []) sound.valid.calls (new_held_so (issued + 1) k good, tt);
        few =
            let m : length new.calls ≡ length state.calls + 1 = length-append state.calls (call_standing (λ p. Unsent) (issued + 1, k) ∷ []) in
            let n : length state.calls ≡ length calls.held = length-map calls.held (call_in f.flown) in
            room _ _ _ _ m n few;
        counted =
            let m : length new.calls ≡ length state.calls + 1 = length-append state.calls (call_standing (λ p. Unsent) (issued + 1, k) ∷ []) in
            so_many _ _ _ m sound.valid.counted;
        apart = subst AreApart (origs_are state f.flown sound.flight ∙ sym (origs_are new f.flown flown1)) sound.valid.apart;
        ids = subst (Each (IsId sendings)) (origs_are state f.flown sound.flight ∙ sym (origs_are new f.flown flown1)) sound.valid.ids;
        sendings =
            let sum : sum_by left (parts_of new.calls) ≡ sum_by left (parts_of state.calls) + sum_by left (unsent_parts (issued + 1) k) = ap (sum_by left) parts_are ∙ sum_by-append left (parts_of state.calls) (unsent_parts (issued + 1) k) in
            let four : sum_by left (unsent_parts (issued + 1) k) ≡ 4 * length (parts_named (issued + 1) k) = unsent_sum (parts_named (issued + 1) k) in
            let as_many : length (parts_named (issued + 1) k) ≡ length (cut k) = length-map (enumerate_from 0 (cut k)) (named (issued + 1)) ∙ length-enumerate_from 0 (cut k) in
            budget _ _ _ _ _ sum four as_many (good_parts k good).few sound.valid.sendings;
      }
        where
          room : (a b c d : ℕ) → a ≡ b + 1 → b ≡ c → c + d < 256 → a + d ≤ 256
          room a b c d x y z = omega arith

          so_many : (a b d : ℕ) → a ≡ b + 1 → b + d ≤ issued → a + d ≤ issued + 1
          so_many a b d x y = omega arith

          budget : (a b c d e : ℕ) → a ≡ b + c → c ≡ 4 * d → d ≡ e → e ≤ 65 → sendings + b ≤ LAST_FIRST_ID + 260 * issued → sendings + a ≤ LAST_FIRST_ID + 260 * (issued + 1)
          budget a b c d e x y z u v = omega arith

      step : Step no pid issued sendings calls f last sound new (issued + 1) sendings calls1 f
      step = record {
        state_is = state_is;
        sound' = subst (λ s. IsSound s calls1.held f) (sym state_is) (record {
          valid = valid1;
          fits = each_append IsFit calls.held (new_held (issued + 1) k ∷ []) sound.fits (new_fit (issued + 1) k good, tt);
          flight = flown1;
          moment = sound.moment;
        });
      }

-- ---- a Fence ends
and_none : (b : Bool) → not (b && false) ≡ true
and_none true = refl
and_none false = refl

all_kept : (fs : List Flown) (n : ℕ) (hs : List Held) → Each (λ (h : Held). n < h.number) hs → filter (λ k. not (is_fence_of n k)) (map (call_in fs) hs) ≡ map (call_in fs) hs
all_kept fs n [] above = refl
all_kept fs n (h ∷ hs) above =
    ap (λ b. cond b (call_in fs h ∷ filter (λ k. not (is_fence_of n k)) (map (call_in fs) hs)) (filter (λ k. not (is_fence_of n k)) (map (call_in fs) hs))) (ap (λ b. not (is_fence (emptied h.call) && b)) (eqb_below n h.number above.0) ∙ and_none (is_fence (emptied h.call)))
    ∙ ap (λ ks. call_in fs h ∷ ks) (all_kept fs n hs above.1)

fence_gone : (fs : List Flown) (last : ℕ) (h : Held) (hs : List Held) → is_fence h.call ≡ true → AreRising 0 last (numbers (h ∷ hs)) → filter (λ k. not (is_fence_of h.number k)) (map (call_in fs) (h ∷ hs)) ≡ map (call_in fs) hs
fence_gone fs last h hs fence r =
    (λ i. cond (not ((fence_emptied h.call ∙ fence) i && eqb_same h.number i)) (call_in fs h ∷ filter (λ k. not (is_fence_of h.number k)) (map (call_in fs) hs)) (filter (λ k. not (is_fence_of h.number k)) (map (call_in fs) hs)))
    ∙ all_kept fs h.number hs (all_above h.number h.number last hs (omega arith) r.1)

pub fence_step_of : (c : ClientNo) (pid issued sendings : ℕ) (h : Held) (hs : List Held) (es : List Finished) (x : Finished) (f : Flights) (last : ℕ) (sound : IsSound (state_of c pid issued sendings (record { held = h ∷ hs; ended = es }) f last) (h ∷ hs) f) → is_fence h.call ≡ true →
    x ≡ record { number = h.number; answer = combine call.Fence []; call = call.Fence } →
    Step c pid issued sendings (record { held = h ∷ hs; ended = es }) f last sound (after_polled last (EndsFence h.number) (state_of c pid issued sendings (record { held = h ∷ hs; ended = es }) f last)) issued sendings (record { held = hs; ended = es ++ x ∷ [] }) f
fence_step_of c pid issued sendings h hs es x f last sound fence x_is = record {
  state_is = state_is;
  sound' = subst (λ s. IsSound s hs f) (sym state_is) (record { valid = valid1; fits = sound.fits.1; flight = flown1; moment = sound.moment });
}
  where
    state : ClientState
    state = state_of c pid issued sendings (record { held = h ∷ hs; ended = es }) f last

    new : ClientState
    new = after_polled last (EndsFence h.number) state

    numbers_rise : AreRising 0 issued (numbers (h ∷ hs))
    numbers_rise = rising c pid issued sendings (record { held = h ∷ hs; ended = es }) f last sound

    left_over : map (call_in f.flown) hs ≡ new.calls
    left_over = sym (fence_gone f.flown issued h hs fence numbers_rise)

    state_is : state_of c pid issued sendings (record { held = hs; ended = es ++ x ∷ [] }) f last ≡ new
    state_is = λ i. record { client = c; pid = pid; issued = issued; sendings = sendings; calls = left_over i; ended = es ++ x_is i ∷ []; last = last }

    no_parts : parts_of state.calls ≡ parts_of (map (call_in f.flown) hs)
    no_parts = ap (λ rs. parts_from (standing_in f.flown h) h.number 0 rs ++ parts_of (map (call_in f.flown) hs)) (fence_parts h.call fence)

    parts_are : parts_of new.calls ≡ parts_of state.calls
    parts_are = sym (no_parts ∙ ap parts_of left_over)

    flown1 : flown_among (parts_of new.calls) ≡ f.flown
    flown1 = ap flown_among parts_are ∙ sound.flight

    valid1 : IsValid new
    valid1 = record {
      rising = subst (λ ks. AreRising 0 issued (map (λ (c : ClientCall). c.number) ks)) left_over (subst (AreRising 0 issued) (sym (numbers_in f.flown hs)) (rising_lower 0 h.number issued (numbers hs) (omega arith) numbers_rise.1));
      calls = subst (Each IsHeld) left_over sound.valid.calls.1;
      few =
          let a : length (es ++ record { number = h.number; answer = combine call.Fence []; call = call.Fence } ∷ []) ≡ length es + 1 = length-append es _ in
          let b : length new.calls ≡ length (map (call_in f.flown) hs) = ap (length {A = ClientCall}) (sym left_over) in
          room _ _ _ _ _ a b sound.valid.few;
      counted =
          let a : length (es ++ record { number = h.number; answer = combine call.Fence []; call = call.Fence } ∷ []) ≡ length es + 1 = length-append es _ in
          let b : length new.calls ≡ length (map (call_in f.flown) hs) = ap (length {A = ClientCall}) (sym left_over) in
          room _ _ _ _ _ a b sound.valid.counted;
      apart = subst AreApart (origs_are state f.flown sound.flight ∙ sym (origs_are new f.flown flown1)) sound.valid.apart;
      ids = subst (Each (IsId sendings)) (origs_are state f.flown sound.flight ∙ sym (origs_are new f.flown flown1)) sound.valid.ids;
      sendings = subst (λ ps. sendings + sum_by left ps ≤ LAST_FIRST_ID + 260 * issued) (sym parts_are) sound.valid.sendings;
    }
      where
        room : (a b c d most : ℕ) → a ≡ b + 1 → c ≡ d → suc d + b ≤ most → c + a ≤ most
        room a b c d most x y z = omega arith

module _ (no : ClientNo) (pid issued sendings : ℕ) (f : Flights) (last : ℕ) (n : CallNo) (calls' : Holding) (es : List Finished) (ended_is : calls'.ended ≡ es ++ record { number = n.0; answer = combine call.Fence []; call = call.Fence } ∷ []) where
  pub first_ends : (held : List Held) (sound : IsSound (state_of no pid issued sendings (record { held = held; ended = es }) f last) held f) → fence_first_in held ≡ Some n → calls'.held ≡ drop 1 held →
      Step no pid issued sendings (record { held = held; ended = es }) f last sound (after_polled last (EndsFence n.0) (state_of no pid issued sendings (record { held = held; ended = es }) f last)) issued sendings calls' f
  first_ends [] sound e held_is = none_some n e
  first_ends (h ∷ hs) sound e held_is = go (is_fence h.call) refl e
    where
      go : (b : Bool) → is_fence h.call ≡ b → cond b (Some (record { 0 = h.number })) None ≡ Some n →
          Step no pid issued sendings (record { held = h ∷ hs; ended = es }) f last sound (after_polled last (EndsFence n.0) (state_of no pid issued sendings (record { held = h ∷ hs; ended = es }) f last)) issued sendings calls' f
      go false t k = none_some n k
      go true t k =
          let same : h.number ≡ n.0 = number_of (record { 0 = h.number }) k in
          let ends : Finished = record { number = n.0; answer = combine call.Fence []; call = call.Fence } in
          let to_calls : calls' ≡ record { held = hs; ended = es ++ ends ∷ [] } = λ i. record { held = held_is i; ended = ended_is i } in
          subst (λ c. Step no pid issued sendings (record { held = h ∷ hs; ended = es }) f last sound (after_polled last (EndsFence n.0) (state_of no pid issued sendings (record { held = h ∷ hs; ended = es }) f last)) issued sendings c f) (sym to_calls)
          (subst (λ m. Step no pid issued sendings (record { held = h ∷ hs; ended = es }) f last sound (after_polled last (EndsFence m) (state_of no pid issued sendings (record { held = h ∷ hs; ended = es }) f last)) issued sendings (record { held = hs; ended = es ++ ends ∷ [] }) f) same
          (fence_step_of no pid issued sendings h hs es ends f last sound t (λ i. record { number = sym same i; answer = combine call.Fence []; call = call.Fence })))
        where
          number_of : (m : CallNo) → ◌≡◌ {A = Option CallNo} (Some m) (Some n) → m.0 ≡ n.0
          number_of m z = let same : m ≡ n = cc in ap (λ (x : CallNo). x.0) same

-- ---- a call is judged
no_issue_fault : (s : ClientState) (k : Call) → issue_fault s k ≡ None → (held s < 256) × (first_fault (call_faults k) ≡ None)
no_issue_fault s k e =
    let first = no_fault (leb 256 (held s)) _ _ e in
    (below (held s) first.0, first.1)
  where
    below : (n : ℕ) → leb 256 n ≡ false → n < 256
    below n h = grind (arith, nat_tests)

module _ (no : ClientNo) (pid issued sendings : ℕ) (calls : Holding) (f : Flights) (last : ℕ) (sound : IsSound (state_of no pid issued sendings calls f last) calls.held f) (old : ClientState) (is : state_of no pid issued sendings calls f last ≡ old) where
  pub issued_step : (k : Call) → issue_fault old k ≡ None → (calls' : Holding) → calls'.held ≡ calls.held ++ new_held (issued + 1) k ∷ [] → calls'.ended ≡ calls.ended →
      Step no pid issued sendings calls f last sound (after_issue k (state_of no pid issued sendings calls f last)) (issued + 1) sendings calls' f
  issued_step k e calls' held_is ended_is =
      let judged = no_issue_fault (state_of no pid issued sendings calls f last) k (subst (λ s. issue_fault s k ≡ None) (sym is) e) in
      issue_step no pid issued sendings calls f last sound k judged.1 (subst (λ n. n + length calls.ended < 256) (length-map calls.held (call_in f.flown)) judged.0) calls' held_is ended_is

  pub issued_state : (k : Call) (fault : Option IssueFault) → fault ≡ None → fault ≡ issue_fault old k → (calls' : Holding) → calls'.held ≡ calls.held ++ new_held (issued + 1) k ∷ [] → calls'.ended ≡ calls.ended →
      state_of no pid (issued + 1) sendings calls' f last ≡ issue_state old k (issue_fault old k)
  issued_state k fault none e calls' held_is ended_is =
      let no_fault_now : issue_fault old k ≡ None = sym e ∙ none in
      (issued_step k no_fault_now calls' held_is ended_is).state_is ∙ ap (after_issue k) is ∙ ap (issue_state old k) (sym no_fault_now)
