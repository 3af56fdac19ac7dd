-- A call has come to an end in the client's state exactly where something came of each of its parts.
use Rattle.std.proofs.Common.{◌≡◌, ℕ, suc, ◌+◌, ◌<◌, ◌≤◌, List, [], ◌∷◌, ◌++◌, refl, ap, sym, ◌∙◌, Some, None, Option, Bool, true, false, cond, arith, map, length, get_or, drop, add-one, drop-cons}
use Rattle.std.specs.Prelude.{nat_lt, find, filter, filter_map, flat_map, is_none, not, option_map, sum_by}
use Rattle.std.specs.List.{AllByRecursion as Each, enumerate_from, cons_option}
use Rattle.std.proofs.lemmas.List.{append-nil, drop_all}
use Rattle.std.proofs.lemmas.List.Elements.{filter_map-append}
use Rattle.std.proofs.lemmas.List.Sums.{sum_by-append, sum_by-cons}
use Rattle.cl_types.specs.declared.call.Call.{Call}
use Rattle.cl_types.specs.declared.request.Request.{Request}
use Rattle.cl_types.specs.declared.reply.Part.{Part}
use Rattle.client_model.specs.Cut.{cut, Ending, combine, handed_back}
use Rattle.client_model.specs.Order.{is_fence}
use Rattle.cl_types.specs.Parts.{same_part}
use Rattle.client_model.specs.Client.{ClientCall, ClientPart, Finished, Sending, Standing, Unsent, InFlight, Over, all_over, call_standing, emptied, ending_of, every, finished, finished_with, flight, named, parts_of, standing_so}
use Rattle.client_retry.specs.declared.flown.Flown.{Flown}
use Rattle.client_core.specs.Held.{Held, ended_of, ended_with}
use Rattle.client_core.specs.Fields.{standing_by, standing_flown, standing_in, call_in, flown_of, flown_among, IsFit}
use Rattle.client_core.proofs.Basics.{fence_emptied, none_some}
use Rattle.client_core.proofs.Standing.{part_at}

of_standing : (came : Option Ending) (sent : Bool) (f : Option Flown) → ending_of (standing_by came sent f) ≡ came
of_standing (Some e) sent f = refl
of_standing None true (Some x) = refl
of_standing None true None = refl
of_standing None false f = refl

drop_one : {X : Type 0} (i : ℕ) (xs : List X) (d : X) → i < length xs → drop i xs ≡ get_or xs i d ∷ drop (i + 1) xs
drop_one i xs d h = rw (add-one, drop-cons xs i d)

endings_are : (fs : List Flown) (h : Held) (s : ℕ) (rs : List Request) → s + length rs ≡ length h.came →
    map (λ (p : ClientPart). ending_of p.standing) (map (standing_so (standing_in fs h)) (map (named h.number) (enumerate_from s rs))) ≡ drop s h.came
endings_are fs h s [] e = sym (drop_all s h.came (omega arith))
endings_are fs h s (r ∷ rs) e =
    (λ i. of_standing (get_or h.came s None) (nat_lt s h.sent) (find (λ (f : Flown). same_part (part_at h.number s) f.part) fs) i ∷ endings_are fs h (s + 1) rs (omega arith) i)
    ∙ sym (drop_one s h.came None (omega arith))

pub finished_is : (fs : List Flown) (h : Held) → IsFit h → finished (call_in fs h) ≡ ended_of h
finished_is fs h fit =
    (λ i. cond (fence_emptied h.call i) None (option_map (finished_with (call_in fs h)) (every (endings_are fs h 0 (cut h.call) (length_is (length (cut h.call)) (length h.came) fit.parts) i))))
    ∙ (λ i. cond (is_fence h.call) None (option_map (λ (es : List Ending). ended_so (fit.empty i) es) (every h.came)))
  where
    length_is : (m n : ℕ) → n ≡ m → 0 + m ≡ n
    length_is m n e = omega arith

    ended_so : Call → List Ending → Finished
    ended_so k es = record { number = h.number; answer = combine k es; call = handed_back k es }

-- ---- the calls after those that have come to an end have ended
pub held_ends : (fs : List Flown) (hs : List Held) → Each IsFit hs → filter (λ k. is_none (finished k)) (map (call_in fs) hs) ≡ map (call_in fs) (filter (λ h. is_none (ended_of h)) hs)
held_ends fs [] fits = refl
held_ends fs (h ∷ hs) fits =
    ap (λ (o : Option Finished). cond (is_none o) (call_in fs h ∷ filter (λ k. is_none (finished k)) (map (call_in fs) hs)) (filter (λ k. is_none (finished k)) (map (call_in fs) hs))) (finished_is fs h fits.0)
    ∙ go (is_none (ended_of h)) (held_ends fs hs fits.1)
  where
    go : (b : Bool) → filter (λ k. is_none (finished k)) (map (call_in fs) hs) ≡ map (call_in fs) (filter (λ h. is_none (ended_of h)) hs) →
        cond b (call_in fs h ∷ filter (λ k. is_none (finished k)) (map (call_in fs) hs)) (filter (λ k. is_none (finished k)) (map (call_in fs) hs)) ≡ map (call_in fs) (cond b (h ∷ filter (λ h. is_none (ended_of h)) hs) (filter (λ h. is_none (ended_of h)) hs))
    go true rec = ap (λ ks. call_in fs h ∷ ks) rec
    go false rec = rec

pub ended_ends : (fs : List Flown) (hs : List Held) → Each IsFit hs → filter_map finished (map (call_in fs) hs) ≡ filter_map ended_of hs
ended_ends fs [] fits = refl
ended_ends fs (h ∷ hs) fits = λ i. cons_option (finished_is fs h fits.0 i) (ended_ends fs hs fits.1 i)

-- ---- a call that has come to an end has no part in flight
abbrev pub flying : List ClientPart → List Sending
flying ps = filter_map (λ p. flight p.part p.request p.standing) ps

option_map_some : {X Y : Type 0} (f : X → Y) (o : Option X) (y : Y) → option_map f o ≡ Some y → (x : X) × (o ≡ Some x)
option_map_some f None y h = none_some y h
option_map_some f (Some x) y h = (x, refl)

none_flying : (ps : List ClientPart) (es : List Ending) → every (map (λ p. ending_of p.standing) ps) ≡ Some es → flying ps ≡ []
none_flying [] es h = refl
none_flying (p ∷ ps) es h = go p.standing h (none_flying ps)
  where
    go : (s : Standing) → every (ending_of s ∷ map (λ p. ending_of p.standing) ps) ≡ Some es → ((es : List Ending) → every (map (λ p. ending_of p.standing) ps) ≡ Some es → flying ps ≡ []) → cons_option (flight p.part p.request s) (flying ps) ≡ []
    go Unsent h rec = none_some es h
    go (InFlight orig first last) h rec = none_some es h
    go (Over e) h rec =
        let rest = option_map_some (λ (ys : List Ending). e ∷ ys) (every (map (λ (p : ClientPart). ending_of p.standing) ps)) es h in
        rec rest.0 rest.1

none_flying_in : (k : ClientCall) (f : Finished) → finished k ≡ Some f → flying k.parts ≡ []
none_flying_in k f h = go (is_fence k.call) h
  where
    go : (b : Bool) → cond b None (option_map (finished_with k) (all_over k)) ≡ Some f → flying k.parts ≡ []
    go true e = none_some f e
    go false e = let over = option_map_some (finished_with k) (all_over k) f e in none_flying k.parts over.0 over.1

abbrev pub going_on : List ClientCall → List ClientCall
going_on ks = filter (λ k. is_none (finished k)) ks

pub flying_ends : (ks : List ClientCall) → flying (parts_of (going_on ks)) ≡ flying (parts_of ks)
flying_ends [] = refl
flying_ends (k ∷ ks) = go (finished k) refl (flying_ends ks)
  where
    go : (o : Option Finished) → finished k ≡ o → flying (parts_of (going_on ks)) ≡ flying (parts_of ks) →
        flying (parts_of (cond (is_none o) (k ∷ going_on ks) (going_on ks))) ≡ flying (k.parts ++ parts_of ks)
    go None e rec = filter_map-append (λ (p : ClientPart). flight p.part p.request p.standing) k.parts (parts_of (going_on ks)) ∙ ap (λ fs. flying k.parts ++ fs) rec ∙ sym (filter_map-append (λ (p : ClientPart). flight p.part p.request p.standing) k.parts (parts_of ks))
    go (Some f) e rec = rec ∙ sym (filter_map-append (λ (p : ClientPart). flight p.part p.request p.standing) k.parts (parts_of ks) ∙ ap (λ fs. fs ++ flying (parts_of ks)) (none_flying_in k f e))

pub flown_ends : (ks : List ClientCall) → flown_among (parts_of (going_on ks)) ≡ flown_among (parts_of ks)
flown_ends ks = ap (map flown_of) (flying_ends ks)

-- a call goes on, or has ended
pub counted_ends : (ks : List ClientCall) → length (going_on ks) + length (filter_map finished ks) ≡ length ks
counted_ends [] = refl
counted_ends (k ∷ ks) = go (finished k) (counted_ends ks)
  where
    go : (o : Option Finished) → length (going_on ks) + length (filter_map finished ks) ≡ length ks →
        length (cond (is_none o) (k ∷ going_on ks) (going_on ks)) + length (cons_option o (filter_map finished ks)) ≡ suc (length ks)
    go None rec = omega (arith, rec)
    go (Some f) rec = omega (arith, rec)

pub sum_ends : (g : ClientPart → ℕ) (ks : List ClientCall) → sum_by g (parts_of (going_on ks)) ≤ sum_by g (parts_of ks)
sum_ends g [] = omega arith
sum_ends g (k ∷ ks) = go (is_none (finished k)) (sum_ends g ks)
  where
    go : (b : Bool) → sum_by g (parts_of (going_on ks)) ≤ sum_by g (parts_of ks) → sum_by g (parts_of (cond b (k ∷ going_on ks) (going_on ks))) ≤ sum_by g (k.parts ++ parts_of ks)
    go true rec = omega (arith, rec, sum_by-append g k.parts (parts_of (going_on ks)), sum_by-append g k.parts (parts_of ks))
    go false rec = omega (arith, rec, sum_by-append g k.parts (parts_of ks))
