-- A reply that is taken for a part: where its bytes go, and what has come of the parts then.
use Rattle.std.proofs.Common.{◌≡◌, ℕ, zero, suc, ◌+◌, ◌-◌, ◌<◌, ◌≤◌, Bool, true, false, nat_lt, List, [], ◌∷◌, length, map, take, set, replicate, Some, None, option_map, refl, sym, ap, subst, ◌∙◌, arith, rules, slice_get}
use Rattle.std.proofs.Math.Seq.{take-set-lt}
use Rattle.std.proofs.lemmas.Bool.{and_parts, and_from, eqb-true, leb-true}
use Rattle.std.proofs.lemmas.List.{length-map, length-take}
use Rattle.std.proofs.lemmas.Option.{slice_get-map, slice_get_within}
use Rattle.cl_types.specs.Bytes.{with_bytes, bytes_at, zeros}
use Rattle.cl_types.specs.declared.limits.TheConstants.{CALL_BYTES, PART_BYTES}
use Rattle.cl_types.specs.declared.numbers.Addr.{Addr}
use Rattle.cl_types.specs.declared.call.Call.{Call}
use Rattle.cl_types.specs.declared.call.Call.TheVariants as call
use Rattle.cl_types.specs.declared.request.Request.{Request}
use Rattle.cl_types.specs.declared.request.Request.TheVariants as request
use Rattle.cl_types.specs.declared.reply.Reply.{Reply}
use Rattle.cl_types.specs.declared.reply.Reply.TheVariants as reply
use Rattle.cl_types.specs.declared.frame.IssueFault.{IssueFault}
use Rattle.cl_types.specs.declared.frame.IssueFault.TheVariants as fault
use Rattle.client_model.specs.Client.{emptied}
use Rattle.client_model.specs.Cut.{Replied, GivenUp, cut, pieces}
use Rattle.frame_model.specs.Faults.{first_fault}
use Rattle.client_model.specs.Issue.{call_faults, bytes_faults, as_far_as_told}
use Rattle.call_cut.specs.declared.outcome.PartOutcome.{PartOutcome}
use Rattle.call_cut.specs.declared.outcome.PartOutcome.TheVariants as outcome
use Rattle.call_cut.specs.Fills.{fills, before}
use Rattle.call_cut.specs.Came.{came, came_in, ending_in}
use Rattle.call_cut.specs.Taking.{TakesFor, Gathers, is_reply_to, is_outcome_of, are_outcomes_of, outcome_of, call_with}
use Rattle.call_cut.proofs.Buffers.{came_set, came_put, came_none}
use Rattle.call_cut.proofs.PieceLemmas.{total, total_pieces, piece_place}
use Rattle.cl_types.proofs.PutBytes.{length-with_bytes}

-- ---- outcomes of parts
-- a reply to a request makes an outcome of it
outcome_fits : (q : Request) (r : Reply) → is_reply_to q r ≡ true → is_outcome_of q (outcome_of r) ≡ true
outcome_fits q (reply.Refused refusal) h = refl
outcome_fits (request.Alloc pages perm) (reply.At addr) h = refl
outcome_fits (request.Free addr pages) reply.Nothing h = refl
outcome_fits (request.Read addr n) (reply.Got bytes) h = h
outcome_fits (request.Write addr bytes) reply.Nothing h = refl
outcome_fits (request.Atomic addr op) (reply.Word word) h = refl
outcome_fits (request.Offload number op out bytes) (reply.Got answer) h = h
outcome_fits q r h = absurd cc

-- one outcome more that fits its part
outcomes_set : (qs : List Request) (os : List PartOutcome) (i : ℕ) (q : Request) (o : PartOutcome) → are_outcomes_of qs os ≡ true → slice_get qs i ≡ Some q → is_outcome_of q o ≡ true
    → are_outcomes_of qs (set os i o) ≡ true
outcomes_set [] os i q o fit at h = absurd cc
outcomes_set (p ∷ qs) [] i q o fit at h = absurd cc
outcomes_set (p ∷ qs) (x ∷ os) zero q o fit at h =
    let same : p ≡ q = cc in
    rw same (and_from _ _ h (and_parts (is_outcome_of p x) (are_outcomes_of qs os) fit).1)
outcomes_set (p ∷ qs) (x ∷ os) (suc i) q o fit at h =
    let both = and_parts (is_outcome_of p x) (are_outcomes_of qs os) fit in
    and_from _ _ both.0 (outcomes_set qs os i q o both.1 at h)

-- an outcome may be of any part where it is one of being given up
outcomes_set_any : (qs : List Request) (os : List PartOutcome) (i first_sent now : ℕ) → are_outcomes_of qs os ≡ true → are_outcomes_of qs (set os i (outcome.GivenUp first_sent now)) ≡ true
outcomes_set_any [] [] i first_sent now fit = refl
outcomes_set_any [] (x ∷ os) i first_sent now fit = absurd cc
outcomes_set_any (p ∷ qs) [] i first_sent now fit = absurd cc
outcomes_set_any (p ∷ qs) (x ∷ os) zero first_sent now fit = (and_parts (is_outcome_of p x) (are_outcomes_of qs os) fit).1
outcomes_set_any (p ∷ qs) (x ∷ os) (suc i) first_sent now fit =
    let both = and_parts (is_outcome_of p x) (are_outcomes_of qs os) fit in
    and_from _ _ both.0 (outcomes_set_any qs os i first_sent now both.1)

-- before anything has come
outcomes_waiting : (qs : List Request) (n : ℕ) → length qs ≡ n → are_outcomes_of qs (replicate n outcome.Waiting) ≡ true
outcomes_waiting [] zero e = refl
outcomes_waiting [] (suc n) e = absurd (omega arith)
outcomes_waiting (q ∷ qs) zero e = absurd (omega arith)
outcomes_waiting (q ∷ qs) (suc n) e = outcomes_waiting qs n (omega arith)

-- there are as many outcomes as parts
pub length_outcomes : (qs : List Request) (os : List PartOutcome) → are_outcomes_of qs os ≡ true → length qs ≡ length os
length_outcomes [] [] fit = refl
length_outcomes [] (x ∷ os) fit = absurd cc
length_outcomes (q ∷ qs) [] fit = absurd cc
length_outcomes (q ∷ qs) (x ∷ os) fit = ap suc (length_outcomes qs os (and_parts (is_outcome_of q x) (are_outcomes_of qs os) fit).1)

-- a part for which a reply is taken has an outcome
pub within : {os : List PartOutcome} {k : Call} {i : ℕ} {r : Reply} → Gathers os k → TakesFor k i r → i < length os
within {os} {k} {i} g t = omega (arith, length_outcomes (cut k) os g.fit, slice_get_within (cut k) i t.asked t.there)

-- each part of a call fills its place in the buffer
pub length_fills : (k : Call) → length (fills k) ≡ length (cut k)
length_fills (call.Read addr buf) = length-map (pieces addr.0 (length buf)) _ ∙ sym (length-map (pieces addr.0 (length buf)) _)
length_fills (call.Write addr bytes) = length-map (pieces addr.0 (length bytes)) _ ∙ sym (length-map (pieces addr.0 (length bytes)) _)
length_fills (call.Alloc pages perm) = refl
length_fills (call.Free addr pages) = refl
length_fills (call.Atomic addr op) = refl
length_fills (call.Offload number op bytes buf) = refl
length_fills call.Fence = refl

-- ---- create, give up
pub nothing_came : (k : Call) (n : ℕ) → length (cut k) ≡ n → came (replicate n outcome.Waiting) k ≡ replicate n None
nothing_came k n e = came_none _ (fills k) n (length_fills k ∙ e)

pub gathers_none : (k : Call) (n : ℕ) → first_fault (call_faults k) ≡ None → length (cut k) ≡ n → Gathers (replicate n outcome.Waiting) k
gathers_none k n good e = record { good = good; fit = outcomes_waiting (cut k) n e }

pub gave_up : (os : List PartOutcome) (i first_sent now : ℕ) (k : Call) → came (set os i (outcome.GivenUp first_sent now)) k ≡ set (came os k) i (Some (GivenUp first_sent now))
gave_up os i first_sent now k = came_set _ (fills k) os i _ _ (λ bytes. refl)

pub gathers_given_up : (os : List PartOutcome) (i first_sent now : ℕ) (k : Call) → Gathers os k → Gathers (set os i (outcome.GivenUp first_sent now)) k
gathers_given_up os i first_sent now k g = record { good = g.good; fit = outcomes_set_any (cut k) os i first_sent now g.fit }

-- ---- take
-- what holds after a reply was taken, the outcomes and the call having become os' and k'
pub record Took (os os' : List PartOutcome) (k k' : Call) (i : ℕ) (r : Reply) : Type 0 where
  pub came_is : came os' k' ≡ set (came os k) i (Some (Replied r))
  pub emptied_is : emptied k' ≡ emptied k
  pub gathers : Gathers os' k'

-- a reply without bytes leaves the call
took_plain : (os : List PartOutcome) (k : Call) (i : ℕ) (r : Reply) → Gathers os k → TakesFor k i r → ((bytes : List ℕ) → ending_in bytes (outcome_of r) ≡ Some (Replied r)) → Took os (set os i (outcome_of r)) k k i r
took_plain os k i r g t same = record {
  came_is = came_set _ (fills k) os i (outcome_of r) (Some (Replied r)) same;
  emptied_is = refl;
  gathers = record { good = g.good; fit = outcomes_set (cut k) os i t.asked (outcome_of r) g.fit t.there (outcome_fits t.asked r t.fits) };
}

-- the numbers before one, and that one, are no more than all
before_within : (ns : List ℕ) (i n : ℕ) → slice_get ns i ≡ Some n → before i ns + n ≤ total ns
before_within [] i n at = absurd cc
before_within (m ∷ ns) zero n at = let same : m ≡ n = cc in omega arith
before_within (m ∷ ns) (suc i) n at = omega (arith, before_within ns i n at)

-- the piece that a part of a Read or a Write asks for
asked_at : (asks : ℕ × ℕ → Request) (ps : List (ℕ × ℕ)) (i : ℕ) (asked : Request) → slice_get (map asks ps) i ≡ Some asked → (p : ℕ × ℕ) × (slice_get ps i ≡ Some p) × (asks p ≡ asked)
asked_at asks [] i asked at = absurd cc
asked_at asks (p ∷ ps) zero asked at = (p, refl, cc)
asked_at asks (p ∷ ps) (suc i) asked at = asked_at asks ps i asked at

-- where the bytes of a reply to a part of a Read go
pub record IsPlace (addr : Addr) (buf : List ℕ) (i : ℕ) (bytes : List ℕ) : Type 0 where
  pub size : slice_get (fills (call.Read addr buf)) i ≡ Some (length bytes)
  pub fits : before i (fills (call.Read addr buf)) + length bytes ≤ length buf

pub place_of : (addr : Addr) (buf : List ℕ) (i : ℕ) (bytes : List ℕ) → TakesFor (call.Read addr buf) i (reply.Got bytes) → IsPlace addr buf i bytes
place_of addr buf i bytes t =
    let ps : List (ℕ × ℕ) = pieces addr.0 (length buf) in
    let asks : ℕ × ℕ → Request = λ p. request.Read (record { 0 = p.0 }) p.1 in
    let lens : ℕ × ℕ → ℕ = λ p. p.1 in
    let at = asked_at asks ps i t.asked t.there in
    let len : length bytes ≡ at.0.1 = eqb-true _ _ (ap (λ q. is_reply_to q (reply.Got bytes)) at.2 ∙ t.fits) in
    let size : slice_get (map lens ps) i ≡ Some (length bytes) = slice_get-map lens ps i ∙ ap (option_map lens) at.1 ∙ ap Some (sym len) in
    record { size = size; fits = omega (arith, before_within (map lens ps) i (length bytes) size, total_pieces addr.0 (length buf)) }

-- an Offload has one part
pub first_alone : (q asked : Request) (i : ℕ) → slice_get (q ∷ []) i ≡ Some asked → (i ≡ 0) × (q ≡ asked)
first_alone q asked zero at = (refl, cc)
first_alone q asked (suc i) at = absurd cc

took_read : (os : List PartOutcome) (addr : Addr) (buf : List ℕ) (i : ℕ) (bytes : List ℕ) → Gathers os (call.Read addr buf) → TakesFor (call.Read addr buf) i (reply.Got bytes)
    → Took os (set os i (outcome.Got (length bytes))) (call.Read addr buf) (call_with i (reply.Got bytes) (call.Read addr buf)) i (reply.Got bytes)
took_read os addr buf i bytes g t =
    let k : Call = call.Read addr buf in
    let place = place_of addr buf i bytes t in
    let new : List ℕ = with_bytes (before i (fills k)) bytes buf in
    let len : length new ≡ length buf = length-with_bytes (before i (fills k)) bytes buf place.fits in
    let lens : ℕ → List ℕ = λ n. map (λ p. p.1) (pieces addr.0 n) in
    let asks : ℕ → List Request = λ n. map (λ p. request.Read (record { 0 = p.0 }) p.1) (pieces addr.0 n) in
    let os' : List PartOutcome = set os i (outcome.Got (length bytes)) in
    record {
      came_is = ap (λ n. came_in new (lens n) os') len ∙ came_put buf (fills k) os i (length bytes) bytes place.size (omega arith) place.fits;
      emptied_is = ap (λ n. call.Read addr (zeros n)) len;
      gathers = record {
        good = ap (λ n. first_fault (bytes_faults addr n CALL_BYTES n)) len ∙ g.good;
        fit = ap (λ n. are_outcomes_of (asks n) os') len ∙ outcomes_set (cut k) os i t.asked _ g.fit t.there (outcome_fits t.asked (reply.Got bytes) t.fits);
      };
    }

took_offload : (os : List PartOutcome) (number op : ℕ) (sent buf : List ℕ) (i : ℕ) (answer : List ℕ) → Gathers os (call.Offload number op sent buf) → TakesFor (call.Offload number op sent buf) i (reply.Got answer)
    → Took os (set os i (outcome.Got (length answer))) (call.Offload number op sent buf) (call_with i (reply.Got answer) (call.Offload number op sent buf)) i (reply.Got answer)
took_offload os number op sent buf i answer g t =
    let only = first_alone (request.Offload number op (length buf) sent) t.asked i t.there in
    let short : length answer ≤ length buf = leb-true _ _ (ap (λ q. is_reply_to q (reply.Got answer)) only.1 ∙ t.fits) in
    let new : List ℕ = with_bytes 0 answer buf in
    let fits : 0 + length answer ≤ length buf = omega arith in
    let len : length new ≡ length buf = length-with_bytes 0 answer buf fits in
    let os' : List PartOutcome = set os i (outcome.Got (length answer)) in
    let faults : ℕ → List (Bool × IssueFault) = λ n. (nat_lt PART_BYTES (length sent), fault.TooLong (as_far_as_told (length sent))) ∷ (nat_lt PART_BYTES n, fault.TooLong (as_far_as_told n)) ∷ [] in
    let put : came_in new (length buf ∷ []) (set os 0 (outcome.Got (length answer))) ≡ set (came_in buf (length buf ∷ []) os) 0 (Some (Replied (reply.Got answer))) = came_put buf (length buf ∷ []) os 0 (length buf) answer refl short fits in
    record {
      came_is = ap (λ n. came_in new (n ∷ []) os') len ∙ subst (λ j. came_in new (length buf ∷ []) (set os j (outcome.Got (length answer))) ≡ set (came_in buf (length buf ∷ []) os) j (Some (Replied (reply.Got answer)))) (sym only.0) put;
      emptied_is = ap (λ n. call.Offload number op sent (zeros n)) len;
      gathers = record {
        good = ap (λ n. first_fault (faults n)) len ∙ g.good;
        fit = ap (λ n. are_outcomes_of (request.Offload number op n sent ∷ []) os') len ∙ outcomes_set (cut (call.Offload number op sent buf)) os i t.asked (outcome.Got (length answer)) g.fit t.there (outcome_fits t.asked (reply.Got answer) t.fits);
      };
    }

-- only a Read and an Offload are answered by bytes
no_bytes : (q asked : Request) (i : ℕ) (bytes : List ℕ) → slice_get (q ∷ []) i ≡ Some asked → is_reply_to q (reply.Got bytes) ≡ false → is_reply_to asked (reply.Got bytes) ≡ true → ⊥
no_bytes q asked i bytes at never fits = let is = (first_alone q asked i at).1 in let wrong = sym never ∙ ap (λ r. is_reply_to r (reply.Got bytes)) is ∙ fits in cc

no_bytes_of_write : (addr : Addr) (sent : List ℕ) (i : ℕ) (bytes : List ℕ) → TakesFor (call.Write addr sent) i (reply.Got bytes) → ⊥
no_bytes_of_write addr sent i bytes t =
    let asks : ℕ × ℕ → Request = λ p. request.Write (record { 0 = p.0 }) (bytes_at (p.0 - addr.0) p.1 sent) in
    let at = asked_at asks (pieces addr.0 (length sent)) i t.asked t.there in
    let wrong = ap (λ q. is_reply_to q (reply.Got bytes)) at.2 ∙ t.fits in
    cc

pub took : (os : List PartOutcome) (k : Call) (i : ℕ) (r : Reply) → Gathers os k → TakesFor k i r → Took os (set os i (outcome_of r)) k (call_with i r k) i r
took os k i (reply.Refused refusal) g t = took_plain os k i _ g t (λ bytes. refl)
took os k i reply.Nothing g t = took_plain os k i _ g t (λ bytes. refl)
took os k i (reply.At addr) g t = took_plain os k i _ g t (λ bytes. refl)
took os k i (reply.Word word) g t = took_plain os k i _ g t (λ bytes. refl)
took os (call.Read addr buf) i (reply.Got bytes) g t = took_read os addr buf i bytes g t
took os (call.Offload number op sent buf) i (reply.Got bytes) g t = took_offload os number op sent buf i bytes g t
took os (call.Alloc pages perm) i (reply.Got bytes) g t = absurd (no_bytes _ t.asked i bytes t.there refl t.fits)
took os (call.Free addr pages) i (reply.Got bytes) g t = absurd (no_bytes _ t.asked i bytes t.there refl t.fits)
took os (call.Write addr sent) i (reply.Got bytes) g t = absurd (no_bytes_of_write addr sent i bytes t)
took os (call.Atomic addr op) i (reply.Got bytes) g t = absurd (no_bytes _ t.asked i bytes t.there refl t.fits)
took os call.Fence i (reply.Got bytes) g t = absurd (let none = t.there in cc)

-- ---- the outcomes in their array, of which the first count
-- one outcome, put into the array
pub put_among : (outcomes : List PartOutcome) (parts : ℕ) {os : List PartOutcome} {i : ℕ} (o : PartOutcome) → take parts outcomes ≡ os → i < length os → take parts (set outcomes i o) ≡ set os i o
put_among outcomes parts {os} {i} o e h =
    take-set-lt parts outcomes i o (omega (arith, length-take parts outcomes, ap (length {A = PartOutcome}) e)) ∙ ap (λ (xs : List PartOutcome). set xs i o) e

pub take_done : (outcomes : List PartOutcome) (parts : ℕ) {os : List PartOutcome} {i : ℕ} {k k' : Call} {r : Reply} {o : PartOutcome} → take parts outcomes ≡ os → Gathers os k → TakesFor k i r → o ≡ outcome_of r → k' ≡ call_with i r k
    → Took os (take parts (set outcomes i o)) k k' i r
take_done outcomes parts {os} {i} {k} {k'} {r} {o} e g t is call_is =
    let new : take parts (set outcomes i o) ≡ set os i (outcome_of r) = put_among outcomes parts o e (within g t) ∙ ap (set os i) is in
    subst (λ w. Took os w k k' i r) (sym new) (subst (λ w. Took os (set os i (outcome_of r)) k w i r) (sym call_is) (took os k i r g t))

-- the bytes of a reply are few
few_of_read : (addr : Addr) (buf : List ℕ) → first_fault (call_faults (call.Read addr buf)) ≡ None → length buf ≤ 65536
few_of_read addr buf good = search rules

few_of_offload : (number op : ℕ) (sent buf : List ℕ) → first_fault (call_faults (call.Offload number op sent buf)) ≡ None → length buf ≤ 1024
few_of_offload number op sent buf good = search rules

pub few_bytes : (k : Call) (i : ℕ) (bytes : List ℕ) → first_fault (call_faults k) ≡ None → TakesFor k i (reply.Got bytes) → length bytes ≤ 65536
few_bytes (call.Read addr buf) i bytes good t =
    omega (arith, (place_of addr buf i bytes t).fits, few_of_read addr buf good)
few_bytes (call.Offload number op sent buf) i bytes good t =
    let only = first_alone (request.Offload number op (length buf) sent) t.asked i t.there in
    omega (arith, leb-true (length bytes) (length buf) (ap (λ q. is_reply_to q (reply.Got bytes)) only.1 ∙ t.fits), few_of_offload number op sent buf good)
few_bytes (call.Alloc pages perm) i bytes good t = absurd (no_bytes _ t.asked i bytes t.there refl t.fits)
few_bytes (call.Free addr pages) i bytes good t = absurd (no_bytes _ t.asked i bytes t.there refl t.fits)
few_bytes (call.Write addr sent) i bytes good t = absurd (no_bytes_of_write addr sent i bytes t)
few_bytes (call.Atomic addr op) i bytes good t = absurd (no_bytes _ t.asked i bytes t.there refl t.fits)
few_bytes call.Fence i bytes good t = absurd (let none = t.there in cc)

-- a piece of a Read begins where the pieces before it end
pub place_is : (addr : Addr) (buf : List ℕ) (i from len : ℕ) → slice_get (pieces addr.0 (length buf)) i ≡ Some (addr.0 + from, len) → from ≡ before i (fills (call.Read addr buf))
place_is addr buf i from len at = omega (arith, piece_place addr.0 (length buf) i (addr.0 + from, len) at)
