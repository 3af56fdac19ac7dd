-- What the state of a client says of the account that it is read off.
use Rattle.std.proofs.Common.{◌≡◌, ℕ, suc, ◌+◌, List, [], ◌∷◌, refl, ap, sym, ◌∙◌, subst, Some, None, Option, Bool, true, false, cond, arith, map}
use Rattle.std.specs.Prelude.{filter, not, slice_get, option_and_then}
use Rattle.std.specs.List.{AllByRecursion as Each, enumerate_from}
use Rattle.cl_types.specs.declared.numbers.ClientNo.{ClientNo}
use Rattle.cl_types.specs.declared.config.Config.{Config}
use Rattle.cl_types.specs.declared.call.Call.{Call}
use Rattle.cl_types.specs.declared.request.Request.{Request}
use Rattle.cl_types.specs.declared.reply.Part.{Part}
use Rattle.client_model.specs.Cut.{Ending, cut}
use Rattle.client_model.specs.Order.{footprint, may_go}
use Rattle.trace.specs.Account.{Account}
use Rattle.client_model.specs.Client.{Standing, Unsent, InFlight, Over, ClientState, ClientPart, ClientCall, Sending, flight, flights, parts_of, prints, ready, sendable, is_unsent, standing_so, call_standing, named, parts_named}
use Rattle.trace.specs.Clients.{issued, call_at, part_request, request_of_part, first_sent, ending, standing, standing_at, numbered, has_ended, moments_sent, client_at}
use Rattle.client_laws.specs.Flights.{FlightOf}
use Rattle.lemmas.proofs.Lists.{each_weaker, each_map, each_filter_from, each_filter_map_from, each_flat_map}

-- ---- calls
-- the call of the account that stands so in the state
pub record CallOf (a : Account) (c : ClientNo) (k : ClientCall) : Type 0 where
  pub call : Call
  pub is_call : call_at (issued a c) k.number ≡ Some call
  pub stands : k ≡ call_standing (standing_at a c) (k.number, call)

-- each of a list is found at its number
enumerated : {X : Type 0} (all xs : List X) (n : ℕ) → ((j : ℕ) → slice_get all (n + j) ≡ slice_get xs j) → Each (λ (q : ℕ × X). slice_get all q.0 ≡ Some q.1) (enumerate_from n xs)
enumerated all [] n h = tt
enumerated all (x ∷ xs) n h = (subst (λ z. slice_get all z ≡ Some x) (omega arith) (h 0), enumerated all xs (n + 1) (λ j. subst (λ z. slice_get all z ≡ slice_get xs j) (omega arith) (h (suc j))))

numbered_are : (all calls : List Call) (n : ℕ) → ((j : ℕ) → slice_get all (n + j) ≡ slice_get calls j) → Each (λ (k : ℕ × Call). call_at all k.0 ≡ Some k.1) (enumerate_from (n + 1) calls)
numbered_are all [] n h = tt
numbered_are all (k ∷ calls) n h =
    let here : slice_get all n ≡ Some k = subst (λ z. slice_get all z ≡ Some k) (omega arith) (h 0) in (
      subst (λ z. call_at all z ≡ Some k) (let z : suc n ≡ n + 1 = omega arith in z) here,
      numbered_are all calls (n + 1) (λ j. subst (λ z. slice_get all z ≡ slice_get calls j) (omega arith) (h (suc j))),
    )

pub calls_are : (config : Config) (a : Account) (c : ClientNo) → Each (CallOf a c) (client_at config a c).calls
calls_are config a c =
    each_filter_from (CallOf a c) (λ k. not (has_ended a c k)) (map (call_standing (standing_at a c)) (numbered a c))
    (each_map (CallOf a c) (call_standing (standing_at a c)) (numbered a c)
    (each_weaker (λ (k : ℕ × Call). call_at (issued a c) k.0 ≡ Some k.1) _ (λ k is. record { call = k.1; is_call = is; stands = refl }) (numbered a c)
    (numbered_are (issued a c) (issued a c) 0 (λ j. ap (slice_get (issued a c)) (omega arith)))))

-- ---- parts
-- a part of an issued call, with its request, that stands as the account says
pub record PartOf (a : Account) (c : ClientNo) (p : ClientPart) : Type 0 where
  pub stands : p.standing ≡ standing_at a c p.part
  pub request : request_of_part a c p.part ≡ Some p.request

-- of the call of this number
pub record PartIn (a : Account) (c : ClientNo) (n : ℕ) (p : ClientPart) : Type 0 where
  pub its : PartOf a c p
  pub number : p.part.call.0 ≡ n

parts_in_call : (a : Account) (c : ClientNo) (n : ℕ) (k : Call) → call_at (issued a c) n ≡ Some k → Each (PartIn a c n) (map (standing_so (standing_at a c)) (parts_named n k))
parts_in_call a c n k at_number =
    each_map (PartIn a c n) (standing_so (standing_at a c)) (parts_named n k)
    (each_map (λ (p : Part × Request). PartIn a c n (standing_so (standing_at a c) p)) (named n) (enumerate_from 0 (cut k))
    (each_weaker (λ (q : ℕ × Request). slice_get (cut k) q.0 ≡ Some q.1) _
    (λ q is. record {
      its = record { stands = refl; request = ap (option_and_then (part_request (record { call = record { 0 = n }; part = q.0 }))) at_number ∙ is };
      number = refl;
    })
    (enumerate_from 0 (cut k)) (enumerated (cut k) (cut k) 0 (λ j. ap (slice_get (cut k)) (omega arith)))))

parts_in : (a : Account) (c : ClientNo) (k : ClientCall) → CallOf a c k → Each (PartIn a c k.number) k.parts
parts_in a c k of = subst (λ (j : ClientCall). Each (PartIn a c k.number) j.parts) (sym of.stands) (parts_in_call a c k.number of.call of.is_call)

pub parts_are : (config : Config) (a : Account) (c : ClientNo) → Each (PartOf a c) (parts_of (client_at config a c).calls)
parts_are config a c =
    each_flat_map (PartOf a c) (CallOf a c) (λ (k : ClientCall). k.parts)
    (λ k of. each_weaker (PartIn a c k.number) (PartOf a c) (λ p h. h.its) k.parts (parts_in a c k of)) (client_at config a c).calls (calls_are config a c)

-- ---- flights
standing_in_flight : (e : Option Ending) (s : Option (ℕ × ℕ)) (ms : List ℕ) (o f l : ℕ) → standing e s ms ≡ InFlight o f l → (e ≡ None) × (s ≡ Some (o, f))
standing_in_flight (Some e) s ms o f l h = grind arith
standing_in_flight None None ms o f l h = grind arith
standing_in_flight None (Some (a, b)) ms o f l h = (refl, let x : a ≡ o = cc in let y : b ≡ f = cc in λ i. Some (x i, y i))

flight_is : (a : Account) (c : ClientNo) (p : Part) (r : Request) (s : Standing) → s ≡ standing_at a c p → request_of_part a c p ≡ Some r → (f : Sending) → flight p r s ≡ Some f → FlightOf a c f
flight_is a c p r Unsent h k f e = grind arith
flight_is a c p r (Over x) h k f e = grind arith
flight_is a c p r (InFlight o first last) h k f e =
    let s = standing_in_flight (ending a c p) (first_sent a c p) (moments_sent a c p) o first last (sym h) in
    let g : Sending = record { part = p; request = r; orig = o; first = first; last = last } in
    let same : g ≡ f = cc in
    let its : FlightOf a c g = record { stands = sym h; request = k; sent = s.1; is_open = s.0 } in
    subst (FlightOf a c) same its

pub flights_are : (config : Config) (a : Account) (c : ClientNo) → Each (FlightOf a c) (flights (client_at config a c))
flights_are config a c =
    each_filter_map_from (FlightOf a c) (PartOf a c) (λ p. flight p.part p.request p.standing)
    (λ p f of e. flight_is a c p.part p.request p.standing of.stands of.request f e) (parts_of (client_at config a c).calls) (parts_are config a c)

-- ---- unsent parts of ready calls
-- the call waits for none of the calls of the state
abbrev pub GoesIn : ClientState → ClientCall → Type 0
GoesIn s k = may_go (prints s.calls) (k.number, footprint k.call) ≡ true

pub record SendableOf (config : Config) (a : Account) (c : ClientNo) (p : ClientPart) : Type 0 where
  pub unsent : first_sent a c p.part ≡ None
  pub is_open : ending a c p.part ≡ None
  pub request : request_of_part a c p.part ≡ Some p.request
  -- its call, which is ready
  pub call : ClientCall
  pub of : CallOf a c call
  pub number : p.part.call.0 ≡ call.number
  pub goes : GoesIn (client_at config a c) call

each_filter_both : {X : Type 0} (P : X → Type 0) (test : X → Bool) (xs : List X) → Each P xs → Each (λ (x : X). P x × (test x ≡ true)) (filter test xs)
each_filter_both P test [] h = tt
each_filter_both {X} P test (x ∷ xs) h = go (test x) refl (each_filter_both P test xs h.1)
  where
    go : (b : Bool) → test x ≡ b → Each (λ (x : X). P x × (test x ≡ true)) (filter test xs) → Each (λ (x : X). P x × (test x ≡ true)) (cond b (x ∷ filter test xs) (filter test xs))
    go true is k = ((h.0, is), k)
    go false is k = k

standing_unsent : (e : Option Ending) (s : Option (ℕ × ℕ)) (ms : List ℕ) → standing e s ms ≡ Unsent → (e ≡ None) × (s ≡ None)
standing_unsent (Some e) s ms h = grind arith
standing_unsent None None ms h = (refl, refl)
standing_unsent None (Some (a, b)) ms h = grind arith

unsent_is : (s : Standing) → is_unsent s ≡ true → s ≡ Unsent
unsent_is Unsent h = refl
unsent_is (InFlight o f l) h = grind arith
unsent_is (Over e) h = grind arith

-- the part is in a call that is ready
abbrev InReady : Config → Account → ClientNo → ClientPart → Type 0
InReady config a c p = PartOf a c p × (k : ClientCall) × CallOf a c k × (p.part.call.0 ≡ k.number) × GoesIn (client_at config a c) k

sendable_is : (config : Config) (a : Account) (c : ClientNo) (p : ClientPart) → InReady config a c p → is_unsent p.standing ≡ true → SendableOf config a c p
sendable_is config a c p h u =
    let s = standing_unsent (ending a c p.part) (first_sent a c p.part) (moments_sent a c p.part) (sym h.0.stands ∙ unsent_is p.standing u) in
    record { unsent = s.1; is_open = s.0; request = h.0.request; call = h.1; of = h.2; number = h.3; goes = h.4 }

pub sendable_are : (config : Config) (a : Account) (c : ClientNo) → Each (SendableOf config a c) (sendable (client_at config a c))
sendable_are config a c =
    each_weaker (λ (p : ClientPart). InReady config a c p × (is_unsent p.standing ≡ true)) (SendableOf config a c) (λ p h. sendable_is config a c p h.0 h.1) (sendable (client_at config a c))
    (each_filter_both (InReady config a c) (λ p. is_unsent p.standing) (parts_of (ready (client_at config a c)))
    (each_flat_map (InReady config a c) (λ (k : ClientCall). CallOf a c k × GoesIn (client_at config a c) k) (λ (k : ClientCall). k.parts)
    (λ k h. each_weaker (PartIn a c k.number) (InReady config a c) (λ p q. (q.its, k, h.0, q.number, h.1)) k.parts (parts_in a c k h.0))
    (ready (client_at config a c))
    (each_filter_both (CallOf a c) (λ (k : ClientCall). may_go (prints (client_at config a c).calls) (k.number, footprint k.call)) (client_at config a c).calls (calls_are config a c))))
