-- Parts, their requests and their ids, as an account grows.
use Rattle.std.proofs.Common.{◌≡◌, ℕ, zero, suc, ◌+◌, ◌≤◌, List, [], ◌∷◌, ◌++◌, refl, sym, ap, ◌∙◌, subst, Bool, true, false, cond, arith, Some, None, Option, ◌⊎◌, inl, inr, ⊎_elim}
use Rattle.std.specs.Prelude.{filter_map, is_some, option_and_then, count_by, ◌&&◌}
use Rattle.std.specs.List.{AllByRecursion as Each, cons_option}
use Rattle.std.proofs.lemmas.List.Elements.{filter_map-append}
use Rattle.cl_types.specs.declared.numbers.ClientNo.{ClientNo}
use Rattle.cl_types.specs.declared.call.Call.{Call}
use Rattle.cl_types.specs.declared.config.Config.{Config}
use Rattle.cl_types.specs.declared.request.Request.{Request}
use Rattle.cl_types.specs.declared.reply.Part.{Part}
use Rattle.cl_types.specs.declared.line.Did.{Did}
use Rattle.cl_types.specs.declared.line.Did.TheVariants as did
use Rattle.cl_types.specs.declared.schedule.Event.{Event}
use Rattle.cl_types.specs.Parts.{same_part}
use Rattle.client_model.specs.Cut.{Ending}
use Rattle.trace.specs.Account.{Account, Line, Effect, extended, now}
use Rattle.cl_types.specs.Parts.{same_client}
use Rattle.trace.specs.Clients.{issued, issued_on, first_sent, first_sending, first_of, texts_with, request_of_part, part_request, call_at, part_end, PartEnd, end_of_part, ending, ending_by, is_sending, sendings}
use Rattle.client_laws.specs.ClientLines.{Told}
use Rattle.trace_laws.proofs.PartsOnce.{is_over, Owned, Ids}
use Rattle.lemmas.proofs.Lists.{slice_get-append, and_then_some, none_read, each_weaker}
use Rattle.lemmas.proofs.SameParts.{eqb_same, same_is}
use Rattle.client_laws.proofs.Standings.{line_of, texts_extended, sent_kept}
use Rattle.client_laws.proofs.ClientLines.{sendings_extended}
use Rattle.client_laws.proofs.Cases.{IsQuiet}

-- ---- requests
call_at-append : (xs ys : List Call) (n : ℕ) (k : Call) → call_at xs n ≡ Some k → call_at (xs ++ ys) n ≡ Some k
call_at-append xs ys zero k e = grind arith
call_at-append xs ys (suc n) k e = slice_get-append xs ys n k e

pub call_kept : (a : Account) (l : ℕ) (event : Event) (e : Effect) (c : ClientNo) (n : ℕ) (k : Call) → call_at (issued a c) n ≡ Some k → call_at (issued (extended a l event e) c) n ≡ Some k
call_kept a l event e c n k h =
    ap (λ z. call_at z n) (filter_map-append (λ (line : Line). issued_on c line.event line.texts) a.lines (line_of a l event e ∷ [])) ∙ call_at-append (issued a c) _ n k h

pub request_kept : (a : Account) (l : ℕ) (event : Event) (e : Effect) (c : ClientNo) (p : Part) (r : Request) → request_of_part a c p ≡ Some r → request_of_part (extended a l event e) c p ≡ Some r
request_kept a l event e c p r h =
    let k = and_then_some (part_request p) (call_at (issued a c) p.call.0) r h in
    ap (option_and_then (part_request p)) (call_kept a l event e c p.call.0 k.0 k.1) ∙ k.2

-- ---- what was said stays
some_over : {X : Type 0} (xs ys : List X) → is_some (first_of xs) ≡ true → is_some (first_of (xs ++ ys)) ≡ true
some_over [] ys h = grind arith
some_over (x ∷ xs) ys h = refl

pub is_over_kept : (a : Account) (l : ℕ) (event : Event) (e : Effect) (c : ClientNo) (p : Part) → is_over a c p ≡ true → is_over (extended a l event e) c p ≡ true
is_over_kept a l event e c p h = ap (λ z. is_some (first_of z)) (texts_extended (part_end c p) a l event e) ∙ some_over (texts_with a (part_end c p)) _ h

pub owned_kept : (config : Config) (a : Account) (l : ℕ) (event : Event) (e : Effect) (c : ClientNo) (pid : ℕ) (p : Part) (r : Request) (o : ℕ) → Owned config a c pid p r o → Owned config (extended a l event e) c pid p r o
owned_kept config a l event e c pid p r o h = record {
  moment = h.moment;
  sent = sent_kept a l event e c p (o, h.moment) h.sent;
  request = request_kept a l event e c p r h.request;
  process = h.process;
}

-- where each end tells its ending, a part with no ending has not left flight
pub not_over : (a : Account) (c : ClientNo) (p : Part) → Told a c → ending a c p ≡ None → is_over a c p ≡ false
not_over a c p told none = go (end_of_part a c p) refl where
  none_some : (y : Ending) → ◌≡◌ {A = Option Ending} None (Some y) → ⊥
  none_some y e = grind arith

  go : (o : Option PartEnd) → end_of_part a c p ≡ o → is_some o ≡ false
  go None is = refl
  go (Some x) is = let y = told.told p x is in absurd (none_some y.0 (sym none ∙ ap (option_and_then (ending_by a c p)) is ∙ y.1))

-- ---- ids
first_cases : {X : Type 0} (xs ys : List X) (x : X) → first_of (xs ++ ys) ≡ Some x → (first_of xs ≡ Some x) ⊎ ((first_of xs ≡ None) × (first_of ys ≡ Some x))
first_cases [] ys x e = inr (refl, e)
first_cases (y ∷ xs) ys x e = inl e

pub sent_cases : (a : Account) (l : ℕ) (event : Event) (e : Effect) (c : ClientNo) (p : Part) (s : ℕ × ℕ) → first_sent (extended a l event e) c p ≡ Some s →
    (first_sent a c p ≡ Some s) ⊎ ((first_sent a c p ≡ None) × (first_of (filter_map (first_sending c p (now a l)) e.texts) ≡ Some s))
sent_cases a l event e c p s h = first_cases (texts_with a (first_sending c p)) _ s (sym (ap first_of (texts_extended (first_sending c p) a l event e)) ∙ h)

-- the text tells no first sending
abbrev pub NotSent : Did → Type 0
NotSent (did.Sent k c p id) = ⊥
NotSent other = Unit {0}

pub quiet_not_sent : (d : Did) → IsQuiet d → NotSent d
quiet_not_sent (did.Sent k c p id) h = h
quiet_not_sent other h = tt

not_sent_none : (c : ClientNo) (p : Part) (t : ℕ) (d : Did) → NotSent d → first_sending c p t d ≡ None
not_sent_none c p t (did.Sent k d q id) h = absurd h
not_sent_none c p t other h = refl

pub none_sent : (c : ClientNo) (p : Part) (t : ℕ) (ds : List Did) → Each NotSent ds → filter_map (first_sending c p t) ds ≡ []
none_sent c p t ds h = none_read (first_sending c p t) ds (each_weaker NotSent _ (λ d k. not_sent_none c p t d k) ds h)

-- the texts of an event name no first sending, or one alone under the next id
pub ids_quiet : (a : Account) (l : ℕ) (event : Event) (e : Effect) → Ids a → Each NotSent e.texts → Ids (extended a l event e)
ids_quiet a l event e i n = record {
  below = λ c p o m h. let b : o ≤ sendings a c = i.below c p o m (old c p (o, m) h) in omega (arith, sendings_extended a l event e c);
  one = λ c p q o m n h k. i.one c p q o m n (old c p (o, m) h) (old c q (o, n) k);
}
  where
    none_some : (s : ℕ × ℕ) → ◌≡◌ {A = Option (ℕ × ℕ)} None (Some s) → ⊥
    none_some s z = grind arith

    old : (c : ClientNo) (p : Part) (s : ℕ × ℕ) → first_sent (extended a l event e) c p ≡ Some s → first_sent a c p ≡ Some s
    old c p s h = ⊎_elim (λ (x : first_sent a c p ≡ Some s). x) (λ (x : (first_sent a c p ≡ None) × (first_of (filter_map (first_sending c p (now a l)) e.texts) ≡ Some s)).
        absurd (none_some s (sym (ap first_of (none_sent c p (now a l) e.texts n)) ∙ x.1))) (sent_cases a l event e c p s h)

pub sent_of : (c c' : ClientNo) (p p' : Part) (k id t o m : ℕ) → first_of (filter_map (first_sending c p t) (did.Sent k c' p' id ∷ [])) ≡ Some (o, m) → (c ≡ c') × (p ≡ p') × (o ≡ id)
sent_of c c' p p' k id t o m h = go (same_client c c' && same_part p p') refl h
  where
    go : (b : Bool) → (same_client c c' && same_part p p') ≡ b → first_of {A = ℕ × ℕ} (cons_option (cond b (Some (id, t)) None) []) ≡ Some (o, m) → (c ≡ c') × (p ≡ p') × (o ≡ id)
    go true e h = let s = same_is c c' p p' e in (s.0, s.1, grind arith)
    go false e h = grind arith

one_sending : (c : ClientNo) (p : Part) (k id : ℕ) → count_by (is_sending c) (did.Sent k c p id ∷ []) ≡ 1
one_sending c p k id = rw (eqb_same c.0) refl

pub ids_sent : (a : Account) (l : ℕ) (event : Event) (e : Effect) (k : ℕ) (c' : ClientNo) (p' : Part) → Ids a → e.texts ≡ did.Sent k c' p' (sendings a c' + 1) ∷ [] → Ids (extended a l event e)
ids_sent a l event e k c' p' i tx = record {
  below = λ c p o m h. ⊎_elim
      (λ (x : first_sent a c p ≡ Some (o, m)). let b : o ≤ sendings a c = i.below c p o m x in omega (arith, sendings_extended a l event e c))
      (λ (x : (c ≡ c') × (p ≡ p') × (o ≡ sendings a c' + 1)). let count : count_by (is_sending c) e.texts ≡ 1 = counted c x.0 in let same : sendings a c ≡ sendings a c' = ap (sendings a) x.0 in let is : o ≡ sendings a c' + 1 = x.2 in
      omega (arith, sendings_extended a l event e c))
      (cases c p o m h);
  one = λ c p q o m n h j. ⊎_elim
      (λ (x : first_sent a c p ≡ Some (o, m)). ⊎_elim
      (λ (y : first_sent a c q ≡ Some (o, n)). i.one c p q o m n x y)
      (λ (y : (c ≡ c') × (q ≡ p') × (o ≡ sendings a c' + 1)). absurd (above c o p m x y.0 y.2))
      (cases c q o n j))
      (λ (x : (c ≡ c') × (p ≡ p') × (o ≡ sendings a c' + 1)). ⊎_elim
      (λ (y : first_sent a c q ≡ Some (o, n)). absurd (above c o q n y x.0 x.2))
      (λ (y : (c ≡ c') × (q ≡ p') × (o ≡ sendings a c' + 1)). x.1 ∙ sym y.1)
      (cases c q o n j))
      (cases c p o m h);
}
  where
    counted : (c : ClientNo) → c ≡ c' → count_by (is_sending c) e.texts ≡ 1
    counted c s = ap (count_by (is_sending c)) tx ∙ subst (λ z. count_by (is_sending z) (did.Sent k c' p' (sendings a c' + 1) ∷ []) ≡ 1) (sym s) (one_sending c' p' k (sendings a c' + 1))

    above : (c : ClientNo) (o : ℕ) (p : Part) (m : ℕ) → first_sent a c p ≡ Some (o, m) → c ≡ c' → o ≡ sendings a c' + 1 → ⊥
    above c o p m x s is = let b : o ≤ sendings a c = i.below c p o m x in let same : sendings a c ≡ sendings a c' = ap (sendings a) s in omega arith

    cases : (c : ClientNo) (p : Part) (o m : ℕ) → first_sent (extended a l event e) c p ≡ Some (o, m) → (first_sent a c p ≡ Some (o, m)) ⊎ ((c ≡ c') × (p ≡ p') × (o ≡ sendings a c' + 1))
    cases c p o m h = ⊎_elim (λ (x : first_sent a c p ≡ Some (o, m)). inl x)
        (λ (x : (first_sent a c p ≡ None) × (first_of (filter_map (first_sending c p (now a l)) e.texts) ≡ Some (o, m))).
        inr (sent_of c c' p p' k (sendings a c' + 1) (now a l) o m (subst (λ z. first_of (filter_map (first_sending c p (now a l)) z) ≡ Some (o, m)) tx x.1)))
        (sent_cases a l event e c p (o, m) h)
