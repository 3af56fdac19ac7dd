-- What an event leaves of moments and first sendings.
use Rattle.std.proofs.Common.{◌≡◌, ℕ, ◌+◌, ◌<◌, ◌≤◌, List, [], ◌∷◌, ◌++◌, refl, ap, ◌∙◌, Some, None, Bool, true, false, cond, arith}
use Rattle.std.specs.Prelude.{filter, filter_map, sum_by, nat_lt}
use Rattle.std.proofs.lemmas.List.{append-nil}
use Rattle.std.proofs.lemmas.List.Elements.{filter-append}
use Rattle.std.proofs.lemmas.List.Sums.{sum_by-append}
use Rattle.std.proofs.lemmas.Bool.Decides.{nat_tests}
use Rattle.cl_types.specs.declared.numbers.ClientNo.{ClientNo}
use Rattle.cl_types.specs.declared.reply.Part.{Part}
use Rattle.cl_types.specs.declared.line.Did.{Did}
use Rattle.cl_types.specs.declared.line.Did.TheVariants as did
use Rattle.cl_types.specs.declared.schedule.Event.{Event}
use Rattle.trace.specs.Account.{Account, Line, Effect, ticks_of, now, extended}
use Rattle.trace.specs.Clients.{first_sent, first_sending, first_of, texts_with, texts_on}
use Rattle.std.specs.List.{AllByRecursion as Each}
use Rattle.trace_laws.specs.Times.{clock, FirstAt}
use Rattle.client_laws.proofs.Standings.{line_of, texts_extended}
use Rattle.lemmas.proofs.Lists.{each_flat_map, each_filter_map}
use Rattle.client_laws.proofs.Entries.{each_first, first_of-append, first_of-append_none}

-- ---- time
none_later : (line : Line) (m l : ℕ) → line.number ≡ l → m ≤ l → filter (λ (x : Line). nat_lt x.number m) (line ∷ []) ≡ []
none_later line m l e h = go (nat_lt line.number m) (grind (arith, nat_tests))
  where
    go : (b : Bool) → b ≡ false → cond b (line ∷ []) [] ≡ []
    go b e = rw e refl

pub now_kept : (a : Account) (l m : ℕ) (event : Event) (e : Effect) → m ≤ l → now (extended a l event e) m ≡ now a m
now_kept a l m event e h =
    ap (sum_by (λ (line : Line). ticks_of line.event))
    (filter-append (λ (x : Line). nat_lt x.number m) a.lines (line_of a l event e ∷ [])
    ∙ ap (λ z. filter (λ (x : Line). nat_lt x.number m) a.lines ++ z) (none_later (line_of a l event e) m l refl h)
    ∙ append-nil _)

all_earlier : (l : ℕ) (lines : List Line) → Each (λ (line : Line). line.number < l) lines → filter (λ (x : Line). nat_lt x.number l) lines ≡ lines
all_earlier l [] h = refl
all_earlier l (x ∷ xs) h = go (nat_lt x.number l) (let k : x.number < l = h.0 in grind (arith, nat_tests)) (all_earlier l xs h.1)
  where
    go : (b : Bool) → b ≡ true → filter (λ (x : Line). nat_lt x.number l) xs ≡ xs → cond b (x ∷ filter (λ (x : Line). nat_lt x.number l) xs) (filter (λ (x : Line). nat_lt x.number l) xs) ≡ x ∷ xs
    go b e f = rw e (ap (λ z. x ∷ z) f)

pub now_clock : (a : Account) (l : ℕ) → Each (λ (line : Line). line.number < l) a.lines → now a l ≡ clock a
now_clock a l h = ap (sum_by (λ (line : Line). ticks_of line.event)) (all_earlier l a.lines h)

pub clock_extended : (a : Account) (l : ℕ) (event : Event) (e : Effect) → clock (extended a l event e) ≡ clock a + ticks_of event
clock_extended a l event e = sum_by-append (λ (line : Line). ticks_of line.event) a.lines (line_of a l event e ∷ []) ∙ ap (λ z. clock a + z) (let z : 0 + ticks_of event ≡ ticks_of event = omega arith in z)

-- ---- first sendings
pub first_kept : (a : Account) (l : ℕ) (event : Event) (e : Effect) (c : ClientNo) (p : Part) (m : ℕ) → FirstAt a c p m → FirstAt (extended a l event e) c p m
first_kept a l event e c p m h = record {
  id = h.id;
  sent = ap first_of (texts_extended (first_sending c p) a l event e) ∙ first_of-append (texts_with a (first_sending c p)) _ _ h.sent;
}

-- where the part was never sent, the texts of the event tell
pub first_new : (a : Account) (l : ℕ) (event : Event) (e : Effect) (c : ClientNo) (p : Part) (id : ℕ) →
    first_sent a c p ≡ None → first_of (filter_map (first_sending c p (now a l)) e.texts) ≡ Some (id, now a l) → FirstAt (extended a l event e) c p (now a l)
first_new a l event e c p id none new = record {
  id = id;
  sent = ap first_of (texts_extended (first_sending c p) a l event e) ∙ first_of-append_none (texts_with a (first_sending c p)) _ none ∙ new;
}

-- a first sending is on a line so far
sending_moment : (c : ClientNo) (p : Part) (t : ℕ) (d : Did) (s : ℕ × ℕ) → first_sending c p t d ≡ Some s → s.1 ≡ t
sending_moment c p t (did.Sent frame client part id) s e = grind arith
sending_moment c p t other s e = grind arith

pub first_not_after : (a : Account) (t : ℕ) (c : ClientNo) (p : Part) (m : ℕ) → Each (λ (line : Line). line.moment ≤ t) a.lines → FirstAt a c p m → m ≤ t
first_not_after a t c p m h f =
    each_first (λ (s : ℕ × ℕ). s.1 ≤ t) (texts_with a (first_sending c p)) (f.id, m)
    (each_flat_map (λ (s : ℕ × ℕ). s.1 ≤ t) (λ (line : Line). line.moment ≤ t) (texts_on (first_sending c p))
    (λ line k. each_filter_map (λ (s : ℕ × ℕ). s.1 ≤ t) (first_sending c p line.moment) (λ d s e. rw (sending_moment c p line.moment d s e) k) line.texts)
    a.lines h)
    f.sent
