-- The parts of the calls by their names, and the entries of the flight that they have.
use Rattle.std.proofs.Common.{◌≡◌, ◌≢◌, ℕ, zero, suc, ◌+◌, ◌<◌, ◌≤◌, List, [], ◌∷◌, ◌++◌, refl, ap, sym, ◌∙◌, subst, inl, inr, Some, None, Option, Bool, true, false, cond, arith, map, length, get_or, set}
use Rattle.std.specs.Prelude.{◌==◌, ◌||◌, ◌&&◌, nat_lt, find, filter_map, flat_map, slice_get}
use Rattle.std.specs.List.{AllByRecursion as Each, cons_option, enumerate_from, list_any}
use Rattle.std.proofs.lemmas.Bool.Decides.{nat_tests}
use Rattle.std.proofs.lemmas.Option.{slice_get-get_or}
use Rattle.cl_types.specs.declared.request.Request.{Request}
use Rattle.cl_types.specs.declared.reply.Part.{Part}
use Rattle.client_model.specs.Cut.{cut, Ending}
use Rattle.client_model.specs.Order.{is_fence}
use Rattle.cl_types.specs.Parts.{same_part}
use Rattle.client_model.specs.Client.{ClientPart, Standing, Unsent, InFlight, Over, flight, named, parts_of, standing_so}
use Rattle.client_retry.specs.declared.flown.Flown.{Flown}
use Rattle.client_retry.specs.Flights.{is_before}
use Rattle.client_core.specs.Held.{Held, held_at, IsAwaited}
use Rattle.client_model.specs.Apart.{AreApart}
use Rattle.client_core.specs.Valid.{AreRising}
use Rattle.client_core.specs.Fields.{standing_by, standing_flown, standing_in, call_in, flown_of, flown_among, IsFit}
use Rattle.client_core.proofs.Basics.{eqb_below, contrary, fence_parts, none_some}
use Rattle.client_core.proofs.Flying.{InOrder, HasStanding, IsNamed, same_is}
use Rattle.client_core.proofs.Standing.{part_at, same_refl, Only, of_part}
use Rattle.lemmas.proofs.SameParts.{eqb_same, eqb_is}
use Rattle.lemmas.proofs.Lists.{each_weaker, each_weaker_with as each_with, each_append, each_filter_map_from as each_filter_map, each_map, find_some as each_found}

-- ---- the parts of one call
abbrev pub parts_from : (Part → Standing) → ℕ → ℕ → List Request → List ClientPart
parts_from how n s rs = map (standing_so how) (map (named n) (enumerate_from s rs))

pub each_part : (P : ClientPart → Type 0) (how : Part → Standing) (n s : ℕ) (rs : List Request) →
    ((j : ℕ) (r : Request) → s ≤ j → j < s + length rs → P (standing_so how (named n (j, r)))) → Each P (parts_from how n s rs)
each_part P how n s [] h = tt
each_part P how n s (r ∷ rs) h = (h s r (omega arith) (omega arith), each_part P how n (s + 1) rs (λ j q from to. h j q (omega arith) (omega arith)))

before_in_call : (n i j : ℕ) → i < j → is_before (part_at n i) (part_at n j) ≡ true
before_in_call n i j h = grind (arith, nat_tests)

before_call : (p : Part) (n j : ℕ) → p.call.0 < n → is_before p (part_at n j) ≡ true
before_call p n j h = go p.call.0 p.part h
  where
    go : (a x : ℕ) → a < n → (nat_lt a n || a == n && nat_lt x j) ≡ true
    go a x l = grind (arith, nat_tests)

in_call : (how : Part → Standing) (n s : ℕ) (rs : List Request) → InOrder (parts_from how n s rs)
in_call how n s [] = tt
in_call how n s (r ∷ rs) = (each_part (λ q. is_before (part_at n s) q.part ≡ true) how n (s + 1) rs (λ j q from to. before_in_call n s j (omega arith)), in_call how n (s + 1) rs)

in_order_append : (xs ys : List ClientPart) → InOrder xs → InOrder ys → Each (λ (p : ClientPart). Each (λ (q : ClientPart). is_before p.part q.part ≡ true) ys) xs → InOrder (xs ++ ys)
in_order_append [] ys a b c = b
in_order_append (x ∷ xs) ys a b c = (each_append (λ (q : ClientPart). is_before x.part q.part ≡ true) xs ys a.0 c.0, in_order_append xs ys a.1 b c.1)

-- ---- numbers that rise
abbrev pub numbers : List Held → List ℕ
numbers hs = map (λ h. h.number) hs

pub all_above : (m n last : ℕ) (hs : List Held) → m ≤ n → AreRising n last (numbers hs) → Each (λ (h : Held). m < h.number) hs
all_above m n last [] le r = tt
all_above m n last (h ∷ hs) le r = let less : n < h.number = r.0 in (omega arith, all_above m h.number last hs (omega arith) r.1)

later_calls : (fs : List Flown) (p : Part) (m last : ℕ) (hs : List Held) → p.call.0 ≤ m → AreRising m last (numbers hs) → Each (λ (q : ClientPart). is_before p q.part ≡ true) (parts_of (map (call_in fs) hs))
later_calls fs p m last [] le r = tt
later_calls fs p m last (h ∷ hs) le r =
    let less : m < h.number = r.0 in
    each_append (λ (q : ClientPart). is_before p q.part ≡ true) (parts_from (standing_in fs h) h.number 0 (cut h.call)) (parts_of (map (call_in fs) hs))
    (each_part (λ q. is_before p q.part ≡ true) (standing_in fs h) h.number 0 (cut h.call) (λ j q from to. before_call p h.number j (omega arith)))
    (later_calls fs p h.number last hs (omega arith) r.1)

pub in_order : (fs : List Flown) (m last : ℕ) (hs : List Held) → AreRising m last (numbers hs) → InOrder (parts_of (map (call_in fs) hs))
in_order fs m last [] r = tt
in_order fs m last (h ∷ hs) r =
    in_order_append (parts_from (standing_in fs h) h.number 0 (cut h.call)) (parts_of (map (call_in fs) hs)) (in_call (standing_in fs h) h.number 0 (cut h.call)) (in_order fs h.number last hs r.1)
    (each_part (λ p. Each (λ (q : ClientPart). is_before p.part q.part ≡ true) (parts_of (map (call_in fs) hs))) (standing_in fs h) h.number 0 (cut h.call)
    (λ j q from to. later_calls fs (part_at h.number j) h.number last hs (omega arith) r.1))

-- each call is the first of its number
abbrev pub IsThere : List Held → Held → Type 0
IsThere hs h = held_at h.number hs ≡ Some h

pub all_there : (m last : ℕ) (hs : List Held) → AreRising m last (numbers hs) → Each (IsThere hs) hs
all_there m last [] r = tt
all_there m last (h ∷ hs) r = (
  ap (λ b. cond b (Some h) (held_at h.number hs)) (eqb_same h.number),
  each_with (λ (g : Held). h.number < g.number) (IsThere hs) (IsThere (h ∷ hs)) (λ g less there. ap (λ b. cond b (Some h) (held_at g.number hs)) (eqb_below h.number g.number less) ∙ there) hs
      (all_above h.number h.number last hs (omega arith) r.1) (all_there h.number last hs r.1),
)

pub only_there : (n : ℕ) (hs : List Held) (h : Held) → Each (IsThere hs) hs → held_at n hs ≡ Some h → Each (λ (g : Held). (g.number == n) ≡ true → g ≡ h) hs
only_there n hs h there at = each_weaker (IsThere hs) (λ (g : Held). (g.number == n) ≡ true → g ≡ h) (λ g is e.
    let named_so : held_at n hs ≡ Some g = subst (λ m. held_at m hs ≡ Some g) (eqb_is g.number n e) is in
    one g named_so) hs there
  where
    one : (g : Held) → held_at n hs ≡ Some g → g ≡ h
    one g e = cc

-- ---- a part that stands in flight, and its entry
pub record IsInFlight (hs : List Held) (fs : List Flown) (f : Flown) : Type 0 where
  pub awaited : IsAwaited f.part hs
  pub stands : standing_in fs awaited.h f.part ≡ InFlight f.orig f.first f.last
  pub entry : of_part f.part fs ≡ Some f

record FliesBy (came : Option Ending) (sent : Bool) (found : Option Flown) (o first last : ℕ) : Type 0 where
  still : came ≡ None
  was_sent : sent ≡ true
  f : Flown
  is : found ≡ Some f
  orig_is : f.orig ≡ o
  first_is : f.first ≡ first
  last_is : f.last ≡ last

flies_by : (came : Option Ending) (sent : Bool) (found : Option Flown) (o first last : ℕ) → 1 ≤ o → standing_by came sent found ≡ InFlight o first last → FliesBy came sent found o first last
flies_by (Some e) sent found o first last some h = absurd cc
flies_by None true (Some f) o first last some h = record { still = refl; was_sent = refl; f = f; is = refl; orig_is = cc; first_is = cc; last_is = cc }
flies_by None true None o first last some h = absurd (let z : ◌≡◌ {A = ℕ} 0 o = cc in omega arith)
flies_by None false found o first last some h = absurd cc

abbrev Flies : List Held → List Flown → ClientPart → Type 0
Flies hs fs q = (o first last : ℕ) → q.standing ≡ InFlight o first last → 1 ≤ o → IsInFlight hs fs (record { part = q.part; orig = o; first = first; last = last })

part_flies : (hs : List Held) (fs : List Flown) (h : Held) → IsFit h → IsThere hs h → (j : ℕ) → j < length (cut h.call) → (o first last : ℕ) →
    standing_in fs h (part_at h.number j) ≡ InFlight o first last → 1 ≤ o → IsInFlight hs fs (record { part = part_at h.number j; orig = o; first = first; last = last })
part_flies hs fs h fit there j within o first last e some =
    let by = flies_by (get_or h.came j None) (nat_lt j h.sent) (of_part (part_at h.number j) fs) o first last some e in
    let inside : j < length h.came = subst (λ n. j < n) (sym fit.parts) within in
    let sent : nat_lt j h.sent ≡ true = by.was_sent in
    record {
      awaited = record { h = h; there = there; no_fence = has_part (is_fence h.call) refl; sent = below j h.sent sent; still = slice_get-get_or h.came j None inside ∙ ap (λ o. Some o) by.still };
      stands = e;
      entry = by.is ∙ ap (λ f. Some f) (same_entry by.f by.orig_is by.first_is by.last_is (found_part by.f by.is));
    }
  where
    has_part : (b : Bool) → is_fence h.call ≡ b → is_fence h.call ≡ false
    has_part true e = absurd (let none : length (cut h.call) ≡ 0 = ap (length {A = Request}) (fence_parts h.call e) in omega (arith, none, within))
    has_part false e = e

    below : (i n : ℕ) → nat_lt i n ≡ true → i < n
    below i n h = grind (arith, nat_tests)

    always : (gs : List Flown) → Each (λ (g : Flown). Unit {0}) gs
    always [] = tt
    always (g ∷ gs) = (tt, always gs)

    found_part : (f : Flown) → of_part (part_at h.number j) fs ≡ Some f → part_at h.number j ≡ f.part
    found_part f is = same_is (part_at h.number j) f.part (each_found (λ (g : Flown). Unit {0}) (λ f. same_part (part_at h.number j) f.part) fs f (always fs) is).1

    same_entry : (f : Flown) → f.orig ≡ o → f.first ≡ first → f.last ≡ last → part_at h.number j ≡ f.part → f ≡ record { part = part_at h.number j; orig = o; first = first; last = last }
    same_entry f a b c d = λ i. record { part = sym d i; orig = a i; first = b i; last = c i }

parts_fly : (all : List Held) (fs : List Flown) (hs : List Held) → Each IsFit hs → Each (IsThere all) hs → Each (Flies all fs) (parts_of (map (call_in fs) hs))
parts_fly all fs [] fits there = tt
parts_fly all fs (h ∷ hs) fits there =
    each_append (Flies all fs) (parts_from (standing_in fs h) h.number 0 (cut h.call)) (parts_of (map (call_in fs) hs))
    (each_part (Flies all fs) (standing_in fs h) h.number 0 (cut h.call) (λ j r from to o first last e some. part_flies all fs h fits.0 there.0 j (omega arith) o first last e some))
    (parts_fly all fs hs fits.1 there.1)

-- ---- from parts to entries, and back
entries : (P : Flown → Type 0) (ps : List ClientPart) → Each (λ (q : ClientPart). (o first last : ℕ) → q.standing ≡ InFlight o first last → P (record { part = q.part; orig = o; first = first; last = last })) ps → Each P (flown_among ps)
entries P [] h = tt
entries P (q ∷ ps) h = go q.standing refl (entries P ps h.1)
  where
    go : (s : Standing) → q.standing ≡ s → Each P (flown_among ps) → Each P (map flown_of (cons_option (flight q.part q.request s) (filter_map (λ p. flight p.part p.request p.standing) ps)))
    go Unsent e r = r
    go (InFlight o first last) e r = (h.0 o first last e, r)
    go (Over x) e r = r

pub unflown : (P : Flown → Type 0) (ps : List ClientPart) → Each P (flown_among ps) → Each (λ (q : ClientPart). (o first last : ℕ) → q.standing ≡ InFlight o first last → P (record { part = q.part; orig = o; first = first; last = last })) ps
unflown P [] h = tt
unflown P (q ∷ ps) h = go (unflown P ps) q.standing h
  where
    go : (Each P (flown_among ps) → Each (λ (q : ClientPart). (o first last : ℕ) → q.standing ≡ InFlight o first last → P (record { part = q.part; orig = o; first = first; last = last })) ps) →
        (s : Standing) → Each P (map flown_of (cons_option (flight q.part q.request s) (filter_map (λ p. flight p.part p.request p.standing) ps))) →
        ((o first last : ℕ) → s ≡ InFlight o first last → P (record { part = q.part; orig = o; first = first; last = last })) × Each (λ (q : ClientPart). (o first last : ℕ) → q.standing ≡ InFlight o first last → P (record { part = q.part; orig = o; first = first; last = last })) ps
    go rec Unsent r = (λ o first last e. absurd cc, rec r)
    go rec (InFlight a b c) r = (
      λ o first last e.
          let x : a ≡ o = cc in let y : b ≡ first = cc in let z : c ≡ last = cc in
          subst P (λ i. record { part = q.part; orig = x i; first = y i; last = z i }) r.0,
      rec r.1,
    )
    go rec (Over e) r = (λ o first last e. absurd cc, rec r)

-- each entry of the flight is that of a part that stands so
pub all_in_flight : (m last : ℕ) (hs : List Held) (fs : List Flown) → AreRising m last (numbers hs) → Each IsFit hs → flown_among (parts_of (map (call_in fs) hs)) ≡ fs → Each (λ (f : Flown). 1 ≤ f.orig) fs → Each (IsInFlight hs fs) fs
all_in_flight m last hs fs rising fits flown some =
    each_with (λ (f : Flown). 1 ≤ f.orig) (λ (f : Flown). 1 ≤ f.orig → IsInFlight hs fs f) (IsInFlight hs fs) (λ f a b. b a) fs some
    (subst (Each (λ (f : Flown). 1 ≤ f.orig → IsInFlight hs fs f)) flown
    (entries (λ (f : Flown). 1 ≤ f.orig → IsInFlight hs fs f) (parts_of (map (call_in fs) hs)) (parts_fly hs fs hs fits (all_there m last hs rising))))

-- ---- the id of a first sending names one part
pub none_has : {X : Type 0} (f : X → ℕ) (n : ℕ) (xs : List X) → list_any (λ m. m == n) (map f xs) ≡ false → Each (λ x. (f x == n) ≡ false) xs
none_has f n [] h = tt
none_has f n (x ∷ xs) h = go (none_has f n xs) (f x == n) refl h
  where
    go : (list_any (λ m. m == n) (map f xs) ≡ false → Each (λ x. (f x == n) ≡ false) xs) → (b : Bool) → (f x == n) ≡ b → (b || list_any (λ m. m == n) (map f xs)) ≡ false → ((f x == n) ≡ false) × Each (λ x. (f x == n) ≡ false) xs
    go rec true e k = absurd cc
    go rec false e k = (e, rec k)

only_orig : (orig : ℕ) (fs : List Flown) (f : Flown) → AreApart (map (λ g. g.orig) fs) → find (λ g. g.orig == orig) fs ≡ Some f → Each (λ (g : Flown). (g.orig == orig) ≡ true → g ≡ f) fs
only_orig orig [] f apart h = tt
only_orig orig (g ∷ fs) f apart h = go (only_orig orig fs f apart.1) (g.orig == orig) refl h
  where
    go : (find (λ g. g.orig == orig) fs ≡ Some f → Each (λ (g : Flown). (g.orig == orig) ≡ true → g ≡ f) fs) → (b : Bool) → (g.orig == orig) ≡ b → cond b (Some g) (find (λ g. g.orig == orig) fs) ≡ Some f → ((g.orig == orig) ≡ true → g ≡ f) × Each (λ (g : Flown). (g.orig == orig) ≡ true → g ≡ f) fs
    go rec true e k =
        let same : g ≡ f = cc in (
          λ t. same,
          each_weaker (λ (x : Flown). (x.orig == g.orig) ≡ false) (λ (x : Flown). (x.orig == orig) ≡ true → x ≡ f)
              (λ x n t. contrary (x.orig == g.orig) (subst (λ m. (x.orig == m) ≡ true) (sym (eqb_is g.orig orig e)) t) n) fs (none_has (λ (g : Flown). g.orig) g.orig fs apart.0),
        )
    go rec false e k = (λ t. contrary (g.orig == orig) t e, rec k)

pub only_part : (hs : List Held) (fs : List Flown) (orig : ℕ) (f : Flown) → AreApart (map (λ g. g.orig) fs) → Each (IsInFlight hs fs) fs → find (λ g. g.orig == orig) fs ≡ Some f → Each (Only f.part orig) fs
only_part hs fs orig f apart flying found =
    each_with (λ (g : Flown). (g.orig == orig) ≡ true → g ≡ f) (IsInFlight hs fs) (Only f.part orig) (λ g one is. go g (g.orig == orig) refl (same_part g.part f.part) refl one is) fs (only_orig orig fs f apart found) flying
  where
    this : IsInFlight hs fs f × ((f.orig == orig) ≡ true)
    this = each_found (IsInFlight hs fs) (λ g. g.orig == orig) fs f flying found

    go : (g : Flown) (b : Bool) → (g.orig == orig) ≡ b → (c : Bool) → same_part g.part f.part ≡ c → ((g.orig == orig) ≡ true → g ≡ f) → IsInFlight hs fs g → (g.orig == orig) ≡ same_part g.part f.part
    go g true e c s one is = e ∙ sym (ap (λ (x : Flown). same_part x.part f.part) (one e) ∙ same_refl f.part)
    go g false e true s one is =
        let same : g ≡ f = some_is g f (sym is.entry ∙ ap (λ q. of_part q fs) (same_is g.part f.part s) ∙ this.0.entry) in
        contrary (g.orig == orig) (ap (λ (x : Flown). x.orig == orig) same ∙ this.1) e
      where
        some_is : (x y : Flown) → ◌≡◌ {A = Option Flown} (Some x) (Some y) → x ≡ y
        some_is x y h = cc
    go g false e false s one is = e ∙ sym s

pub all_named : (p : Part) (orig : ℕ) (ps : List ClientPart) (fs : List Flown) → flown_among ps ≡ fs → Each (Only p orig) fs → Each (IsNamed p orig) ps
all_named p orig ps fs flown only = unflown (Only p orig) ps (subst (Each (Only p orig)) (sym flown) only)

-- ---- where a part stands
in_these : (how : Part → Standing) (n i s : ℕ) (rs : List Request) (rest : List ClientPart) → s ≤ i → i < s + length rs → HasStanding (part_at n i) (how (part_at n i)) (parts_from how n s rs ++ rest)
in_these how n i s [] rest from to = absurd (omega arith)
in_these how n i s (r ∷ rs) rest from to = go (λ f. in_these how n i (s + 1) rs rest f (omega arith)) (s == i) refl
  where
    go : (s + 1 ≤ i → HasStanding (part_at n i) (how (part_at n i)) (parts_from how n (s + 1) rs ++ rest)) → (b : Bool) → (s == i) ≡ b → HasStanding (part_at n i) (how (part_at n i)) (parts_from how n s (r ∷ rs) ++ rest)
    go rec true e =
        let same : s ≡ i = eqb_is s i e in
        inl (ap (λ m. same_part (part_at n m) (part_at n i)) same ∙ same_refl (part_at n i), ap (λ m. how (part_at n m)) same)
    go rec false e = inr (ap (λ b. n == n && b) e ∙ and_none (n == n), rec (next s i from e))
      where
        and_none : (b : Bool) → (b && false) ≡ false
        and_none true = refl
        and_none false = refl

        next : (s i : ℕ) → s ≤ i → (s == i) ≡ false → s + 1 ≤ i
        next s i a b = grind (arith, nat_tests)

not_these : (how : Part → Standing) (p : Part) (st : Standing) (n s : ℕ) (rs : List Request) (rest : List ClientPart) → (n == p.call.0) ≡ false → HasStanding p st rest → HasStanding p st (parts_from how n s rs ++ rest)
not_these how p st n s [] rest other h = h
not_these how p st n s (r ∷ rs) rest other h = inr (ap (λ b. b && s == p.part) other, not_these how p st n (s + 1) rs rest other h)

pub has_standing : (fs : List Flown) (p : Part) (hs : List Held) (h : Held) → held_at p.call.0 hs ≡ Some h → p.part < length (cut h.call) → HasStanding p (standing_in fs h p) (parts_of (map (call_in fs) hs))
has_standing fs p [] h e within = none_some h e
has_standing fs p (g ∷ hs) h e within = go (λ k. has_standing fs p hs h k within) (g.number == p.call.0) refl e
  where
    go : (held_at p.call.0 hs ≡ Some h → HasStanding p (standing_in fs h p) (parts_of (map (call_in fs) hs))) → (b : Bool) → (g.number == p.call.0) ≡ b → cond b (Some g) (held_at p.call.0 hs) ≡ Some h → HasStanding p (standing_in fs h p) (parts_from (standing_in fs g) g.number 0 (cut g.call) ++ parts_of (map (call_in fs) hs))
    go rec true n k =
        let same : g ≡ h = cc in
        let name : part_at g.number p.part ≡ p = λ i. record { call = record { 0 = eqb_is g.number p.call.0 n i }; part = p.part } in
        subst (λ q. HasStanding q (standing_in fs h q) (parts_from (standing_in fs g) g.number 0 (cut g.call) ++ parts_of (map (call_in fs) hs))) name
        (subst (λ (x : Held). HasStanding (part_at g.number p.part) (standing_in fs x (part_at g.number p.part)) (parts_from (standing_in fs g) g.number 0 (cut g.call) ++ parts_of (map (call_in fs) hs))) same
        (in_these (standing_in fs g) g.number p.part 0 (cut g.call) (parts_of (map (call_in fs) hs)) (omega arith) (subst (λ (x : Held). p.part < 0 + length (cut x.call)) (sym same) (omega arith))))
    go rec false n k = not_these (standing_in fs g) p (standing_in fs h p) g.number 0 (cut g.call) (parts_of (map (call_in fs) hs)) n (rec k)
