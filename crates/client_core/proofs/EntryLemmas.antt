-- The slab and the entries after a call was taken, changed or taken out.
use Rattle.std.proofs.Common.{◌≡◌, ◌≢◌, ℕ, zero, suc, ◌+◌, ◌<◌, List, [], ◌∷◌, ◌++◌, length, map, set, get_or, Option, Some, None, Bool, true, false, cond, refl, sym, ap, subst, ◌∙◌, arith, inl, inr}
use Rattle.std.specs.Prelude.{◌==◌, ◌||◌, find, is_some, unwrap_or, option_map, slice_get}
use Rattle.std.specs.List.{AllByRecursion as Each, list_any, remove}
use Rattle.std.proofs.lemmas.Bool.{cases_eq}
use Rattle.std.proofs.lemmas.List.{length-map}
use Rattle.std.proofs.lemmas.Option.{slice_get_read}
use Rattle.std.proofs.lemmas.List.Sums.{sum_by-set}
use Rattle.slab.specs.Slab.{Slab, get, slab_len, with_value, Updates}
use Rattle.slab.proofs.SlabLemmas.{ContainsKey-within, Updates-with_value}
use Rattle.cl_types.specs.declared.limits.TheConstants.{HELD_CALLS}
use Rattle.client_core.specs.declared.rows.Entry.{Entry}
use Rattle.client_core.specs.Held.{Held, has_unsent, held_at}
use Rattle.client_core.specs.Entries.{AreApart, AreInPlace, Stands, held_under, no_held}
use Rattle.client_core.proofs.Basics.{none_some}

-- ---- what holds of each
each_in : {X : Type 0} (P : X → Type 0) (xs : List X) (i : ℕ) (x : X) → Each P xs → slice_get xs i ≡ Some x → P x
each_in P [] i x all e = none_some x e
each_in P (y ∷ xs) zero x all e = let same : y ≡ x = cc in subst P same all.0
each_in P (y ∷ xs) (suc i) x all e = each_in P xs i x all.1 e

each_so : {X : Type 0} (P Q : X → Type 0) (xs : List X) → ((x : X) → P x → Q x) → Each P xs → Each Q xs
each_so P Q [] h all = tt
each_so P Q (x ∷ xs) h all = (h x all.0, each_so P Q xs h all.1)

each_both : {X : Type 0} (P Q R : X → Type 0) (xs : List X) → ((x : X) → P x → Q x → R x) → Each P xs → Each Q xs → Each R xs
each_both P Q R [] h all others = tt
each_both P Q R (x ∷ xs) h all others = (h x all.0 others.0, each_both P Q R xs h all.1 others.1)

each_push : {X : Type 0} (P : X → Type 0) (xs : List X) (x : X) → Each P xs → P x → Each P (xs ++ x ∷ [])
each_push P [] x all p = (p, tt)
each_push P (y ∷ xs) x all p = (all.0, each_push P xs x all.1 p)

each_left : {X : Type 0} (P : X → Type 0) (xs : List X) (at : ℕ) → Each P xs → Each P (remove xs at)
each_left P [] zero all = tt
each_left P [] (suc at) all = tt
each_left P (x ∷ xs) zero all = all.1
each_left P (x ∷ xs) (suc at) all = (all.0, each_left P xs at all.1)

-- ---- keys that differ
apart_left : (es : List Entry) (at : ℕ) → AreApart es → AreApart (remove es at)
apart_left [] zero apart = tt
apart_left [] (suc at) apart = tt
apart_left (e ∷ es) zero apart = apart.1
apart_left (e ∷ es) (suc at) apart = (each_left (λ x. x.key ≢ e.key) es at apart.0, apart_left es at apart.1)

apart_push : (es : List Entry) (e : Entry) → AreApart es → Each (λ x. x.key ≢ e.key) es → AreApart (es ++ e ∷ [])
apart_push [] e apart other = (tt, tt)
apart_push (x ∷ es) e apart other = (each_push (λ y. y.key ≢ x.key) es e apart.0 (λ same. other.0 (sym same)), apart_push es e apart.1 other.1)

-- the entries but one have other keys
left_apart : (es : List Entry) (at : ℕ) (e : Entry) → AreApart es → slice_get es at ≡ Some e → Each (λ x. x.key ≢ e.key) (remove es at)
left_apart [] at e apart there = none_some e there
left_apart (x ∷ es) zero e apart there = let same : x ≡ e = cc in subst (λ (z : Entry). Each (λ y. y.key ≢ z.key) es) same apart.0
left_apart (x ∷ es) (suc at) e apart there = (λ same. each_in (λ y. y.key ≢ x.key) es at e apart.0 there (sym same), left_apart es at e apart.1 there)

-- ---- the calls that the entries stand for
agree : (f g : Entry → Held) (es : List Entry) → Each (λ e. g e ≡ f e) es → map g es ≡ map f es
agree f g [] same = refl
agree f g (e ∷ es) same = λ i. same.0 i ∷ agree f g es same.1 i

set_in : (f g : Entry → Held) (es : List Entry) (at : ℕ) (e : Entry) (b : Held) → AreApart es → slice_get es at ≡ Some e → g e ≡ b → ((x : Entry) → x.key ≢ e.key → g x ≡ f x) → map g es ≡ set (map f es) at b
set_in f g [] at e b apart there is others = none_some e there
set_in f g (x ∷ es) zero e b apart there is others =
    let same : x ≡ e = cc in
    let here : g x ≡ b = ap g same ∙ is in
    let rest : map g es ≡ map f es = agree f g es (each_so (λ y. y.key ≢ e.key) (λ y. g y ≡ f y) es others (left_apart (x ∷ es) zero e apart there)) in
    λ i. here i ∷ rest i
set_in f g (x ∷ es) (suc at) e b apart there is others =
    let here : g x ≡ f x = others x (left_apart (x ∷ es) (suc at) e apart there).0 in
    let rest : map g es ≡ set (map f es) at b = set_in f g es at e b apart.1 there is others in
    λ i. here i ∷ rest i

map_left : (f : Entry → Held) (es : List Entry) (at : ℕ) → map f (remove es at) ≡ remove (map f es) at
map_left f [] zero = refl
map_left f [] (suc at) = refl
map_left f (e ∷ es) zero = refl
map_left f (e ∷ es) (suc at) = ap (λ hs. f e ∷ hs) (map_left f es at)

map_push : (f : Entry → Held) (es : List Entry) (e : Entry) → map f (es ++ e ∷ []) ≡ map f es ++ f e ∷ []
map_push f [] e = refl
map_push f (x ∷ es) e = ap (λ hs. f x ∷ hs) (map_push f es e)

length_push : (es : List Entry) (e : Entry) → length (es ++ e ∷ []) ≡ length es + 1
length_push [] e = refl
length_push (x ∷ es) e = let rest = length_push es e in omega (arith, rest)

length_left : (es : List Entry) (at : ℕ) (e : Entry) → slice_get es at ≡ Some e → length (remove es at) + 1 ≡ length es
length_left [] at e there = none_some e there
length_left (x ∷ es) zero e there = omega arith
length_left (x ∷ es) (suc at) e there = let rest = length_left es at e there in omega (arith, rest)

under : (slab : Slab Held) (e : Entry) (h : Held) → get slab e.key ≡ Some h → held_under slab e ≡ h
under slab e h is = ap (λ o. unwrap_or o no_held) is

get_map : (f : Entry → Held) (es : List Entry) (at : ℕ) (e : Entry) → slice_get es at ≡ Some e → slice_get (map f es) at ≡ Some (f e)
get_map f [] at e there = none_some e there
get_map f (x ∷ es) zero e there = let same : x ≡ e = cc in ap (λ (z : Entry). Some (f z)) same
get_map f (x ∷ es) (suc at) e there = get_map f es at e there

pub within_view : (slab : Slab Held) (es : List Entry) (at : ℕ) (hs : List Held) → map (held_under slab) es ≡ hs → at < length hs → at < length es
within_view slab es at hs is h = omega (arith, h, length-map es (held_under slab), ap (length {A = Held}) is)

pub few_entries : (slab : Slab Held) (es : List Entry) (hs : List Held) → map (held_under slab) es ≡ hs → length hs < HELD_CALLS → length es < HELD_CALLS
few_entries slab es hs is h = omega (arith, h, length-map es (held_under slab), ap (length {A = Held}) is)

pub within_unsent : (hs : List Held) (at : ℕ) → option_map has_unsent (slice_get hs at) ≡ Some true → at < length hs
within_unsent [] at e = none_some true e
within_unsent (h ∷ hs) zero e = omega arith
within_unsent (h ∷ hs) (suc at) e = let less : at < length hs = within_unsent hs at e in omega arith

same_some : (x y : Held) → ◌≡◌ {A = Option Held} (Some x) (Some y) → x ≡ y
same_some x y e = cc

abbrev present : Option Held → ℕ
present o = cond (is_some o) 1 0

-- as many keys have a value after one is changed
same_count : (slab : Slab Held) (key : ℕ) (row row' : Held) → get slab key ≡ Some row → slab_len (with_value slab key row') ≡ slab_len slab
same_count slab key row row' is = omega (arith, sum_by-set present slab.slots key (Some row') None (ContainsKey-within slab key (ap is_some is)), ap present is)

-- ---- where a call is
module _ {slab : Slab Held} {es : List Entry} {room : ℕ} (kept : AreInPlace slab es room) where
  -- the call of an entry
  pub found_under : (at : ℕ) (e : Entry) → at < length es → e ≡ get_or es at e → (h : Held) × ((slice_get es at ≡ Some e) × ((get slab e.key ≡ Some h) × ((slice_get (map (held_under slab) es) at ≡ Some h) × (h.number ≡ e.no.0))))
  found_under at e within read =
      let there : slice_get es at ≡ Some e = slice_get_read es (length es) at e refl within read in
      let stands = each_in (Stands slab) es at e kept.stand there in
      (stands.0, (there, (stands.1.0, (get_map (held_under slab) es at e there ∙ ap Some (under slab e stands.0 stands.1.0), stands.1.1))))

  pub key_there : (at : ℕ) (e : Entry) → at < length es → e ≡ get_or es at e → is_some (get slab e.key) ≡ true
  key_there at e within read = ap is_some (found_under at e within read).1.1.0

  pub row_there : (at : ℕ) (e : Entry) (row : Held) → at < length es → e ≡ get_or es at e → get slab e.key ≡ Some row → slice_get (map (held_under slab) es) at ≡ Some row
  row_there at e row within read is = let found = found_under at e within read in found.1.1.1.0 ∙ sym found.1.1.0 ∙ is

  -- a call is taken
  module _ (new : Slab Held) (e : Entry) (row : Held) (vacant : get slab e.key ≡ None) (updates : Updates slab new e.key (Some row)) (number : row.number ≡ e.no.0) where
    other_keys : Each (λ x. x.key ≢ e.key) es
    other_keys =
        each_so (Stands slab) (λ x. x.key ≢ e.key) es (λ x stands same. absurd (let nothing = ap (get slab) same ∙ vacant in let something = stands.1.0 in let both = sym nothing ∙ something in cc)) kept.stand

    pub pushed : map (held_under new) (es ++ e ∷ []) ≡ map (held_under slab) es ++ row ∷ []
    pushed =
        map_push (held_under new) es e
        ∙ (λ i. agree (held_under slab) (held_under new) es (each_so (λ x. x.key ≢ e.key) (λ x. held_under new x ≡ held_under slab x) es (λ x ne. ap (λ o. unwrap_or o no_held) (updates.others x.key ne)) other_keys) i
        ++ under new e row updates.changed i ∷ [])

    pub pushed_kept : length es < HELD_CALLS → slab_len new ≡ slab_len slab + 1 → new.capacity ≡ slab.capacity → AreInPlace new (es ++ e ∷ []) room
    pushed_kept few len capacity = record {
      stand =
          each_push (Stands new) es e
          (each_both (λ x. x.key ≢ e.key) (Stands slab) (Stands new) es (λ x ne stands. (stands.0, (updates.others x.key ne ∙ stands.1.0, stands.1.1))) other_keys kept.stand) (row, (updates.changed, number));
      apart = apart_push es e kept.apart other_keys;
      counted = omega (arith, len, kept.counted, length_push es e);
      few = omega (arith, few, length_push es e);
      reserved = omega (arith, capacity, kept.reserved);
      listed = kept.listed;
    }

  -- a call is changed, not its number
  module _ (new : Slab Held) (at : ℕ) (e : Entry) (row row' : Held) (within : at < length es) (read : e ≡ get_or es at e) (is : get slab e.key ≡ Some row) (number : row'.number ≡ row.number) (updates : Updates slab new e.key (Some row')) where
    pub changed_in : map (held_under new) es ≡ set (map (held_under slab) es) at row'
    changed_in =
        set_in (held_under slab) (held_under new) es at e row' kept.apart (found_under at e within read).1.0 (under new e row' updates.changed) (λ x ne. ap (λ o. unwrap_or o no_held) (updates.others x.key ne))

    named : (x : Entry) → x.key ≡ e.key → Stands slab x → Stands new x
    named x same stands =
        (row', (ap (get new) same ∙ updates.changed, number ∙ sym (ap (λ (h : Held). h.number) (same_some stands.0 row (sym stands.1.0 ∙ ap (get slab) same ∙ is))) ∙ stands.1.1))

    pub changed_kept : slab_len new ≡ slab_len slab → new.capacity ≡ slab.capacity → AreInPlace new es room
    changed_kept len capacity = record {
      stand = each_so (Stands slab) (Stands new) es (λ x stands. elim (cases_eq x.key e.key) [
        | inl same ↦ named x same stands
        | inr ne ↦ (stands.0, (updates.others x.key ne ∙ stands.1.0, stands.1.1))
      ]) kept.stand;
      apart = kept.apart;
      counted = len ∙ kept.counted;
      few = kept.few;
      reserved = omega (arith, capacity, kept.reserved);
      listed = kept.listed;
    }

  module _ (at : ℕ) (e : Entry) (row row' : Held) (hs : List Held) (hs_are : map (held_under slab) es ≡ hs) (within : at < length hs) (read : e ≡ get_or es at e) (is : get slab e.key ≡ Some row) where
    within_entries : at < length es
    within_entries = omega (arith, within, length-map es (held_under slab), ap (length {A = Held}) hs_are)

    writes : Updates slab (with_value slab e.key row') e.key (Some row')
    writes = Updates-with_value slab e.key row' (ap is_some is)

    pub written_kept : row'.number ≡ row.number → AreInPlace (with_value slab e.key row') es room
    written_kept number = changed_kept (with_value slab e.key row') at e row row' within_entries read is number writes (same_count slab e.key row row' is) refl

    pub written : (f : Held → Held) → row' ≡ f row → ((h : Held) → (f h).number ≡ h.number) → (h : Held) → slice_get hs at ≡ Some h → map (held_under (with_value slab e.key row')) es ≡ set hs at (f h)
    written f row_is number h there =
        let same : row ≡ h = same_some row h (sym (row_there at e row within_entries read is) ∙ ap (λ xs. slice_get xs at) hs_are ∙ there) in
        changed_in (with_value slab e.key row') at e row row' within_entries read is (ap (λ (x : Held). x.number) row_is ∙ number row) writes
        ∙ (λ i. set (hs_are i) at ((row_is ∙ ap f same) i))

  -- a call is taken out
  module _ (new : Slab Held) (at : ℕ) (e : Entry) (within : at < length es) (read : e ≡ get_or es at e) (updates : Updates slab new e.key None) where
    left_keys : Each (λ x. x.key ≢ e.key) (remove es at)
    left_keys = left_apart es at e kept.apart (found_under at e within read).1.0

    pub left_in : map (held_under new) (remove es at) ≡ remove (map (held_under slab) es) at
    left_in =
        agree (held_under slab) (held_under new) (remove es at) (each_so (λ x. x.key ≢ e.key) (λ x. held_under new x ≡ held_under slab x) (remove es at) (λ x ne. ap (λ o. unwrap_or o no_held) (updates.others x.key ne)) left_keys)
        ∙ map_left (held_under slab) es at

    pub left_kept : (es' : List Entry) (room' : ℕ) → es' ≡ remove es at → room' ≡ room → slab_len new + 1 ≡ slab_len slab → new.capacity ≡ slab.capacity → AreInPlace new es' room'
    left_kept es' room' es_is room_is len capacity = record {
      stand = subst (Each (Stands new)) (sym es_is) (each_both (λ x. x.key ≢ e.key) (Stands slab) (Stands new) (remove es at) (λ x ne stands. (stands.0, (updates.others x.key ne ∙ stands.1.0, stands.1.1))) left_keys (each_left (Stands slab) es at kept.stand));
      apart = subst AreApart (sym es_is) (apart_left es at kept.apart);
      counted = omega (arith, len, kept.counted, length_left es at e (found_under at e within read).1.0, ap (length {A = Entry}) es_is);
      few = omega (arith, kept.few, length_left es at e (found_under at e within read).1.0, ap (length {A = Entry}) es_is);
      reserved = omega (arith, capacity, kept.reserved);
      listed = omega (arith, room_is, kept.listed);
    }

-- the same entries and room
pub kept_as : {slab : Slab Held} {es es' : List Entry} {room room' : ℕ} → AreInPlace slab es room → es' ≡ es → room' ≡ room → AreInPlace slab es' room'
kept_as {slab} kept es_is room_is = record {
  stand = subst (Each (Stands slab)) (sym es_is) kept.stand;
  apart = subst AreApart (sym es_is) kept.apart;
  counted = kept.counted ∙ sym (ap (length {A = Entry}) es_is);
  few = omega (arith, kept.few, ap (length {A = Entry}) es_is);
  reserved = kept.reserved;
  listed = omega (arith, room_is, kept.listed);
}

-- ---- a call is looked up by its number
pub entry_read : (es : List Entry) (i : ℕ) (e : Entry) → i < length es → slice_get es i ≡ Some (get_or es i e)
entry_read [] i e h = absurd (omega (arith, h))
entry_read (x ∷ es) zero e h = refl
entry_read (x ∷ es) (suc i) e h = entry_read es i e (omega (arith, h))

found_entry : (slab : Slab Held) (n : ℕ) (es : List Entry) → Each (Stands slab) es → find (λ (h : Held). h.number == n) (map (held_under slab) es) ≡ option_map (held_under slab) (find (λ (e : Entry). e.no.0 == n) es)
found_entry slab n [] stand = refl
found_entry slab n (e ∷ es) stand =
    ap (λ m. cond (m == n) (Some (held_under slab e)) (find (λ (h : Held). h.number == n) (map (held_under slab) es))) (ap (λ (h : Held). h.number) (under slab e stand.0.0 stand.0.1.0) ∙ stand.0.1.1)
    ∙ go (e.no.0 == n) (found_entry slab n es stand.1)
  where
    go : (b : Bool) → find (λ (h : Held). h.number == n) (map (held_under slab) es) ≡ option_map (held_under slab) (find (λ (e : Entry). e.no.0 == n) es) →
        cond b (Some (held_under slab e)) (find (λ (h : Held). h.number == n) (map (held_under slab) es)) ≡ option_map (held_under slab) (cond b (Some e) (find (λ (e : Entry). e.no.0 == n) es))
    go true rest = refl
    go false rest = rest

pub any_entry : (slab : Slab Held) (n : ℕ) (es : List Entry) → Each (Stands slab) es → list_any (λ (h : Held). h.number == n) (map (held_under slab) es) ≡ list_any (λ (e : Entry). e.no.0 == n) es
any_entry slab n [] stand = refl
any_entry slab n (e ∷ es) stand =
    ap (λ m. m == n || list_any (λ (h : Held). h.number == n) (map (held_under slab) es)) (ap (λ (h : Held). h.number) (under slab e stand.0.0 stand.0.1.0) ∙ stand.0.1.1)
    ∙ ap (λ b. e.no.0 == n || b) (any_entry slab n es stand.1)

some_map : (f : Entry → Held) (o : Option Entry) → is_some (option_map f o) ≡ is_some o
some_map f None = refl
some_map f (Some e) = refl

pub entry_there : (slab : Slab Held) (n : ℕ) (es : List Entry) → Each (Stands slab) es → is_some (held_at n (map (held_under slab) es)) ≡ true → is_some (find (λ (e : Entry). e.no.0 == n) es) ≡ true
entry_there slab n es stand h = sym (some_map (held_under slab) (find (λ (e : Entry). e.no.0 == n) es)) ∙ ap is_some (sym (found_entry slab n es stand)) ∙ h

get_mapped : (f : Entry → Held) (es : List Entry) (at : ℕ) → slice_get (map f es) at ≡ option_map f (slice_get es at)
get_mapped f [] at = refl
get_mapped f (e ∷ es) zero = refl
get_mapped f (e ∷ es) (suc at) = get_mapped f es at

pub place_there : (slab : Slab Held) (n : ℕ) (es : List Entry) (at : ℕ) → Each (Stands slab) es → slice_get es at ≡ find (λ (e : Entry). e.no.0 == n) es → slice_get (map (held_under slab) es) at ≡ held_at n (map (held_under slab) es)
place_there slab n es at stand is = get_mapped (held_under slab) es at ∙ ap (option_map (held_under slab)) is ∙ sym (found_entry slab n es stand)
