-- Looking up a key among entries, and putting a value there, by position.
use Rattle.std.proofs.Common.{not, if◌then◌else◌, ◌≡◌, ℕ, zero, suc, ◌<◌, ◌≤◌, Bool, true, false, cond, List, [], ◌∷◌, length, get_or, refl, sym, ap, subst, ◌∙◌, Option, Some, None, option_map, slice_get, arith}
use Rattle.std.proofs.Math.ListN.{set}
use Rattle.std.proofs.lemmas.Bool.Decides.{nat_tests}
use Rattle.std.proofs.lemmas.List.Quantifiers.{position-Some}
use Rattle.std.proofs.lemmas.List.Sums.{prefix_len-le-length}
use Rattle.std.proofs.lemmas.Option.{cond_some, get_or_from_slice_get, slice_get_read}
use Rattle.std.specs.declared.cmp.Ordering.{Ordering}
use Rattle.std.specs.List.{position, position_or_len, insert}
use Rattle.std.specs.Cmp.{IsTotalOrder}
use Rattle.std.specs.FinMap.{IsAntisymmetric}
use Rattle.std.specs.FinMap.Entries.{find, put, is_sorted}
use Rattle.std.specs.Ordering.{eq_by_cmp, is_lt}
use Rattle.flat_model.proofs.PutLemmas.{T_of, put_at, insert_is_put, sorted_put}
use Rattle.cl_types.proofs.PlaceLemmas.{equal_of}

-- ---- positions
position_next : {X : Type 0} (p : X → Bool) (x : X) (xs : List X) → p x ≡ false → position p (x ∷ xs) ≡ None → position p xs ≡ None
position_next p x xs fails none = grind (arith, nat_tests)

position_first : {X : Type 0} (p : X → Bool) (x : X) (xs : List X) → p x ≡ true → position p (x ∷ xs) ≡ Some 0
position_first p x xs passes = grind (arith, nat_tests)

pub position_is : {X : Type 0} (p : X → Bool) (xs : List X) (i : ℕ) → position p xs ≡ Some i → i ≡ position_or_len p xs
position_is p xs i at = sym (cond_some _ _ _ at).1

pub position_end : {X : Type 0} (p : X → Bool) (xs : List X) → position p xs ≡ None → length xs ≡ position_or_len p xs
position_end p xs none = let within : position_or_len p xs ≤ length xs = prefix_len-le-length (λ x. not (p x)) xs in grind (arith, nat_tests)

-- a value that was read at an index
pub read_value : {K V : Type 0} (lent entries : List (K × V)) (i : ℕ) (entry : K × V) → lent ≡ entries → i < length entries → entry ≡ get_or lent i entry
    → option_map (λ e. e.1) (slice_get entries i) ≡ Some entry.1
read_value {K} {V} lent entries i entry same within is =
    ap (λ (o : Option (K × V)). option_map (λ e. e.1) o)
    (ap (λ (es : List (K × V)). slice_get es i) (sym same) ∙ slice_get_read lent (length entries) i entry (ap length (sym same)) within is)

-- ---- the entry of a key
module _ {K V : Type 0} (R : K → K → Ordering) (key : K) where
  -- the entry is that of the key
  abbrev is_of : K × V → Bool
  is_of entry = eq_by_cmp R key entry.0

  find_first : (entry : K × V) (entries : List (K × V)) → is_of entry ≡ true → find R key (entry ∷ entries) ≡ Some entry.1
  find_first entry entries here = ap (λ t. cond t (Some entry.1) (find R key entries)) here

  find_later : (entry : K × V) (entries : List (K × V)) → is_of entry ≡ false → find R key (entry ∷ entries) ≡ find R key entries
  find_later entry entries here = ap (λ t. cond t (Some entry.1) (find R key entries)) here

  -- the first entry that is of the key has its value
  found : (entries : List (K × V)) (i : ℕ) (d : K × V) → i < length entries → is_of (get_or entries i d) ≡ true
      → ((k : ℕ) → k < i → is_of (get_or entries k d) ≡ false) → find R key entries ≡ Some (get_or entries i d).1
  found [] i d within here before = absurd (omega (arith, within))
  found (e ∷ es) zero d within here before = find_first e es here
  found (e ∷ es) (suc i) d within here before =
      find_later e es (before 0 (omega arith)) ∙ found es i d (omega (arith, within)) here (λ k below. before (suc k) (omega (arith, below)))

  pub found_at_position : (entries : List (K × V)) (i : ℕ) (d : K × V) → position is_of entries ≡ Some i → find R key entries ≡ Some (get_or entries i d).1
  found_at_position entries i d at = let first = position-Some is_of entries i d at in found entries i d first.0 first.1 first.2

  missing : (t : Bool) (entry : K × V) (entries : List (K × V)) → is_of entry ≡ t → position is_of (entry ∷ entries) ≡ None
      → (position is_of entries ≡ None → find R key entries ≡ None) → find R key (entry ∷ entries) ≡ None
  missing true entry entries here none rest = cc (position_first is_of entry entries here, none)
  missing false entry entries here none rest = find_later entry entries here ∙ rest (position_next is_of entry entries here none)

  pub not_found : (entries : List (K × V)) → position is_of entries ≡ None → find R key entries ≡ None
  not_found [] none = refl
  not_found (e ∷ es) none = missing (is_of e) e es refl none (not_found es)

  module _ (exact : IsAntisymmetric R) where
    entry_is : (entry : K × V) → is_of entry ≡ true → entry ≡ (key, entry.1)
    entry_is entry here = ap (λ (k : K). (k, entry.1)) (sym (exact key entry.0 (equal_of _ here)))

    at_entry : (entries : List (K × V)) (i : ℕ) (v : V) (entry : Option (K × V)) → slice_get entries i ≡ entry → position is_of entries ≡ Some i
        → option_map (λ e. e.1) entry ≡ Some v → (slice_get entries i ≡ Some (key, v)) × (find R key entries ≡ Some v)
    at_entry entries i v None there at value = absurd cc
    at_entry entries i v (Some entry) there at value =
        let same : entry.1 ≡ v = cc value in
        let read : get_or entries i entry ≡ entry = get_or_from_slice_get entries i entry entry there in
        let here : is_of entry ≡ true = subst (λ e. is_of e ≡ true) read (position-Some is_of entries i entry at).1 in (
          there ∙ ap (λ (e : K × V). Some e) (entry_is entry here ∙ ap (λ (w : V). (key, w)) same),
          found_at_position entries i entry at ∙ ap (λ (e : K × V). Some e.1) read ∙ ap (λ (w : V). Some w) same,
        )

    -- the entry at the position of a key is that of the key
    pub at_position : (entries : List (K × V)) (i : ℕ) (v : V) → position is_of entries ≡ Some i → option_map (λ e. e.1) (slice_get entries i) ≡ Some v
        → (slice_get entries i ≡ Some (key, v)) × (find R key entries ≡ Some v)
    at_position entries i v at value = at_entry entries i v (slice_get entries i) refl at value

    -- ---- putting a value
    module _ (total : IsTotalOrder R) (v : V) (lent entries : List (K × V)) (same : lent ≡ entries) where
      -- a value written at the position of its key is put there
      pub set_is_put : (i : ℕ) (entry : K × V) → is_sorted R entries ≡ true → position is_of lent ≡ Some i → entry ≡ get_or entries i entry → set entries i (entry.0, v) ≡ put R key v entries
      set_is_put i entry sorted at is =
          let first = position-Some is_of entries i entry (subst (λ es. position is_of es ≡ Some i) same at) in
          let here : entry.0 ≡ key = ap (λ (e : K × V). e.0) (entry_is entry (subst (λ e. is_of e ≡ true) (sym is) first.1)) in
          ap (λ (k : K). set entries i (k, v)) here
          ∙ sym (put_at R total key v entries i entry (T_of _ sorted) first.0 (ap (λ (e : K × V). e.0) (sym is) ∙ here))

      pub set_is_sorted : (i : ℕ) (entry : K × V) → is_sorted R entries ≡ true → position is_of lent ≡ Some i → entry ≡ get_or entries i entry → is_sorted R (set entries i (entry.0, v)) ≡ true
      set_is_sorted i entry sorted at is = sorted_put R total key v entries _ sorted (set_is_put i entry sorted at is)

      -- the result of an insertion that had room is the entry put
      pub inserted_is_put : (other : List (K × V)) → other ≡ entries → (i : ℕ) (new : List (K × V)) (ok : Bool) → position is_of lent ≡ None
          → i ≡ position_or_len (λ e. is_lt (R key e.0)) other → ok ≡ true → new ≡ (if ok then insert entries i (key, v) else entries) → new ≡ put R key v entries
      inserted_is_put other like i new ok none at passed is =
          is ∙ ap (λ b. if b then insert entries i (key, v) else entries) passed
          ∙ ap (λ j. insert entries j (key, v)) (at ∙ ap (position_or_len (λ e. is_lt (R key e.0))) like)
          ∙ insert_is_put R total key v entries (not_found entries (subst (λ es. position is_of es ≡ None) same none))
