-- How an item is handled.
use Rattle.std.proofs.Common.{◌≡◌, ℕ, refl, subst, Bool, true, false, Option, Some, None, arith}
use Rattle.std.specs.Prelude.{option_map}
use Rattle.cl_types.specs.declared.reply.Reply.{Reply}
use Rattle.cl_types.specs.Times.{is_young}
use Rattle.node_model.specs.Handling.{Handling, Repeats, RefusesForNow, Executes, Looks, handling, if_young}

-- What a handling says of the item and the records: whether the item changes, whether it is recorded, and where it is
-- executed, that the oldest of as many records as are kept isn't young.
abbrev pub HandledBy : {X : Type 0} → (X → Reply) → (X → ℕ) → Bool → Option X → ℕ → Option X → Handling → Type 0
HandledBy {X} reply moment changing recorded t oldest (Repeats said) = (changing ≡ true) × (x : X) × (recorded ≡ Some x) × (reply x ≡ said)
HandledBy reply moment changing recorded t oldest (RefusesForNow young) = changing ≡ true
HandledBy {X} reply moment changing recorded t oldest Executes = (changing ≡ true) × (recorded ≡ None) × ((x : X) → oldest ≡ Some x → is_young t (moment x) ≡ false)
HandledBy reply moment changing recorded t oldest Looks = changing ≡ false

pub handled_by : {X : Type 0} (reply : X → Reply) (moment : X → ℕ) (changing : Bool) (recorded : Option X) (t : ℕ) (oldest : Option X)
    → HandledBy reply moment changing recorded t oldest (handling changing (option_map reply recorded) t (option_map moment oldest))
handled_by reply moment false recorded t oldest = refl
handled_by reply moment true (Some x) t oldest = (refl, x, refl, refl)
handled_by {X} reply moment true None t None = (refl, refl, λ x is. absurd (none_some x is)) where
  none_some : (x : X) → ◌≡◌ {A = Option X} None (Some x) → ⊥
  none_some x h = grind arith
handled_by {X} reply moment true None t (Some x) = if_old (is_young t (moment x)) refl where
  if_old : (y : Bool) → is_young t (moment x) ≡ y → HandledBy reply moment true None t (Some x) (if_young y (moment x))
  if_old true young = refl
  if_old false young = (refl, refl, λ z is. let same : x ≡ z = cc in subst (λ (w : X). is_young t (moment w) ≡ false) same young)
