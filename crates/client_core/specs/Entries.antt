-- How a slab and entries stand for the calls that have not ended. No public clause cites this module.
use Rattle.std.specs.Prelude.{ℕ, ◌≡◌, ◌≢◌, ◌≤◌, List, [], ◌∷◌, length, Some, unwrap_or}
use Rattle.std.specs.List.{AllByRecursion as Each}
use Rattle.slab.specs.Slab.{Slab, get, slab_len}
use Rattle.cl_types.specs.declared.call.Call.TheVariants.{Fence}
use Rattle.cl_types.specs.declared.limits.TheConstants.{HELD_CALLS}
use Rattle.client_core.specs.declared.rows.Entry.{Entry}
use Rattle.client_core.specs.Held.{Held}

-- a stand-in for the call under a key that has none
abbrev pub no_held : Held
no_held = record { number = 0; call = Fence; came = []; sent = 0 }

-- the call under the key of an entry
abbrev pub held_under : Slab Held → Entry → Held
held_under slab e = unwrap_or (get slab e.key) no_held

-- a call of the entry's number is under its key
abbrev pub Stands : Slab Held → Entry → Type 0
Stands slab e = (h : Held) × ((get slab e.key ≡ Some h) × (h.number ≡ e.no.0))

-- no two of the entries have the same key
abbrev pub AreApart : List Entry → Type 0
AreApart [] = Unit {0}
AreApart (e ∷ es) = Each (λ x. x.key ≢ e.key) es × AreApart es

-- what holds of the slab, the entries and their room at every moment
pub record AreInPlace (slab : Slab Held) (entries : List Entry) (room : ℕ) : Type 0 where
  pub stand : Each (Stands slab) entries
  pub apart : AreApart entries
  pub counted : slab_len slab ≡ length entries
  pub few : length entries ≤ HELD_CALLS
  -- so taking a call takes no memory
  pub reserved : HELD_CALLS ≤ slab.capacity
  pub listed : HELD_CALLS ≤ room
