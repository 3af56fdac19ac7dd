-- How a slab and keys stand for the parts at their places. No public clause cites this module.
use Rattle.std.specs.Prelude.{◌≡◌, ℕ, List, length, Option, Some, None, is_some, true, is_none, count_by, slice_index_or}
use Rattle.slab.specs.Slab.{Slab, get, HasRoomFor}
use Rattle.client_retry.specs.declared.flown.Flown.{Flown}

-- the part at a place, where there is one
abbrev pub slot_at : List (Option Flown) → ℕ → Option Flown
slot_at slots place = slice_index_or slots place None

-- the part under a key of the slab, where the key is there
abbrev pub slot_under : Slab Flown → Option ℕ → Option Flown
slot_under parts None = None
slot_under parts (Some key) = get parts key

-- the key of the part at a place, where there is one
abbrev pub key_at : List (Option ℕ) → ℕ → Option ℕ
key_at keys place = slice_index_or keys place None

-- what holds of the slab and the keys at every moment
pub record IsKept (parts : Slab Flown) (keys : List (Option ℕ)) : Type 0 where
  pub size : length keys ≡ 64
  -- a key that is there has a part, and no other place has that key
  pub held : (place key : ℕ) → key_at keys place ≡ Some key → is_some (get parts key) ≡ true
  pub apart : (place other key : ℕ) → key_at keys place ≡ Some key → key_at keys other ≡ Some key → place ≡ other
  -- so putting a part at a place without one takes no memory
  pub room : HasRoomFor parts (count_by is_none keys)
