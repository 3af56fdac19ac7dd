-- What a node does with an item of a frame, in an account and alone.
use Rattle.std.specs.Prelude.{ℕ, zero, suc, ◌-◌, Bool, true, false, leb, List, length, drop, Option, Some, None, if◌then◌else◌, slice_get}
use Rattle.cl_types.specs.declared.reply.Reply.{Reply}
use Rattle.cl_types.specs.Times.{is_young}
use Rattle.frame_model.specs.Frames.{Item}
use Rattle.flat_model.specs.State.{FlatState}
use Rattle.flat_model.specs.Step.{Transition, outcome}

-- ---- the records that are kept
-- of a list, the latest, so many
abbrev pub latest : {A : Type 0} → ℕ → List A → List A
latest n xs = drop (length xs - n) xs

-- the oldest of the latest, so many, where there are so many
abbrev pub oldest_of : {A : Type 0} → ℕ → List A → Option A
oldest_of zero xs = None
oldest_of (suc n) xs = if leb (suc n) (length xs) then slice_get xs (length xs - suc n) else None

-- ---- the cases
-- what a node does with an item: it repeats a reply, is busy, executes the item, or looks
pub data Handling : Type 0 where
  -- the reply that was recorded is given again
  Repeats : (reply : Reply) → Handling
  -- the records are full, and the oldest of them is young
  RefusesForNow : (oldest : ℕ) → Handling
  Executes : Handling
  Looks : Handling

-- busy where the oldest record is young, and else executed
abbrev pub if_young : Bool → ℕ → Handling
if_young true oldest = RefusesForNow oldest
if_young false oldest = Executes

-- how a changing item without a record is handled, by the moment of the oldest of as many records as are kept
abbrev pub on_oldest : ℕ → Option ℕ → Handling
on_oldest t None = Executes
on_oldest t (Some oldest) = if_young (is_young t oldest) oldest

-- how an item is handled: a reading one is looked up; a changing one is repeated where recorded, else busy or executed
abbrev pub handling : (changing : Bool) → (recorded : Option Reply) → (t : ℕ) → (oldest : Option ℕ) → Handling
handling false recorded t oldest = Looks
handling true (Some reply) t oldest = Repeats reply
handling true None t oldest = on_oldest t oldest

-- ---- execution
-- the flat machine's reply to the item, and the state after it
abbrev pub item_outcome : FlatState → Item → Transition
item_outcome s i = outcome s i.head.pid i.request
