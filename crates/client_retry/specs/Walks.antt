-- Which part a walk along places looks for. No public clause cites this module.
use Rattle.std.specs.Prelude.{ℕ, zero, suc, ◌==◌, Bool, false, List, Option, Some, None, slice_get}
use Rattle.cl_types.specs.Times.{is_old, is_due}
use Rattle.client_retry.specs.declared.flown.Flown.{Flown}
use Rattle.client_retry.specs.declared.walk.Wanted.{Wanted}
use Rattle.client_retry.specs.declared.walk.Wanted.TheVariants as wanted
use Rattle.client_retry.specs.Flights.{is_before}
use Rattle.client_retry.specs.Slots.{slot_at}

-- the part is the wanted one
abbrev pub is_wanted : Wanted → Flown → Bool
is_wanted (wanted.Old now) f = is_old now f.first
is_wanted (wanted.Due now) f = is_due now f.first f.last
is_wanted (wanted.Orig orig) f = f.orig == orig
is_wanted (wanted.Behind part) f = is_before part f.part

-- a part is there, and is the wanted one
abbrev pub is_wanted_there : Wanted → Option Flown → Bool
is_wanted_there w None = false
is_wanted_there w (Some f) = is_wanted w f

-- the place has the wanted part
abbrev pub wanted_at : List (Option Flown) → Wanted → ℕ → Bool
wanted_at slots w p = is_wanted_there w (slot_at slots p)

-- the item before place k of a list, where there is one
abbrev pub back : List ℕ → ℕ → Option ℕ
back xs zero = None
back xs (suc k) = slice_get xs k
