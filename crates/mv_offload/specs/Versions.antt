-- Multi-version objects: what they hold, and what an operation on them gives.
use Rattle.std.specs.Prelude.{ℕ, zero, suc, ◌+◌, ◌-◌, ◌/◌, ◌==◌, ◌&&◌, leb, List, [], ◌∷◌, ◌++◌, length, drop, sum_by, slice_get, slice_set, if◌then◌else◌, Option, Some, None, Result, Ok, Err}
use Rattle.std.specs.Int.{to_be_bytes, w32}
use Rattle.cl_types.specs.declared.reply.Refusal.{Refusal}
use Rattle.cl_types.specs.declared.reply.Refusal.TheVariants.{ObjectFull, NoKey, BadOp}
use Rattle.frame_model.specs.Frames.{number_32}
use Rattle.mv_offload.specs.declared.layout.TheConstants.{VERSION_BYTES}

-- the objects of a multi-version store, each with its versions in order; both are numbered from 1
abbrev pub Versioned : Type 0
Versioned = List (List (List ℕ))

-- an object: what it may hold, and what it holds
pub data Object : Type 0 where
  MvObject : (objects versions : ℕ) → (held : Versioned) → Object

-- what an operation gives: the answer and the object after it, or a refusal
abbrev pub Given : Type 0
Given = Result (List ℕ × Object) Refusal

-- how many pages the objects have
abbrev pub mv_pages : ℕ → ℕ
mv_pages versions = 1 + (versions + 14) / 15

-- the item of this number, where the first has the number 1
abbrev pub item_numbered : {A : Type 0} → ℕ → List A → Option A
item_numbered zero xs = None
item_numbered (suc n) xs = slice_get xs n

-- how many versions there are over all objects
abbrev pub version_count : Versioned → ℕ
version_count held = sum_by (λ versions. length versions) held

-- a create adds an empty object and answers its number
abbrev pub mv_create : ℕ → ℕ → Versioned → Given
mv_create objects versions held =
    if leb objects (length held) then Err ObjectFull
    else Ok (to_be_bytes w32 (length held + 1), MvObject objects versions (held ++ [] ∷ []))

-- an append adds its bytes at the end of an object that is there, and answers the version's number
abbrev pub mv_append : ℕ → ℕ → Versioned → ℕ → List ℕ → Option (List (List ℕ)) → Given
mv_append objects versions held object bytes None = Err NoKey
mv_append objects versions held object bytes (Some those) =
    if leb versions (version_count held) then Err ObjectFull
    else Ok (to_be_bytes w32 (length those + 1), MvObject objects versions (slice_set held (object - 1) (those ++ bytes ∷ [])))

-- a read answers the version that was found and changes nothing
abbrev pub mv_read : ℕ → ℕ → Versioned → Option (List ℕ) → Given
mv_read objects versions held None = Err NoKey
mv_read objects versions held (Some bytes) = Ok (bytes, MvObject objects versions held)

-- the version of a number from 1 of an object that is there
abbrev pub version_of : ℕ → Option (List (List ℕ)) → Option (List ℕ)
version_of version None = None
version_of version (Some those) = item_numbered version those

-- the number of the latest version and its bytes, of an object that has one
abbrev pub latest_of : Option (List (List ℕ)) → Option (List ℕ)
latest_of None = None
latest_of (Some those) = elim (item_numbered (length those) those) [ None ↦ None | Some bytes ↦ Some (to_be_bytes w32 (length those) ++ bytes) ]

-- 1 creates, 3 appends, 2 reads and 4 reads the latest; nothing else is an operation, and each needs bytes of its form
abbrev pub mv_step : ℕ → ℕ → Versioned → ℕ → List ℕ → Given
mv_step objects versions held op bytes =
    if op == 1 && length bytes == 0 then mv_create objects versions held
    else if op == 3 && leb 4 (length bytes) && leb (length bytes) (4 + VERSION_BYTES)
    then mv_append objects versions held (number_32 0 bytes) (drop 4 bytes) (item_numbered (number_32 0 bytes) held)
    else if op == 2 && length bytes == 8
    then mv_read objects versions held (version_of (number_32 4 bytes) (item_numbered (number_32 0 bytes) held))
    else if op == 4 && length bytes == 4 then mv_read objects versions held (latest_of (item_numbered (number_32 0 bytes) held))
    else Err BadOp
