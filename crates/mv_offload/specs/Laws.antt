-- What the operations on multi-version objects are to each other.
use Rattle.std.specs.Prelude.{◌≡◌, ℕ, ◌<◌, ◌^◌, List, [], ◌∷◌, ◌++◌, take, drop, Some, Ok, Err}
use Rattle.mv_offload.specs.Versions.{Versioned, Given, mv_step, item_numbered, version_of}
use Rattle.mv_offload.specs.Versions.Object.{MvObject}

-- the objects after an operation: those that it gives, and the old ones where it is refused
abbrev pub left_by : Versioned → Given → Versioned
left_by held (Err refusal) = held
left_by held (Ok (answer, MvObject objects versions new)) = new

-- the objects after operations, each a number and its bytes
abbrev pub after : ℕ → ℕ → Versioned → List (ℕ × List ℕ) → Versioned
after objects versions held [] = held
after objects versions held ((op, bytes) ∷ calls) = after objects versions (left_by held (mv_step objects versions held op bytes)) calls

-- a version that is there stays, whatever operations come
abbrev pub VersionsStay : Type 0
VersionsStay =
    (objects versions object version : ℕ) (bytes : List ℕ) (held : Versioned) (calls : List (ℕ × List ℕ))
    → version_of version (item_numbered object held) ≡ Some bytes
    → version_of version (item_numbered object (after objects versions held calls)) ≡ Some bytes

-- where an append answered a version's number, a read of that version gives the appended bytes, whatever operations come
-- between: the read's bytes are the object's number, with which the append's begin, and the number that was answered
abbrev pub ReadsGiveWhatWasAppended : Type 0
ReadsGiveWhatWasAppended =
    (objects versions : ℕ) (asked answer : List ℕ) (held new : Versioned) (calls : List (ℕ × List ℕ))
    → versions < 2 ^ 32
    → mv_step objects versions held 3 asked ≡ Ok (answer, MvObject objects versions new)
    → let later : Versioned = after objects versions new calls in
    mv_step objects versions later 2 (take 4 asked ++ answer) ≡ Ok (drop 4 asked, MvObject objects versions later)
