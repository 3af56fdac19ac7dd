-- What reading an input and writing all bytes do.
use Rattle.std.specs.Prelude.{◌≡◌, ℕ, ◌+◌, ◌<◌, ◌≤◌, Bool, true, false, List, [], ◌++◌, length, take, Result, Ok, Err, IfSome}
use Rattle.std.specs.declared.option.Option.{Option}
use Rattle.cl_outside.specs.Counts.{LastFailed, NoneFailed}
use Rattle.cl_outside.specs.Told.{Took, Added}
use Rattle.cl_outside.specs.declared.faults.Faults.{Faults}
use Rattle.cl_outside.specs.declared.loops.Stop.{Stop}
use Rattle.cl_outside.specs.declared.loops.Stop.TheVariants.{ReadFault, TooLong, WriteFault, NoMemory}
use Rattle.cl_types.specs.declared.limits.TheConstants.{INPUT_BYTES}

-- reading an input stops for one of these
abbrev pub IsReadStop : Stop → Type 0
IsReadStop ReadFault = Unit {0}
IsReadStop TooLong = Unit {0}
IsReadStop NoMemory = Unit {0}
IsReadStop WriteFault = ⊥

-- a single read stops for one of these
abbrev pub IsPieceStop : Stop → Type 0
IsPieceStop ReadFault = Unit {0}
IsPieceStop NoMemory = Unit {0}
IsPieceStop TooLong = ⊥
IsPieceStop WriteFault = ⊥

-- of the reads that were made the last alone failed, or none did
abbrev pub CountsReads : {A : Type 0} → Faults → Faults → Result A Stop → Type 0
CountsReads before now (Err ReadFault) = LastFailed before now
CountsReads before now other = NoneFailed before now

-- of the writes that were made the last alone failed, or none did
abbrev pub CountsWrites : {A E : Type 0} → Faults → Faults → Result A E → Type 0
CountsWrites before now (Ok done) = NoneFailed before now
CountsWrites before now (Err stop) = LastFailed before now

-- so many were taken off the front
abbrev pub TookCount : ℕ → Option (List ℕ) → Option (List ℕ) → Type 0
TookCount count before after = (bytes : List ℕ) × (length bytes ≡ count) × Took bytes before after

-- at most so many were taken off the front
abbrev pub TookUpTo : ℕ → Option (List ℕ) → Option (List ℕ) → Type 0
TookUpTo most before after = (bytes : List ℕ) × (length bytes ≤ most) × Took bytes before after

-- with the bytes and what is left before and after: whether a read found more
abbrev pub GotPiece : Bool → List ℕ → List ℕ → Option (List ℕ) → Option (List ℕ) → Type 0
-- a piece of at least one byte joined the bytes, which are at most one too many
GotPiece true old new before after =
    (piece : List ℕ) × (0 < length piece) × (length new ≤ INPUT_BYTES + 1) × (new ≡ old ++ piece) × Took piece before after
-- nothing was left
GotPiece false old new before after = (new ≡ old) × (after ≡ before) × IfSome before (λ left. left ≡ [])

-- a front of the bytes was written
abbrev pub WroteFront : List ℕ → Option (List ℕ) → Option (List ℕ) → Type 0
WroteFront bytes before after = (n : ℕ) × (n ≤ length bytes) × Added (take n bytes) before after
