-- Pieces of a list of bytes.
use Rattle.std.specs.Prelude.{ℕ, ◌+◌, List, ◌++◌, take, drop, length, replicate}
use Rattle.cl_types.specs.declared.limits.TheConstants.{PAGE_BYTES}

-- the n bytes from a place on
abbrev pub bytes_at : ℕ → ℕ → List ℕ → List ℕ
bytes_at at n bytes = take n (drop at bytes)

-- a list with bytes put in at a place
abbrev pub with_bytes : ℕ → List ℕ → List ℕ → List ℕ
with_bytes at bytes old = take at old ++ bytes ++ drop (at + length bytes) old

-- new items over those of a list, whose length stays
abbrev pub over : {A : Type 0} → List A → List A → List A
over old new = take (length old) (new ++ drop (length new) old)

-- n bytes that are 0
abbrev pub zeros : ℕ → List ℕ
zeros n = replicate n 0

-- the bytes of a fresh page, which a goal doesn't compute
unfoldable pub fresh_bytes : List ℕ
fresh_bytes = zeros PAGE_BYTES
