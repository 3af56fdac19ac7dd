-- Bytes that are put into others.
use Rattle.std.proofs.Common.{◌≡◌, ℕ, ◌+◌, ◌≤◌, List, ◌++◌, length, length-append, take, drop, arith}
use Rattle.std.proofs.lemmas.List.{length-take-le, length-drop}
use Rattle.cl_types.specs.Bytes.{with_bytes}

-- bytes that fit leave the others as long as they were
pub length-with_bytes : (at : ℕ) (bytes old : List ℕ) → at + length bytes ≤ length old → length (with_bytes at bytes old) ≡ length old
length-with_bytes at bytes old fits =
    let front : at ≤ length old = omega arith in
    omega (
      arith,
      length-append (take at old ++ bytes) (drop (at + length bytes) old),
      length-append (take at old) bytes,
      length-take-le at old front,
      length-drop (at + length bytes) old,
    )
