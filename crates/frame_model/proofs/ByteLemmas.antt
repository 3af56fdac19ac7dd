-- Numbers that are read from bytes, and the same bytes from these numbers.
use Rattle.std.proofs.Common.{◌≡◌, ℕ, ◌+◌, ◌<◌, ◌≤◌, ◌^◌, zero, suc, List, [], ◌∷◌, ◌++◌, length, take, drop, get_or, refl, sym, arith, add-one}
use Rattle.std.specs.Prelude.{IsTrue, slice_index}
use Rattle.std.specs.Int.{to_be_bytes, from_be_bytes, w16, w32, w64}
use Rattle.std.proofs.lemmas.Bool.{and_parts, and_from, ltb-true}
use Rattle.std.proofs.lemmas.Nat.{be_bytes_2, be_bytes_4, be_bytes_8}
use Rattle.std.proofs.lemmas.List.{take-append-drop, length-take, length-drop, drop-drop}
use Rattle.std.proofs.Math.Seq.{drop-cons}
use Rattle.cl_types.specs.Bytes.{bytes_at}
use Rattle.cl_types.specs.Ranges.{are_bytes}
use Rattle.frame_model.specs.Frames.{number_16, number_32, number_64}

-- ---- the bytes of a piece
pub small : (bytes : List ℕ) → IsTrue (are_bytes bytes) → (i : ℕ) → get_or bytes i 0 < 256
small [] good i = omega arith
small (byte ∷ bytes) good zero = ltb-true byte 256 (and_parts _ _ good).0
small (byte ∷ bytes) good (suc i) = small bytes (and_parts _ _ good).1 i

pub are_bytes_drop : (n : ℕ) (bytes : List ℕ) → IsTrue (are_bytes bytes) → IsTrue (are_bytes (drop n bytes))
are_bytes_drop zero bytes good = good
are_bytes_drop (suc n) [] good = refl
are_bytes_drop (suc n) (byte ∷ bytes) good = are_bytes_drop n bytes (and_parts _ _ good).1

are_bytes_take : (n : ℕ) (bytes : List ℕ) → IsTrue (are_bytes bytes) → IsTrue (are_bytes (take n bytes))
are_bytes_take zero bytes good = refl
are_bytes_take (suc n) [] good = refl
are_bytes_take (suc n) (byte ∷ bytes) good =
    let both = and_parts _ _ good in
    and_from _ _ both.0 (are_bytes_take n bytes both.1)

are_bytes_at : (at n : ℕ) (bytes : List ℕ) → IsTrue (are_bytes bytes) → IsTrue (are_bytes (bytes_at at n bytes))
are_bytes_at at n bytes good = are_bytes_take n (drop at bytes) (are_bytes_drop at bytes good)

length-at : (at n : ℕ) (bytes : List ℕ) → at + n ≤ length bytes → length (bytes_at at n bytes) ≡ n
length-at at n bytes within = simp (length-take, length-drop) (omega arith)

-- a piece and the bytes after it
joined : (at n : ℕ) (bytes start rest : List ℕ) → start ≡ bytes_at at n bytes → rest ≡ drop (at + n) bytes → start ++ rest ≡ drop at bytes
joined at n bytes start rest first after = rw (first, after, ← (drop-drop n at bytes)) (take-append-drop n (drop at bytes))

-- ---- a number and its bytes
-- a number that is read at a place, before the spelling of what is after it
pub spell_16 : (at n : ℕ) (bytes rest : List ℕ) → IsTrue (are_bytes bytes) → at + 2 ≤ length bytes
    → n ≡ number_16 at bytes → rest ≡ drop (at + 2) bytes → to_be_bytes w16 n ++ rest ≡ drop at bytes
spell_16 at n bytes rest good within read after =
    let piece : List ℕ = bytes_at at 2 bytes in
    joined at 2 bytes (to_be_bytes w16 n) rest (be_bytes_2 piece n (length-at at 2 bytes within) (small piece (are_bytes_at at 2 bytes good)) read) after

pub spell_32 : (at n : ℕ) (bytes rest : List ℕ) → IsTrue (are_bytes bytes) → at + 4 ≤ length bytes
    → n ≡ number_32 at bytes → rest ≡ drop (at + 4) bytes → to_be_bytes w32 n ++ rest ≡ drop at bytes
spell_32 at n bytes rest good within read after =
    let piece : List ℕ = bytes_at at 4 bytes in
    joined at 4 bytes (to_be_bytes w32 n) rest (be_bytes_4 piece n (length-at at 4 bytes within) (small piece (are_bytes_at at 4 bytes good)) read) after

pub spell_64 : (at n : ℕ) (bytes rest : List ℕ) → IsTrue (are_bytes bytes) → at + 8 ≤ length bytes
    → n ≡ number_64 at bytes → rest ≡ drop (at + 8) bytes → to_be_bytes w64 n ++ rest ≡ drop at bytes
spell_64 at n bytes rest good within read after =
    let piece : List ℕ = bytes_at at 8 bytes in
    joined at 8 bytes (to_be_bytes w64 n) rest (be_bytes_8 piece n (length-at at 8 bytes within) (small piece (are_bytes_at at 8 bytes good)) read) after

pub spell_8 : (at n : ℕ) (bytes rest : List ℕ) → at < length bytes
    → n ≡ slice_index bytes at → rest ≡ drop (at + 1) bytes → n ∷ rest ≡ drop at bytes
spell_8 at n bytes rest within read after = rw (read, after) (sym (rw add-one (drop-cons bytes at 0 within)))

-- ---- the ranges of numbers
below_16 : (bytes : List ℕ) → IsTrue (are_bytes bytes) → from_be_bytes w16 bytes < 2 ^ 16
below_16 bytes good =
    let each = small bytes good in
    omega (arith, each 0, each 1)

below_64 : (bytes : List ℕ) → IsTrue (are_bytes bytes) → from_be_bytes w64 bytes < 2 ^ 64
below_64 bytes good =
    let each = small bytes good in
    omega (arith, each 0, each 1, each 2, each 3, each 4, each 5, each 6, each 7)

pub number_16-below : (at : ℕ) (bytes : List ℕ) → IsTrue (are_bytes bytes) → number_16 at bytes < 2 ^ 16
number_16-below at bytes good = below_16 (bytes_at at 2 bytes) (are_bytes_at at 2 bytes good)

pub number_64-below : (at : ℕ) (bytes : List ℕ) → IsTrue (are_bytes bytes) → number_64 at bytes < 2 ^ 64
number_64-below at bytes good = below_64 (bytes_at at 8 bytes) (are_bytes_at at 8 bytes good)
