-- What is written at a place of some bytes.
use Rattle.std.proofs.Common.{◌≡◌, ℕ, ◌+◌, ◌-◌, ◌≤◌, List, ◌++◌, length, take, drop, refl, sym, ap, ◌∙◌, arith, length-append}
use Rattle.std.proofs.lemmas.Grind.{common_steps}
use Rattle.std.proofs.lemmas.List.{drop-drop, take_at, drop_at}
use Rattle.cl_types.specs.Bytes.{with_bytes}
use borrow.Rule.Slice.PartMut.{put_mid}

-- what stands behind a header: a body's reader is handed it, and a body's writer writes over it
abbrev pub behind_header : List ℕ → List ℕ
behind_header bytes = take (length bytes - 26) (drop 26 bytes)

-- bytes that are written at the start of what is from a place on
pub put_mid-with_bytes : (at : ℕ) (bytes old part : List ℕ) → at + length bytes ≤ length old
    → part ≡ bytes ++ drop (length bytes) (take (length old - at) (drop at old))
    → put_mid at (length old - at) old part ≡ with_bytes at bytes old
put_mid-with_bytes at bytes old part within is = rw is (grind (arith, common_steps))

-- bytes that begin with these, and go on as others do from there
pub record BeginsWith (front start now : List ℕ) : Type 0 where
  pub is : now ≡ front ++ drop (length front) start

-- bytes that are written right behind what they began with
pub written_behind : {front start old new : List ℕ} (at : ℕ) (bytes : List ℕ)
    → BeginsWith front start old → length front ≡ at → new ≡ with_bytes at bytes old → BeginsWith (front ++ bytes) start new
written_behind {front = front} {start = start} {old = old} at bytes begins long written =
    let tail : List ℕ = drop (length front) start in
    let kept : take (length front) (front ++ tail) ≡ front = take_at front tail _ refl in
    let behind : drop (length front + length bytes) (front ++ tail) ≡ drop (length front + length bytes) start =
    sym (drop-drop (length bytes) (length front) (front ++ tail))
    ∙ ap (drop (length bytes)) (drop_at front tail _ refl)
    ∙ drop-drop (length bytes) (length front) start in
    record { is = rw (written, begins.is, ← long, kept, behind, length-append front bytes) refl }
