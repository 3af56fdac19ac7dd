-- A link's frames after one more was sent, and the frame under a number.
use Rattle.std.proofs.Common.{◌≡◌, ℕ, zero, suc, ◌+◌, ◌-◌, ◌<◌, ◌≤◌, List, [], ◌∷◌, ◌++◌, length, map, take, drop, get_or, Some, option_map, refl, sym, ap, ◌∙◌, arith}
use Rattle.std.specs.List.{slice_range, All}
use Rattle.std.proofs.lemmas.Bool.{lt-ltb, le-ltb}
use Rattle.std.proofs.lemmas.List.{length-drop, drop-append-le, take-append-le, map-append, take_all, drop_at}
use Rattle.std.proofs.lemmas.List.Elements.{All-head, All-tail}
use Rattle.std.proofs.lemmas.Option.{slice_get-map, slice_get_read}
use Rattle.link_sim.specs.declared.StoredFrame.{StoredFrame}
use Rattle.link_sim.specs.LinkFrames.{LinkFrames, frame_at, sent_on}
use Rattle.link_sim.specs.Got.{Live, Expired, found_at}
use Rattle.link_sim.specs.Fields.{sent_frame, link_frames, IsPieceWithin, IsSound}

-- bytes that are put behind those of a frame don't change it
range_kept : (bytes more : List ℕ) (from to : ℕ) → from ≤ to → to ≤ length bytes → slice_range (bytes ++ more) from to ≡ slice_range bytes from to
range_kept bytes more from to a b =
    let front : from ≤ length bytes = omega arith in
    let rest : to - from ≤ length (drop from bytes) = omega (arith, length-drop from bytes) in
    ap (take (to - from)) (drop-append-le from bytes more front) ∙ take-append-le (to - from) (drop from bytes) more rest

frames_kept : (frames : List StoredFrame) (bytes more : List ℕ) → All (IsPieceWithin (length bytes)) frames → map (sent_frame (bytes ++ more)) frames ≡ map (sent_frame bytes) frames
frames_kept [] bytes more pieces = refl
frames_kept (f ∷ frames) bytes more pieces =
    let piece = All-head (IsPieceWithin (length bytes)) f frames pieces in
    let here = range_kept bytes more f.from f.to piece.0 piece.1 in
    rw (here, frames_kept frames bytes more (All-tail (IsPieceWithin (length bytes)) f frames pieces)) refl

-- the bytes put behind are those of the new frame
range_new : (bytes more : List ℕ) (from to : ℕ) → from ≡ length bytes → to ≡ from + length more → slice_range (bytes ++ more) from to ≡ more
range_new bytes more from to a b =
    let all : length more ≤ to - from = omega arith in
    ap (take (to - from)) (drop_at bytes more from (sym a)) ∙ take_all (to - from) more all

-- what a contract sees after the frame was put behind the others
pub sent_done : {frames : List StoredFrame} {bytes : List ℕ} {handed : ℕ} {v : LinkFrames} → IsSound frames bytes handed → link_frames frames bytes handed ≡ v
    → (f : StoredFrame) (more : List ℕ) → f.from ≡ length bytes → f.to ≡ f.from + length more
    → link_frames (frames ++ f ∷ []) (bytes ++ more) handed ≡ sent_on v (record { moment = f.moment; end = f.end; bytes = more; line = f.line })
sent_done {frames} {bytes} {handed} {v} sound seen f more from to =
    let new = range_new bytes more f.from f.to from to in
    let old = frames_kept frames bytes more sound.pieces in
    rw (← seen, map-append (sent_frame (bytes ++ more)) frames (f ∷ []), old, new) refl

module _ (frames : List StoredFrame) (bytes : List ℕ) (handed : ℕ) (v : LinkFrames) (seen : link_frames frames bytes handed ≡ v) where
  -- the frame under a number, where a frame has it
  pub frame_under : (k : ℕ) (f : StoredFrame) → 0 < k → k ≤ length frames → f ≡ get_or frames (k - 1) f → frame_at v k ≡ Some (sent_frame bytes f)
  frame_under zero f some within read = absurd (omega arith)
  frame_under (suc k) f some within read =
      let at : suc k - 1 ≡ k = omega arith in
      let inside : k < length frames = omega arith in
      ap (λ w. frame_at w (suc k)) (sym seen) ∙ slice_get-map (sent_frame bytes) frames k ∙ ap (option_map (sent_frame bytes)) (slice_get_read frames (length frames) k f refl inside (rw at at read))

  -- a frame that has expired
  pub found_expired : (t k : ℕ) (f : StoredFrame) → 0 < k → k ≤ length frames → f ≡ get_or frames (k - 1) f → 100 ≤ t - f.moment → Expired f.moment ≡ found_at t (frame_at v k)
  found_expired t k f some within read old = let late = le-ltb (t - f.moment) 100 old in rw (frame_under k f some within read, late) refl

  -- a frame that is live
  pub found_live : (t k : ℕ) (f : StoredFrame) → 0 < k → k ≤ length frames → f ≡ get_or frames (k - 1) f → t - f.moment < 100
      → Live (slice_range bytes f.from f.to) f.end f.line ≡ found_at t (frame_at v k)
  found_live t k f some within read young = let live = lt-ltb (t - f.moment) 100 young in rw (frame_under k f some within read, live) refl
