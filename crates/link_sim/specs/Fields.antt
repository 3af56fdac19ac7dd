-- How the fields of a link stand for its frames. No public clause cites this module.
use Rattle.std.specs.Prelude.{ℕ, ◌<◌, ◌≤◌, ◌^◌, List, map, length}
use Rattle.std.specs.List.{slice_range, All}
use Rattle.link_sim.specs.declared.StoredFrame.{StoredFrame}
use Rattle.link_sim.specs.LinkFrames.{SentFrame, LinkFrames}

-- a frame with its bytes, which are a piece of the bytes of all frames
abbrev pub sent_frame : List ℕ → StoredFrame → SentFrame
sent_frame bytes f = record { moment = f.moment; end = f.end; bytes = slice_range bytes f.from f.to; line = f.line }

-- what contracts see
abbrev pub link_frames : List StoredFrame → List ℕ → ℕ → LinkFrames
link_frames frames bytes handed_out = record { frames = map (sent_frame bytes) frames; handed_out = handed_out }

-- the frame's piece lies within the first n bytes
abbrev pub IsPieceWithin : ℕ → StoredFrame → Type 0
IsPieceWithin n f = (f.from ≤ f.to) × (f.to ≤ n)

-- what holds of the fields at every moment
pub record IsSound (frames : List StoredFrame) (bytes : List ℕ) (handed_out : ℕ) : Type 0 where
  pub pieces : All (IsPieceWithin (length bytes)) frames
  -- a frame's number fits its type, and only numbers of frames are handed out
  pub few : length frames < 2 ^ 32
  pub handed : handed_out ≤ length frames
