-- What a contract sees of a link, and what its calls do to that.
use Rattle.std.specs.Prelude.{ℕ, zero, suc, ◌+◌, Bool, nat_lt, List, [], ◌∷◌, ◌++◌, length, Option, Some, None, if◌then◌else◌, slice_get}
use Rattle.cl_types.specs.declared.frame.End.{End}

-- a frame that was sent: when, to which end, its bytes, and on which line
pub record SentFrame : Type 0 where
  pub moment : ℕ
  pub end : End
  pub bytes : List ℕ
  pub line : ℕ

-- the frames in the order in which they were sent, and how many were handed out
pub record LinkFrames : Type 0 where
  pub frames : List SentFrame
  pub handed_out : ℕ

-- the link after this frame too was sent
abbrev pub sent_on : LinkFrames → SentFrame → LinkFrames
sent_on link frame = record link { frames = link.frames ++ frame ∷ [] }

-- the frame of number k, from 1, where one was sent
abbrev pub frame_at : LinkFrames → ℕ → Option SentFrame
frame_at link zero = None
frame_at link (suc k) = slice_get link.frames k

-- a frame is not yet handed out
abbrev pub has_next : LinkFrames → Bool
has_next link = nat_lt link.handed_out (length link.frames)

-- the least number that was not handed out, where a frame has it
abbrev pub next_number : LinkFrames → Option ℕ
next_number link = if has_next link then Some (link.handed_out + 1) else None

-- the link after that number was handed out
abbrev pub next_handed : LinkFrames → LinkFrames
next_handed link = if has_next link then record link { handed_out = link.handed_out + 1 } else link
