-- What a link answers under the number of a frame.
use Rattle.std.specs.Prelude.{ℕ, List, Option, Some, None, if◌then◌else◌}
use Rattle.cl_types.specs.declared.frame.End.{End}
use Rattle.cl_types.specs.Times.{is_live}
use Rattle.link_sim.specs.declared.Got.{Got}
use Rattle.link_sim.specs.declared.Got.TheVariants as got
use Rattle.link_sim.specs.LinkFrames.{SentFrame}

-- a live frame with its bytes, the moment of one that has expired, or no frame
pub data Found : Type 0 where
  Live : (bytes : List ℕ) (end : End) (line : ℕ) → Found
  Expired : (sent : ℕ) → Found
  Absent : Found

-- the answer, with the bytes that it borrows
abbrev pub found_of : Got → Found
found_of (got.Live bytes end line) = Live bytes.now end line
found_of (got.Expired sent) = Expired sent
found_of got.Absent = Absent

-- what stands under a number at moment t, by the frame that has it
abbrev pub found_at : ℕ → Option SentFrame → Found
found_at t None = Absent
found_at t (Some frame) = if is_live t frame.moment then Live frame.bytes frame.end frame.line else Expired frame.moment
