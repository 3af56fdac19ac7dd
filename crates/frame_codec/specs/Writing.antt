-- What a contract asks of a reply whose bytes stand in the buffer, and what it sees of a buffer that was written to.
use Rattle.std.specs.Prelude.{ℕ, ◌≡◌, Bool, false, ◌&&◌, leb, List, length, take, drop}
use Rattle.cl_types.specs.declared.call.Kind.{Kind}
use Rattle.cl_types.specs.declared.call.Kind.TheVariants.{Read, Offload}
use Rattle.cl_types.specs.declared.limits.TheConstants.{PART_BYTES}

-- a reply of this kind may carry n bytes: 1 to 1,024 of a Read, and at most 1,024 of an Offload
abbrev pub may_carry : Kind → ℕ → Bool
may_carry Read n = leb 1 n && leb n PART_BYTES
may_carry Offload n = leb n PART_BYTES
may_carry other n = false

-- the buffer begins with the bytes of the frame, n of them, and behind them stays as it was
pub record IsWritten (frame : List ℕ) (n : ℕ) (old new : List ℕ) : Type 0 where
  pub len : n ≡ length frame
  pub spelling : take n new ≡ frame
  pub rest : drop n new ≡ drop n old
