-- What a wire tells: datagrams and binds.
use Rattle.std.specs.Prelude.{ℕ, List}
use Rattle.cl_outside.specs.declared.wire.Peer.{Peer}
use Rattle.cl_outside.specs.declared.wire.Bound.{Bound}

-- a datagram: its bytes, and the peer at the other end
pub record Message : Type 0 where
  pub bytes : List ℕ
  pub from : Peer

-- a bind: the port that was asked, and the answer
pub record Binding : Type 0 where
  pub asked : ℕ
  pub answer : Bound
