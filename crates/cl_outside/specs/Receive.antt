-- What one receive does to the datagrams to come, to the buffer, and to the counts.
use Rattle.std.specs.Prelude.{◌≡◌, ℕ, ◌≤◌, List, [], ◌∷◌, length, take, IfSome}
use Rattle.std.specs.declared.option.Option.{Option}
use Rattle.cl_outside.specs.Counts.{LastFailed, Rose, after_good}
use Rattle.cl_outside.specs.Told.{Took}
use Rattle.cl_outside.specs.Wire.{Message}
use Rattle.cl_outside.specs.declared.faults.Faults.{Faults}
use Rattle.cl_outside.specs.declared.wire.Peer.{Peer}
use Rattle.cl_outside.specs.declared.wire.Recv.{Recv}
use Rattle.cl_outside.specs.declared.wire.Recv.TheVariants.{Got, Idle, Failed}

-- the front of the buffer is the datagram, cut to the buffer, and its peer is named
pub record IsReceived (message : Message) (buf : List ℕ) (len : ℕ) (from : Peer) : Type 0 where
  pub within : len ≤ length buf
  pub bytes : take len buf ≡ take (length buf) message.bytes
  pub from_peer : from ≡ message.from

-- with the datagrams to come before and after, and the buffer after: what a receive gave
abbrev pub Receives : Option (List Message) → Option (List Message) → List ℕ → Recv → Type 0
-- the first datagram to come was taken off and received
Receives before after buf (Got len from) =
    (message : Message) × Took (message ∷ []) before after × IsReceived message buf len from
-- none is to come
Receives before after buf Idle = (after ≡ before) × IfSome before (λ messages. messages ≡ [])
Receives before after buf Failed = after ≡ before

-- the receive counts as one that failed, or as one that did not
abbrev pub CountsRecv : Faults → Faults → Recv → Type 0
CountsRecv before now (Got len from) = now ≡ after_good before
CountsRecv before now Idle = now ≡ after_good before
CountsRecv before now Failed = LastFailed before now

-- the count of idles rose where no datagram came, and else stands
abbrev pub CountsIdle : ℕ → ℕ → Recv → Type 0
CountsIdle before now (Got len from) = now ≡ before
CountsIdle before now Idle = Rose before now
CountsIdle before now Failed = now ≡ before
