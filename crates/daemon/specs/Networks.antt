-- Addresses that may send to a node.
use Rattle.std.specs.Prelude.{ℕ, ◌-◌, ◌/◌, ◌^◌, ◌==◌, Bool, List}
use Rattle.std.specs.List.{list_any}
use Rattle.cl_outside.specs.declared.wire.Peer.{Peer}
use Rattle.daemon.specs.declared.networks.Network.{Network}

-- the address has the network's first bits
abbrev pub contains : Network → (ip : ℕ) → Bool
contains network ip = (network.address / 2 ^ (32 - network.bits)) == (ip / 2 ^ (32 - network.bits))

-- the peer's address is in one of the networks
abbrev pub allows : List Network → Peer → Bool
allows networks peer = list_any (λ network. contains network peer.ip) networks
