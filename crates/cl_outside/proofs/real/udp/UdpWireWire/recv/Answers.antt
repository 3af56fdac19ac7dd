use Rattle.std.proofs.Common.{arith, refl, take}
use Rattle.std.proofs.lemmas.Grind.{common_steps}
use Rattle.cl_outside.specs.Wire.{Message}
use Rattle.cl_outside.proofs.real.udp.UdpWireWire.recv.Goals as goal

-- the wire tells nothing, so the datagram is the one that was received
pub returns-in-Ok-clause-coming : goal.returns-in-Ok-clause-coming
returns-in-Ok-clause-coming g c =
    let received : Message = record { bytes = take c.in-Ok.len c.receive.new.buf; from = c.in-Ok.from } in
    (received, refl, record { within = grind (arith); bytes = grind (arith, common_steps); from_peer = refl })
