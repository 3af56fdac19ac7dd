-- What the ends of a served node and of a driven client say of failures.
use Rattle.std.proofs.Common.{◌≡◌, ◌⊎◌, inl, inr, Some, None, refl, ap, arith}
use Rattle.cl_outside.specs.Counts.{LastFailed, NoneFailed}
use Rattle.cl_outside.specs.declared.faults.Faults.{Faults}
use Rattle.cl_types.specs.declared.open_fault.OpenFault.{OpenFault}
use Rattle.client_command.specs.Ends.{ClientEnds, CountsStop, CutIn, FaultLine, LastLine, Task, TurnText}
use Rattle.client_command.specs.declared.ends.ClientEnd.{ClientEnd}
use Rattle.client_command.specs.declared.ends.ClientEnd.TheVariants as client_end
use Rattle.flat_model.specs.Opening.{open_fault}
use Rattle.node_command.specs.Ends.{BindFailed, IsEndAt, NodeEnds, NodeNumbers, NodeRefused, PortBound, Reaches, ServingEnded, Stage, end_by}
use Rattle.node_command.specs.declared.node_end.NodeEnd.{NodeEnd}
use Rattle.node_command.specs.declared.node_end.NodeEnd.TheVariants as node_end
use Rattle.node_core.specs.Keeping.{KeptNode}
use Rattle.wire_loop.specs.Driving.{AllEnded, DriveStop, Stalled, WireFailed}
use Rattle.wire_loop.specs.Serves.{CountsServe}
use Rattle.wire_loop.specs.Wired.{Wired}
use Rattle.wire_loop.specs.declared.serving.ServeEnd.{ServeEnd}
use Rattle.wire_loop.specs.declared.serving.ServeEnd.TheVariants as serve_end
use Rattle.clio_cli.specs.Run.{client_status, node_status}
use Rattle.command_text.specs.declared.status.Status.{Status}
use Rattle.command_text.specs.declared.status.Status.TheVariants as status
use Rattle.command_text.proofs.OutputLemmas.{differs}

-- a count of failures that stands
stands : (before after : Faults) → after ≡ before → NoneFailed before after
stands before after same = ap (λ (f : Faults). f.count) same

-- ---- a served node
-- serving a node ends with one of these
abbrev pub OfNode : Status → Type 0
OfNode status.Ok = Unit {0}
OfNode status.BadNode = Unit {0}
OfNode status.WireFault = Unit {0}
OfNode status.WriteFault = Unit {0}
OfNode status.NoMemory = Unit {0}
OfNode other = ⊥

pub of_node : (how : NodeEnd) → OfNode (node_status how)
of_node (node_end.Served node) = tt
of_node node_end.BadNode = tt
of_node node_end.WireFault = tt
of_node node_end.WriteFault = tt
of_node node_end.NoMemory = tt

module _ (n : NodeNumbers) (before after : Wired) where
  -- where the node opened, of the calls of the wire none failed, or the last
  stage_wire : (stage : Stage) → Reaches n before after stage → NoneFailed before.wire_faults after.wire_faults ⊎ LastFailed before.wire_faults after.wire_faults
  stage_wire (NodeRefused fault) reaches = inl (stands before.wire_faults after.wire_faults reaches.1.wire_faults)
  stage_wire BindFailed reaches = inr reaches.2
  stage_wire (PortBound port) reaches = inl reaches.2
  stage_wire (ServingEnded port node how) reaches = by how reaches.2 where
    by : (how : ServeEnd) → CountsServe before.wire_faults after.wire_faults how → NoneFailed before.wire_faults after.wire_faults ⊎ LastFailed before.wire_faults after.wire_faults
    by serve_end.Frames counts = inl counts
    by (serve_end.Idles served) counts = inl counts
    by (serve_end.WireFault served) counts = inr counts

  -- an end whose line was written says whether the wire failed
  whole_fault : (stage : Stage) → IsEndAt stage node_end.WireFault → Reaches n before after stage → LastFailed before.wire_faults after.wire_faults
  whole_fault (NodeRefused fault) is reaches = absurd (differs status.WireFault status.BadNode (ap node_status is) (λ same. omega (arith, same)))
  whole_fault BindFailed is reaches = reaches.2
  whole_fault (PortBound port) is reaches = absurd is
  whole_fault (ServingEnded port node how) is reaches = by how is reaches.2 where
    by : (how : ServeEnd) → node_end.WireFault ≡ end_by how node → CountsServe before.wire_faults after.wire_faults how → LastFailed before.wire_faults after.wire_faults
    by serve_end.Frames is counts = absurd (differs status.WireFault status.Ok (ap node_status is) (λ same. omega (arith, same)))
    by (serve_end.Idles served) is counts = absurd (differs status.WireFault status.Ok (ap node_status is) (λ same. omega (arith, same)))
    by (serve_end.WireFault served) is counts = counts

  whole_good : (stage : Stage) (answer : NodeEnd) → IsEndAt stage answer → (answer ≡ node_end.WireFault → ⊥) → Reaches n before after stage → NoneFailed before.wire_faults after.wire_faults
  whole_good (NodeRefused fault) answer is other reaches = stands before.wire_faults after.wire_faults reaches.1.wire_faults
  whole_good BindFailed answer is other reaches = absurd (other is)
  whole_good (PortBound port) answer is other reaches = absurd is
  whole_good (ServingEnded port node how) answer is other reaches = by how is reaches.2 where
    by : (how : ServeEnd) → answer ≡ end_by how node → CountsServe before.wire_faults after.wire_faults how → NoneFailed before.wire_faults after.wire_faults
    by serve_end.Frames is counts = counts
    by (serve_end.Idles served) is counts = counts
    by (serve_end.WireFault served) is counts = absurd (other is)

  -- a node that was refused doesn't open
  pub refused_node : NodeEnds n before after node_end.BadNode → (fault : OpenFault) × (open_fault n.config ≡ Some fault)
  refused_node ends = by ends.stage ends.reaches ends.is_end where
    by : (stage : Stage) → Reaches n before after stage → IsEndAt stage node_end.BadNode → (fault : OpenFault) × (open_fault n.config ≡ Some fault)
    by (NodeRefused fault) reaches is = (fault, reaches.0)
    by BindFailed reaches is = absurd (differs status.BadNode status.WireFault (ap node_status is) (λ same. omega (arith, same)))
    by (PortBound port) reaches is = absurd is
    by (ServingEnded port node how) reaches is = at how is where
      at : (how : ServeEnd) → node_end.BadNode ≡ end_by how node → (fault : OpenFault) × (open_fault n.config ≡ Some fault)
      at serve_end.Frames is = absurd (differs status.BadNode status.Ok (ap node_status is) (λ same. omega (arith, same)))
      at (serve_end.Idles served) is = absurd (differs status.BadNode status.Ok (ap node_status is) (λ same. omega (arith, same)))
      at (serve_end.WireFault served) is = absurd (differs status.BadNode status.WireFault (ap node_status is) (λ same. omega (arith, same)))

  -- a node that was served opens
  pub served_opens : (node : KeptNode) → NodeEnds n before after (node_end.Served node) → open_fault n.config ≡ None
  served_opens node ends = by ends.stage ends.reaches ends.is_end where
    by : (stage : Stage) → Reaches n before after stage → IsEndAt stage (node_end.Served node) → open_fault n.config ≡ None
    by (NodeRefused fault) reaches is = absurd (differs status.Ok status.BadNode (ap node_status is) (λ same. omega (arith, same)))
    by BindFailed reaches is = reaches.0.opens
    by (PortBound port) reaches is = reaches.0.opens
    by (ServingEnded port kept how) reaches is = reaches.0.opens

  pub node_write : (how : NodeEnd) → node_status how ≡ status.WriteFault → NodeEnds n before after how → LastFailed before.write_faults after.write_faults
  node_write node_end.WriteFault is ends = ends.writes
  node_write (node_end.Served node) is ends = absurd (differs status.Ok status.WriteFault is (λ same. omega (arith, same)))
  node_write node_end.BadNode is ends = absurd (differs status.BadNode status.WriteFault is (λ same. omega (arith, same)))
  node_write node_end.WireFault is ends = absurd (differs status.WireFault status.WriteFault is (λ same. omega (arith, same)))
  node_write node_end.NoMemory is ends = absurd (differs status.NoMemory status.WriteFault is (λ same. omega (arith, same)))

  pub node_no_write : (how : NodeEnd) → (node_status how ≡ status.WriteFault → ⊥) → NodeEnds n before after how → NoneFailed before.write_faults after.write_faults
  node_no_write node_end.WriteFault other ends = absurd (other refl)
  node_no_write (node_end.Served node) other ends = ends.writes
  node_no_write node_end.BadNode other ends = ends.writes
  node_no_write node_end.WireFault other ends = ends.writes
  node_no_write node_end.NoMemory other (inl unopened) = stands before.write_faults after.write_faults unopened.write_faults
  node_no_write node_end.NoMemory other (inr short) = short.writes

  pub node_wire : (how : NodeEnd) → node_status how ≡ status.WireFault → NodeEnds n before after how → LastFailed before.wire_faults after.wire_faults
  node_wire node_end.WireFault is ends = whole_fault ends.stage ends.is_end ends.reaches
  node_wire (node_end.Served node) is ends = absurd (differs status.Ok status.WireFault is (λ same. omega (arith, same)))
  node_wire node_end.BadNode is ends = absurd (differs status.BadNode status.WireFault is (λ same. omega (arith, same)))
  node_wire node_end.WriteFault is ends = absurd (differs status.WriteFault status.WireFault is (λ same. omega (arith, same)))
  node_wire node_end.NoMemory is ends = absurd (differs status.NoMemory status.WireFault is (λ same. omega (arith, same)))

  -- where the end is another, the wire failed last only where a text was cut short
  pub node_no_wire : (how : NodeEnd) → (node_status how ≡ status.WireFault → ⊥) → NodeEnds n before after how
      → NoneFailed before.wire_faults after.wire_faults ⊎ (LastFailed before.wire_faults after.wire_faults × ((node_status how ≡ status.WriteFault) ⊎ (node_status how ≡ status.NoMemory)))
  node_no_wire node_end.WireFault other ends = absurd (other refl)
  node_no_wire (node_end.Served node) other ends = inl (whole_good ends.stage (node_end.Served node) ends.is_end (λ same. other (ap node_status same)) ends.reaches)
  node_no_wire node_end.BadNode other ends = inl (whole_good ends.stage node_end.BadNode ends.is_end (λ same. other (ap node_status same)) ends.reaches)
  node_no_wire node_end.WriteFault other ends = with_cut (stage_wire ends.stage ends.reaches) where
    with_cut : NoneFailed before.wire_faults after.wire_faults ⊎ LastFailed before.wire_faults after.wire_faults
        → NoneFailed before.wire_faults after.wire_faults ⊎ (LastFailed before.wire_faults after.wire_faults × ((status.WriteFault ≡ status.WriteFault) ⊎ (status.WriteFault ≡ status.NoMemory)))
    with_cut (inl none) = inl none
    with_cut (inr last) = inr (last, inl refl)
  node_no_wire node_end.NoMemory other (inl unopened) = inl (stands before.wire_faults after.wire_faults unopened.wire.wire_faults)
  node_no_wire node_end.NoMemory other (inr short) = with_cut (stage_wire short.stage short.reaches) where
    with_cut : NoneFailed before.wire_faults after.wire_faults ⊎ LastFailed before.wire_faults after.wire_faults
        → NoneFailed before.wire_faults after.wire_faults ⊎ (LastFailed before.wire_faults after.wire_faults × ((status.NoMemory ≡ status.WriteFault) ⊎ (status.NoMemory ≡ status.NoMemory)))
    with_cut (inl none) = inl none
    with_cut (inr last) = inr (last, inr refl)

-- ---- a driven client
-- driving a client ends with one of these
abbrev pub OfClient : Status → Type 0
OfClient status.Ok = Unit {0}
OfClient status.Stalled = Unit {0}
OfClient status.WireFault = Unit {0}
OfClient status.WriteFault = Unit {0}
OfClient status.NoMemory = Unit {0}
OfClient other = ⊥

pub of_client : (how : ClientEnd) → OfClient (client_status how)
of_client (client_end.Driven client) = tt
of_client client_end.Stalled = tt
of_client client_end.WireFault = tt
of_client client_end.WriteFault = tt
of_client client_end.NoMemory = tt

module _ (t : Task) (before after : Wired) where
  stop_wire : (stop : DriveStop) → CountsStop stop before.wire_faults after.wire_faults → NoneFailed before.wire_faults after.wire_faults ⊎ LastFailed before.wire_faults after.wire_faults
  stop_wire AllEnded counts = inl counts
  stop_wire (Stalled moment) counts = inl counts
  stop_wire WireFailed counts = inr counts

  cut_wire : CutIn t before after → NoneFailed before.wire_faults after.wire_faults ⊎ LastFailed before.wire_faults after.wire_faults
  cut_wire (FaultLine unbound front) = inr unbound.wire
  cut_wire (TurnText broken) = inl broken.wire
  cut_wire (LastLine client stop printed driven front) = stop_wire stop driven.wire

  pub client_write : (how : ClientEnd) → client_status how ≡ status.WriteFault → ClientEnds t before after how → LastFailed before.write_faults after.write_faults
  client_write client_end.WriteFault is ends = ends.1
  client_write (client_end.Driven client) is ends = absurd (differs status.Ok status.WriteFault is (λ same. omega (arith, same)))
  client_write client_end.Stalled is ends = absurd (differs status.Stalled status.WriteFault is (λ same. omega (arith, same)))
  client_write client_end.WireFault is ends = absurd (differs status.WireFault status.WriteFault is (λ same. omega (arith, same)))
  client_write client_end.NoMemory is ends = absurd (differs status.NoMemory status.WriteFault is (λ same. omega (arith, same)))

  pub client_no_write : (how : ClientEnd) → (client_status how ≡ status.WriteFault → ⊥) → ClientEnds t before after how → NoneFailed before.write_faults after.write_faults
  client_no_write client_end.WriteFault other ends = absurd (other refl)
  client_no_write (client_end.Driven client) other ends = ends.sink
  client_no_write client_end.Stalled other ends = ends.2.sink
  client_no_write client_end.WireFault other (inl unbound) = unbound.sink
  client_no_write client_end.WireFault other (inr (client, stops)) = stops.sink
  client_no_write client_end.NoMemory other ends = ends.sink

  pub client_wire : (how : ClientEnd) → client_status how ≡ status.WireFault → ClientEnds t before after how → LastFailed before.wire_faults after.wire_faults
  client_wire client_end.WireFault is (inl unbound) = unbound.unbound.wire
  client_wire client_end.WireFault is (inr (client, stops)) = stops.driven.wire
  client_wire (client_end.Driven client) is ends = absurd (differs status.Ok status.WireFault is (λ same. omega (arith, same)))
  client_wire client_end.Stalled is ends = absurd (differs status.Stalled status.WireFault is (λ same. omega (arith, same)))
  client_wire client_end.WriteFault is ends = absurd (differs status.WriteFault status.WireFault is (λ same. omega (arith, same)))
  client_wire client_end.NoMemory is ends = absurd (differs status.NoMemory status.WireFault is (λ same. omega (arith, same)))

  pub client_no_wire : (how : ClientEnd) → (client_status how ≡ status.WireFault → ⊥) → ClientEnds t before after how
      → NoneFailed before.wire_faults after.wire_faults ⊎ (LastFailed before.wire_faults after.wire_faults × ((client_status how ≡ status.WriteFault) ⊎ (client_status how ≡ status.NoMemory)))
  client_no_wire client_end.WireFault other ends = absurd (other refl)
  client_no_wire (client_end.Driven client) other ends = inl ends.driven.wire
  client_no_wire client_end.Stalled other ends = inl ends.2.driven.wire
  client_no_wire client_end.NoMemory other ends = inl ends.wire
  client_no_wire client_end.WriteFault other ends = with_cut (cut_wire ends.0) where
    with_cut : NoneFailed before.wire_faults after.wire_faults ⊎ LastFailed before.wire_faults after.wire_faults
        → NoneFailed before.wire_faults after.wire_faults ⊎ (LastFailed before.wire_faults after.wire_faults × ((status.WriteFault ≡ status.WriteFault) ⊎ (status.WriteFault ≡ status.NoMemory)))
    with_cut (inl none) = inl none
    with_cut (inr last) = inr (last, inl refl)
