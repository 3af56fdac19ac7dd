-- How the command ends, by how its client was driven and what became of the last line.
use Rattle.std.proofs.Common.{◌≡◌, true, inl, inr, ℕ, List, [], Option, Some, None, refl, sym, ap, subst, ◌∙◌, arith}
use Rattle.std.proofs.lemmas.List.{append-nil}
use Rattle.cl_outside.specs.Clock.{Moments}
use Rattle.cl_outside.specs.Counts.{LastFailed, NoneFailed, after_fault, after_good, one_more}
use Rattle.cl_outside.specs.Loops.{WroteFront}
use Rattle.cl_outside.specs.Told.{Added}
use Rattle.cl_outside.specs.Wire.{Message}
use Rattle.cl_outside.specs.declared.faults.Faults.{Faults}
use Rattle.cl_outside.specs.declared.wire.Bound.TheVariants as bound
use Rattle.cl_outside.specs.declared.wire.Peer.{Peer}
use Rattle.cl_types.specs.declared.limits.TheConstants.{STALL_TURNS}
use Rattle.client_model.specs.Client.{ClientState}
use Rattle.texts.specs.Text.{Text}
use Rattle.wire_loop.specs.Driving.{DriveStop, AllEnded, Stalled, WireFailed}
use Rattle.wire_loop.specs.Drives.{BreaksOff, Drives}
use Rattle.wire_loop.specs.Serves.{Told, incoming, told_of}
use Rattle.wire_loop.specs.Wired.{Wired}
use Rattle.client_command.specs.Lines.{EndsStalled, EndsWireFault, stalled_line}
use Rattle.client_command.specs.Ends.{BindsAny, BrokenOff, CountsStop, DrivenTo, ClientEnds, FaultLine, LastLine, Task, Unbound}
use Rattle.client_command.specs.declared.ends.ClientEnd.{ClientEnd}
use Rattle.client_command.specs.declared.ends.ClientEnd.TheVariants as end

-- ---- what was written
-- nothing was added
pub added_nothing : (written : Option (List ℕ)) → Added [] written written
added_nothing None = refl
added_nothing (Some text) = ap Some (sym (append-nil text))

-- nothing of a line was written
front_of_nothing : (line : Text) (before after : Option (List ℕ)) → after ≡ before → WroteFront line before after
front_of_nothing line before after is = (0, omega arith, is ∙ added_nothing before)

-- ---- which calls failed
-- a call failed after others of which none did
last_after_none : (a b c : Faults) → NoneFailed a b → LastFailed b c → LastFailed a c
last_after_none a b c none last = last ∙ ap (λ (k : ℕ). record { count = one_more k; last = true }) none

-- a call that did not fail comes before those up to a stop
good_before_stop : (stop : DriveStop) (a b c : Faults) → b ≡ after_good a → CountsStop stop b c → CountsStop stop a c
good_before_stop AllEnded a b c good none = none ∙ ap (λ (f : Faults). f.count) good
good_before_stop (Stalled moment) a b c good none = none ∙ ap (λ (f : Faults). f.count) good
good_before_stop WireFailed a b c good last = last ∙ ap after_fault good

-- ---- the bind
-- what a wire tells that stands as it was
pub told_same : (coming coming' : Option (List Message)) (idles idles' : ℕ) (sent sent' : Option (List Message)) (moments : Option Moments)
    → coming' ≡ coming → idles' ≡ idles → sent' ≡ sent
    → told_of (incoming coming' idles') sent' moments ≡ told_of (incoming coming idles) sent moments
told_same coming coming' idles idles' sent sent' moments is_coming is_idles is_sent =
    λ i. told_of (incoming (is_coming i) (is_idles i)) (is_sent i) moments

-- the wire was given this port, and what it tells stands
pub record Found (port : ℕ) (before between : Wired) : Type 0 where
  pub bound : BindsAny (bound.Port port) before between
  pub told : between.told ≡ before.told
  pub good : between.wire_faults ≡ after_good before.wire_faults

-- ---- driving behind the bind
pub driven_to : (t : Task) (before between after : Wired) (port : ℕ) (first client : ClientState) (printed : Option (List ℕ))
    (stop : DriveStop) (node : Peer) → Found port before between → first ≡ t.client → node ≡ t.node
    → Drives first client t.script node between.told after.told before.written printed stop
    → CountsStop stop between.wire_faults after.wire_faults → after.last_bind ≡ between.last_bind
    → DrivenTo t client stop before after printed
driven_to t before between after port first client printed stop node found is_first is_node drives counts stays = record {
  port = port;
  bound = stays ∙ found.bound;
  drives =
      subst (λ (s : ClientState). Drives s client t.script t.node before.told after.told before.written printed stop) is_first
      (subst (λ (n : Peer). Drives first client t.script n before.told after.told before.written printed stop) is_node
      (subst (λ (told : Told). Drives first client t.script node told after.told before.written printed stop) found.told drives));
  wire = good_before_stop stop before.wire_faults between.wire_faults after.wire_faults found.good counts;
}

pub broken_off : (t : Task) (before between after : Wired) (port : ℕ) (first : ClientState) (node : Peer)
    → Found port before between → first ≡ t.client → node ≡ t.node
    → BreaksOff first t.script node between.told after.told before.written after.written
    → NoneFailed between.wire_faults after.wire_faults → after.last_bind ≡ between.last_bind
    → BrokenOff t before after
broken_off t before between after port first node found is_first is_node breaks none stays = record {
  port = port;
  bound = stays ∙ found.bound;
  breaks =
      subst (λ (s : ClientState). BreaksOff s t.script t.node before.told after.told before.written after.written) is_first
      (subst (λ (n : Peer). BreaksOff first t.script n before.told after.told before.written after.written) is_node
      (subst (λ (told : Told). BreaksOff first t.script node told after.told before.written after.written) found.told breaks));
  wire = none ∙ ap (λ (f : Faults). f.count) found.good;
}

-- ---- the last line
-- a client stalled
pub stalled_ends : (t : Task) (before after : Wired) (client : ClientState) (moment turns : ℕ) (printed : Option (List ℕ))
    (faults : Faults) → DrivenTo t client (Stalled moment) before after printed → NoneFailed before.write_faults faults
    → turns ≡ STALL_TURNS → (ended : ClientEnd)
    → EndsStalled (stalled_line moment turns) printed after.written faults after.write_faults ended → ClientEnds t before after ended
stalled_ends t before after client moment turns printed faults driven none are end.Stalled says =
    let line = subst (λ (n : ℕ). Added (stalled_line moment n) printed after.written) are says.0 in
    (client, moment, record { printed = printed; driven = driven; line = line; sink = says.1 ∙ none })
stalled_ends t before after client moment turns printed faults driven none are end.WriteFault says =
    let front = subst (λ (n : ℕ). WroteFront (stalled_line moment n) printed after.written) are says.0 in (
      LastLine client (Stalled moment) printed driven front,
      last_after_none before.write_faults faults after.write_faults none says.1,
    )
stalled_ends t before after client moment turns printed faults driven none are end.NoMemory says =
    let front = front_of_nothing (stalled_line moment STALL_TURNS) printed after.written says.0 in
    record { came = inr (LastLine client (Stalled moment) printed driven front); wire = driven.wire; sink = says.1 ∙ none }
stalled_ends t before after client moment turns printed faults driven none are (end.Driven other) says = absurd says
stalled_ends t before after client moment turns printed faults driven none are end.WireFault says = absurd says

-- the wire failed in a turn
pub fault_ends : (t : Task) (before after : Wired) (client : ClientState) (printed : Option (List ℕ)) (faults : Faults)
    → DrivenTo t client WireFailed before after printed → NoneFailed before.write_faults faults → (ended : ClientEnd)
    → EndsWireFault printed after.written faults after.write_faults ended → ClientEnds t before after ended
fault_ends t before after client printed faults driven none end.WireFault says =
    inr (client, record { printed = printed; driven = driven; line = says.0; sink = says.1 ∙ none })
fault_ends t before after client printed faults driven none end.WriteFault says =
    (LastLine client WireFailed printed driven says.0, last_after_none before.write_faults faults after.write_faults none says.1)
fault_ends t before after client printed faults driven none (end.Driven other) says = absurd says
fault_ends t before after client printed faults driven none end.Stalled says = absurd says
fault_ends t before after client printed faults driven none end.NoMemory says = absurd says

-- the bind failed
pub unbound_ends : (t : Task) (before after : Wired) → Unbound before after → (ended : ClientEnd)
    → EndsWireFault before.written after.written before.write_faults after.write_faults ended → ClientEnds t before after ended
unbound_ends t before after unbound end.WireFault says = inl (record { unbound = unbound; line = says.0; sink = says.1 })
unbound_ends t before after unbound end.WriteFault says = (FaultLine unbound says.0, says.1)
unbound_ends t before after unbound (end.Driven other) says = absurd says
unbound_ends t before after unbound end.Stalled says = absurd says
unbound_ends t before after unbound end.NoMemory says = absurd says
