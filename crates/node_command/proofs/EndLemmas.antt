-- How the command ends, by what became of a line.
use Rattle.std.proofs.Common.{◌≡◌, inl, inr, ℕ, List, [], ◌++◌, Option, Some, None, refl, sym, ap, subst, ◌∙◌, append_assoc, Result, Ok, Err}
use Rattle.std.specs.Prelude.{IfErr, IsErrAnd, MatchOption, true, false}
use Rattle.std.specs.Option.{option_map}
use Rattle.std.proofs.lemmas.List.{append-nil}
use Rattle.cl_outside.specs.Clock.{Moments}
use Rattle.cl_outside.specs.Counts.{LastFailed, NoneFailed, one_more}
use Rattle.cl_outside.specs.Told.{Added}
use Rattle.cl_outside.specs.declared.faults.Faults.{Faults}
use Rattle.cl_types.specs.declared.config.NodeConfig.{NodeConfig}
use Rattle.cl_types.specs.declared.open_fault.OpenFault.{OpenFault}
use Rattle.cl_types.specs.declared.open_fault.OpenFault.TheVariants as memory
use Rattle.node_core.specs.Keeping.{KeptNode}
use Rattle.texts.specs.Texts.{open_fault_line}
use Rattle.wire_loop.specs.Serves.{CountsServe, Serves, Told, incoming, told_of}
use Rattle.wire_loop.specs.declared.serving.ServeEnd.{ServeEnd}
use Rattle.wire_loop.specs.declared.serving.ServeEnd.TheVariants as serve_end
use Rattle.wire_loop.specs.Wired.{Wired, wired, wire_fault_line}
use Rattle.cl_outside.specs.Wire.{Message}
use Rattle.cl_outside.specs.declared.wire.Bound.TheVariants.{Port, Failed}
use Rattle.node_command.specs.Lines.{end_line, port_line}
use Rattle.node_command.specs.Ends.{Binds, EndsWhole, end_by, node_of, numbers, IsEndAt, NodeEnds, NodeNumbers, Reaches, Stage, NodeRefused, BindFailed, PortBound, ServingEnded, line_at, text_before}
use Rattle.node_command.specs.Writing.{EndsFrom, EndsOn, EndsRefused, IsBound, WritesLine, cut_end, is_memory}
use Rattle.node_command.specs.declared.node_end.Cut.{Cut}
use Rattle.node_command.specs.declared.node_end.Cut.TheVariants as cut
use Rattle.node_command.specs.declared.node_end.NodeEnd.{NodeEnd}
use Rattle.node_command.specs.declared.node_end.NodeEnd.TheVariants as node_end

-- ---- what was written, and which writes failed
-- nothing was added
pub added_nothing : (written : Option (List ℕ)) → Added [] written written
added_nothing None = refl
added_nothing (Some text) = ap Some (sym (append-nil text))

-- one text after another
pub added_both : (xs ys : List ℕ) (a b c : Option (List ℕ)) → Added xs a b → Added ys b c → Added (xs ++ ys) a c
added_both xs ys None b c first second = second ∙ ap (λ (o : Option (List ℕ)). option_map (λ old. old ++ ys) o) first
added_both xs ys (Some zs) b c first second =
    second ∙ ap (λ (o : Option (List ℕ)). option_map (λ old. old ++ ys) o) first ∙ ap Some (append_assoc zs xs ys)

-- a call failed after others of which none did
pub last_after_none : (a b c : Faults) → NoneFailed a b → LastFailed b c → LastFailed a c
last_after_none a b c none last = last ∙ ap (λ (k : ℕ). record { count = one_more k; last = true }) none

-- an error by what it is
pub err_is : {A E : Type 0} (r : Result A E) (error : E) → IsErrAnd r (λ other. other ≡ error) → r ≡ Err error
err_is (Ok x) error is = absurd is
err_is (Err other) error is = ap Err is

-- ---- a line of a stage
-- the end where the line was cut
pub line_cut : (n : NodeNumbers) (before after : Wired) (stage : Stage) (between : Option (List ℕ)) (faults : Faults)
    (reason : Cut) (answer : NodeEnd) → Reaches n before after stage → Added (text_before stage) before.written between
    → NoneFailed before.write_faults faults
    → WritesLine (line_at n.frames stage) between after.written faults after.write_faults (Err reason)
    → answer ≡ cut_end reason → NodeEnds n before after answer
line_cut n before after stage between faults cut.WriteFault answer reaches text none line is =
    subst (NodeEnds n before after) (sym is) (record {
      stage = stage;
      reaches = reaches;
      between = between;
      text = text;
      front = line.0;
      writes = last_after_none before.write_faults faults after.write_faults none line.1;
    })
line_cut n before after stage between faults cut.NoMemory answer reaches text none line is =
    subst (NodeEnds n before after) (sym is) (inr (record {
      stage = stage;
      reaches = reaches;
      text = line.0 ∙ text;
      writes = ap (λ (f : Faults). f.count) line.1 ∙ none;
    }))

-- a command whose text was all written ends so
whole_ends : (n : NodeNumbers) (before after : Wired) (answer : NodeEnd) → EndsWhole n before after answer
    → NodeEnds n before after answer
whole_ends n before after (node_end.Served node) whole = whole
whole_ends n before after node_end.BadNode whole = whole
whole_ends n before after node_end.WireFault whole = whole
whole_ends n before after node_end.WriteFault whole = absurd (no_cut whole.stage whole.is_end)
  where
    no_serving : (node : KeptNode) (how : ServeEnd) → node_end.WriteFault ≡ end_by how node → ⊥
    no_serving node serve_end.Frames is = absurd cc
    no_serving node (serve_end.Idles served) is = absurd cc
    no_serving node (serve_end.WireFault served) is = absurd cc

    no_cut : (stage : Stage) → IsEndAt stage node_end.WriteFault → ⊥
    no_cut (NodeRefused fault) is = absurd cc
    no_cut BindFailed is = absurd cc
    no_cut (PortBound port) is = is
    no_cut (ServingEnded port node how) is = no_serving node how is
whole_ends n before after node_end.NoMemory whole = absurd (no_cut whole.stage whole.is_end)
  where
    no_serving : (node : KeptNode) (how : ServeEnd) → node_end.NoMemory ≡ end_by how node → ⊥
    no_serving node serve_end.Frames is = absurd cc
    no_serving node (serve_end.Idles served) is = absurd cc
    no_serving node (serve_end.WireFault served) is = absurd cc

    no_cut : (stage : Stage) → IsEndAt stage node_end.NoMemory → ⊥
    no_cut (NodeRefused fault) is = absurd cc
    no_cut BindFailed is = absurd cc
    no_cut (PortBound port) is = is
    no_cut (ServingEnded port node how) is = no_serving node how is

-- the end where the line was written
pub line_whole : (n : NodeNumbers) (before after : Wired) (stage : Stage) (between : Option (List ℕ)) (faults : Faults)
    (answer : NodeEnd) → Reaches n before after stage → Added (text_before stage) before.written between
    → NoneFailed before.write_faults faults
    → WritesLine (line_at n.frames stage) between after.written faults after.write_faults (Ok tt)
    → IsEndAt stage answer → NodeEnds n before after answer
line_whole n before after stage between faults answer reaches text none line is =
    whole_ends n before after answer (record {
      stage = stage;
      reaches = reaches;
      is_end = is;
      text = added_both (text_before stage) (line_at n.frames stage) before.written between after.written text line.0;
      writes = line.1 ∙ none;
    })

-- ---- a node that doesn't open
-- the reason is that of the configuration, where it isn't memory
refused_for : (fault : OpenFault) (found : Option OpenFault) → is_memory fault ≡ false
    → MatchOption found (fault ≡ memory.NoMemory) (λ other. fault ≡ other) → found ≡ Some fault
refused_for fault None other is = let both : true ≡ false = sym (ap is_memory is) ∙ other in absurd cc
refused_for fault (Some found) other is = ap Some (sym is)

module _ (fault : OpenFault) (before after : Option (List ℕ)) (faults faults' : Faults) where
  -- for memory nothing is written
  pub refused_silently : (answer : NodeEnd) → after ≡ before → faults' ≡ faults → answer ≡ node_end.NoMemory
      → EndsRefused fault before after faults faults' answer
  refused_silently answer written counted is n told last_bind wire_faults refused =
      subst
      (NodeEnds n (wired told last_bind wire_faults before faults) (wired told last_bind wire_faults after faults')) (sym is)
      (inl (record {
        wire = record { told = refl; last_bind = refl; wire_faults = refl };
        written = written;
        write_faults = counted;
      }))

  -- the line of the reason was written
  pub refused_whole : (answer : NodeEnd) → is_memory fault ≡ false
      → WritesLine (open_fault_line fault) before after faults faults' (Ok tt) → answer ≡ node_end.BadNode
      → EndsRefused fault before after faults faults' answer
  refused_whole answer other line is n told last_bind wire_faults refused =
      line_whole n (wired told last_bind wire_faults before faults) (wired told last_bind wire_faults after faults')
      (NodeRefused fault) before faults answer
      (refused_for fault _ other refused, record { told = refl; last_bind = refl; wire_faults = refl })
      (added_nothing before) refl line is

  -- it was cut
  pub refused_cut : (reason : Cut) (answer : NodeEnd) → is_memory fault ≡ false
      → WritesLine (open_fault_line fault) before after faults faults' (Err reason) → answer ≡ cut_end reason
      → EndsRefused fault before after faults faults' answer
  refused_cut reason answer other line is n told last_bind wire_faults refused =
      line_cut n (wired told last_bind wire_faults before faults) (wired told last_bind wire_faults after faults')
      (NodeRefused fault) before faults reason answer
      (refused_for fault _ other refused, record { told = refl; last_bind = refl; wire_faults = refl })
      (added_nothing before) refl line is

-- ---- a port that is bound
-- the wire failed as serving's end says, after calls of which none did
counts_on : (a b c : Faults) (how : ServeEnd) → NoneFailed a b → CountsServe b c how → CountsServe a c how
counts_on a b c serve_end.Frames none counts = counts ∙ none
counts_on a b c (serve_end.Idles served) none counts = counts ∙ none
counts_on a b c (serve_end.WireFault served) none counts = last_after_none a b c none counts

module _ (port : ℕ) (node : KeptNode) (frames idles : ℕ) (now after : Wired) where
  -- the port's line was cut, and the wire is as it was bound
  pub port_cut : (reason : Cut) (answer : NodeEnd) → after.told ≡ now.told → after.last_bind ≡ now.last_bind
      → after.wire_faults ≡ now.wire_faults
      → WritesLine (port_line port) now.written after.written now.write_faults after.write_faults (Err reason)
      → answer ≡ cut_end reason → EndsFrom port node frames idles now after answer
  port_cut reason answer told last_bind wire_faults line is asked config before fresh bound =
      line_cut (numbers asked config frames idles) before after (PortBound port) now.written now.write_faults reason answer (
        record { opens = bound.so.opens; binds = last_bind ∙ bound.so.binds },
        told ∙ bound.told,
        ap (λ (f : Faults). f.count) wire_faults ∙ bound.wire_faults,
      )
      (bound.written ∙ added_nothing before.written) (ap (λ (f : Faults). f.count) bound.write_faults) line is

  module _ (new : KeptNode) (how : ServeEnd) (between : Option (List ℕ)) (faults : Faults)
      (announced : WritesLine (port_line port) now.written between now.write_faults faults (Ok tt))
      (serves : Serves frames idles node new now.told after.told how)
      (counts : CountsServe now.wire_faults after.wire_faults how) (last_bind : after.last_bind ≡ now.last_bind) where
    reaches : (asked : ℕ) (config : NodeConfig) (before : Wired) → node ≡ node_of config
        → IsBound (numbers asked config frames idles) port before now
        → Reaches (numbers asked config frames idles) before after (ServingEnded port new how)
    reaches asked config before fresh bound = (
      record { opens = bound.so.opens; binds = last_bind ∙ bound.so.binds },
      subst (λ (told : Told). Serves frames idles (node_of config) new told after.told how) bound.told
          (subst (λ (old : KeptNode). Serves frames idles old new now.told after.told how) fresh serves),
      counts_on before.wire_faults now.wire_faults after.wire_faults how bound.wire_faults counts,
    )

    text : (asked : ℕ) (config : NodeConfig) (before : Wired) → IsBound (numbers asked config frames idles) port before now
        → Added (port_line port) before.written between
    text asked config before bound =
        subst (λ (written : Option (List ℕ)). Added (port_line port) written between) bound.written announced.0

    writes : (asked : ℕ) (config : NodeConfig) (before : Wired) → IsBound (numbers asked config frames idles) port before now
        → NoneFailed before.write_faults faults
    writes asked config before bound = announced.1 ∙ ap (λ (f : Faults). f.count) bound.write_faults

    -- the line of serving's end was written
    pub end_whole : (answer : NodeEnd)
        → WritesLine (end_line frames how) between after.written faults after.write_faults (Ok tt) → answer ≡ end_by how new
        → EndsFrom port node frames idles now after answer
    end_whole answer line is asked config before fresh bound =
        line_whole (numbers asked config frames idles) before after (ServingEnded port new how) between faults answer
        (reaches asked config before fresh bound) (text asked config before bound) (writes asked config before bound) line is

    -- it was cut
    pub end_cut : (reason : Cut) (answer : NodeEnd)
        → WritesLine (end_line frames how) between after.written faults after.write_faults (Err reason) → answer ≡ cut_end reason
        → EndsFrom port node frames idles now after answer
    end_cut reason answer line is asked config before fresh bound =
        line_cut (numbers asked config frames idles) before after (ServingEnded port new how) between faults reason answer
        (reaches asked config before fresh bound) (text asked config before bound) (writes asked config before bound) line is

-- ---- a port that is not bound
-- a wire of which nothing was received or sent shows the same
pub told_same : (coming coming' : Option (List Message)) (idles idles' : ℕ) (sent sent' : Option (List Message)) (moments : Option Moments)
    → coming' ≡ coming → idles' ≡ idles → sent' ≡ sent
    → told_of (incoming coming' idles') sent' moments ≡ told_of (incoming coming idles) sent moments
told_same coming coming' idles idles' sent sent' moments same_coming same_idles same_sent =
    λ i. told_of (incoming (same_coming i) (same_idles i)) (same_sent i) moments

module _ (port : ℕ) (node : KeptNode) (frames idles : ℕ) (before after : Wired) (told : after.told ≡ before.told)
    (binds : Binds port Failed before after) (last : LastFailed before.wire_faults after.wire_faults) where
  -- the line was written
  pub unbound_whole : (answer : NodeEnd)
      → WritesLine wire_fault_line before.written after.written before.write_faults after.write_faults (Ok tt)
      → answer ≡ node_end.WireFault → EndsOn port node frames idles before after answer
  unbound_whole answer line is config fresh opens =
      line_whole (numbers port config frames idles) before after BindFailed before.written before.write_faults answer
      (record { opens = opens; binds = binds }, told, last) (added_nothing before.written) refl line is

  -- it was cut
  pub unbound_cut : (reason : Cut) (answer : NodeEnd)
      → WritesLine wire_fault_line before.written after.written before.write_faults after.write_faults (Err reason)
      → answer ≡ cut_end reason → EndsOn port node frames idles before after answer
  unbound_cut reason answer line is config fresh opens =
      line_cut (numbers port config frames idles) before after BindFailed before.written before.write_faults reason answer
      (record { opens = opens; binds = binds }, told, last) (added_nothing before.written) refl line is

-- the port was bound, and all that came after is the command's end
pub bound_on : (asked port : ℕ) (node : KeptNode) (frames idles : ℕ) (before now after : Wired) (answer : NodeEnd)
    → Binds asked (Port port) before now → now.told ≡ before.told → NoneFailed before.wire_faults now.wire_faults
    → now.written ≡ before.written → now.write_faults ≡ before.write_faults
    → EndsFrom port node frames idles now after answer → EndsOn asked node frames idles before after answer
bound_on asked port node frames idles before now after answer binds told faults written write_faults ends config fresh opens =
    ends asked config before fresh (record {
      so = record { opens = opens; binds = binds };
      told = told;
      wire_faults = faults;
      written = written;
      write_faults = write_faults;
    })

-- ---- opening the node
-- a node that was created opens
pub created_opens : {A : Type 0} (found : Option OpenFault) (node : A)
    → MatchOption found (IfErr {T = A} (Ok node) (λ fault. fault ≡ memory.NoMemory))
    (λ fault. ◌≡◌ {A = Result A OpenFault} (Ok node) (Err fault))
    → found ≡ None
created_opens None node is = refl
created_opens (Some fault) node is = absurd cc

-- a node that was not created doesn't open for this reason, or there was no memory
pub refused_by : (A : Type 0) (found : Option OpenFault) (fault : OpenFault)
    → MatchOption found (IfErr {T = A} (Err fault) (λ other. other ≡ memory.NoMemory))
    (λ other. ◌≡◌ {A = Result A OpenFault} (Err fault) (Err other))
    → MatchOption found (fault ≡ memory.NoMemory) (λ other. fault ≡ other)
refused_by A None fault is = is
refused_by A (Some found) fault is = cc
