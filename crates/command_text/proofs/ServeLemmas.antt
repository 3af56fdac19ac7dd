-- How serving a command ends that writes a text.
use Rattle.std.proofs.Common.{◌≡◌, inl, inr, ℕ, ◌+◌, ◌<◌, ◌≤◌, true, List, [], ◌∷◌, Option, Some, refl, sym, subst, arith, length}
use Rattle.std.specs.Prelude.{◌^◌}
use Rattle.std.specs.List.{AllByRecursion as Each}
use Rattle.cl_outside.specs.Counts.{LastFailed, NoneFailed}
use Rattle.cl_outside.specs.Loops.{TookUpTo}
use Rattle.cl_outside.specs.Told.{Added}
use Rattle.cl_types.specs.declared.limits.TheConstants.{INPUT_BYTES}
use Rattle.cl_types.specs.declared.schedule.Event.{Event}
use Rattle.cl_types.specs.declared.schedule.Schedule.{Schedule}
use Rattle.history_laws.proofs.AddsUp.{summaries_add_up}
use Rattle.schedule_text.specs.Reading.{too_long_of}
use Rattle.schedule_text.specs.declared.fault.ScheduleFault.TheVariants as long
use Rattle.texts.specs.Commands.{Command}
use Rattle.trace.specs.Events.{keep_all}
use Rattle.trace.specs.Schedules.{IsRisingFrom}
use Rattle.trace_laws.proofs.Spelled.{frames_are_spelled, rises_from_zero}
use Rattle.trace_laws.proofs.WindowKept.{one_account}
use Rattle.world.specs.Follows.{StandsFor}
use Rattle.world.specs.Running.{Running}
use Rattle.command_text.specs.Headline.{SucceedsInText, Worked}
use Rattle.command_text.specs.Working.{IsServed, Plays}
use Rattle.command_text.specs.TextEnds.{Asks, EndsInText, TakesBy, reads_input}
use Rattle.command_text.specs.Streams.{IsTooMany, Streams}
use Rattle.command_text.specs.Serving.{KeepsInText, Says, ServesInText}
use Rattle.command_text.specs.declared.output.Output.{Output}
use Rattle.command_text.specs.declared.left.Left.{Left}
use Rattle.command_text.specs.declared.left.Left.TheVariants as left
use Rattle.command_text.specs.declared.status.Status.{Status}
use Rattle.command_text.specs.declared.status.Status.TheVariants as status
use Rattle.command_text.proofs.HeadlineLemmas.{headline_of_good}
use Rattle.command_text.proofs.OutputLemmas.{IsFinal, many_long}
use Rattle.command_text.proofs.TextEndLemmas.{wrote_ends}

-- there are no more events than lines
few_events : (n most : ℕ) (events : List (ℕ × Event)) → IsRisingFrom n events → Each (λ (e : ℕ × Event). e.0 < most) events → n ≤ most → n + length events ≤ most
few_events n most [] rising below le = omega (arith, le)
few_events n most (e ∷ events) rising below le =
    let low : e.0 < most = below.0 in
    let rest : e.0 + 1 + length events ≤ most = few_events (e.0 + 1) most events rising.1 below.1 (omega (arith, low)) in
    omega (arith, rising.0, rest)

-- the events of a schedule were worked
pub worked_of : (s : Schedule) → IsServed s → (kept : Left) (w : Running) → kept ≡ left.Replayed w → StandsFor s.config s.events w → Worked s kept
worked_of s served kept w is stands = record {
  headline = headline_of_good s served.good;
  frames = frames_are_spelled s.config s.events served.good (let few : 1 + length s.events ≤ 2 ^ 29 = few_events 1 (2 ^ 29) s.events served.good.rising served.suited.bounded (omega arith) in omega (arith, few));
  counts = summaries_add_up keep_all s.config s.events served.good.known served.suited.apart;
  same = one_account s.config s.events served.keeps (rises_from_zero s.events served.good.rising) served.good.typed;
  world = w;
  left = is;
  stands = stands;
}

-- ---- an output
module _ (command : Option Command) (before after : Streams) (reads : NoneFailed before.read_faults after.read_faults) (output : Output) (asks : Asks command before.left after.left output) (final : IsFinal output.status) where
  abbrev Said : Status → Type 0
  Said st = Says output before.written after.written before.write_faults after.write_faults st

  -- an output that was written, or of which a front was
  pub says_ends : (st : Status) → Said st → EndsInText command before after st
  says_ends st (inl (is, added, writes)) =
      subst (EndsInText command before after) (sym is)
      (wrote_ends command before after output.status final (record { reads = reads; writes = writes; output = output; asks = asks; status = refl; added = added }))
  says_ends st (inr (is, front, failed)) = subst (EndsInText command before after) (sym is) (failed, reads, output, asks, front)

-- nothing is left behind an output that tells why a command was refused
abbrev pub IsRefusal : Status → Type 0
IsRefusal status.Ok = ⊥
IsRefusal other = IsFinal other

refusal_keeps : (command : Option Command) (before after : Streams) (kept : Left) (st : Status) → IsRefusal st → kept ≡ left.Nothing → KeepsInText command before after kept st
refusal_keeps command before after kept status.BadWords refusal nothing = nothing
refusal_keeps command before after kept status.BadInput refusal nothing = nothing
refusal_keeps command before after kept status.NotRun refusal nothing = nothing
refusal_keeps command before after kept status.TooLong refusal nothing = nothing
refusal_keeps command before after kept status.BadNode refusal nothing = nothing
refusal_keeps command before after kept status.Ok refusal nothing = absurd refusal
refusal_keeps command before after kept status.ReadFault refusal nothing = absurd refusal
refusal_keeps command before after kept status.WriteFault refusal nothing = absurd refusal
refusal_keeps command before after kept status.NoMemory refusal nothing = absurd refusal
refusal_keeps command before after kept status.WireFault refusal nothing = absurd refusal
refusal_keeps command before after kept status.Stalled refusal nothing = absurd refusal

pub says_keeps : (command : Option Command) (before after : Streams) (kept : Left) (output : Output) → IsRefusal output.status → kept ≡ left.Nothing
    → (st : Status) → Says output before.written after.written before.write_faults after.write_faults st → KeepsInText command before after kept st
says_keeps command before after kept output refusal nothing st (inl (is, added, writes)) = subst (KeepsInText command before after kept) (sym is) (refusal_keeps command before after kept output.status refusal nothing)
says_keeps command before after kept output refusal nothing st (inr (is, front, failed)) = subst (KeepsInText command before after kept) (sym is) nothing

pub refusal_final : (st : Status) → IsRefusal st → IsFinal st
refusal_final status.BadWords refusal = tt
refusal_final status.BadInput refusal = tt
refusal_final status.NotRun refusal = tt
refusal_final status.TooLong refusal = tt
refusal_final status.BadNode refusal = tt
refusal_final status.Ok refusal = absurd refusal
refusal_final status.ReadFault refusal = absurd refusal
refusal_final status.WriteFault refusal = absurd refusal
refusal_final status.NoMemory refusal = absurd refusal
refusal_final status.WireFault refusal = absurd refusal
refusal_final status.Stalled refusal = absurd refusal

-- a schedule that was played, by the output that its command asks for
module _ (command : Option Command) (before after : Streams) (s : Schedule) (kept : Left) (output : Output) (asks : Asks command before.left after.left output) (ok : output.status ≡ status.Ok)
    (reads : NoneFailed before.read_faults after.read_faults) (succeeds : Added output.text before.written after.written → (w : Running) → kept ≡ left.Replayed w → StandsFor s.config s.events w → SucceedsInText command before after kept) where
  abbrev Played : Status → Type 0
  Played st = Plays s output.text before.written after.written before.write_faults after.write_faults kept st

  pub plays_serve : (st : Status) → Played st → ServesInText command before after kept st
  plays_serve status.Ok (added, writes, w, is, stands) = record { ends = (reads, writes, output, asks, ok, added); keeps = succeeds added w is stands }
  plays_serve status.WriteFault (front, failed, nothing) = record { ends = (failed, reads, output, asks, front); keeps = nothing }
  plays_serve status.NoMemory (front, writes, nothing) = record { ends = (reads, writes, inr (output, asks, front)); keeps = nothing }
  plays_serve status.BadWords never = absurd never
  plays_serve status.BadInput never = absurd never
  plays_serve status.ReadFault never = absurd never
  plays_serve status.NotRun never = absurd never
  plays_serve status.TooLong never = absurd never
  plays_serve status.BadNode never = absurd never
  plays_serve status.WireFault never = absurd never
  plays_serve status.Stalled never = absurd never

-- ---- what was taken off the source
module _ (before after : Option (List ℕ)) where
  pub long_of : (bytes : List ℕ) → IsTooMany bytes before after → too_long_of bytes ≡ Some (long.TooLong true (INPUT_BYTES + 1))
  long_of bytes many = let count = many.count in many_long bytes (omega (arith, count))

-- ---- an input that was not judged
module _ (command : Option Command) (before after : Streams) (kept : Left) (reads_it : reads_input command ≡ true) (unwritten : after.written ≡ before.written) (writes : NoneFailed before.write_faults after.write_faults)
    (nothing : kept ≡ left.Nothing) where
  pub fault_serves : LastFailed before.read_faults after.read_faults → TookUpTo INPUT_BYTES before.left after.left → ServesInText command before after kept status.ReadFault
  fault_serves failed taken = record { ends = (reads_it, failed, unwritten, writes, taken); keeps = nothing }

  pub memory_serves : NoneFailed before.read_faults after.read_faults → TookUpTo (INPUT_BYTES + 1) before.left after.left → ServesInText command before after kept status.NoMemory
  memory_serves reads taken = record {
    ends = (reads, writes, inl (unwritten, subst (λ b. TakesBy b (INPUT_BYTES + 1) before.left after.left) (sym reads_it) taken));
    keeps = nothing;
  }
