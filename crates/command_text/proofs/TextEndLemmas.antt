-- How a command ends that writes a text.
use Rattle.std.proofs.Common.{◌≡◌, ◌⊎◌, inl, inr, Option, refl, subst}
use Rattle.cl_outside.specs.Counts.{LastFailed, NoneFailed}
use Rattle.cl_outside.specs.Told.{Added}
use Rattle.texts.specs.Commands.{Command}
use Rattle.command_text.specs.TextEnds.{Asks, EndsInText}
use Rattle.command_text.specs.Streams.{Streams}
use Rattle.command_text.specs.declared.output.Output.{Output}
use Rattle.command_text.specs.declared.status.Status.{Status}
use Rattle.command_text.specs.declared.status.Status.TheVariants as status
use Rattle.command_text.proofs.OutputLemmas.{IsFinal}

-- ---- how a command ends that asks for an output
module _ (command : Option Command) (before after : Streams) where
  -- an output was written, whole
  pub record Wrote (st : Status) : Type 0 where
    pub reads : NoneFailed before.read_faults after.read_faults
    pub writes : NoneFailed before.write_faults after.write_faults
    pub output : Output
    pub asks : Asks command before.left after.left output
    pub status : output.status ≡ st
    pub added : Added output.text before.written after.written

  -- an output that was written is an end
  pub wrote_ends : (st : Status) → IsFinal st → Wrote st → EndsInText command before after st
  wrote_ends status.Ok final w = (w.reads, w.writes, w.output, w.asks, w.status, w.added)
  wrote_ends status.BadWords final w = (w.reads, w.writes, w.output, w.asks, w.status, w.added)
  wrote_ends status.BadInput final w = (w.reads, w.writes, w.output, w.asks, w.status, w.added)
  wrote_ends status.NotRun final w = (w.reads, w.writes, w.output, w.asks, w.status, w.added)
  wrote_ends status.TooLong final w = (w.reads, w.writes, w.output, w.asks, w.status, w.added)
  wrote_ends status.BadNode final w = (w.reads, w.writes, w.output, w.asks, w.status, w.added)
  wrote_ends status.ReadFault final w = absurd final
  wrote_ends status.WriteFault final w = absurd final
  wrote_ends status.NoMemory final w = absurd final
  wrote_ends status.WireFault final w = absurd final
  wrote_ends status.Stalled final w = absurd final

  abbrev End : Status → Type 0
  End st = NoneFailed before.read_faults after.read_faults × NoneFailed before.write_faults after.write_faults
      × (output : Output) × Asks command before.left after.left output × (output.status ≡ st) × Added output.text before.written after.written

  wrote : (st : Status) → End st → Wrote st
  wrote st (reads, writes, output, asks, is, added) = record { reads = reads; writes = writes; output = output; asks = asks; status = is; added = added }

  pub ends_wrote : (st : Status) → IsFinal st → EndsInText command before after st → Wrote st
  ends_wrote status.Ok final end = wrote status.Ok end
  ends_wrote status.BadWords final end = wrote status.BadWords end
  ends_wrote status.BadInput final end = wrote status.BadInput end
  ends_wrote status.NotRun final end = wrote status.NotRun end
  ends_wrote status.TooLong final end = wrote status.TooLong end
  ends_wrote status.BadNode final end = wrote status.BadNode end
  ends_wrote status.ReadFault final end = absurd final
  ends_wrote status.WriteFault final end = absurd final
  ends_wrote status.NoMemory final end = absurd final
  ends_wrote status.WireFault final end = absurd final
  ends_wrote status.Stalled final end = absurd final

  -- without a fault an output was written, or there was no memory
  pub calm_end : (st : Status) → (LastFailed before.read_faults after.read_faults → ⊥) → (LastFailed before.write_faults after.write_faults → ⊥)
      → EndsInText command before after st → Wrote st ⊎ (st ≡ status.NoMemory)
  calm_end status.ReadFault read write end = absurd (read end.1)
  calm_end status.WriteFault read write end = absurd (write end.0)
  calm_end status.NoMemory read write end = inr refl
  calm_end status.WireFault read write end = absurd end
  calm_end status.Stalled read write end = absurd end
  calm_end status.Ok read write end = inl (wrote status.Ok end)
  calm_end status.BadWords read write end = inl (wrote status.BadWords end)
  calm_end status.BadInput read write end = inl (wrote status.BadInput end)
  calm_end status.NotRun read write end = inl (wrote status.NotRun end)
  calm_end status.TooLong read write end = inl (wrote status.TooLong end)
  calm_end status.BadNode read write end = inl (wrote status.BadNode end)

  -- the first failure ends the run
  pub no_read_failed : (st : Status) → (st ≡ status.ReadFault → ⊥) → EndsInText command before after st → NoneFailed before.read_faults after.read_faults
  no_read_failed status.ReadFault other end = absurd (other refl)
  no_read_failed status.WriteFault other end = end.1
  no_read_failed status.NoMemory other end = end.0
  no_read_failed status.WireFault other end = absurd end
  no_read_failed status.Stalled other end = absurd end
  no_read_failed status.Ok other end = end.0
  no_read_failed status.BadWords other end = end.0
  no_read_failed status.BadInput other end = end.0
  no_read_failed status.NotRun other end = end.0
  no_read_failed status.TooLong other end = end.0
  no_read_failed status.BadNode other end = end.0

  pub no_write_failed : (st : Status) → (st ≡ status.WriteFault → ⊥) → EndsInText command before after st → NoneFailed before.write_faults after.write_faults
  no_write_failed status.ReadFault other end = end.3
  no_write_failed status.WriteFault other end = absurd (other refl)
  no_write_failed status.NoMemory other end = end.1
  no_write_failed status.WireFault other end = absurd end
  no_write_failed status.Stalled other end = absurd end
  no_write_failed status.Ok other end = end.1
  no_write_failed status.BadWords other end = end.1
  no_write_failed status.BadInput other end = end.1
  no_write_failed status.NotRun other end = end.1
  no_write_failed status.TooLong other end = end.1
  no_write_failed status.BadNode other end = end.1

  pub read_failed : (st : Status) → st ≡ status.ReadFault → EndsInText command before after st → LastFailed before.read_faults after.read_faults
  read_failed st same end = let fault : EndsInText command before after status.ReadFault = subst (EndsInText command before after) same end in fault.1

  pub write_failed : (st : Status) → st ≡ status.WriteFault → EndsInText command before after st → LastFailed before.write_faults after.write_faults
  write_failed st same end = let fault : EndsInText command before after status.WriteFault = subst (EndsInText command before after) same end in fault.0
