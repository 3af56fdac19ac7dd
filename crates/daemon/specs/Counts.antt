-- What counts of a turn.
use Rattle.std.specs.Prelude.{ℕ, ◌==◌, if◌then◌else◌}
use Rattle.cl_outside.specs.Counts.{one_more}
use Rattle.cl_types.specs.declared.frame.BadFrame.{BadFrame}
use Rattle.cl_types.specs.declared.frame.BadFrame.TheVariants as bad_frame
use Rattle.cl_types.specs.declared.frame.How.{How}
use Rattle.cl_types.specs.declared.frame.How.TheVariants.{Executed, Repeated, Looked}
use Rattle.node_core.specs.declared.outcome.Outcome.{Outcome}
use Rattle.node_core.specs.declared.outcome.Outcome.TheVariants.{Replied, Busy, Bad}
use Rattle.wire_loop.specs.declared.serving.TurnEnd.{TurnEnd}
use Rattle.wire_loop.specs.declared.serving.TurnEnd.TheVariants as turn_end
use Rattle.daemon.specs.declared.counts.BadCounts.{BadCounts}
use Rattle.daemon.specs.declared.counts.Counts.{Counts}
use Rattle.daemon.specs.declared.turns.Turn.{Turn}
use Rattle.daemon.specs.declared.turns.Turn.TheVariants.{Dropped, Served, Idle, Failed}

-- no datagram was bad
abbrev pub no_bad : BadCounts
no_bad = record { short = 0; magic = 0; version = 0; kind = 0; long = 0; field = 0 }

-- there was no turn
abbrev pub no_counts : Counts
no_counts = record {
  frames = 0;
  executed = 0;
  repeated = 0;
  looked = 0;
  refused = 0;
  busy = 0;
  bad = no_bad;
  unsent = 0;
  dropped = 0;
  failed = 0;
  failed_in_a_row = 0;
}

-- one more datagram had this fault
abbrev pub with_fault : BadFrame → BadCounts → BadCounts
with_fault (bad_frame.Short have need) c = record c { short = one_more c.short }
with_fault bad_frame.Magic c = record c { magic = one_more c.magic }
with_fault (bad_frame.Version number) c = record c { version = one_more c.version }
with_fault (bad_frame.Kind number) c = record c { kind = one_more c.kind }
with_fault (bad_frame.Long have need) c = record c { long = one_more c.long }
with_fault (bad_frame.Field name) c = record c { field = one_more c.field }

-- one more reply came so
abbrev pub with_how : How → Counts → Counts
with_how Executed c = record c { executed = one_more c.executed }
with_how Repeated c = record c { repeated = one_more c.repeated }
with_how Looked c = record c { looked = one_more c.looked }

-- one more reply has this status, where only 0 is no refusal
abbrev pub with_status : (status : ℕ) → Counts → Counts
with_status status c = if status == 0 then c else record c { refused = one_more c.refused }

-- the node was given one more datagram, of which this came
abbrev pub with_outcome : Outcome → Counts → Counts
with_outcome (Replied len how status) c = with_how how (with_status status (record c { frames = one_more c.frames }))
with_outcome (Busy oldest now) c = record c { frames = one_more c.frames; busy = one_more c.busy }
with_outcome (Bad fault) c = record c { frames = one_more c.frames; bad = with_fault fault c.bad }

-- one more receive failed
abbrev pub with_failure : Counts → Counts
with_failure c = record c { failed = one_more c.failed; failed_in_a_row = one_more c.failed_in_a_row }

-- the last receive did not fail
abbrev pub with_none_failed : Counts → Counts
with_none_failed c = record c { failed_in_a_row = 0 }

-- one more datagram was served so
abbrev pub with_served : TurnEnd → Counts → Counts
with_served (turn_end.Served outcome) c = with_outcome outcome (with_none_failed c)
with_served (turn_end.Unsent outcome) c = with_outcome outcome (with_none_failed (record c { unsent = one_more c.unsent }))
with_served turn_end.Idle c = with_none_failed c
with_served turn_end.Failed c = with_failure c

-- there was one more turn
abbrev pub counted : Turn → Counts → Counts
counted (Dropped from) c = with_none_failed (record c { dropped = one_more c.dropped })
counted (Served from how) c = with_served how c
counted Idle c = with_none_failed c
counted Failed c = with_failure c
