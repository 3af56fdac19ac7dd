-- What one send does to the datagrams that were sent, and to the count of faults.
use Rattle.std.specs.Prelude.{◌≡◌, ℕ, List, [], ◌∷◌}
use Rattle.std.specs.declared.option.Option.{Option}
use Rattle.cl_outside.specs.Counts.{LastFailed, after_good}
use Rattle.cl_outside.specs.Told.{Added}
use Rattle.cl_outside.specs.Wire.{Message}
use Rattle.cl_outside.specs.declared.faults.Faults.{Faults}
use Rattle.cl_outside.specs.declared.wire.Sent as the_answer
use Rattle.cl_outside.specs.declared.wire.Sent.TheVariants.{Sent, Failed}

-- with the datagrams sent before and after: what a send of the message gave
abbrev pub Sends : Option (List Message) → Option (List Message) → Message → the_answer.Sent → Type 0
Sends before after message Sent = Added (message ∷ []) before after
Sends before after message Failed = after ≡ before

-- the send counts as one that failed, or as one that did not
abbrev pub CountsSend : Faults → Faults → the_answer.Sent → Type 0
CountsSend before now Sent = now ≡ after_good before
CountsSend before now Failed = LastFailed before now
