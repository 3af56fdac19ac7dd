-- What came of the parts of a call: the outcomes, read together with the call, in whose buffer the bytes stand.
use Rattle.std.specs.Prelude.{ℕ, List, [], ◌∷◌, take, drop, Option, Some, None}
use Rattle.cl_types.specs.declared.call.Call.{Call}
use Rattle.cl_types.specs.declared.reply.Reply.TheVariants as reply
use Rattle.client_model.specs.Client.{buffer_of}
use Rattle.client_model.specs.Cut.{Ending, Replied, GivenUp}
use Rattle.call_cut.specs.declared.outcome.PartOutcome.{PartOutcome}
use Rattle.call_cut.specs.declared.outcome.PartOutcome.TheVariants as outcome
use Rattle.call_cut.specs.Fills.{fills}

-- what came of a part whose bytes stand at the front of these
abbrev pub ending_in : List ℕ → PartOutcome → Option Ending
ending_in bytes outcome.Waiting = None
ending_in bytes (outcome.Refused refusal) = Some (Replied (reply.Refused refusal))
ending_in bytes outcome.Nothing = Some (Replied reply.Nothing)
ending_in bytes (outcome.At addr) = Some (Replied (reply.At addr))
ending_in bytes (outcome.Word word) = Some (Replied (reply.Word word))
ending_in bytes (outcome.Got len) = Some (Replied (reply.Got (take len bytes)))
ending_in bytes (outcome.GivenUp first_sent now) = Some (GivenUp first_sent now)

-- what came of parts that fill so many bytes of a buffer each, one after the other
abbrev pub came_in : List ℕ → List ℕ → List PartOutcome → List (Option Ending)
came_in buf (n ∷ ns) (o ∷ os) = ending_in (take n buf) o ∷ came_in (drop n buf) ns os
came_in buf ns os = []

-- what came of each part of the call, where something came
abbrev pub came : List PartOutcome → Call → List (Option Ending)
came outcomes k = came_in (buffer_of k) (fills k) outcomes
