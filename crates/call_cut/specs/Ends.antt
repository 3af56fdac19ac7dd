-- The answer and the buffer, by the outcomes alone. No public clause cites this module.
use Rattle.std.specs.Prelude.{ℕ, ◌-◌, Bool, true, false, List, [], ◌∷◌, ◌++◌, length, take, Option, Some, None}
use Rattle.cl_types.specs.Bytes.{zeros}
use Rattle.cl_types.specs.declared.call.Call.{Call}
use Rattle.cl_types.specs.declared.call.Call.TheVariants as call
use Rattle.cl_types.specs.declared.reply.Answer.{Answer}
use Rattle.cl_types.specs.declared.reply.Answer.TheVariants as answer
use Rattle.cl_types.specs.declared.reply.Value.{Value}
use Rattle.cl_types.specs.declared.reply.Value.TheVariants as value
use Rattle.call_cut.specs.declared.outcome.PartOutcome.{PartOutcome}
use Rattle.call_cut.specs.declared.outcome.PartOutcome.TheVariants as outcome

-- nothing has come yet
abbrev pub is_waiting : PartOutcome → Bool
is_waiting outcome.Waiting = true
is_waiting o = false

-- timed out, by the first part that was given up
abbrev pub given_up_among : List PartOutcome → Option Answer
given_up_among [] = None
given_up_among (outcome.GivenUp first_sent now ∷ os) = Some (answer.TimedOut first_sent now)
given_up_among (o ∷ os) = given_up_among os

-- refused, as the first part that was
abbrev pub refusal_among : List PartOutcome → Option Answer
refusal_among [] = None
refusal_among (outcome.Refused refusal ∷ os) = Some (answer.Refused refusal)
refusal_among (o ∷ os) = refusal_among os

-- the first of the two that is there
abbrev pub first_of : Option Answer → Option Answer → Option Answer
first_of (Some a) b = Some a
first_of None b = b

-- timed out, or else refused
abbrev pub failure_among : List PartOutcome → Option Answer
failure_among os = first_of (given_up_among os) (refusal_among os)

-- how many bytes came of the first part
abbrev pub got_of : List PartOutcome → ℕ
got_of (outcome.Got len ∷ os) = len
got_of os = 0

-- the value that came of the first part
abbrev pub only_value_of : List PartOutcome → Value
only_value_of (outcome.At addr ∷ os) = value.At addr
only_value_of (outcome.Word word ∷ os) = value.Word word
only_value_of os = value.Nothing

-- the value of a call whose parts are all done
abbrev pub value_of : List PartOutcome → Call → Value
value_of os (call.Read addr buf) = value.Len (length buf)
value_of os (call.Offload number op bytes buf) = value.Len (got_of os)
value_of os other = only_value_of os

-- the call with zeros behind the bytes that an offload answered
abbrev pub with_rest_cleared : List PartOutcome → Call → Call
with_rest_cleared os (call.Offload number op bytes buf) = call.Offload number op bytes (take (got_of os) buf ++ zeros (length buf - got_of os))
with_rest_cleared os other = other
