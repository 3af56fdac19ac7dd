-- What the events of a world came to, counted from line to line.
use Rattle.std.specs.Prelude.{ℕ, ◌+◌, ◌-◌, ◌<◌, ◌≤◌, ◌^◌, Option, Some, None}
use Rattle.cl_types.specs.declared.line.Did.{Did}
use Rattle.cl_types.specs.declared.line.Did.TheVariants as did
use Rattle.cl_types.specs.declared.line.EndedCall.{EndedCall}
use Rattle.cl_types.specs.declared.line.Summary.{Summary}
use Rattle.cl_types.specs.declared.reply.Answer.{Answer}
use Rattle.cl_types.specs.declared.reply.Answer.TheVariants as answer
use Rattle.cl_types.specs.declared.limits.TheConstants.{LINES_END}

-- what no events came to
abbrev pub nothing_counted : Summary
nothing_counted = record { issued = 0; done = 0; refused = 0; timed_out = 0; unended = 0; entries = 0 }

-- a line that tells that a call was issued counts one
abbrev pub with_did : Did → Summary → Summary
with_did (did.Issued client number) s = record s { issued = s.issued + 1 }
with_did other s = s

-- an answer counts one of its kind
abbrev pub with_answer : Answer → Summary → Summary
with_answer (answer.Done value) s = record s { done = s.done + 1 }
with_answer (answer.Refused refusal) s = record s { refused = s.refused + 1 }
with_answer (answer.TimedOut first_sent now) s = record s { timed_out = s.timed_out + 1 }

-- the counts with the answer of the call that ended, where one did
abbrev pub with_ended : Option EndedCall → Summary → Summary
with_ended None s = s
with_ended (Some ended) s = with_answer ended.answer s

-- how many calls have ended
abbrev pub ended_count : Summary → ℕ
ended_count s = s.done + s.refused + s.timed_out

-- the calls that haven't ended are the others of those that were issued; and there are so many entries
abbrev pub with_unended : ℕ → Summary → Summary
with_unended entries s = record s { unended = s.issued - ended_count s; entries = entries }

-- the counts behind a line more
abbrev pub summed : Did → Option EndedCall → ℕ → Summary → Summary
summed text ended entries s = with_unended entries (with_ended ended (with_did text s))

-- no more calls were issued than lines, and no more ended
pub record IsWithinLine (line : ℕ) (s : Summary) : Type 0 where
  pub issued : s.issued ≤ line
  pub ended : ended_count s ≤ line

-- one more of each can be counted
pub record HasRoom (s : Summary) : Type 0 where
  pub issued : s.issued < LINES_END
  pub ended : ended_count s < LINES_END
