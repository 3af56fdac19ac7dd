-- Which replies are taken for a part, and what taking one does.
use Rattle.std.specs.Prelude.{◌≡◌, ℕ, Bool, true, false, ◌==◌, ◌&&◌, leb, List, [], ◌∷◌, length, IsTrue, Some, None, slice_get}
use Rattle.cl_types.specs.Bytes.{with_bytes}
use Rattle.cl_types.specs.declared.call.Call.{Call}
use Rattle.cl_types.specs.declared.call.Call.TheVariants as call
use Rattle.cl_types.specs.declared.request.Request.{Request}
use Rattle.cl_types.specs.declared.request.Request.TheVariants as request
use Rattle.cl_types.specs.declared.reply.Reply.{Reply}
use Rattle.cl_types.specs.declared.reply.Reply.TheVariants as reply
use Rattle.client_model.specs.Cut.{cut}
use Rattle.frame_model.specs.Faults.{first_fault}
use Rattle.client_model.specs.Issue.{call_faults}
use Rattle.call_cut.specs.declared.outcome.PartOutcome.{PartOutcome}
use Rattle.call_cut.specs.declared.outcome.PartOutcome.TheVariants as outcome
use Rattle.call_cut.specs.Fills.{fills, before}

-- a refusal; else a value of the request's kind, as long as it asks, for an Offload at most as long
abbrev pub is_reply_to : Request → Reply → Bool
is_reply_to q (reply.Refused refusal) = true
is_reply_to (request.Alloc pages perm) (reply.At addr) = true
is_reply_to (request.Free addr pages) reply.Nothing = true
is_reply_to (request.Read addr n) (reply.Got bytes) = length bytes == n
is_reply_to (request.Write addr bytes) reply.Nothing = true
is_reply_to (request.Atomic addr op) (reply.Word word) = true
is_reply_to (request.Offload number op out bytes) (reply.Got answer) = leb (length answer) out
is_reply_to q r = false

-- the reply is taken for part i of the call
pub record TakesFor (k : Call) (i : ℕ) (r : Reply) : Type 0 where
  pub asked : Request
  pub there : slice_get (cut k) i ≡ Some asked
  pub fits : IsTrue (is_reply_to asked r)

-- the outcome that a reply makes
abbrev pub outcome_of : Reply → PartOutcome
outcome_of (reply.Refused refusal) = outcome.Refused refusal
outcome_of reply.Nothing = outcome.Nothing
outcome_of (reply.At addr) = outcome.At addr
outcome_of (reply.Word word) = outcome.Word word
outcome_of (reply.Got bytes) = outcome.Got (length bytes)

-- the call with the bytes of the reply to part i in its buffer
abbrev pub call_with : ℕ → Reply → Call → Call
call_with i (reply.Got bytes) (call.Read addr buf) = call.Read addr (with_bytes (before i (fills (call.Read addr buf))) bytes buf)
call_with i (reply.Got answer) (call.Offload number op bytes buf) = call.Offload number op bytes (with_bytes 0 answer buf)
call_with i r k = k

-- the outcome is one of a part that asks this
abbrev pub is_outcome_of : Request → PartOutcome → Bool
is_outcome_of q outcome.Waiting = true
is_outcome_of q (outcome.Refused refusal) = true
is_outcome_of q (outcome.GivenUp first_sent now) = true
is_outcome_of (request.Alloc pages perm) (outcome.At addr) = true
is_outcome_of (request.Free addr pages) outcome.Nothing = true
is_outcome_of (request.Read addr n) (outcome.Got len) = len == n
is_outcome_of (request.Write addr bytes) outcome.Nothing = true
is_outcome_of (request.Atomic addr op) (outcome.Word word) = true
is_outcome_of (request.Offload number op out bytes) (outcome.Got len) = leb len out
is_outcome_of q o = false

-- the outcomes are those of these parts, one for each
abbrev pub are_outcomes_of : List Request → List PartOutcome → Bool
are_outcomes_of [] [] = true
are_outcomes_of (q ∷ qs) (o ∷ os) = is_outcome_of q o && are_outcomes_of qs os
are_outcomes_of qs os = false

-- the outcomes are of this call, which is a good one
pub record Gathers (outcomes : List PartOutcome) (k : Call) : Type 0 where
  pub good : first_fault (call_faults k) ≡ None
  pub fit : IsTrue (are_outcomes_of (cut k) outcomes)
