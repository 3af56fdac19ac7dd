-- Junk is nothing: what a client does not take as a reply.
use Rattle.std.specs.Prelude.{ℕ, Bool, false, not, List, Option, slice_get}
use Rattle.cl_types.specs.declared.call.Call.{Call}
use Rattle.cl_types.specs.declared.frame.IssueFault.{IssueFault}
use Rattle.client_model.specs.Client.{ClientState, Finished, Polled, poll, after_poll, after_done}
use Rattle.client_model.specs.Hearing.{is_reply, Hearing, hearing, after_hearing}
use Rattle.client_model.specs.Issue.{issue_fault, after_judged}
use Rattle.lemmas.specs.Machines.{Machine, JunkIsNothing}

-- what a client is given: a call to issue, the moment of a poll, bytes, or leave to hand out a call that ended
pub data Asked : Type 0 where
  ToIssue : (call : Call) → Asked
  ToPoll : (moment : ℕ) → Asked
  ToHear : (bytes : List ℕ) → Asked
  ToHandOut : Asked

-- what a client answers: the fault of a call, what a poll does, what it hears, or the call that it hands out
pub data ClientAnswer : Type 0 where
  Judges : (fault : Option IssueFault) → ClientAnswer
  Polls : (polled : Polled) → ClientAnswer
  Hears : (heard : Hearing) → ClientAnswer
  HandsOut : (ended : Option Finished) → ClientAnswer

-- what a client answers to what it is given
abbrev pub client_answer : ClientState → Asked → ClientAnswer
client_answer s (ToIssue call) = Judges (issue_fault s call)
client_answer s (ToPoll t) = Polls (poll s t)
client_answer s (ToHear bytes) = Hears (hearing s bytes)
client_answer s ToHandOut = HandsOut (slice_get s.ended 0)

-- a client after what it is given
abbrev pub client_given : ClientState → Asked → ClientState
client_given s (ToIssue call) = after_judged (issue_fault s call) call s
client_given s (ToPoll t) = after_poll t (poll s t) s
client_given s (ToHear bytes) = after_hearing (hearing s bytes) s
client_given s ToHandOut = after_done s

-- a client as a machine
abbrev pub client_machine : Machine ClientState Asked ClientAnswer
client_machine = record { answer = client_answer; after = client_given }

-- what was heard is no reply to take: bad bytes, another client's reply, a late one, or one that doesn't fit
abbrev pub is_junk_heard : ClientAnswer → Bool
is_junk_heard (Hears heard) = not (is_reply heard)
is_junk_heard other = false

-- the bytes that a client hears and takes no reply from are nothing
abbrev pub LawOfJunkHeard : Type 0
LawOfJunkHeard = (s : ClientState) (given : List Asked) → JunkIsNothing client_machine is_junk_heard s given
