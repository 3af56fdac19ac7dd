-- What the calls of a client answer, by its state before.
use Rattle.std.specs.Prelude.{ℕ, ◌+◌, Bool, nat_lt, List, [], ◌∷◌, length, Option, Some, None, if◌then◌else◌, Result, Ok, Err}
use Rattle.cl_types.specs.declared.numbers.CallNo.{CallNo}
use Rattle.cl_types.specs.declared.call.Call.{Call}
use Rattle.cl_types.specs.declared.frame.Head.{Head}
use Rattle.cl_types.specs.declared.frame.IssueFault.{IssueFault}
use Rattle.cl_types.specs.declared.request.Request.{Request}
use Rattle.cl_types.specs.declared.reply.Answer.{Answer}
use Rattle.frame_model.specs.Frames.{request_frame}
use Rattle.client_model.specs.Client.{ClientState, Outgoing, Polled, GivesUp, EndsFence, Sends, Idles, Finished, after_issue, after_reply, head_of}
use Rattle.client_model.specs.Hearing.{Hearing, HearsBad, HearsOther, HearsLate, HearsUnfit, HearsReply, hearing}
use Rattle.client_core.specs.declared.answers.Poll.{Poll}
use Rattle.client_core.specs.declared.answers.Poll.TheVariants as poll
use Rattle.client_core.specs.declared.answers.Heard.{Heard}
use Rattle.client_core.specs.declared.answers.Heard.TheVariants as heard

-- ---- a call is issued
-- the next number where the call has no fault, and else the fault and the call
abbrev pub issue_answer : ClientState → Call → Option IssueFault → Result CallNo (IssueFault × Call)
issue_answer s k None = Ok (record { 0 = s.issued + 1 })
issue_answer s k (Some fault) = Err (fault, k)

-- the client with the call where it has no fault, and else as it was
abbrev pub issue_state : ClientState → Call → Option IssueFault → ClientState
issue_state s k None = after_issue k s
issue_state s k (Some fault) = s

-- ---- a poll
-- the bytes of the frame that carries the request under this head, which a goal doesn't compute
unfoldable pub frame_bytes : Head → Request → List ℕ
frame_bytes head q = request_frame head q

-- the bytes that a poll sends, none where it sends nothing; a frame carries one part
abbrev pub poll_bytes : ClientState → Polled → List ℕ
poll_bytes s (Sends (o ∷ [])) = frame_bytes (head_of s.client s.pid o) o.request
poll_bytes s other = []

-- what a poll that does this answers
abbrev pub poll_answer : ClientState → Polled → Poll
poll_answer s (GivesUp f) = poll.GaveUp f.part
poll_answer s (EndsFence number) = poll.Ended (record { 0 = number })
poll_answer s (Sends (o ∷ [])) = poll.Sent (length (frame_bytes (head_of s.client s.pid o) o.request)) o.part o.id o.orig o.again
poll_answer s other = poll.Idle

-- ---- a frame is heard
-- what the client makes of the bytes, which a goal doesn't compute
unfoldable pub heard_as : ClientState → List ℕ → Hearing
heard_as s bytes = hearing s bytes

-- a call more has ended in the new state than in the old
abbrev pub ends_a_call : ClientState → ClientState → Bool
ends_a_call old new = nat_lt (length old.ended) (length new.ended)

-- what is answered to bytes that are heard so
abbrev pub heard_answer : ClientState → Hearing → Heard
heard_answer s (HearsBad fault) = heard.Bad fault
heard_answer s (HearsOther client) = heard.Other client
heard_answer s (HearsLate orig) = heard.Late orig
heard_answer s (HearsUnfit orig) = heard.Unfit orig
heard_answer s (HearsReply f reply) = if ends_a_call s (after_reply f.part reply s) then heard.Ended f.part else heard.Took f.part

-- ---- a call is handed out
-- an ended call, as it is handed out
abbrev pub done_answer : Finished → CallNo × Answer × Call
done_answer f = (record { 0 = f.number }, f.answer, f.call)
