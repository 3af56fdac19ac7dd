-- What a client makes of the bytes that it hears.
use Rattle.std.specs.Prelude.{ℕ, ◌+◌, ◌==◌, Bool, true, ◌&&◌, leb, List, length, Option, Some, None, if◌then◌else◌, slice_index, false}
use Rattle.cl_types.specs.declared.numbers.ClientNo.{ClientNo}
use Rattle.cl_types.specs.declared.frame.BadFrame.{BadFrame}
use Rattle.cl_types.specs.declared.request.Request.{Request}
use Rattle.cl_types.specs.declared.request.Request.TheVariants as request
use Rattle.cl_types.specs.declared.reply.Reply.{Reply}
use Rattle.cl_types.specs.declared.reply.Reply.TheVariants as reply
use Rattle.cl_types.specs.Kinds.{kind_number}
use Rattle.frame_model.specs.Frames.{reply_fault, reply_in, head_in, kind_of}
use Rattle.client_model.specs.Client.{ClientState, Sending, flight_under, after_reply}
use Rattle.cl_types.specs.Parts.{same_client}

-- what a client hears in bytes: a fault, another client's reply, a late one, one that doesn't fit, or one to take
pub data Hearing : Type 0 where
  HearsBad : (fault : BadFrame) → Hearing
  HearsOther : (client : ClientNo) → Hearing
  HearsLate : (orig : ℕ) → Hearing
  HearsUnfit : (orig : ℕ) → Hearing
  HearsReply : (flight : Sending) → (reply : Reply) → Hearing

-- an Ok value is as long as the part asks, for an Offload at most as long
abbrev pub is_as_long : Request → Reply → Bool
is_as_long (request.Read addr n) (reply.Got bytes) = length bytes == n
is_as_long (request.Offload number op out bytes) (reply.Got answer) = leb (length answer) out
is_as_long r other = true

-- the reply has the part's kind and process, and is as long as it asks
abbrev pub is_fit : ℕ → List ℕ → Sending → Bool
is_fit pid bytes s =
    slice_index bytes 3 == 128 + kind_number (kind_of s.request) && (head_in bytes).pid == pid && is_as_long s.request (reply_in bytes)

-- a good reply is late where no part in flight has its orig, and is taken where it fits that part
abbrev pub heard_in_flight : ℕ → List ℕ → Option Sending → Hearing
heard_in_flight pid bytes None = HearsLate (head_in bytes).orig
heard_in_flight pid bytes (Some s) = if is_fit pid bytes s then HearsReply s (reply_in bytes) else HearsUnfit (head_in bytes).orig

-- a good reply is another client's, or heard by the part in flight under its orig
abbrev pub heard_good : ClientState → List ℕ → Hearing
heard_good s bytes =
    if same_client (head_in bytes).client s.client then heard_in_flight s.pid bytes (flight_under (head_in bytes).orig s) else HearsOther (head_in bytes).client

-- bad bytes where there is a fault, and else what a good reply is heard as
abbrev pub heard_judged : ClientState → List ℕ → Option BadFrame → Hearing
heard_judged s bytes (Some f) = HearsBad f
heard_judged s bytes None = heard_good s bytes

-- the first that holds: bad bytes, another client's, late, unfit, and else a reply
abbrev pub hearing : ClientState → List ℕ → Hearing
hearing s bytes = heard_judged s bytes (reply_fault bytes)

-- a reply that is taken changes its part alone; all else leaves the client
abbrev pub after_hearing : Hearing → ClientState → ClientState
after_hearing (HearsReply f reply) s = after_reply f.part reply s
after_hearing other s = s

-- what was heard is a reply to take
abbrev pub is_reply : Hearing → Bool
is_reply (HearsReply flight reply) = true
is_reply other = false
