-- What a wire and a clock tell of a loop, in the words of the definitions.
use Rattle.std.specs.Prelude.{◌≡◌, ℕ, List, [], ◌∷◌, Option, map, take, IfSome}
use Rattle.cl_outside.specs.Clock.{Moments}
use Rattle.cl_outside.specs.Counts.{LastFailed, NoneFailed, Rose}
use Rattle.cl_outside.specs.Told.{Added, Took}
use Rattle.cl_outside.specs.Wire.{Message}
use Rattle.cl_outside.specs.declared.faults.Faults.{Faults}
use Rattle.cl_outside.specs.declared.wire.Peer.{Peer}
use Rattle.cl_types.specs.declared.limits.TheConstants.{FRAME_ROOM}
use Rattle.node_core.specs.Keeping.{KeptNode}
use Rattle.node_model.specs.Handling.{latest}
use Rattle.wire_loop.specs.Outside.{ClockAnswers, Received, Datagram, NothingCame, ReceivingFailed, Sendings}
use Rattle.wire_loop.specs.Serving.{Serving, Turned, ServeStop, WireFailed, FramesServed, IdleTooLong, serving_of, serve_stop}
use Rattle.wire_loop.specs.declared.serving.ServeEnd.{ServeEnd}
use Rattle.wire_loop.specs.declared.serving.ServeEnd.TheVariants as end

-- a clock that tells this
abbrev pub clock_of : Moments → ClockAnswers
clock_of told = record { answers = told.coming; repeats = told.repeated }

-- the clock is the one that is told of, where it is told of
abbrev pub IsTold : ClockAnswers → Option Moments → Type 0
IsTold clock moments = IfSome moments (λ told. clock ≡ clock_of told)

-- the datagrams to come, where they are told, and how many receivings gave nothing so far
pub record Incoming : Type 0 where
  pub messages : Option (List Message)
  pub idles : ℕ

-- the same, of these
abbrev pub incoming : Option (List Message) → ℕ → Incoming
incoming messages idles = record { messages = messages; idles = idles }

-- what one receiving gave, of what was to come before and after
abbrev pub GaveOne : Received Peer → Incoming → Incoming → Type 0
-- a datagram came, cut to the buffer
GaveOne (Datagram bytes from) before after =
    (message : Message) × Took (message ∷ []) before.messages after.messages × (bytes ≡ take FRAME_ROOM message.bytes)
    × (from ≡ message.from) × (after.idles ≡ before.idles)
-- nothing was to come, and that counts as one receiving more that gave nothing
GaveOne NothingCame before after =
    (after.messages ≡ before.messages) × IfSome before.messages (λ messages. messages ≡ []) × Rose before.idles after.idles
GaveOne ReceivingFailed before after = after ≡ before

-- what the receivings gave, in order
abbrev pub Gave : List (Received Peer) → Incoming → Incoming → Type 0
Gave [] before after = after ≡ before
Gave (r ∷ rs) before after = (between : Incoming) × GaveOne r before between × Gave rs between after

-- what a wire and a clock tell
pub record Told : Type 0 where
  pub coming : Incoming
  pub sent : Option (List Message)
  pub moments : Option Moments

-- the same, of these
abbrev pub told_of : Incoming → Option (List Message) → Option Moments → Told
told_of coming sent moments = record { coming = coming; sent = sent; moments = moments }

-- ---- serving a node
-- a datagram that was sent
abbrev pub message_of : Peer × List ℕ → Message
message_of sent = record { bytes = sent.1; from = sent.0 }

-- the end, with the datagrams that were served
abbrev pub end_of : ServeStop → ℕ → ServeEnd
end_of FramesServed served = end.Frames
end_of IdleTooLong served = end.Idles served
end_of WireFailed served = end.WireFault served

-- the wire failed exactly once, in its last call, where the end says that it failed, and else in no call
abbrev pub CountsServe : Faults → Faults → ServeEnd → Type 0
CountsServe before now (end.WireFault served) = LastFailed before now
CountsServe before now other = NoneFailed before now

-- a node was served: it went through the definition's turns, over what wire and clock gave
pub record Serves (frames idles : ℕ) (old new : KeptNode) (before after : Told) (answer : ServeEnd) : Type 0 where
  -- what the clock answers, whether each sending goes through, and what each receiving gave
  pub clock : ClockAnswers
  pub sendings : Sendings
  pub receives : List (Received Peer)
  pub at_end : Serving Peer
  pub told : IsTold clock before.moments
  pub gave : Gave receives before.coming after.coming
  -- one turn for each receiving, up to the first at which serving ends
  pub turned : Turned latest frames idles (serving_of old.node old.last clock sendings) receives at_end
  pub node : new.node ≡ at_end.node
  pub last : new.last ≡ at_end.last
  pub sent : Added (map message_of at_end.sent) before.sent after.sent
  pub still : IsTold at_end.clock after.moments
  pub ends : answer ≡ end_of (serve_stop frames at_end) at_end.served
