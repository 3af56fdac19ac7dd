-- Replies on their way into a frame.
use Rattle.std.specs.Prelude.{ℕ, Bool, true, false, List, Option, Some, None, is_some}
use Rattle.cl_types.specs.declared.call.Kind.{Kind}
use Rattle.cl_types.specs.declared.request.Request.{Request}
use Rattle.cl_types.specs.declared.request.Request.TheVariants as request
use Rattle.cl_types.specs.declared.reply.Reply.{Reply}
use Rattle.cl_types.specs.declared.reply.Reply.TheVariants as reply
use Rattle.cl_types.specs.Bytes.{bytes_at}
use Rattle.frame_model.specs.Frames.{is_reply_of}
use Rattle.cl_types.specs.Pages.{page_of}
use Rattle.frame_codec.specs.Writing.{may_carry}
use Rattle.node_core.specs.declared.placed.TheConstants.{VALUE_AT}
use Rattle.node_core.specs.declared.placed.PlacedReply.{PlacedReply}
use Rattle.node_core.specs.declared.placed.PlacedReply.TheVariants as placed

-- the reply, with the bytes that stand at their place in the frame
abbrev pub placed_in : PlacedReply → List ℕ → Reply
placed_in (placed.Refused refusal) out = reply.Refused refusal
placed_in placed.Nothing out = reply.Nothing
placed_in (placed.At addr) out = reply.At addr
placed_in (placed.Word word) out = reply.Word word
placed_in (placed.Got n) out = reply.Got (bytes_at VALUE_AT n out)

-- the reply is one that a frame of this kind can carry
abbrev pub may_place : Kind → PlacedReply → Bool
may_place kind (placed.Refused refusal) = true
may_place kind placed.Nothing = is_reply_of kind reply.Nothing
may_place kind (placed.At addr) = is_reply_of kind (reply.At addr)
may_place kind (placed.Word word) = is_reply_of kind (reply.Word word)
may_place kind (placed.Got n) = may_carry kind n

-- the number of the page whose bytes the request reads or writes, where it does so
abbrev pub page_used : Request → Option ℕ
page_used (request.Read addr len) = Some (page_of addr)
page_used (request.Write addr bytes) = Some (page_of addr)
page_used (request.Atomic addr op) = Some (page_of addr)
page_used other = None

-- the request reads or writes bytes of one page
abbrev pub is_access : Request → Bool
is_access request = is_some (page_used request)

-- the request is one of an object
abbrev pub is_offload : Request → Bool
is_offload (request.Offload number op out bytes) = true
is_offload other = false
