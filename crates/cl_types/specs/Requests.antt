-- What a lent request or reply stands for, and which requests change the node.
use Rattle.std.specs.Prelude.{◌%◌, ◌==◌, Bool, true, false}
use Rattle.cl_types.specs.declared.request.Request.{Request}
use Rattle.cl_types.specs.declared.request.Request.TheVariants as request
use Rattle.cl_types.specs.declared.request.RequestRef.{RequestRef}
use Rattle.cl_types.specs.declared.request.RequestRef.TheVariants as lent
use Rattle.cl_types.specs.declared.reply.Reply.{Reply}
use Rattle.cl_types.specs.declared.reply.Reply.TheVariants as reply
use Rattle.cl_types.specs.declared.reply.ReplyRef.{ReplyRef}
use Rattle.cl_types.specs.declared.reply.ReplyRef.TheVariants as lent_reply

-- the request, with the bytes that it borrows
abbrev pub request_of : RequestRef → Request
request_of (lent.Alloc pages perm) = request.Alloc pages perm
request_of (lent.Free addr pages) = request.Free addr pages
request_of (lent.Read addr len) = request.Read addr len
request_of (lent.Write addr bytes) = request.Write addr bytes.now
request_of (lent.Atomic addr op) = request.Atomic addr op
request_of (lent.Offload number op out bytes) = request.Offload number op out bytes.now

-- the reply, with the bytes that it borrows
abbrev pub reply_of : ReplyRef → Reply
reply_of (lent_reply.Refused refusal) = reply.Refused refusal
reply_of lent_reply.Nothing = reply.Nothing
reply_of (lent_reply.At addr) = reply.At addr
reply_of (lent_reply.Word n) = reply.Word n
reply_of (lent_reply.Got bytes) = reply.Got bytes.now

-- the request may change the node: an odd operation of an offload changes its object
abbrev pub is_changing : Request → Bool
is_changing (request.Alloc pages perm) = true
is_changing (request.Free addr pages) = true
is_changing (request.Read addr len) = false
is_changing (request.Write addr bytes) = true
is_changing (request.Atomic addr op) = true
is_changing (request.Offload number op out bytes) = op % 2 == 1
