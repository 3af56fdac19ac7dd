-- The replies of a run are such as a frame can carry to their requests.
use Rattle.std.specs.Prelude.{List, IsTrue}
use Rattle.std.specs.List.{AllByRecursion as Each}
use Rattle.cl_types.specs.declared.config.NodeConfig.{NodeConfig}
use Rattle.cl_types.specs.declared.line.Entry.{Entry}
use Rattle.cl_types.specs.declared.request.Request.{Request}
use Rattle.cl_types.specs.declared.reply.Reply.{Reply}
use Rattle.frame_model.specs.Frames.{is_reply_of, kind_of}
use Rattle.client_model.specs.Hearing.{is_as_long}
use Rattle.flat_model.specs.Run.{IsRun}

-- a frame of the request's kind can carry the reply, and it is as long as the request asks
pub record IsReplyTo (request : Request) (reply : Reply) : Type 0 where
  pub carried : IsTrue (is_reply_of (kind_of request) reply)
  pub as_long : IsTrue (is_as_long request reply)

-- in every run each reply is one to its request
abbrev pub RepliesFit : Type 0
RepliesFit = (config : NodeConfig) (entries : List Entry) → IsRun config entries → Each (λ (e : Entry). IsReplyTo e.request e.reply) entries
