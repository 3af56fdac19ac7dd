-- What a contract sees of a reader's answer.
use Rattle.std.specs.Prelude.{◌≡◌, ◌↔◌, ℕ, List, Result, IsOkAnd}
use Rattle.cl_types.specs.declared.call.Kind.{Kind}
use Rattle.cl_types.specs.declared.frame.BadFrame.{BadFrame}
use Rattle.cl_types.specs.declared.frame.Head.{Head}
use Rattle.cl_types.specs.declared.request.Request.{Request}
use Rattle.cl_types.specs.declared.reply.Reply.{Reply}
use Rattle.cl_types.specs.Requests.{request_of, reply_of}
use Rattle.frame_model.specs.Frames.{SpellsRequest, SpellsReply}
use Rattle.frame_codec.specs.declared.views.RequestView.{RequestView}
use Rattle.frame_codec.specs.declared.views.ReplyView.{ReplyView}

-- a request is given exactly where the bytes spell it
abbrev pub GivesSpelledRequest : List ℕ → Result RequestView BadFrame → Type 0
GivesSpelledRequest bytes result =
    (head : Head) (body : Request)
    → SpellsRequest bytes head body ↔ IsOkAnd result (λ view. (view.head ≡ head) × (request_of view.body ≡ body))

-- a reply is given exactly where the bytes spell it
abbrev pub GivesSpelledReply : List ℕ → Result ReplyView BadFrame → Type 0
GivesSpelledReply bytes result =
    (head : Head) (kind : Kind) (body : Reply)
    → SpellsReply bytes head kind body ↔ IsOkAnd result (λ view. (view.head ≡ head) × (view.kind ≡ kind) × (reply_of view.body ≡ body))
