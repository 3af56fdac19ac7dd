-- Laws of numbers and of frames, each proved by a function of src/laws.rt.
use Rattle.std.specs.Prelude.{ℕ, ◌≡◌, List, length, take, IsTrue}
use Rattle.byteorder.specs.Endian.{big_bytes, big_number}
use Rattle.cl_types.specs.declared.call.Kind.{Kind}
use Rattle.cl_types.specs.declared.frame.Head.{Head}
use Rattle.cl_types.specs.declared.request.Request.{Request}
use Rattle.cl_types.specs.declared.reply.Reply.{Reply}
use Rattle.cl_types.specs.Ranges.{are_bytes, is_in_range}
use Rattle.frame_model.specs.Frames.{IsHead, is_reply_of, request_frame, reply_frame}
use Rattle.frame_model.specs.FrameLaws.{ReadsAsRequest, ReadsAsReply}
use Rattle.frame_codec.specs.Writing.{IsWritten}

-- bytes are those that `byteorder` writes for the number that it reads in them, the highest first
abbrev pub BytesAreThoseOfTheirNumber : Type 0
BytesAreThoseOfTheirNumber =
    (bytes : List ℕ)
    → IsTrue (are_bytes bytes) → big_bytes (length bytes) (big_number (length bytes) bytes) ≡ bytes

-- a request that was written is read again
abbrev pub WrittenRequestsAreReadAgain : Type 0
WrittenRequestsAreReadAgain =
    (head : Head) (body : Request) (n : ℕ) (old new : List ℕ)
    → IsHead head → IsTrue (is_in_range body) → IsWritten (request_frame head body) n old new → ReadsAsRequest (take n new) head body

-- a reply that was written is read again
abbrev pub WrittenRepliesAreReadAgain : Type 0
WrittenRepliesAreReadAgain =
    (head : Head) (kind : Kind) (body : Reply) (n : ℕ) (old new : List ℕ)
    → IsHead head → IsTrue (is_reply_of kind body) → IsWritten (reply_frame head kind body) n old new → ReadsAsReply (take n new) head kind body
