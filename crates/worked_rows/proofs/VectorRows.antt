-- Worked frames, as their bytes in hexadecimal.
use Rattle.std.proofs.Common.{◌≡◌, ℕ, refl}
use Rattle.std.specs.Prelude.{codes}
use Rattle.hex.specs.Hex.{encode_lower, encode_with}
use Rattle.cl_types.specs.declared.call.AtomicOp.TheVariants.{Add}
use Rattle.cl_types.specs.declared.call.Kind.TheVariants as kind
use Rattle.cl_types.specs.declared.call.Perm.TheVariants.{ReadWrite}
use Rattle.cl_types.specs.declared.frame.Head.{Head}
use Rattle.cl_types.specs.declared.reply.Refusal.TheVariants.{NoMapping}
use Rattle.cl_types.specs.declared.reply.Reply.TheVariants as reply
use Rattle.cl_types.specs.declared.request.Request.TheVariants as request
use Rattle.frame_model.specs.Frames.{request_frame, reply_frame}

head : (client id orig : ℕ) → Head
head client id orig = record { client = record { 0 = client }; pid = 1; id = id; orig = orig }

an_alloc : encode_lower (request_frame (head 1 1 1) (request.Alloc 1 ReadWrite))
    ≡ codes "434c010100010001000000000000000100000000000000010003000103"
unfolding encode_with head
an_alloc = refl

its_reply : encode_lower (reply_frame (head 1 1 1) kind.Alloc (reply.At (record { 0 = 0x1000 })))
    ≡ codes "434c0181000100010000000000000001000000000000000100050000001000"
unfolding encode_with head
its_reply = refl

a_write : encode_lower (request_frame (head 1 2 2) (request.Write (record { 0 = 0x1000 }) (codes "abc")))
    ≡ codes "434c01040001000100000000000000020000000000000002000700001000616263"
unfolding encode_with head
a_write = refl

a_read_at_the_end_of_its_page : encode_lower (request_frame (head 1 5 3) (request.Read (record { 0 = 0x1ffc }) 4))
    ≡ codes "434c01030001000100000000000000050000000000000003000600001ffc0004"
unfolding encode_with head
a_read_at_the_end_of_its_page = refl

an_add : encode_lower (request_frame (head 2 1 1) (request.Atomic (record { 0 = 0x1000 }) (Add 3)))
    ≡ codes "434c01050002000100000000000000010000000000000001000d00001000030000000000000003"
unfolding encode_with head
an_add = refl

its_old_word : encode_lower (reply_frame (head 2 1 1) kind.Atomic (reply.Word 5))
    ≡ codes "434c018500020001000000000000000100000000000000010009000000000000000005"
unfolding encode_with head
its_old_word = refl

a_refusal : encode_lower (reply_frame (head 1 1 1) kind.Write (reply.Refused NoMapping))
    ≡ codes "434c01840001000100000000000000010000000000000001000101"
unfolding encode_with head
a_refusal = refl
