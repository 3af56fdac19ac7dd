-- The parts of a frame, as they are read and written. No public clause cites this module.
use Rattle.std.specs.Prelude.{ℕ, ◌+◌, ◌≡◌, leb, List, [], ◌∷◌, ◌++◌, None, length, slice_index}
use Rattle.std.specs.Int.{to_be_bytes, w16, w64}
use Rattle.cl_types.specs.declared.frame.Head.{Head}
use Rattle.cl_types.specs.declared.reply.Reply.{Reply}
use Rattle.cl_types.specs.declared.frame.FieldName.TheVariants as name
use Rattle.cl_types.specs.declared.numbers.TheConstants.{LAST_PID}
use Rattle.cl_types.specs.Config.{is_within}
use Rattle.cl_types.specs.Kinds.{kind_number}
use Rattle.frame_model.specs.Faults.{first_fault}
use Rattle.frame_model.specs.Frames.{Checks, body_len, field, head_in, header_checks, number_16, number_64, reply_value, status_in}
use Rattle.frame_codec.specs.declared.headers.Header.{Header}

-- the checks of a head, which are the last of a header
abbrev pub head_checks : List ℕ → Checks
head_checks bytes =
    field (is_within 1 LAST_PID (number_16 6 bytes)) name.Pid
    ∷ field (leb 1 (number_64 8 bytes)) name.Id
    ∷ field (is_within 1 (number_64 8 bytes) (number_64 16 bytes)) name.Orig
    ∷ []

-- the bytes have a good header, this one; their kind's number is above the base
pub record IsHeaderOf (base : ℕ) (bytes : List ℕ) (header : Header) : Type 0 where
  pub faultless : first_fault (header_checks (is_within (base + 1) (base + 6)) bytes) ≡ None
  pub whole : length bytes ≡ 26 + body_len bytes
  pub kind : slice_index bytes 3 ≡ base + kind_number header.kind
  pub head : header.head ≡ head_in bytes

-- the 26 bytes in front of a body of so many bytes
abbrev pub header_of : ℕ → Head → ℕ → List ℕ
header_of number head len =
    67 ∷ 76 ∷ 1 ∷ number ∷ to_be_bytes w16 head.client.0 ++ to_be_bytes w16 head.pid ++ to_be_bytes w64 head.id ++ to_be_bytes w64 head.orig ++ to_be_bytes w16 len

-- the body of a reply's frame: the status, and the value behind it
abbrev pub reply_body : Reply → List ℕ
reply_body reply = status_in reply ∷ reply_value reply
