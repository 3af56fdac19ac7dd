-- What is written is the frame and then the rest of the buffer.
use Rattle.std.proofs.Common.{◌≡◌, ℕ, ◌+◌, List, ◌++◌, refl, ap, sym, ◌∙◌, length, take, drop, arith}
use Rattle.std.proofs.lemmas.List.{take-append-drop}
use Rattle.cl_types.specs.Bytes.{with_bytes}
use Rattle.cl_types.specs.declared.frame.Head.{Head}
use Rattle.cl_types.specs.declared.request.Request.{Request}
use Rattle.frame_model.specs.Frames.{request_frame}
use Rattle.frame_codec.specs.Writing.{IsWritten}
use Rattle.client_core.specs.Answers.{frame_bytes}

bytes_so : (frame : List ℕ) (n : ℕ) (old new : List ℕ) → IsWritten frame n old new → new ≡ with_bytes 0 frame old
bytes_so frame n old new w =
    sym (take-append-drop n new) ∙ (λ i. w.spelling i ++ w.rest i) ∙ ap (λ m. frame ++ drop m old) (w.len ∙ from_zero (length frame))
  where
    from_zero : (m : ℕ) → m ≡ 0 + m
    from_zero m = omega arith

pub written_len : (head : Head) (p q : Request) (n : ℕ) (old new : List ℕ) → IsWritten (request_frame head p) n old new → p ≡ q → n ≡ length (frame_bytes head q)
unfolding frame_bytes
written_len head p q n old new w same = w.len ∙ ap (λ z. length (request_frame head z)) same

pub written_bytes : (head : Head) (p q : Request) (n : ℕ) (old new : List ℕ) → IsWritten (request_frame head p) n old new → p ≡ q → new ≡ with_bytes 0 (frame_bytes head q) old
unfolding frame_bytes
written_bytes head p q n old new w same = bytes_so (request_frame head p) n old new w ∙ ap (λ z. with_bytes 0 (request_frame head z) old) same
