-- The kinds of requests and of replies have no number in common.
use Rattle.std.proofs.Common.{◌≡◌, ◌≤◌, ap, arith}
use Rattle.std.specs.Prelude.{slice_index}
use Rattle.std.proofs.lemmas.Bool.Decides.{nat_tests}
use Rattle.cl_types.specs.Kinds.{kind_number}
use Rattle.frame_model.specs.Frames.{kind_of}
use Rattle.frame_model.specs.FrameLaws.{NoRequestIsAReply}
use Rattle.frame_model.proofs.RequestFrameLemmas.{request_kind}
use Rattle.frame_model.proofs.ReplyFrameLemmas.{replies_are_read_again}

pub no_request_is_a_reply : NoRequestIsAReply
no_request_is_a_reply bytes head other_head k request reply spelled other =
    let kind : slice_index bytes 3 ≡ kind_number (kind_of request) = ap (λ frame. slice_index frame 3) spelled.spelling in
    let good = request_kind request in
    let low : kind_number (kind_of request) ≤ 6 = grind (arith, nat_tests) in
    let other_kind = (replies_are_read_again bytes other_head k reply other).same_kind in
    omega (arith, kind, low, other_kind)
