-- The body stands behind the header.
use Rattle.std.proofs.Common.{List, ℕ, ◌≤◌, length, arith}
use Rattle.cl_types.specs.Requests.{request_of}
use Rattle.frame_model.specs.Frames.{request_body}
use Rattle.frame_codec.proofs.WriterLemmas.{frame_written}
use Rattle.frame_codec.proofs.request_writer.write_request.Goals as goal

pub returns-clause-written : goal.returns-clause-written
returns-clause-written c =
    let body : List ℕ = request_body (request_of c.args.body.now) in
    let room : 26 ≤ length c.args.out.now = omega (arith, c.requires.room) in
    rw (← c.kind_of.ensures, ← c.number.ensures)
    (frame_written c.number.result c.args.head.now c.write_body-len.result body c.args.out.now _ _ c.write_body-len.ensures.len
    room c.write_body-len.auto.out c.write_body-len.ensures.written c.write_header.ensures)
