-- The body stands behind the header.
use Rattle.std.proofs.Common.{List, ℕ, ◌+◌, ◌≤◌, length, arith}
use Rattle.cl_types.specs.Requests.{reply_of}
use Rattle.frame_codec.specs.Parts.{reply_body}
use Rattle.frame_codec.proofs.WriterLemmas.{frame_written}
use Rattle.frame_codec.proofs.reply_writer.write_reply.Goals as goal

pub returns-clause-written : goal.returns-clause-written
returns-clause-written c =
    let body : List ℕ = reply_body (reply_of c.args.body.now) in
    let room : 26 ≤ length c.args.out.now = omega (arith, c.requires.room) in
    rw (← c.number.ensures)
    (frame_written (128 + c.number.result) c.args.head.now c.write_body-len.result body c.args.out.now _ _ c.write_body-len.ensures.len
    room c.write_body-len.auto.out c.write_body-len.ensures.written c.write_header.ensures)
