-- The body stands behind the header.
use Rattle.std.proofs.Common.{List, ℕ, ◌∷◌, ◌+◌, ◌≤◌, length, arith}
use Rattle.cl_types.specs.SmallReplies.{value_of}
use Rattle.frame_codec.proofs.WriterLemmas.{frame_written}
use Rattle.frame_codec.proofs.reply_writer.write_small.Goals as goal

pub returns-clause-written : goal.returns-clause-written
returns-clause-written c =
    let body : List ℕ = c.args.reply.now.status ∷ value_of c.args.reply.now in
    let room : 26 ≤ length c.args.out.now = omega (arith, c.requires) in
    rw (← c.number.ensures)
    (frame_written (128 + c.number.result) c.args.head.now c.write_small_body-len.result body c.args.out.now _ _ c.write_small_body-len.ensures.len
    room c.write_small_body-len.auto.out c.write_small_body-len.ensures.written c.write_header.ensures)
