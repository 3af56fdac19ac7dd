-- The bytes stand behind the header and the status already.
use Rattle.std.proofs.Common.{ℕ, ◌+◌, ◌≤◌, length, arith}
use Rattle.frame_codec.proofs.WriterLemmas.{carried_len, got_kept, got_written}
use Rattle.frame_codec.proofs.reply_writer.write_got.Goals as goal

pub returns-clause-written : goal.returns-clause-written
returns-clause-written c =
    let number : ℕ = 128 + c.number.result in
    let short = carried_len c.args.kind c.args.len c.requires.len in
    let room : 27 + c.args.len ≤ length c.args.out.now = omega (arith, c.requires.room, short) in
    rw (← c.number.ensures) (got_written number c.args.head.now c.args.len c.args.out.now _ room c.write_header.ensures)

pub returns-clause-kept : goal.returns-clause-kept
returns-clause-kept c =
    let number : ℕ = 128 + c.number.result in
    got_kept number c.args.head.now (1 + c.args.len) c.args.out.now _ (omega (arith, c.requires.room)) c.write_header.ensures
