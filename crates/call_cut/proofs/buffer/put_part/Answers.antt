-- The offset of a piece is that of its bytes in the buffer.
use Rattle.std.proofs.Common.{◌≡◌, Some, ap, sym, ◌∙◌, slice_get, length}
use Rattle.cl_types.specs.Bytes.{with_bytes}
use Rattle.cl_types.specs.declared.call.Call.TheVariants.{Read}
use Rattle.cl_types.specs.declared.reply.Reply.TheVariants.{Got}
use Rattle.client_model.specs.Cut.{pieces}
use Rattle.call_cut.specs.Taking.{call_with}
use Rattle.call_cut.proofs.Takings.{place_is}
use Rattle.call_cut.proofs.buffer.put_part.Goals as goal

pub returns-in-Read : goal.returns-in-Read
returns-in-Read c =
    let piece : slice_get (pieces c.in-Read.addr.0 (length c.in-Read.buf)) c.args.i ≡ Some _ = rw c.as_slice.ensures at c.piece_at-piece.ensures.piece in
    let from = place_is c.in-Read.addr c.in-Read.buf c.args.i _ _ piece in
    ap (Read c.in-Read.addr) (c.put.ensures ∙ ap (λ at. with_bytes at c.args.bytes.now c.in-Read.buf) from) ∙ ap (call_with c.args.i (Got c.args.bytes.now)) (sym c.in-Read.is)
