-- The bytes at the end are the new frame's, and those of the others stay.
use Rattle.std.proofs.Common.{◌≡◌, true, not, ap, ◌∙◌, arith}
use Rattle.std.specs.Result.{is_ok}
use Rattle.link_sim.proofs.Frames.{sent_done}
use Rattle.link_sim.proofs.Link.send.Goals as goal

pub returns-clause-sent : goal.returns-clause-sent
returns-clause-sent c =
    let pushed : is_ok c.push.result ≡ true = c.is_err.ensures.negation ∙ ap not c.if-is_err.false in
    rw (c.push.ensures.items, pushed, c.in_ok-extend_from_slice.ensures.items) (
    sent_done c.self.invariant c.self.view_is (record { moment = c.args.now; end = c.args.end; line = c.args.line; from = c.len-from.result; to = c.len.result }) c.args.bytes.now (omega arith) (omega (arith, c.in_ok-extend_from_slice.ensures.len)))
