use Rattle.std.proofs.Common.{◌∙◌, ap, sym, Some}
use Rattle.client_core.specs.Held.{may_send}
use Rattle.client_core.proofs.CallLemmas.{found_next, has_number, sends_here}
use Rattle.client_core.proofs.calls.first_to_send.Goals as goal

pub may_send_now-requires : goal.may_send_now-requires
may_send_now-requires c = has_number c.args.rows.now c.args.order.now c.loop-i.i c.row-row.result.now c.requires c.row-row.ensures

pub returns-then-may_send_now : goal.returns-then-may_send_now
returns-then-may_send_now c =
    ap Some c.next_part.ensures ∙ sends_here c.args.order.now c.args.rows.now c.loop-i.i c.row-row.result.now c.requires c.loop-i.invariant c.row-row.ensures (sym c.may_send_now.ensures ∙ c.if-may_send_now.true)

pub loop-i-preserved : goal.loop-i-preserved
loop-i-preserved c =
    found_next (may_send c.args.order.now) c.args.rows.now c.loop-i.i c.row-row.result.now c.loop-i.invariant c.row-row.ensures (sym c.may_send_now.ensures ∙ c.if-may_send_now.false)
