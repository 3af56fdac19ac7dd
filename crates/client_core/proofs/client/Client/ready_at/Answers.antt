use Rattle.std.proofs.Common.{◌∙◌, ap, sym}
use Rattle.client_model.specs.Order.{ready_in}
use Rattle.client_core.proofs.Deciding.{prints_in}
use Rattle.client_core.proofs.client.Client.ready_at.Goals as goal

pub returns : goal.returns
returns c = rw (← c.self.view_is) (c.is_ready.ensures ∙ ap (λ ks. ready_in ks c.args.no.0) (sym (prints_in c.self.inside.flight.flown c.self.inside.calls.held)))
