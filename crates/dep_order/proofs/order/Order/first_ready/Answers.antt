use Rattle.std.proofs.Common.{ap, ◌∙◌, option_map}
use Rattle.dep_order.specs.Calls.{number_of}
use Rattle.dep_order.proofs.Going.{first_of_all}
use Rattle.dep_order.proofs.order.Order.first_ready.Goals as goal

pub returns : goal.returns
returns c = c.first_ready_of.ensures ∙ ap (option_map number_of) (first_of_all c.args.self.now)
