use Rattle.std.proofs.lemmas.Result.{err_from_is_err_and}
use Rattle.world.proofs.create.around.Goals as goal

pub returns-in_err-clients-clause-memory : goal.returns-in_err-clients-clause-memory
returns-in_err-clients-clause-memory c =
    let exit = err_from_is_err_and c.from_residual.result c.from_residual.ensures.1 in
    rw exit.1 exit.2

pub returns-in_err-link-clause-memory : goal.returns-in_err-link-clause-memory
returns-in_err-link-clause-memory c =
    let exit = err_from_is_err_and c.from_residual-in_err-link.result c.from_residual-in_err-link.ensures.1 in
    rw exit.1 exit.2

pub returns-clause-world : goal.returns-clause-world
returns-clause-world c =
    λ i. record {
      moment = 0;
      node = c.args.node.node;
      clients = c.in_ok-clients.ensures.clients i;
      link = c.in_ok-link.ensures i;
      notes = c.new.ensures.items i;
      history = c.new-2.ensures.items i;
    }
