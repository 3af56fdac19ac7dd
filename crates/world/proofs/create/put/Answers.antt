use Rattle.std.proofs.Common.{nat_eq, ap, ◌∙◌}
use Rattle.cl_types.specs.declared.numbers.ClientNo.{ClientNo}
use Rattle.indexmap.specs.IndexMap.{insert_entry}
use Rattle.indexmap.proofs.CallerLemmas.{insert_entry-new}
use Rattle.world.proofs.create.put.Goals as goal

pub returns-in-Ok : goal.returns-in-Ok
returns-in-Ok c =
    let client = c.args.client in
    c.in-Ok.ensures.entries
    ∙ ap (λ (n : ClientNo). insert_entry nat_eq c.args.clients.now.entries n.0 client) c.no-no.ensures
    ∙ insert_entry-new nat_eq c.args.clients.now client.client.0 client c.requires
