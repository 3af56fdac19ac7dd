use Rattle.std.proofs.Common.{◌∙◌}
use Rattle.indexmap.specs.IndexMap.{values}
use Rattle.world.proofs.ClientLemmas.{at_place, found_under}
use Rattle.world.proofs.whole.client_at.Goals as goal

pub returns-clause-client : goal.returns-clause-client
returns-clause-client c =
    let m = c.args.clients.now in
    let same = found_under m.entries c.args.no c.requires in
    at_place c.get_index_of.result (values m) _ c.get_index_of.ensures.found c.get_index_of.ensures.value ∙ same
