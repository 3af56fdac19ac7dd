use Rattle.flat_model.specs.Rows.{with_put}
use Rattle.flat_model.proofs.FourLemmas.{keys_set}
use Rattle.flat_model.proofs.ChangeLemmas.{set_is_changed, sorted_set}
use Rattle.flat_model.proofs.flat.change.put_in_row.Goals as goal

pub returns-clause-put : goal.returns-clause-put
returns-clause-put c = set_is_changed _ _ _ _ _ c.requires.order c.requires.entry c.index_mut-entry.ensures.value c.in_ok-put.ensures.put

pub returns-clause-order : goal.returns-clause-order
returns-clause-order c = sorted_set (with_put c.args.at c.args.bytes.now) _ _ _ _ c.requires.order c.requires.entry c.index_mut-entry.ensures.value c.in_ok-put.ensures.put

pub returns-clause-keys : goal.returns-clause-keys
returns-clause-keys c = keys_set _ _ _ _ c.requires.entry c.index_mut-entry.ensures.value
