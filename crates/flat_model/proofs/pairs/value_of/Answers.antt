use Rattle.std.proofs.Common.{sym}
use Rattle.flat_model.specs.Objects.{key_cmp}
use Rattle.flat_model.proofs.EntryLemmas.{found_at_position, not_found}
use Rattle.flat_model.proofs.pairs.value_of.Goals as goal

pub returns-in-None : goal.returns-in-None
returns-in-None c = sym (not_found key_cmp c.args.key.now c.args.pairs.now (sym c.in-None.ensures))

pub returns-in-Some : goal.returns-in-Some
returns-in-Some c = sym (found_at_position key_cmp c.args.key.now c.args.pairs.now c.in-Some.i c.index-pairs-i.result (sym c.in-Some.ensures))
