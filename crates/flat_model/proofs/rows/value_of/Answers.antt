use Rattle.std.proofs.Common.{sym}
use Rattle.cl_types.specs.Places.{place_cmp}
use Rattle.flat_model.proofs.EntryLemmas.{found_at_position, not_found}
use Rattle.flat_model.proofs.rows.value_of.Goals as goal

pub returns-in-None : goal.returns-in-None
returns-in-None g c = sym (not_found place_cmp c.args.place c.args.entries.now (sym c.in-None.ensures))

pub returns-in-Some : goal.returns-in-Some
returns-in-Some g c = sym (found_at_position place_cmp c.args.place c.args.entries.now c.in-Some.i c.index-entries-i.result (sym c.in-Some.ensures))
