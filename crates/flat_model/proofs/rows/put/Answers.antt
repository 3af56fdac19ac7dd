use Rattle.std.proofs.Common.{sym}
use Rattle.cl_types.specs.Places.{place_cmp}
use Rattle.cl_types.proofs.PlaceLemmas.{place_total, place_exact}
use Rattle.flat_model.proofs.PutLemmas.{sorted_put}
use Rattle.flat_model.proofs.EntryLemmas.{set_is_put, set_is_sorted, inserted_is_put}
use Rattle.flat_model.proofs.rows.put.Goals as goal

pub returns-in-Some-clause-put : goal.returns-in-Some-clause-put
returns-in-Some-clause-put g c =
    set_is_put place_cmp c.args.place place_exact place_total c.args.value _ c.args.entries.now.items c.deref.ensures.value c.in-Some.i _ c.requires.order (sym c.in-Some.ensures) c.index_mut.ensures.value

pub returns-in-Some-clause-order : goal.returns-in-Some-clause-order
returns-in-Some-clause-order g c =
    set_is_sorted place_cmp c.args.place place_exact place_total c.args.value _ c.args.entries.now.items c.deref.ensures.value c.in-Some.i _ c.requires.order (sym c.in-Some.ensures) c.index_mut.ensures.value

pub returns-in-None-clause-put : goal.returns-in-None-clause-put
returns-in-None-clause-put g c =
    inserted_is_put place_cmp c.args.place place_exact place_total c.args.value _ c.args.entries.now.items c.deref.ensures.value
    _ c.deref-in-None.ensures.value _ _ _ (sym c.in-None.ensures) c.position_behind-i.ensures.position (c.insert.ensures.succeeds c.requires.room) c.insert.ensures.items

pub returns-in-None-clause-order : goal.returns-in-None-clause-order
returns-in-None-clause-order g c =
    sorted_put place_cmp place_total c.args.place c.args.value c.args.entries.now.items _ c.requires.order (returns-in-None-clause-put g c)
