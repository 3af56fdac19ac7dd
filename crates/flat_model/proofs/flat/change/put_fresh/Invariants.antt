use Rattle.std.proofs.Common.{◌≡◌, ◌+◌, ◌-◌, ◌≤◌, true, vec_capacity, vec_len}
use Rattle.std.specs.FinMap.Entries.{is_sorted}
use Rattle.cl_types.specs.Places.{place_cmp}
use Rattle.flat_model.specs.State.{places_of}
use Rattle.flat_model.specs.Step.{with_fresh}
use Rattle.flat_model.proofs.flat.change.put_fresh.Given as goal

abbrev pub invariant-loop-done : goal.invariant-loop-done
invariant-loop-done l = record {
  -- the last pages stand
  put : l.map.items ≡ with_fresh l.perm (places_of l.pid (l.start + (l.n - l.done)) l.done) l.initial.map.items;
  order : is_sorted place_cmp l.map.items ≡ true;
  room : vec_len l.map + (l.n - l.done) ≤ vec_capacity l.map;
}
