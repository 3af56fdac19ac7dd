use Rattle.std.proofs.Common.{◌≡◌, None, true, false}
use Rattle.cl_types.specs.Places.{Place}
use Rattle.translate_cache.specs.Cached.{entry_of as cached_entry}
use Rattle.flat_model.specs.Step.{is_among}
use Rattle.data_path.specs.declared.store.PageStore.{PageStore}
use Rattle.data_path.proofs.store.PageStore.forget.Given as goal

-- so many pages are forgotten
abbrev pub invariant-loop-i : goal.invariant-loop-i
invariant-loop-i l = record {
  rest : l.self ≡ (let s : PageStore = record l.fn.self { cache = l.self.cache } in s);
  gone : (place : Place) → is_among l.space.0 l.start.0 l.i place ≡ true → cached_entry l.self.cache place ≡ None;
  others : (place : Place) → is_among l.space.0 l.start.0 l.i place ≡ false → cached_entry l.self.cache place ≡ cached_entry l.fn.self.cache place;
}
