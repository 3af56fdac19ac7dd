use Rattle.std.proofs.Common.{rules, length, ◌+◌, ◌≡◌, ◌≤◌, ◌∙◌, [], ◌∷◌, ◌++◌, map, take, arith, ap}
use Rattle.std.proofs.lemmas.Result.{err_from_is_err_and}
use Rattle.cl_types.specs.Config.{offload_pages}
use Rattle.cl_types.specs.declared.config.OffloadConfig.TheVariants.{Kv}
use Rattle.flat_model.specs.Objects.{empty_object}
use Rattle.data_path.specs.Store.{flat_of}
use Rattle.data_path.proofs.Judging.{count_there, enough_there, few_there, four_there, good_there, spaces_all, spaces_there}
use Rattle.data_path.proofs.Opened.{flat_opened, memory_laid, whole_laid}
use Rattle.data_path.proofs.store.PageStore.create.Goals as goal

pub pages_of-requires : goal.pages_of-requires
pages_of-requires c =
    good_there c.args.config.now c.as_slice-offload-items.result.now c.loop-offload.offload-index 0 _ c.in_ok-judge.ensures.good c.as_slice-offload-items.ensures c.loop-offload-test.true

pub overflow_cast-pages_of : goal.overflow_cast-pages_of
overflow_cast-pages_of c =
    let few : c.pages_of.result ≤ 317 =
    few_there c.args.config.now c.as_slice-offload-items.result.now c.loop-offload.offload-index c.pages_of.result _ c.in_ok-judge.ensures.good c.as_slice-offload-items.ensures c.loop-offload-test.true c.pages_of.ensures in
    search rules

pub add_offload-requires-clause-few : goal.add_offload-requires-clause-few
add_offload-requires-clause-few c =
    count_there c.args.config.now c.as_slice-offload-items.result.now c.loop-offload.offload-index c.pages_of.result (Kv 0) c.in_ok-judge.ensures.good c.as_slice-offload-items.ensures c.loop-offload-test.true
    c.loop-offload.store.spaces c.loop-offload.invariant.spaces

pub add_offload-requires-clause-within : goal.add_offload-requires-clause-within
add_offload-requires-clause-within c =
    omega (arith, few_there c.args.config.now c.as_slice-offload-items.result.now c.loop-offload.offload-index c.pages_of.result _ c.in_ok-judge.ensures.good c.as_slice-offload-items.ensures c.loop-offload-test.true c.pages_of.ensures)

-- the pages of the offloads up to the next
next : (c : goal.After-pages_of) → c.loop-offload.store.spaces ++ c.pages_of.result ∷ [] ≡ map offload_pages (take (c.loop-offload.offload-index + 1) c.args.config.now.offloads)
next c =
    spaces_there c.args.config.now c.as_slice-offload-items.result.now c.loop-offload.offload-index c.pages_of.result _ c.in_ok-judge.ensures.good c.as_slice-offload-items.ensures c.loop-offload-test.true
    c.loop-offload.store.spaces c.loop-offload.invariant.spaces c.pages_of.ensures

pub add_offload-requires-clause-four : goal.add_offload-requires-clause-four
add_offload-requires-clause-four c =
    four_there c.args.config.now c.loop-offload.offload-index (c.loop-offload.store.spaces ++ c.pages_of.result ∷ []) c.in_ok-judge.ensures.good
    (omega (arith, c.loop-offload-test.true, ap length c.as_slice-offload-items.ensures)) (next c) c.loop-offload.store.table.buckets c.loop-offload.invariant.buckets

pub add_offload-requires-clause-enough : goal.add_offload-requires-clause-enough
add_offload-requires-clause-enough c =
    enough_there c.args.config.now c.loop-offload.offload-index (c.loop-offload.store.spaces ++ c.pages_of.result ∷ []) c.in_ok-judge.ensures.good
    (omega (arith, c.loop-offload-test.true, ap length c.as_slice-offload-items.ensures)) (next c) c.loop-offload.store.pool.pages c.loop-offload.invariant.pages

pub loop-offload-preserved : goal.loop-offload-preserved
loop-offload-preserved c =
    let before = c.loop-offload.invariant in
    let added = c.in_ok-add_offload.ensures in
    record {
      laid = added.laid;
      rows = added.rows;
      spaces = added.spaces
          ∙ spaces_there c.args.config.now c.as_slice-offload-items.result.now c.loop-offload.offload-index c.pages_of.result _ c.in_ok-judge.ensures.good c.as_slice-offload-items.ensures c.loop-offload-test.true
          c.loop-offload.store.spaces before.spaces c.pages_of.ensures;
      buckets = added.buckets ∙ before.buckets;
      pages = added.pages ∙ before.pages;
      ring = added.capacity ∙ before.ring;
    }

pub returns-in_err-add_offload-clause-fault : goal.returns-in_err-add_offload-clause-fault
returns-in_err-add_offload-clause-fault c =
    let exit = err_from_is_err_and c.from_residual-in_err-add_offload.result c.from_residual-in_err-add_offload.ensures.1 in
    rw (c.in_ok-judge.ensures.good, exit.1) exit.2

pub returns-clause-memory : goal.returns-clause-memory
returns-clause-memory c =
    let last = c.loop-offload.invariant in
    let spaces = spaces_all c.args.config.now c.as_slice-offload-items.result.now c.loop-offload.offload-index c.loop-offload.store.spaces c.as_slice-offload-items.ensures (omega (arith, c.loop-offload-test.false)) last.spaces in
    memory_laid c.loop-offload.store last.laid last.rows c.args.config.now spaces last.buckets last.pages

pub returns-clause-opened : goal.returns-clause-opened
returns-clause-opened c =
    let last = c.loop-offload.invariant in
    let spaces = spaces_all c.args.config.now c.as_slice-offload-items.result.now c.loop-offload.offload-index c.loop-offload.store.spaces c.as_slice-offload-items.ensures (omega (arith, c.loop-offload-test.false)) last.spaces in
    ap (flat_of (map empty_object c.args.config.now.offloads)) (memory_laid c.loop-offload.store last.laid last.rows c.args.config.now spaces last.buckets last.pages)
    ∙ flat_opened c.args.config.now

pub returns-clause-whole : goal.returns-clause-whole
returns-clause-whole c = whole_laid c.loop-offload.store c.loop-offload.invariant.laid c.loop-offload.invariant.rows
