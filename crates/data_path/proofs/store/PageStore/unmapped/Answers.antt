use Rattle.std.proofs.Common.{◌*◌, ◌∙◌, sym, ap, arith}
use Rattle.hash_buckets.specs.PageMap.{PageMap}
use Rattle.flat_model.proofs.BucketLemmas.{few_buckets}
use Rattle.data_path.proofs.Laying.{laid_made}
use Rattle.data_path.proofs.store.PageStore.unmapped.Goals as goal

pub returns-clause-laid : goal.returns-clause-laid
returns-clause-laid c =
    laid_made c.in_ok-table.table c.in_ok-pool.pool c.in-Ok.arena c.in_ok-cache.cache c.create-6.result c.in_ok-ranges.ranges _ _ _ (record {
      table_is = c.in_ok-table.ensures.empty;
      valid = c.in_ok-table.ensures.valid;
      pool_is = c.in_ok-pool.ensures.free;
      parted = c.in_ok-pool.ensures.parted;
      ready = c.in_ok-pool.ensures.ready;
      arena_is = c.in-Ok.ensures;
      cache_is = c.in_ok-cache.ensures.empty;
      count = c.in_ok-ranges.ensures.count;
      nodes = c.in_ok-ranges.ensures.nodes ∙ ap (λ (t : PageMap). 4 * t.buckets) (sym c.in_ok-table.ensures.empty);
      empty = c.in_ok-ranges.ensures.empty;
    })

pub overflow_mul-buckets : goal.overflow_mul-buckets
overflow_mul-buckets c = let few = few_buckets c.args.buckets c.requires.buckets in omega (arith, few)
