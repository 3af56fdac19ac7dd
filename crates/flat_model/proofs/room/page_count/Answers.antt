use Rattle.std.proofs.Common.{rules, ◌≤◌, ◌≡◌, List, None, get_or, sym, subst}
use Rattle.cl_types.specs.Config.{first_bad, judged_offload}
use Rattle.cl_types.specs.declared.config.OffloadConfig.{OffloadConfig}
use Rattle.cl_types.specs.declared.config.OffloadConfig.TheVariants.{Kv}
use Rattle.flat_model.proofs.OpeningLemmas.{few_read, good_offload, read_pages}
use Rattle.flat_model.proofs.room.page_count.Goals as goal

pub pages_of-requires : goal.pages_of-requires
pages_of-requires c =
    subst (λ (offloads : List OffloadConfig). first_bad (judged_offload (get_or offloads c.args.k (Kv 0))) ≡ None) (sym c.as_slice.ensures)
    (good_offload c.args.config.now c.args.k (Kv 0) c.requires.good c.requires.within)

pub overflow_cast-result : goal.overflow_cast-result
overflow_cast-result c =
    let few : c.pages_of.result ≤ 317 = few_read c.args.config.now _ c.args.k (Kv 0) _ c.requires.good c.as_slice.ensures c.requires.within c.pages_of.ensures in
    search rules

pub returns-clause-value : goal.returns-clause-value
returns-clause-value c = read_pages _ c.args.config.now.offloads c.args.k (Kv 0) _ c.as_slice.ensures c.requires.within c.pages_of.ensures

pub returns-clause-small : goal.returns-clause-small
returns-clause-small c = few_read c.args.config.now _ c.args.k (Kv 0) _ c.requires.good c.as_slice.ensures c.requires.within c.pages_of.ensures
