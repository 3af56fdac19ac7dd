use Rattle.std.proofs.Common.{rules, not}
use Rattle.std.specs.Ordering.{eq_by_cmp}
use Rattle.std.proofs.lemmas.Fn.{filter_same}
use Rattle.flat_model.specs.Objects.{key_cmp}
use Rattle.flat_model.proofs.PutLemmas.{sorted_kept}
use Rattle.flat_model.proofs.pairs.take_out.Goals as goal

pub returns-clause-kept : goal.returns-clause-kept
returns-clause-kept c = filter_same _ _ _ (λ pair kept f k. search rules) _ _ c.retain.ensures.filtered

pub returns-clause-order : goal.returns-clause-order
returns-clause-order c sorted =
    sorted_kept key_cmp (λ other. not (eq_by_cmp key_cmp c.args.key.now other)) c.args.pairs.now.items _ sorted (returns-clause-kept c)
