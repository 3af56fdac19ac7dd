use Rattle.std.proofs.Common.{rules, not}
use Rattle.std.proofs.lemmas.Fn.{filter_same}
use Rattle.cl_types.specs.Places.{place_cmp}
use Rattle.flat_model.specs.Step.{is_among}
use Rattle.flat_model.proofs.PutLemmas.{sorted_kept}
use Rattle.flat_model.proofs.rows.take_out_pages.Goals as goal

pub returns-clause-kept : goal.returns-clause-kept
returns-clause-kept g c = filter_same _ _ _ (λ entry kept f k. search rules) _ _ c.retain.ensures.filtered

pub returns-clause-order : goal.returns-clause-order
returns-clause-order g c sorted =
    sorted_kept place_cmp (λ place. not (is_among c.args.pid c.args.start c.args.pages place)) c.args.entries.now.items _ sorted (returns-clause-kept g c)
