use Rattle.std.proofs.Common.{ap, arith, ◌∙◌}
use Rattle.std.specs.List.{concat}
use Rattle.df_offload.specs.Rows.{test_at}
use Rattle.df_offload.proofs.LawLemmas.{all_hits, answers_joined}
use Rattle.df_offload.proofs.laws.answers_are_the_hits.Goals as goal

pub returns : goal.returns
returns c columns most rows test answers some few fits run =
    answers_joined columns most rows test some few fits 0 answers (omega arith) run ∙ ap concat (all_hits (test_at 0 test) 0 rows)
