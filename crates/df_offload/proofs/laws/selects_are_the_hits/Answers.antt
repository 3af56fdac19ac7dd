use Rattle.std.proofs.Common.{◌∙◌}
use Rattle.df_offload.proofs.LawLemmas.{all_hits, joined}
use Rattle.df_offload.proofs.laws.selects_are_the_hits.Goals as goal

pub returns : goal.returns
returns c columns rows test selects some few run = joined test columns rows some few 0 selects run ∙ all_hits test 0 rows
