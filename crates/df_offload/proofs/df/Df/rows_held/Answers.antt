use Rattle.std.proofs.Common.{rules}
use Rattle.df_offload.specs.Layout.{count_of}
use Rattle.df_offload.proofs.df.Df.rows_held.Goals as goal

pub returns-clause-number : goal.returns-clause-number
unfolding count_of
returns-clause-number g c = search rules
