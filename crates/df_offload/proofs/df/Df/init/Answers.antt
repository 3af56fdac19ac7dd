use Rattle.std.proofs.Common.{arith}
use Rattle.df_offload.proofs.RowLemmas.{counted}
use Rattle.df_offload.proofs.df.Df.init.Goals as goal

pub returns-clause-store : goal.returns-clause-store
returns-clause-store g c = (counted 0 _ _ c.requires.pages (omega arith) c.set_rows.ensures.contents).0

pub returns-clause-empty : goal.returns-clause-empty
returns-clause-empty g c = (counted 0 _ _ c.requires.pages (omega arith) c.set_rows.ensures.contents).1
