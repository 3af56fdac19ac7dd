use Rattle.std.proofs.Common.{length, arith}
use Rattle.df_offload.proofs.PlaceLemmas.{start_in}
use Rattle.df_offload.proofs.df.Df.set_row.Goals as goal

pub write_at-requires-clause-within : goal.write_at-requires-clause-within
write_at-requires-clause-within g c = start_in c.requires.pages c.args.row (length c.args.bytes.now) _ c.row_place.ensures c.requires.row (omega (arith, c.requires.bytes))
