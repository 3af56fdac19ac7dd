use Rattle.std.proofs.Common.{◌+◌, ◌*◌, ◌/◌, ◌%◌, ap}
use Rattle.df_offload.specs.Layout.{row_place}
use Rattle.df_offload.proofs.df.Df.row_place.Goals as goal

pub returns : goal.returns
unfolding row_place
returns c = ap (λ size. 4096 * (1 + c.args.row / (512 / c.args.self.now.columns)) + size * (c.args.row % (512 / c.args.self.now.columns))) c.row_bytes.ensures
