use Rattle.std.proofs.Common.{length, arith, ap, ◌∙◌, ◌*◌, ◌≡◌}
use Rattle.cl_types.specs.Bytes.{with_bytes}
use Rattle.df_offload.specs.Layout.{row_at}
use Rattle.df_offload.proofs.PlaceLemmas.{start_in, row_read, put_is, piece_long}
use Rattle.df_offload.proofs.df.Df.copy.Goals as goal

pub read_at-requires-clause-within : goal.read_at-requires-clause-within
read_at-requires-clause-within g c =
    let pages = c.requires.pages in
    let long = piece_long c.args.self.now.columns c.row_bytes-size.result c.args.behind c.args.out.now pages.some_columns pages.few_columns c.row_bytes-size.ensures c.requires.behind c.told-out in
    start_in pages c.args.row _ _ c.row_place.ensures c.requires.row (omega (arith, long, c.row_bytes-size.ensures))

pub returns-clause-out : goal.returns-clause-out
returns-clause-out g c =
    let pages = c.requires.pages in
    let long = piece_long c.args.self.now.columns c.row_bytes-size.result c.args.behind c.args.out.now pages.some_columns pages.few_columns c.row_bytes-size.ensures c.requires.behind c.told-out in
    let size : length c.read_at.new.out ≡ c.row_bytes-size.result = omega arith in
    put_is (c.row_bytes-size.result * c.args.behind) _ c.args.out.now c.read_at.new.out (row_at c.args.self.now.columns (g.P.Space.contents c.args.space.now) c.args.row)
    (c.read_at.ensures.read ∙ row_read c.args.self.now.columns c.args.row _ _ (g.P.Space.contents c.args.space.now) c.row_place.ensures (long ∙ c.row_bytes-size.ensures))
    (omega arith)
    ∙ ap (λ size. with_bytes (size * c.args.behind) (row_at c.args.self.now.columns (g.P.Space.contents c.args.space.now) c.args.row) c.args.out.now) c.row_bytes-size.ensures
