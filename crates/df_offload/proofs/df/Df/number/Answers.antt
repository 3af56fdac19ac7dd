use Rattle.std.proofs.Common.{ap, arith, ◌∙◌, ◌*◌}
use Rattle.std.specs.Int.{from_be_bytes, w64}
use Rattle.df_offload.proofs.PlaceLemmas.{piece_in, row_below, number_read}
use Rattle.df_offload.proofs.df.Df.number.Goals as goal

pub overflow_add-row_place : goal.overflow_add-row_place
overflow_add-row_place g c = let h = row_below c.requires.pages c.args.row c.requires.row in omega (arith, h, c.row_place.ensures, c.requires.column, c.requires.pages.few_columns)

pub read_at-requires-clause-within : goal.read_at-requires-clause-within
read_at-requires-clause-within g c =
    piece_in c.requires.pages c.args.row (8 * c.args.column) 8 _ c.row_place.ensures c.requires.row (omega (arith, c.requires.column)) (omega (arith, c.requires.column))

pub returns-clause-number : goal.returns-clause-number
returns-clause-number g c =
    c.from_be_bytes.ensures
    ∙ ap (from_be_bytes w64) (c.read_at.ensures.read ∙ number_read c.args.self.now.columns c.args.row c.args.column _ (g.P.Space.contents c.args.space.now) c.row_place.ensures c.requires.column)
