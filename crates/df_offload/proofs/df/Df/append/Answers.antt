use Rattle.std.proofs.Common.{◌+◌, ◌/◌, ◌++◌, List, ℕ, length, arith, ap, ◌∙◌}
use Rattle.std.specs.Simd.{first_chunks}
use Rattle.df_offload.specs.Rows.{row_bytes}
use Rattle.df_offload.specs.Stored.{rows_in}
use Rattle.df_offload.proofs.RowLemmas.{append_full, append_done, counted, fits_free}
use Rattle.df_offload.proofs.df.Df.append.Goals as goal

pub returns-then-more-self-clause-given : goal.returns-then-more-self-clause-given
returns-then-more-self-clause-given g c =
    append_full c.args.self.now.columns c.args.self.now.rows _ (g.P.Space.contents c.args.space.now) c.args.rows.now (ap (λ size. length c.args.rows.now / size) c.row_bytes.ensures)
    (omega (arith, c.if-more-self.true, c.rows_held-held.ensures.number, c.requires.store.few))

pub returns-clause-given : goal.returns-clause-given
returns-clause-given g c =
    append_done c.args.self.now.columns c.args.self.now.rows c.rows_held-held.result (length c.args.rows.now / c.row_bytes.result) (g.P.Space.contents c.args.space.now) (g.P.Space.contents c.set_rows.new.space) c.args.rows.now
    c.rows_held-held.ensures.number (ap (λ size. length c.args.rows.now / size) c.row_bytes.ensures)
    (fits_free c.rows_held-held.result _ c.args.self.now.rows (omega (arith, c.rows_held-held.ensures.number, c.requires.store.few)) c.if-more-self.false)
    ((counted (c.rows_held-held.result + length c.args.rows.now / c.row_bytes.result) (g.P.Space.contents c.write_rows.new.space) (g.P.Space.contents c.set_rows.new.space) c.write_rows.ensures.pages
    (fits_free c.rows_held-held.result _ c.args.self.now.rows (omega (arith, c.rows_held-held.ensures.number, c.requires.store.few)) c.if-more-self.false) c.set_rows.ensures.contents).1
    ∙ c.write_rows.ensures.rows
    ∙ ap (λ (m : List ℕ). rows_in c.args.self.now.columns m ++ first_chunks (row_bytes c.args.self.now.columns) (length c.args.rows.now / c.row_bytes.result) c.args.rows.now) c.rows_held-held.ensures.contents)

pub returns-clause-store : goal.returns-clause-store
returns-clause-store g c =
    (counted (c.rows_held-held.result + length c.args.rows.now / c.row_bytes.result) (g.P.Space.contents c.write_rows.new.space) (g.P.Space.contents c.set_rows.new.space) c.write_rows.ensures.pages
    (fits_free c.rows_held-held.result _ c.args.self.now.rows (omega (arith, c.rows_held-held.ensures.number, c.requires.store.few)) c.if-more-self.false) c.set_rows.ensures.contents).0
