use Rattle.std.proofs.Common.{◌≡◌, ◌+◌, ◌<◌, ◌++◌, ℕ, refl, arith, ap, subst, ◌∙◌}
use Rattle.std.specs.Simd.{first_chunks}
use Rattle.df_offload.specs.Rows.{row_bytes}
use Rattle.df_offload.specs.Layout.{first_rows}
use Rattle.df_offload.proofs.RowLemmas.{row_of, row_of_long, writes_none, writes_more}
use Rattle.df_offload.proofs.df.Df.write_rows.Goals as goal

pub loop-row-init : goal.loop-row-init
loop-row-init g c = record {
  writes = writes_none c.args.self.now.columns c.args.held c.args.rows.now (g.P.Space.contents c.args.space.now);
  pages = c.requires.pages;
  rest = refl;
  honest = c.requires.honest;
}

pub set_row-requires-clause-bytes : goal.set_row-requires-clause-bytes
set_row-requires-clause-bytes g c =
    row_of_long c.args.self.now.columns c.row_bytes-size.result c.loop-row.row c.args.more c.args.rows.now c.row_bytes-size.ensures c.loop-row-test.true c.requires.rows

pub loop-row-preserved : goal.loop-row-preserved
loop-row-preserved g c =
    let room : c.args.held + c.loop-row.row < c.args.self.now.rows = omega (arith, c.loop-row-test.true, c.requires.room) in
    let one = writes_more c.args.rows.now (g.P.Space.contents c.args.space.now) (g.P.Space.contents c.loop-row.space) (g.P.Space.contents c.set_row.new.space) _ c.loop-row.invariant.pages c.loop-row.invariant.writes
    room
    (row_of_long c.args.self.now.columns c.row_bytes-size.result c.loop-row.row c.args.more c.args.rows.now c.row_bytes-size.ensures c.loop-row-test.true c.requires.rows)
    (row_of c.args.self.now.columns c.row_bytes-size.result c.loop-row.row c.args.rows.now c.row_bytes-size.ensures)
    c.set_row.ensures.contents in
    record {
      writes = one.writes;
      pages = one.pages;
      rest = c.set_row.ensures.rest ∙ c.loop-row.invariant.rest;
      honest = c.set_row.ensures.honest;
    }

pub returns-clause-rows : goal.returns-clause-rows
returns-clause-rows g c =
    let all : c.loop-row.row ≡ c.args.more = omega (arith, c.loop-row-test.false, c.loop-row.auto.row-end) in
    subst (λ n. first_rows c.args.self.now.columns (c.args.held + n) (g.P.Space.contents c.loop-row.space)
    ≡ first_rows c.args.self.now.columns c.args.held (g.P.Space.contents c.args.space.now) ++ first_chunks (row_bytes c.args.self.now.columns) n c.args.rows.now)
    all c.loop-row.invariant.writes.all
    ∙ ap (λ (n : ℕ). first_rows c.args.self.now.columns n (g.P.Space.contents c.args.space.now) ++ first_chunks (row_bytes c.args.self.now.columns) c.args.more c.args.rows.now) c.requires.held
