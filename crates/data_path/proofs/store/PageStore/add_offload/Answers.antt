use Rattle.std.proofs.Common.{◌≡◌, ◌∙◌, [], ◌∷◌, ◌++◌, arith}
use Rattle.data_path.specs.Laying.{rows_of}
use Rattle.data_path.proofs.Laying.{behind_next, free_next, room_next, rows_all, rows_next}
use Rattle.std.proofs.lemmas.Result.{on_ok_weaker}
use Rattle.data_path.proofs.store.PageStore.add_offload.Goals as goal

pub add_page-requires-clause-behind : goal.add_page-requires-clause-behind
add_page-requires-clause-behind c =
    behind_next c.loop-i.self c.args.self.now.spaces _ c.args.pages c.loop-i.i (record { rows = c.loop-i.invariant.rows; there = c.loop-i.invariant.there; next = c.loop-i-test.true })

pub add_page-requires-clause-room : goal.add_page-requires-clause-room
add_page-requires-clause-room c =
    room_next c.loop-i.self c.args.self.now.spaces _ c.args.pages c.loop-i.i (record { rows = c.loop-i.invariant.rows; there = c.loop-i.invariant.there; next = c.loop-i-test.true })
    c.args.self.now.table.buckets c.loop-i.invariant.buckets c.requires.four

pub add_page-requires-clause-free : goal.add_page-requires-clause-free
add_page-requires-clause-free c =
    free_next c.loop-i.self c.args.self.now.spaces _ c.args.pages c.loop-i.i (record { rows = c.loop-i.invariant.rows; there = c.loop-i.invariant.there; next = c.loop-i-test.true })
    c.args.self.now.pool.pages c.loop-i.invariant.pages c.requires.enough

pub loop-i-preserved : goal.loop-i-preserved
loop-i-preserved c =
    let before = c.loop-i.invariant in
    record {
      laid = c.add_page.ensures.laid;
      rows = rows_next c.loop-i.self c.args.self.now.spaces _ c.args.pages c.loop-i.i (record { rows = before.rows; there = before.there; next = c.loop-i-test.true })
          (rows_of c.add_page.new.self.table.entries) c.span_of.result c.span_of.ensures c.add_page.ensures.rows;
      there = before.there;
      buckets = c.add_page.ensures.buckets ∙ before.buckets;
      pages = c.add_page.ensures.pages ∙ before.pages;
      capacity = c.add_page.ensures.capacity ∙ before.capacity;
      spaces = c.add_page.ensures.spaces ∙ before.spaces;
    }

pub returns-clause-rows : goal.returns-clause-rows
returns-clause-rows c =
    let before = c.loop-i.invariant in
    let all : c.loop-i.i ≡ c.args.pages = omega (arith, c.loop-i-test.false, c.loop-i.auto.i-end) in
    on_ok_weaker c.push.result (λ (pushed : c.push.new.self ≡ c.loop-i.self.spaces ++ c.from.result ∷ []).
    rows_all c.args.self.now.spaces c.push.new.self _ c.args.pages c.loop-i.i (rows_of c.loop-i.self.table.entries) all before.there (pushed ∙ (λ k. before.spaces k ++ c.from.ensures k ∷ []))
    before.rows) c.push.ensures.pushed
