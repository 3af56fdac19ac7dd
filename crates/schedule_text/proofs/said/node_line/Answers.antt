use Rattle.std.proofs.Common.{[], ◌∷◌, arith, rules}
use Rattle.schedule_text.proofs.ArgumentLemmas.{arguments_fault}
use Rattle.schedule_text.proofs.StopLemmas.{line_stops}
use Rattle.texts.specs.Grammar.{node_says, u64}
use Rattle.schedule_text.specs.Parts.{words_left}
use Rattle.schedule_text.proofs.said.node_line.Goals as goal

pub returns-in_err-pages : goal.returns-in_err-pages
returns-in_err-pages c =
    line_stops (u64 ∷ u64 ∷ u64 ∷ u64 ∷ []) node_says (words_left c.args.rest) _ c.from_residual.result (search rules) c.in_err-pages.ensures.fault

pub returns-in_err-pages-2 : goal.returns-in_err-pages-2
returns-in_err-pages-2 c = grind (arith, arguments_fault)

pub returns-in_err-buckets : goal.returns-in_err-buckets
returns-in_err-buckets c = grind (arith, arguments_fault)

pub returns-in_err-ring : goal.returns-in_err-ring
returns-in_err-ring c = grind (arith, arguments_fault)

pub returns-in_err-retry : goal.returns-in_err-retry
returns-in_err-retry c = grind (arith, arguments_fault)

pub returns : goal.returns
returns c = grind (arith, arguments_fault)
