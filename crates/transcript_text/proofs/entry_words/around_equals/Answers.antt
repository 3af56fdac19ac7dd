use Rattle.std.proofs.Common.{◌≡◌, Some, true, is_some}
use Rattle.transcript_text.proofs.EntryLemmas.{around_more}
use Rattle.transcript_text.proofs.entry_words.around_equals.Goals as goal

pub returns-then-is_some : goal.returns-then-is_some
returns-then-is_some c =
    let first : c.cut.result.1 ≡ Some c.in_ok-rest.field-0 = cc in
    let second : is_some c.cut-2.result.1 ≡ true = cc in
    around_more c.args.line.now c.cut.result.0.now c.cut-2.result.0.now c.cut.result.1 c.cut-2.result.1 c.in_ok-rest.field-0
    c.cut.ensures.parts first c.cut-2.ensures.parts second
