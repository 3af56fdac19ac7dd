use Rattle.std.proofs.Common.{◌≡◌, true, is_some}
use Rattle.transcript_text.proofs.EntryLemmas.{part_in_more}
use Rattle.transcript_text.proofs.entry_words.part_in.Goals as goal

pub returns-then-is_some : goal.returns-then-is_some
returns-then-is_some c =
    let third : is_some c.cut-3.result.1 ≡ true = cc in
    part_in_more c.args.name.now c.cut.result.0.now c.cut-2.result.0.now c.cut-3.result.0.now c.cut.result.1 c.cut-2.result.1 c.cut-3.result.1
    c.in_ok-rest.field-0 c.in_ok-rest-2.field-0 c.cut.ensures.parts c.in_ok-rest.was c.cut-2.ensures.parts c.in_ok-rest-2.was c.cut-3.ensures.parts third
