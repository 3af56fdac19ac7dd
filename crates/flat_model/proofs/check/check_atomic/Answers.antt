use Rattle.std.proofs.Common.{◌∙◌, ap}
use Rattle.std.specs.Int.{to_le_bytes, w64}
use Rattle.flat_model.proofs.CheckLemmas.{checks_refused, checks_atomic, checks_no_atomic, opened_within, wants_atomic}
use Rattle.cl_types.specs.Pages.{offset_of, word_at, word_after}
use Rattle.flat_model.specs.Rows.{put_bytes}
use Rattle.flat_model.specs.State.{bytes_of}
use Rattle.flat_model.specs.Step.{may_change, puts}
use Rattle.cl_types.specs.declared.reply.Reply.TheVariants.{Word}
use Rattle.flat_model.proofs.check.check_atomic.Goals as goal

pub put-requires-clause-entry : goal.put-requires-clause-entry
put-requires-clause-entry c = opened_within c.args.flat.now c.args.pid c.args.addr may_change c.in-Ok.i c.in-Ok.ensures

pub returns-in-Err-clause-checks : goal.returns-in-Err-clause-checks
returns-in-Err-clause-checks c =
    checks_refused _ _ _ c.in-Err.refusal _ (c.in-Err.ensures (λ page.
    let word = word_at (offset_of c.args.addr) (bytes_of page) in
    puts c.args.flat.now c.args.pid c.args.addr page (to_le_bytes w64 (word_after c.args.op word)) (Word word))) c.is_refusal.ensures

pub returns-then-not-is_word-clause-checks : goal.returns-then-not-is_word-clause-checks
returns-then-not-is_word-clause-checks c =
    checks_no_atomic c.args.flat.now c.args.pid c.args.addr c.in-Ok.i c.args.op c.args.reply.now _ c.word-word.result c.nth.result.now
    (record { opens = c.in-Ok.ensures; value = c.nth.ensures; is_word = c.word-word.ensures; test = c.is_word.ensures }) c.if-not-is_word.true

pub returns-in_ok-put-in-Ok-clause-checks : goal.returns-in_ok-put-in-Ok-clause-checks
returns-in_ok-put-in-Ok-clause-checks c =
    checks_atomic c.args.flat.now c.args.pid c.args.addr c.in-Ok.i c.args.op c.args.reply.now _ c.word-word.result c.nth.result.now _
    (record { opens = c.in-Ok.ensures; value = c.nth.ensures; is_word = c.word-word.ensures; test = c.is_word.ensures }) c.if-not-is_word.false
    (c.in_ok-put-in-Ok.ensures.put ∙ ap (put_bytes c.args.flat.now c.in-Ok.i (offset_of c.args.addr)) (c.to_le_bytes.ensures ∙ ap (to_le_bytes w64) c.next_word.ensures))

pub returns-in_err-put-in-Ok-clause-wanted : goal.returns-in_err-put-in-Ok-clause-wanted
returns-in_err-put-in-Ok-clause-wanted c =
    wants_atomic c.args.flat.now c.args.pid c.args.addr c.in-Ok.i c.args.op c.args.reply.now _ c.word-word.result c.nth.result.now _
    (record { opens = c.in-Ok.ensures; value = c.nth.ensures; is_word = c.word-word.ensures; test = c.is_word.ensures }) c.if-not-is_word.false
