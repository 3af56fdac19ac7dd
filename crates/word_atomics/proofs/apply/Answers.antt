use Rattle.std.proofs.Common.{◌≡◌, ◌∙◌, ℕ, List, length, sym, ap, arith}
use Rattle.std.proofs.lemmas.Result.{err_from_is_err_and}
use Rattle.std.specs.Int.{to_le_bytes, w64}
use Rattle.cl_types.specs.Bytes.{with_bytes}
use Rattle.cl_types.specs.declared.reply.Reply.TheVariants.{Word}
use Rattle.cl_types.specs.Pages.{page_of, offset_of, word_after, word_at}
use Rattle.flat_model.specs.State.{FlatState, Page, bytes_of}
use Rattle.flat_model.specs.Step.{Transition, puts, written}
use Rattle.data_path.specs.Store.{memory_of}
use Rattle.data_path.proofs.Framing.{frame_open, changed_open_at}
use Rattle.word_atomics.proofs.Atomics.{changes}
use Rattle.word_atomics.proofs.apply.Goals as goal

pub returns-in_err-frame-clause-reply : goal.returns-in_err-frame-clause-reply
returns-in_err-frame-clause-reply g c =
    let exit = err_from_is_err_and c.from_residual.result c.from_residual.ensures.1 in
    rw (exit.1, exit.2) (sym (ap (λ (o : Transition). o.reply) (c.in_err-frame.ensures.refused (changes (memory_of c.args.store.now) c.args.space.0 c.args.addr c.args.op))))

pub returns-in_err-frame-clause-memory : goal.returns-in_err-frame-clause-memory
returns-in_err-frame-clause-memory g c =
    c.in_err-frame.ensures.unchanged ∙ sym (ap (λ (o : Transition). o.state) (c.in_err-frame.ensures.refused (changes (memory_of c.args.store.now) c.args.space.0 c.args.addr c.args.op)))

pub page-requires : goal.page-requires
page-requires g c =
    let named = frame_open c.args.store.now c.open.new.self c.args.space.0 c.args.addr _ c.in_ok-frame.frame c.in_ok-frame.ensures.opened in
    omega (arith, (c.open.ensures.whole.fit.taken.taken _ _ named).in_range, c.open.ensures.whole.fit.arena)

pub put-requires-clause-taken : goal.put-requires-clause-taken
put-requires-clause-taken g c = c.open.ensures.whole.fit.taken.taken _ _ (frame_open c.args.store.now c.open.new.self c.args.space.0 c.args.addr _ c.in_ok-frame.frame c.in_ok-frame.ensures.opened)

pub returns-clause-reply : goal.returns-clause-reply
returns-clause-reply g c =
    let opened = c.in_ok-frame.ensures.opened in
    let read : c.page.result.now ≡ bytes_of opened.page = c.page.ensures.value ∙ opened.bytes in
    let word : c.word_in-word.result ≡ word_at (offset_of c.args.addr) (bytes_of opened.page) =
    c.word_in-word.ensures ∙ ap (λ (at : ℕ). word_at at c.page.result.now) c.offset_of-at.ensures ∙ ap (word_at (offset_of c.args.addr)) read in
    ap Word word ∙ sym (ap (λ (o : Transition). o.reply) (opened.passes (changes (memory_of c.args.store.now) c.args.space.0 c.args.addr c.args.op)))

pub returns-clause-memory : goal.returns-clause-memory
returns-clause-memory g c =
    let s = memory_of c.args.store.now in
    let opened = c.in_ok-frame.ensures.opened in
    let read : c.page.result.now ≡ bytes_of opened.page = c.page.ensures.value ∙ opened.bytes in
    let word : c.word_in-word.result ≡ word_at (offset_of c.args.addr) (bytes_of opened.page) =
    c.word_in-word.ensures ∙ ap (λ (at : ℕ). word_at at c.page.result.now) c.offset_of-at.ensures ∙ ap (word_at (offset_of c.args.addr)) read in
    let bytes : c.to_le_bytes.result ≡ to_le_bytes w64 (word_after c.args.op (word_at (offset_of c.args.addr) (bytes_of opened.page))) =
    c.to_le_bytes.ensures ∙ ap (to_le_bytes w64) (c.word_after.ensures ∙ ap (word_after c.args.op) word) in
    let change = c.put.ensures.memory (c.args.space.0, page_of c.args.addr) (frame_open c.args.store.now c.open.new.self c.args.space.0 c.args.addr _ c.in_ok-frame.frame opened) in
    changed_open_at c.args.store.now c.open.new.self c.put.new.self c.args.space.0 c.args.addr _ c.in_ok-frame.frame c.offset_of-at.result c.to_le_bytes.result c.requires.whole opened c.offset_of-at.ensures change
    ∙ ap (λ (new : List ℕ). written s c.args.space.0 (page_of c.args.addr) opened.page (with_bytes (offset_of c.args.addr) new (bytes_of opened.page))) bytes
    ∙ sym (ap (λ (o : Transition). o.state) (opened.passes (changes s c.args.space.0 c.args.addr c.args.op)))
