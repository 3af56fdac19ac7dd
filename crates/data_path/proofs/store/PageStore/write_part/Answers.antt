use Rattle.std.proofs.Common.{◌∙◌, sym, ap}
use Rattle.std.proofs.lemmas.Result.{err_from_is_err_and}
use Rattle.cl_types.specs.declared.reply.Reply.TheVariants.{Nothing}
use Rattle.cl_types.specs.Pages.{page_of}
use Rattle.flat_model.specs.State.{Page}
use Rattle.flat_model.specs.Step.{Transition, puts}
use Rattle.data_path.specs.Store.{memory_of}
use Rattle.data_path.proofs.Framing.{frame_open, changed_open_at}
use Rattle.data_path.proofs.store.PageStore.write_part.Goals as goal

pub returns-in_err-frame-clause-reply : goal.returns-in_err-frame-clause-reply
returns-in_err-frame-clause-reply g c =
    let exit = err_from_is_err_and c.from_residual.result c.from_residual.ensures.1 in
    rw (exit.1, exit.2) (sym (ap (λ (o : Transition). o.reply) (c.in_err-frame.ensures.refused (λ (page : Page). puts (memory_of c.args.self.now) c.args.space.0 c.args.addr page c.args.bytes.now Nothing))))

pub returns-in_err-frame-clause-memory : goal.returns-in_err-frame-clause-memory
returns-in_err-frame-clause-memory g c =
    c.in_err-frame.ensures.unchanged ∙ sym (ap (λ (o : Transition). o.state) (c.in_err-frame.ensures.refused (λ (page : Page). puts (memory_of c.args.self.now) c.args.space.0 c.args.addr page c.args.bytes.now Nothing)))

pub put-requires-clause-taken : goal.put-requires-clause-taken
put-requires-clause-taken g c = c.open.ensures.whole.fit.taken.taken _ _ (frame_open c.args.self.now c.open.new.self c.args.space.0 c.args.addr _ c.in_ok-frame.frame c.in_ok-frame.ensures.opened)

pub returns-clause-reply : goal.returns-clause-reply
returns-clause-reply g c =
    sym (ap (λ (o : Transition). o.reply) (c.in_ok-frame.ensures.opened.passes (λ (page : Page). puts (memory_of c.args.self.now) c.args.space.0 c.args.addr page c.args.bytes.now Nothing)))

pub returns-clause-memory : goal.returns-clause-memory
returns-clause-memory g c =
    let opened = c.in_ok-frame.ensures.opened in
    let change = c.put.ensures.memory (c.args.space.0, page_of c.args.addr) (frame_open c.args.self.now c.open.new.self c.args.space.0 c.args.addr _ c.in_ok-frame.frame opened) in
    changed_open_at c.args.self.now c.open.new.self c.put.new.self c.args.space.0 c.args.addr _ c.in_ok-frame.frame c.offset_of.result c.args.bytes.now c.requires.whole opened c.offset_of.ensures change
    ∙ sym (ap (λ (o : Transition). o.state) (opened.passes (λ (page : Page). puts (memory_of c.args.self.now) c.args.space.0 c.args.addr page c.args.bytes.now Nothing)))
