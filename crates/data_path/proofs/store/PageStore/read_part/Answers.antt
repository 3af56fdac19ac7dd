use Rattle.std.proofs.Common.{◌≡◌, ◌<◌, ◌≤◌, ◌+◌, ℕ, length, IfSome, sym, ap, ◌∙◌, subst, arith}
use Rattle.std.proofs.lemmas.Result.{err_from_is_err_and}
use Rattle.cl_types.specs.Bytes.{bytes_at}
use Rattle.cl_types.specs.declared.reply.Reply.TheVariants.{Got}
use Rattle.cl_types.specs.Pages.{offset_of}
use Rattle.flat_model.specs.State.{Page, bytes_of}
use Rattle.flat_model.specs.Step.{Transition}
use Rattle.data_path.specs.declared.store.PageStore.{PageStore}
use Rattle.data_path.specs.Store.{memory_of, page_in}
use Rattle.data_path.proofs.Framing.{frame_within}
use Rattle.data_path.proofs.store.PageStore.read_part.Goals as goal

pub returns-in_err-pte-clause-reply : goal.returns-in_err-pte-clause-reply
returns-in_err-pte-clause-reply g c =
    let exit = err_from_is_err_and c.from_residual.result c.from_residual.ensures.1 in
    rw (exit.1, exit.2) (sym (ap (λ (o : Transition). o.reply) (c.in_err-pte.ensures.denied (λ (page : Page). record { reply = Got (bytes_at (offset_of c.args.addr) (length c.args.out.now) (bytes_of page)); state = memory_of c.args.self.now }))))

pub show-requires-clause-within : goal.show-requires-clause-within
show-requires-clause-within g c = omega (arith, c.requires.piece.within, c.offset_of.ensures)

pub show-requires-clause-framed : goal.show-requires-clause-framed
show-requires-clause-framed g c =
    subst (λ (s : PageStore). IfSome c.in_ok-pte.pte.frame (λ frame. frame.0 < length s.arena)) (sym c.find.ensures.rest)
    (frame_within c.args.self.now c.requires.whole.fit _ c.in_ok-pte.pte c.in_ok-pte.ensures.found.entry)

pub returns-clause-reply : goal.returns-clause-reply
returns-clause-reply g c =
    let s = c.args.self.now in
    let n = length c.args.out.now in
    let at = offset_of c.args.addr in
    let bytes = c.show.ensures ∙ ap (λ (k : ℕ). bytes_at k n (bytes_of (page_in c.find.new.self.arena c.in_ok-pte.pte))) c.offset_of.ensures
    ∙ ap (λ (s : PageStore). bytes_at at n (bytes_of (page_in s.arena c.in_ok-pte.pte))) c.find.ensures.rest in
    ap Got bytes ∙ sym (ap (λ (o : Transition). o.reply) (c.in_ok-pte.ensures.found.passes (λ (page : Page). record { reply = Got (bytes_at at n (bytes_of page)); state = memory_of s })))
