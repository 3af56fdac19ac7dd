-- A page with a frame has its bytes, and a fresh one has zeros.
use Rattle.std.proofs.Common.{◌≡◌, ◌+◌, ◌-◌, ◌<◌, ℕ, length, take, drop, Option, IfSome, sym, ap, ◌∙◌, subst, arith}
use Rattle.cl_types.specs.declared.numbers.PageNo.{PageNo}
use Rattle.cl_types.specs.Bytes.{bytes_at}
use Rattle.data_path.proofs.Accesses.{bytes_fresh, bytes_framed, fresh_piece}
use Rattle.data_path.proofs.store.PageStore.show.Goals as goal

pub page-page-requires : goal.page-page-requires
page-page-requires c = subst (λ (o : Option PageNo). IfSome o (λ frame. frame.0 < length c.args.self.now.arena)) c.in-Some.is c.requires.framed

pub returns-in-None : goal.returns-in-None
returns-in-None c =
    let n = length c.args.out.now in
    c.fill.ensures.after (λ y h. h) ∙ fresh_piece c.args.at n c.requires.within ∙ ap (bytes_at c.args.at n) (sym (bytes_fresh c.args.self.now.arena c.args.pte c.in-None.is))

pub returns-in-Some : goal.returns-in-Some
returns-in-Some c =
    let n = length c.args.out.now in
    let at = c.args.at in
    let many : at + n - at ≡ n = omega arith in
    c.copy_from_slice.ensures.after ∙ ap (λ (k : ℕ). take k (drop at c.page-page.result.now)) many
    ∙ ap (bytes_at at n) (c.page-page.ensures.value ∙ sym (bytes_framed c.args.self.now.arena c.args.pte c.in-Some.frame c.in-Some.is))
