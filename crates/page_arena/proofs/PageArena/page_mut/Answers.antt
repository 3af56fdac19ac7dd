use Rattle.std.proofs.Common.{◌≡◌, ◌<◌, refl, ap, sym, ◌∙◌, set, length, arith, []}
use Rattle.std.proofs.lemmas.List.{get_or_read}
use Rattle.page_arena.specs.Arena.{page_at}
use Rattle.page_arena.proofs.PageArena.page_mut.Goals as goal

pub returns : goal.returns
returns c =
    let pages = c.self.inside.pages.items in
    let inside : c.args.i < length pages = omega (arith, ap length c.self.view_is) in
    let bytes : c.as_mut_slice.result.now ≡ page_at pages c.args.i = c.as_mut_slice.ensures.value ∙ get_or_read pages c.args.i _ inside c.index_mut.ensures.value [] in (
      (refl, λ w. ap (λ ps. set ps c.args.i w) c.self.view_is),
      record {
        writes_back = tt;
        value = bytes ∙ ap (λ ps. page_at ps c.args.i) c.self.view_is;
        size = ap length (bytes ∙ sym c.page-page.ensures.value) ∙ c.page-page.ensures.size;
      },
    )
