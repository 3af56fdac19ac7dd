use Rattle.std.proofs.Common.{◌≡◌, ◌+◌, ◌/◌, Some, sym, ap, ◌∙◌, arith}
use Rattle.cl_types.specs.declared.page.Pte.{Pte}
use Rattle.data_path.proofs.Framing.{frame_named}
use Rattle.data_path.proofs.Offloads.{held_page}
use Rattle.data_path.proofs.store.PageStore.offload_frame.Goals as goal

pub unreachable-requires : goal.unreachable-requires
unreachable-requires c =
    let h = held_page c.args.self.now c.args.offload (c.args.at / 4096 + 1) c.requires.honest.whole c.requires.honest.exists (omega arith) (omega (arith, c.requires.within)) in
    let same : Some c.offload_entry.result ≡ Some h.pte = sym c.offload_entry.ensures ∙ h.there in
    let entry : c.offload_entry.result ≡ h.pte = cc in
    let both = sym c.in_default.is ∙ ap (λ (pte : Pte). pte.frame) entry ∙ h.framed in
    cc

pub returns : goal.returns
returns c = frame_named c.args.self.now _ c.offload_entry.result c.in-Some.frame c.offload_entry.ensures c.in-Some.is
