use Rattle.std.proofs.Common.{◌≡◌, ◌+◌, ◌-◌, ◌%◌, ℕ, length, take, drop, ap, ◌∙◌, arith}
use Rattle.cl_types.specs.Bytes.{bytes_at}
use Rattle.data_path.proofs.Offloads.{read_contents}
use Rattle.data_path.proofs.space.SpaceOfSpace.read_at.Goals as goal

pub page-page-requires : goal.page-page-requires
page-page-requires c =
    let whole = c.requires.honest.whole in
    let taken = whole.fit.taken.taken _ _ c.offload_frame-frame.ensures in
    omega (arith, taken.in_range, whole.fit.arena)

pub returns-clause-read : goal.returns-clause-read
returns-clause-read c =
    let s = c.args.self.now.store.now in
    let at = c.args.at % 4096 in
    let n = length c.args.out.now in
    let many : at + n - at ≡ n = omega arith in
    c.copy_from_slice.ensures.after ∙ ap (λ (m : ℕ). take m (drop at c.page-page.result.now)) many ∙ ap (bytes_at at n) c.page-page.ensures.value
    ∙ read_contents s c.args.self.now.offload c.args.at n c.offload_frame-frame.result.0 c.requires.honest c.requires.within c.offload_frame-frame.ensures
