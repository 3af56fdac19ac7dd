use Rattle.std.proofs.Common.{ℕ, List, arith, ◌∙◌, sym, ap, ◌+◌, ◌≡◌, ◌≤◌, length}
use Rattle.cl_types.specs.Bytes.{bytes_at}
use Rattle.mv_offload.specs.Layout.{size_of, number_at}
use Rattle.mv_offload.proofs.PlaceLemmas.{part_in, record_below, bytes_copied}
use Rattle.mv_offload.proofs.mv.Mv.copy.Goals as goal

pub overflow_add-place : goal.overflow_add-place
overflow_add-place g c = let h = record_below c.args.slot (omega (arith, c.requires.pages.few_versions)) in omega (arith, h)

pub read_number-size-requires-clause-within : goal.read_number-size-requires-clause-within
read_number-size-requires-clause-within g c = part_in c.requires.pages c.args.slot 2 2 _ c.record_place-place.ensures c.requires.slot (omega arith) (omega arith)

pub overflow_add-place-2 : goal.overflow_add-place-2
overflow_add-place-2 g c = let h = record_below c.args.slot (omega (arith, c.requires.pages.few_versions)) in omega (arith, h)

pub read_at-requires-clause-within : goal.read_at-requires-clause-within
read_at-requires-clause-within g c =
    let same : length (g.P.Space.contents c.read_number-size.new.space) ≡ length (g.P.Space.contents c.args.space.now) = ap length c.read_number-size.ensures.contents in
    let size : c.read_number-size.result ≡ size_of (g.P.Space.contents c.args.space.now) c.args.slot =
    c.read_number-size.ensures.number ∙ ap (λ (place : ℕ). number_at (place + 2) (g.P.Space.contents c.args.space.now)) c.record_place-place.ensures in
    let front : length c.split_at_mut-front.result.0.now ≤ 256 = omega (arith, size, c.requires.short, c.split_at_mut-front.ensures.front_len) in
    rw same (part_in c.requires.pages c.args.slot 4 (length c.split_at_mut-front.result.0.now) _ c.record_place-place.ensures c.requires.slot (omega arith) (omega arith))

pub returns-clause-bytes : goal.returns-clause-bytes
returns-clause-bytes g c =
    let size : c.read_number-size.result ≡ size_of (g.P.Space.contents c.args.space.now) c.args.slot =
    c.read_number-size.ensures.number ∙ ap (λ (place : ℕ). number_at (place + 2) (g.P.Space.contents c.args.space.now)) c.record_place-place.ensures in
    let long : length c.read_at.new.out ≡ length c.split_at_mut-front.result.0.now = omega arith in
    bytes_copied (g.P.Space.contents c.args.space.now) c.read_at.new.out c.split_at_mut-front.result.1.now c.args.slot _ c.read_number-size.result c.record_place-place.ensures size
    (omega arith)
    (c.read_at.ensures.read ∙ ap (λ (m : List ℕ). bytes_at (c.record_place-place.result + 4) (length c.split_at_mut-front.result.0.now) m) c.read_number-size.ensures.contents
    ∙ ap (λ (n : ℕ). bytes_at (c.record_place-place.result + 4) n (g.P.Space.contents c.args.space.now)) (sym long))
