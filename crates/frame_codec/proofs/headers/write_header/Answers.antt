-- Each field is written right behind those before it.
use Rattle.std.proofs.Common.{List, ℕ, [], ◌∷◌, ◌++◌, drop, refl, ap}
use Rattle.std.specs.Int.{to_be_bytes, w16, w64}
use Rattle.frame_codec.proofs.PlaceLemmas.{BeginsWith, written_behind}
use Rattle.frame_codec.proofs.headers.write_header.Goals as goal

pub returns : goal.returns
returns c =
    let out : List ℕ = c.args.out.now in
    let first : List ℕ = 67 ∷ 76 ∷ 1 ∷ c.args.number ∷ [] in
    let start : BeginsWith first out (c.copy_from_slice.new.self ++ drop 4 out) =
    record { is = ap (λ bytes. bytes ++ drop 4 out) c.copy_from_slice.ensures.after } in
    let client = written_behind 4 (to_be_bytes w16 c.args.head.now.client.0) start refl c.put_u16.ensures in
    let pid = written_behind 6 (to_be_bytes w16 c.number.result) client refl c.put_u16-2.ensures in
    let id = written_behind 8 (to_be_bytes w64 c.args.head.now.id) pid refl c.put_u64.ensures in
    let orig = written_behind 16 (to_be_bytes w64 c.args.head.now.orig) id refl c.put_u64-2.ensures in
    let len = written_behind 24 (to_be_bytes w16 c.args.len) orig refl c.put_u16-3.ensures in
    rw (← c.number.ensures.value) len.is
