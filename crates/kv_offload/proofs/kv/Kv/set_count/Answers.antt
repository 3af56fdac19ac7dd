use Rattle.std.proofs.Common.{arith, refl, ap, length}
use Rattle.kv_offload.proofs.PlaceLemmas.{put_same, front_pages}
use Rattle.kv_offload.proofs.SaysLemmas.{says_counted}
use Rattle.kv_offload.proofs.kv.Kv.set_count.Goals as goal

pub returns-clause-says : goal.returns-clause-says
returns-clause-says g c view =
    says_counted c.args.self.now.records c.args.count (g.P.Space.contents c.args.space.now) (g.P.Space.contents c.write_at.new.self) view c.requires.count
    (omega (arith, c.requires.pages.pages)) (put_same 2050 2050 _ _ _ _ refl c.to_be_bytes.ensures c.write_at.ensures.contents)

pub returns-clause-pages : goal.returns-clause-pages
returns-clause-pages g c =
    front_pages c.args.self.now.records 2050 c.to_be_bytes.result (g.P.Space.contents c.args.space.now) (g.P.Space.contents c.write_at.new.self) c.requires.pages
    (let e = ap length c.to_be_bytes.ensures in omega (arith, e)) c.write_at.ensures.contents
