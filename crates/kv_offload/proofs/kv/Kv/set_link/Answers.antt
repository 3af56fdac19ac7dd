use Rattle.std.proofs.Common.{length, ap}
use Rattle.kv_offload.specs.Layout.{link_place}
use Rattle.kv_offload.proofs.PlaceLemmas.{link_in, link_whole, put_same, page_same}
use Rattle.kv_offload.proofs.SaysLemmas.{says_linked}
use Rattle.kv_offload.proofs.kv.Kv.set_link.Goals as goal

pub write_at-requires-clause-within : goal.write_at-requires-clause-within
write_at-requires-clause-within g c =
    page_same c.link_place.result (link_place c.args.node) (length c.to_be_bytes.result) 2 _ c.link_place.ensures (ap length c.to_be_bytes.ensures)
    (link_in c.args.self.now.records c.args.node (g.P.Space.contents c.args.space.now) c.requires.pages c.requires.node)

pub returns-clause-says : goal.returns-clause-says
returns-clause-says g c view =
    says_linked c.args.self.now.records c.args.node c.args.to (g.P.Space.contents c.args.space.now) (g.P.Space.contents c.write_at.new.self) view c.requires.to
    (link_whole c.args.self.now.records c.args.node (g.P.Space.contents c.args.space.now) c.requires.pages c.requires.node)
    (put_same _ _ _ _ _ _ c.link_place.ensures c.to_be_bytes.ensures c.write_at.ensures.contents)
