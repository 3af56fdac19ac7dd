use Rattle.std.proofs.Common.{rules, ◌<◌, ◌+◌, ◌/◌, ℕ, is_some, sym, ap, ◌∙◌, arith}
use Rattle.hash_buckets.specs.PageMap.{entry_of}
use Rattle.data_path.proofs.Offloads.{held_page}
use Rattle.data_path.proofs.store.PageStore.offload_entry.Goals as goal

pub overflow_cast-vpn : goal.overflow_cast-vpn
overflow_cast-vpn c =
    let h = held_page c.args.self.now c.args.offload (c.args.at / 4096 + 1) c.requires.honest.whole c.requires.honest.exists (omega arith) (omega (arith, c.requires.within)) in
    let below : c.args.at / 4096 + 1 < 65536 = c.requires.honest.whole.fit.ranges.within (65280 + c.args.offload) (c.args.at / 4096 + 1) (ap is_some h.there) in
    search rules

pub unreachable-requires : goal.unreachable-requires
unreachable-requires c =
    let h = held_page c.args.self.now c.args.offload (c.args.at / 4096 + 1) c.requires.honest.whole c.requires.honest.exists (omega arith) (omega (arith, c.requires.within)) in
    let both = sym c.in_default.is ∙ c.peek.ensures ∙ ap (λ (k : ℕ). entry_of c.args.self.now.table (k, c.args.at / 4096 + 1)) c.space_no.ensures ∙ h.there in
    cc
