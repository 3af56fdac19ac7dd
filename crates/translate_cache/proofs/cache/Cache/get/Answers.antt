use Rattle.std.proofs.Common.{◌≡◌, ap, ◌∙◌}
use Rattle.translate_cache.specs.Cached.{Cached, entry_of}
use Rattle.translate_cache.proofs.Calls.{used_left}
use Rattle.translate_cache.proofs.cache.Cache.get.Goals as goal

pub invariant_of-self : goal.invariant_of-self
invariant_of-self c = (used_left c.self.invariant c.self.view_is (c.args.space.0, c.args.vpn.0) c.get.follows.holds-at-none).valid

pub returns-clause-used : goal.returns-clause-used
returns-clause-used c = (used_left c.self.invariant c.self.view_is (c.args.space.0, c.args.vpn.0) c.get.follows.holds-at-none).used

pub returns-clause-looks : goal.returns-clause-looks
returns-clause-looks c = (used_left c.self.invariant c.self.view_is (c.args.space.0, c.args.vpn.0) c.get.follows.holds-at-none).looks

pub returns-clause-valid : goal.returns-clause-valid
returns-clause-valid c = (used_left c.self.invariant c.self.view_is (c.args.space.0, c.args.vpn.0) c.get.follows.holds-at-none).valid

pub returns-clause-first : goal.returns-clause-first
returns-clause-first c =
    let entry : c.copied.result ≡ entry_of c.args.self.now (c.args.space.0, c.args.vpn.0) = c.copied.ensures ∙ c.get.ensures.value ∙ ap (λ (v : Cached). entry_of v (c.args.space.0, c.args.vpn.0)) c.self.view_is in
    rw entry (used_left c.self.invariant c.self.view_is (c.args.space.0, c.args.vpn.0) c.get.follows.holds-at-none).first
