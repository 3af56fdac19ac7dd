use Rattle.std.proofs.Common.{◌<◌, List, length, refl, sym, subst}
use Rattle.std.proofs.lemmas.Option.{slice_get_read}
use Rattle.cl_types.specs.declared.config.OffloadConfig.{OffloadConfig}
use Rattle.offload_host.proofs.HostLemmas.{in_range_at}
use Rattle.offload_host.proofs.host.Host.offload.Goals as goal

pub returns-clause-in_range : goal.returns-clause-in_range
returns-clause-in_range c =
    let within : c.args.no < length c.self.inside.offloads.items =
    subst (λ (offloads : List OffloadConfig). c.args.no < length offloads) (sym c.self.view_is) c.requires in
    in_range_at c.self.inside.offloads.items c.args.no c.index.result.now
    (slice_get_read c.self.inside.offloads.items (length c.self.inside.offloads.items) c.args.no c.index.result.now refl within c.index.ensures)
    c.self.invariant.in_range
