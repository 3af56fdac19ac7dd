-- The store of an opening, with the objects in its spaces.
use Rattle.std.proofs.Common.{◌≡◌, IfErr, map, ap, ◌∙◌}
use Rattle.std.proofs.lemmas.Result.{err_from_is_err_and}
use Rattle.data_path.specs.Store.{flat_of, memory_of}
use Rattle.flat_model.specs.Objects.{empty_object}
use Rattle.cl_types.specs.declared.open_fault.OpenFault.TheVariants.{NoMemory}
use Rattle.flat_model.specs.Opening.{open_fault}
use Rattle.flat_model.specs.State.{FlatState, opening}
use Rattle.node_core.proofs.Begun.{opening_begun}
use Rattle.node_core.proofs.Opened.{are_offloads, none_told, opens}
use Rattle.node_core.proofs.memory.Memory.create.Goals as goal

pub create-requires-2 : goal.create-requires-2
create-requires-2 c = are_offloads c.args.config.now (opens _ c.in_ok-store.store (open_fault c.args.config.now) c.in_ok-store.ensures.fault)

pub returns-in_err-host-clause-fault : goal.returns-in_err-host-clause-fault
returns-in_err-host-clause-fault c =
    let none = opens _ c.in_ok-store.store (open_fault c.args.config.now) c.in_ok-store.ensures.fault in
    let exit = err_from_is_err_and c.from_residual-in_err-host.result c.from_residual-in_err-host.ensures.1 in
    let lacking : IfErr c.from_residual-in_err-host.result (λ fault. fault ≡ NoMemory) = rw exit.1 exit.2 in
    none_told _ (open_fault c.args.config.now) none lacking

pub invariant_of-result : goal.invariant_of-result
invariant_of-result c = record {
  store = c.init_spaces.ensures.sound;
  count = c.init_spaces.ensures.pages ∙ ap (λ (s : FlatState). s.pages) c.in_ok-store.ensures.opened;
}

pub returns-clause-opened : goal.returns-clause-opened
returns-clause-opened c =
    let here : c.in_ok-host.host ≡ c.args.config.now.offloads = c.in_ok-host.ensures in
    opening_begun c.in_ok-store.store c.init_spaces.new.store c.in_ok-host.host (opening c.args.config.now)
    (ap (λ offloads. flat_of (map empty_object offloads) (memory_of c.in_ok-store.store)) here ∙ c.in_ok-store.ensures.opened) c.init_spaces.ensures.rest c.init_spaces.ensures.empty

pub returns-clause-cache : goal.returns-clause-cache
returns-clause-cache c = c.init_spaces.ensures.cache ∙ c.in_ok-store.ensures.cache
