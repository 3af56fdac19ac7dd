-- What is executed comes to the same of the flat state that contracts see.
use Rattle.std.proofs.Common.{sym, ap, ◌∙◌}
use Rattle.cl_types.specs.Requests.{request_of}
use Rattle.flat_model.specs.State.{FlatState}
use Rattle.flat_model.specs.Step.{Transition, outcome}
use Rattle.node_core.specs.Keeping.{KeptMemory}
use Rattle.node_core.proofs.Requests.{fields_stay, outcome_seen, state_seen}
use Rattle.node_core.proofs.memory.MemoryMachine.execute.Goals as goal

-- ---- a request of an object
pub returns-then-is_offload-clause-reply : goal.returns-then-is_offload-clause-reply
returns-then-is_offload-clause-reply g c =
    c.execute.ensures.reply c.args.pid ∙ ap (λ (s : FlatState). (outcome s c.args.pid (request_of c.args.request.now)).reply) (ap (λ (m : KeptMemory). m.flat) c.self.view_is)

pub returns-then-is_offload-clause-state : goal.returns-then-is_offload-clause-state
returns-then-is_offload-clause-state g c =
    c.execute.ensures.state c.args.pid ∙ ap (λ (s : FlatState). (outcome s c.args.pid (request_of c.args.request.now)).state) (ap (λ (m : KeptMemory). m.flat) c.self.view_is)

-- ---- a request of a process
pub invariant_of-self-2 : goal.invariant_of-self-2
invariant_of-self-2 g c =
    fields_stay c.self.inside.store c.self.inside.host c.args.pid (request_of c.args.request.now) c.execute-2.ensures.process
    (sym c.is_offload.ensures ∙ c.if-is_offload.false) c.execute-2.new.store c.execute-2.ensures.spaces c.execute-2.ensures.memory c.self.inside.pages
    c.self.invariant c.execute-2.ensures.whole c.execute-2.ensures.ready

pub returns-clause-reply : goal.returns-clause-reply
returns-clause-reply g c =
    let request = request_of c.args.request.now in
    let seen = outcome_seen c.self.inside.store c.self.inside.host c.args.pid request c.execute-2.ensures.process
    (sym c.is_offload.ensures ∙ c.if-is_offload.false) c.self.invariant.store.whole in
    c.execute-2.ensures.reply ∙ sym (ap (λ (o : Transition). o.reply) seen) ∙ ap (λ (s : FlatState). (outcome s c.args.pid request).reply) (ap (λ (m : KeptMemory). m.flat) c.self.view_is)

pub returns-clause-state : goal.returns-clause-state
returns-clause-state g c =
    let request = request_of c.args.request.now in
    let seen = state_seen c.self.inside.store c.self.inside.host c.args.pid request c.execute-2.ensures.process
    (sym c.is_offload.ensures ∙ c.if-is_offload.false) c.execute-2.new.store c.execute-2.ensures.spaces c.execute-2.ensures.memory c.self.invariant.store.whole in
    seen ∙ ap (λ (s : FlatState). (outcome s c.args.pid request).state) (ap (λ (m : KeptMemory). m.flat) c.self.view_is)
