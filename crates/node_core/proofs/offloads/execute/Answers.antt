-- A call of the host is the Offload of the flat state, and there is no object where there is no offload.
use Rattle.std.proofs.Common.{◌≡◌, ◌<◌, ◌≤◌, ℕ, List, length, sym, ap, ◌∙◌, subst, arith}
use Rattle.cl_types.specs.declared.config.OffloadConfig.{OffloadConfig}
use Rattle.cl_types.specs.declared.request.RequestRef.{RequestRef}
use Rattle.cl_types.specs.Requests.{request_of}
use Rattle.flat_model.specs.Step.{Transition, outcome}
use Rattle.node_core.specs.Stores.{IsStore, state_in}
use Rattle.offload_host.specs.Laws.{replied}
use Rattle.node_core.proofs.Beside.{call_is_outcome, objects_elsewhere, past_is_refused}
use Rattle.node_core.proofs.Pieces.{middle}
use Rattle.node_core.proofs.offloads.execute.Goals as goal

pub returns-then-no-count-clause-reply : goal.returns-then-no-count-clause-reply
returns-then-no-count-clause-reply c pid =
    let state = state_in c.args.host.now c.args.store.now in
    let past : length c.args.host.now ≤ c.in-Offload.no = omega (arith, c.if-no-count.true, c.count.ensures) in
    sym (ap (λ (r : RequestRef). (outcome state pid (request_of r)).reply) c.in-Offload.is
    ∙ ap (λ (o : Transition). o.reply) (past_is_refused c.args.host.now c.args.store.now c.in-Offload.no pid c.in-Offload.op c.in-Offload.most c.in-Offload.bytes.now past))

pub returns-then-no-count-clause-state : goal.returns-then-no-count-clause-state
returns-then-no-count-clause-state c pid =
    let state = state_in c.args.host.now c.args.store.now in
    let past : length c.args.host.now ≤ c.in-Offload.no = omega (arith, c.if-no-count.true, c.count.ensures) in
    sym (ap (λ (r : RequestRef). (outcome state pid (request_of r)).state) c.in-Offload.is
    ∙ ap (λ (o : Transition). o.state) (past_is_refused c.args.host.now c.args.store.now c.in-Offload.no pid c.in-Offload.op c.in-Offload.most c.in-Offload.bytes.now past))

-- the call
called : (c : goal.After-answer_placed) → c.in-Offload.no < length c.args.host.now → (pid : ℕ)
    → outcome (state_in c.args.host.now c.args.store.now) pid (request_of c.args.request.now)
    ≡ (let o : Transition = record { reply = replied c.in-Offload.most c.call-came.result c.call-came.new.answer; state = state_in c.args.host.now c.call-came.new.store } in o)
called c within pid =
    ap (λ (r : RequestRef). outcome (state_in c.args.host.now c.args.store.now) pid (request_of r)) c.in-Offload.is
    ∙ call_is_outcome c.in-Offload.no c.args.store.now c.call-came.new.store c.call-came.ensures.others c.args.host.now c.in-Offload.op c.in-Offload.most
    c.in-Offload.bytes.now c.call-came.result c.call-came.new.answer within c.call-came.ensures.step c.call-came.ensures.refused

pub returns-clause-reply : goal.returns-clause-reply
returns-clause-reply c pid =
    let within : c.in-Offload.no < length c.args.host.now = omega (arith, c.if-no-count.false, c.count.ensures) in
    c.answer_placed.ensures.reply _
    ∙ ap (replied c.in-Offload.most c.call-came.result) (middle c.split_at_mut-tail.result.0.now c.call-came.new.answer _ 27 1024 c.split_at_mut-tail.ensures.front_len c.call-came.ensures.long)
    ∙ sym (ap (λ (o : Transition). o.reply) (called c within pid))

pub returns-clause-state : goal.returns-clause-state
returns-clause-state c pid =
    let within : c.in-Offload.no < length c.args.host.now = omega (arith, c.if-no-count.false, c.count.ensures) in
    ap (λ (offloads : List OffloadConfig). state_in offloads c.call-came.new.store) c.call-came.ensures.host
    ∙ sym (ap (λ (o : Transition). o.state) (called c within pid))

pub returns-clause-sound : goal.returns-clause-sound
returns-clause-sound c =
    subst (IsStore c.call-came.new.store) (sym c.call-came.ensures.host)
    (objects_elsewhere c.in-Offload.no c.args.store.now c.call-came.new.store c.call-came.ensures.others c.args.host.now c.requires.sound
    c.call-came.ensures.whole c.call-came.ensures.ready c.call-came.ensures.object)
