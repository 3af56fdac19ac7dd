-- A request is judged by its header and then by its body.
use Rattle.std.proofs.Common.{◌∙◌, Ok, arith}
use Rattle.std.proofs.lemmas.Result.{err_from_is_err_and, IfOk-from_err}
use Rattle.cl_types.specs.Requests.{request_of}
use Rattle.frame_codec.specs.declared.views.RequestView.{RequestView}
use Rattle.frame_codec.proofs.ReaderLemmas.{request_fault-header, request_fault-body, request_read, request_spelled, request_exactly}
use Rattle.frame_codec.proofs.request_reader.read_request.Goals as goal

-- ---- the header is bad
pub returns-in_err-header-clause-fault : goal.returns-in_err-header-clause-fault
returns-in_err-header-clause-fault c =
    let exit = err_from_is_err_and c.from_residual.result c.from_residual.ensures.1 in
    rw (exit.1, exit.2) (request_fault-header c.args.bytes.now c.in_err-header.field-0.0 c.in_err-header.ensures.fault)

pub returns-in_err-header-clause-exactly : goal.returns-in_err-header-clause-exactly
returns-in_err-header-clause-exactly c =
    let none = IfOk-from_err _ _ c.from_residual.ensures.0 in
    request_exactly c.args.bytes.now c.from_residual.result (returns-in_err-header-clause-fault c) none

-- ---- the body is bad
pub returns-in_err-body-clause-fault : goal.returns-in_err-body-clause-fault
returns-in_err-body-clause-fault c =
    let exit = err_from_is_err_and c.from_residual-in_err-body.result c.from_residual-in_err-body.ensures.1 in
    rw (exit.1, exit.2) (c.in_err-body.ensures.fault ∙ request_fault-body c.in_ok-header.ensures.read)

pub returns-in_err-body-clause-exactly : goal.returns-in_err-body-clause-exactly
returns-in_err-body-clause-exactly c =
    let none = IfOk-from_err _ _ c.from_residual-in_err-body.ensures.0 in
    request_exactly c.args.bytes.now c.from_residual-in_err-body.result (returns-in_err-body-clause-fault c) none

-- ---- both are good
pub returns-clause-fault : goal.returns-clause-fault
returns-clause-fault c = c.in_ok-body.ensures.fault ∙ request_fault-body c.in_ok-header.ensures.read

pub returns-clause-read : goal.returns-clause-read
returns-clause-read c =
    request_read (request_of c.in_ok-body.body) c.in_ok-header.ensures.read (returns-clause-fault c) c.in_ok-body.ensures.value

pub returns-clause-spelled : goal.returns-clause-spelled
returns-clause-spelled c = request_spelled (λ i. omega (arith, c.type_inv.bytes i)) (returns-clause-read c)

pub returns-clause-exactly : goal.returns-clause-exactly
returns-clause-exactly c =
    let view : RequestView = record { head = c.in_ok-header.header.head; body = c.in_ok-body.body } in
    request_exactly c.args.bytes.now (Ok view) (returns-clause-fault c) (returns-clause-spelled c)
