use Rattle.std.proofs.Common.{◌≡◌, subst, Some}
use Rattle.cl_types.specs.declared.call.Call.{Call}
use Rattle.client_model.specs.Issue.{issue_fault}
use Rattle.call_text.proofs.IssueLemmas.{told_fault}
use Rattle.call_text.proofs.issuing.issue.Goals as goal

pub returns-in-Err-clause-fault : goal.returns-in-Err-clause-fault
returns-in-Err-clause-fault c =
    subst (λ (k : Call). Some c.in-Err.fault ≡ issue_fault c.args.client.now k) c.in_ok-call.ensures
    (told_fault c.args.client.now c.in_ok-call.call c.in-Err._call (issue_fault c.args.client.now c.in_ok-call.call) c.in-Err.fault c.in-Err.ensures.answer)
