use Rattle.client_model.specs.Issue.{issue_fault}
use Rattle.clio_c.proofs.IssueLemmas.{not_taken}
use Rattle.clio_c.proofs.issuing.issue_call.Goals as goal

pub returns-in-Err : goal.returns-in-Err
returns-in-Err c =
    not_taken c.args.client.now c.issue.new.self c.args.call c.in-Err._call (issue_fault c.args.client.now c.args.call)
    c.in-Err.fault c.in-Err.ensures.answer c.in-Err.ensures.state
