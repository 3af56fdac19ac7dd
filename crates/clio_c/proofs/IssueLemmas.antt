-- A call that the client does not take.
use Rattle.std.proofs.Common.{◌≡◌, Option, Some, None, Err, sym}
use Rattle.cl_types.specs.declared.call.Call.{Call}
use Rattle.cl_types.specs.declared.frame.IssueFault.{IssueFault}
use Rattle.call_text.proofs.IssueLemmas.{told_fault}
use Rattle.client_core.specs.Answers.{issue_answer, issue_state}
use Rattle.client_model.specs.Client.{ClientState}

-- there is a fault, and the client is as it was
pub not_taken : (s new : ClientState) (k back : Call) (o : Option IssueFault) (f : IssueFault)
    → Err (f, back) ≡ issue_answer s k o → new ≡ issue_state s k o → (o ≡ Some f) × (new ≡ s)
not_taken s new k back None f answer state = absurd cc
not_taken s new k back (Some g) f answer state = (sym (told_fault s k back (Some g) f answer), state)
