-- What an issue leaves of a client.
use Rattle.std.proofs.Common.{◌≡◌, ◌+◌, Option, Some, None, refl}
use Rattle.cl_types.specs.declared.call.Call.{Call}
use Rattle.cl_types.specs.declared.frame.IssueFault.{IssueFault}
use Rattle.client_core.specs.Answers.{issue_state}
use Rattle.client_model.specs.Client.{ClientState}

-- a call leaves a client its number
pub issued_client : (s : ClientState) (k : Call) (o : Option IssueFault) → (issue_state s k o).client ≡ s.client
issued_client s k None = refl
issued_client s k (Some fault) = refl

-- a call that is issued counts
pub issued_number : (s : ClientState) (k : Call) (o : Option IssueFault) → None ≡ o → (issue_state s k o).issued ≡ s.issued + 1
issued_number s k None is = refl
issued_number s k (Some fault) is = absurd cc
