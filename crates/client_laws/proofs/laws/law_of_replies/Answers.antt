use Rattle.client_laws.proofs.ClientLines.{after_taking}
use Rattle.client_laws.proofs.laws.law_of_replies.Goals as goal

pub returns : goal.returns
returns c = after_taking
