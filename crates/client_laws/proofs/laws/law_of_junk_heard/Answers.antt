use Rattle.client_laws.proofs.JunkHeard.{law_of_junk_heard}
use Rattle.client_laws.proofs.laws.law_of_junk_heard.Goals as goal

pub returns : goal.returns
returns c = law_of_junk_heard
