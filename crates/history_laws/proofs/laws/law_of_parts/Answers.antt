use Rattle.history_laws.proofs.AnswersKept.{law_of_parts}
use Rattle.history_laws.proofs.laws.law_of_parts.Goals as goal

pub returns : goal.returns
returns c = law_of_parts
