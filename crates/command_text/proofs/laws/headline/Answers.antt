use Rattle.command_text.proofs.HeadlineLemmas.{headline_law}
use Rattle.command_text.proofs.laws.headline.Goals as goal

pub returns : goal.returns
returns c = headline_law
