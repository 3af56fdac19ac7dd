use Rattle.world.proofs.Follows.{worlds_follow}
use Rattle.world.proofs.laws.worlds_follow_their_account.Goals as goal

pub returns : goal.returns
returns c = worlds_follow
