use Rattle.std.proofs.Common.{ℕ, ◌%◌, ap}
use Rattle.rand_pcg.specs.Lcg.{Lcg}
use Rattle.storm_gen.specs.Generated.{draw}
use Rattle.storm_gen.proofs.draws.draw.Goals as goal

pub returns-clause-drawn : goal.returns-clause-drawn
unfolding draw
returns-clause-drawn c = ap (λ (word : ℕ × Lcg). (word.0 % c.args.n, word.1)) c.next_word.ensures
