use Rattle.std.proofs.Common.{ap}
use Rattle.flat_model.specs.State.{FlatState}
use Rattle.flat_model.proofs.EntryLemmas.{read_value}
use Rattle.flat_model.proofs.flat.Flat.nth.Goals as goal

pub returns : goal.returns
returns c = read_value _ _ c.args.i _ (ap (λ (s : FlatState). s.map) c.self.view_is) c.requires c.index.ensures
