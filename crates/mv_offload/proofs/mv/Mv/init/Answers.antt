use Rattle.mv_offload.proofs.EffectLemmas.{emptied}
use Rattle.mv_offload.proofs.mv.Mv.init.Goals as goal

pub returns-clause-store : goal.returns-clause-store
returns-clause-store g c = let done = emptied _ _ _ c.requires.pages c.set_objects.ensures.contents c.set_versions.ensures.contents in done.store

pub returns-clause-empty : goal.returns-clause-empty
returns-clause-empty g c = let done = emptied _ _ _ c.requires.pages c.set_objects.ensures.contents c.set_versions.ensures.contents in done.held
