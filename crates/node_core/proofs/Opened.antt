-- What a configuration that opens gives.
use Rattle.std.proofs.Common.{◌≡◌, Option, Some, None, Result, Ok, Err, MatchOption, refl, sym, subst}
use Rattle.cl_types.specs.declared.config.NodeConfig.{NodeConfig}
use Rattle.data_path.proofs.Judging.{no_bad_number}
use Rattle.flat_model.proofs.OpeningLemmas.{good}
use Rattle.cl_types.specs.declared.open_fault.OpenFault.{OpenFault}
use Rattle.flat_model.specs.Opening.{open_fault}
use Rattle.offload_host.specs.Held.{AreOffloads}

-- what has opened had no fault
pub opens : {A : Type 0} (P : Type 0) (x : A) (o : Option OpenFault) → MatchOption o P (λ (fault : OpenFault). ◌≡◌ {A = Result A OpenFault} (Ok x) (Err fault)) → o ≡ None
opens P x None told = refl
opens P x (Some fault) told = absurd cc

-- where there is no fault, only this is told
pub none_told : {P : Type 0} (Q : OpenFault → Type 0) (o : Option OpenFault) → o ≡ None → P → MatchOption o P Q
none_told {P} Q o none told = subst (λ o. MatchOption o P Q) (sym none) told

pub are_offloads : (c : NodeConfig) → open_fault c ≡ None → AreOffloads c.offloads
are_offloads c none = let numbers = good c (no_bad_number c none) in record { few = numbers.few; in_range = numbers.offloads }
