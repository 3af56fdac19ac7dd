-- The order of keys tells all keys apart.
use Rattle.std.specs.Cmp.{IsTotalOrder}
use Rattle.std.specs.FinMap.{IsAntisymmetric}
use Rattle.std.proofs.lemmas.Cmp.{nat_list_cmp_total}
use Rattle.std.proofs.lemmas.Map.Lookups.{exact_bytes}
use Rattle.flat_model.specs.Objects.{key_cmp}

pub key_total : IsTotalOrder key_cmp
key_total = nat_list_cmp_total

pub key_exact : IsAntisymmetric key_cmp
key_exact a b tied = exact_bytes a b tied
