-- The offloads of a host, one by one.
use Rattle.std.proofs.Common.{◌≡◌, ℕ, zero, suc, true, false, List, [], ◌∷◌, ◌++◌, Option, Some, None, slice_get, refl, sym, ap, subst}
use Rattle.cl_types.specs.Config.{Judged, first_bad, judged_offload, judged_offloads, offload_pages}
use Rattle.cl_types.specs.declared.config.OffloadConfig.{OffloadConfig}
use Rattle.flat_model.specs.Opening.{pages_at}

-- where no number of two lists is bad, none of either is
first_bad-append : (front back : List Judged) → first_bad (front ++ back) ≡ None → (first_bad front ≡ None) × (first_bad back ≡ None)
first_bad-append [] back none = (refl, none)
first_bad-append ((field, n, true) ∷ front) back none = first_bad-append front back none
first_bad-append ((field, n, false) ∷ front) back none = cc none

-- each offload of a list without a bad number has none
pub in_range_at : (offloads : List OffloadConfig) (k : ℕ) (offload : OffloadConfig)
    → slice_get offloads k ≡ Some offload → first_bad (judged_offloads offloads) ≡ None → first_bad (judged_offload offload) ≡ None
in_range_at [] k offload there none = cc there
in_range_at (first ∷ offloads) zero offload there none =
    let same : first ≡ offload = cc there in
    subst (λ (one : OffloadConfig). first_bad (judged_offload one) ≡ None) same (first_bad-append (judged_offload first) (judged_offloads offloads) none).0
in_range_at (first ∷ offloads) (suc k) offload there none =
    in_range_at offloads k offload there (first_bad-append (judged_offload first) (judged_offloads offloads) none).1

-- the pages of the offload that stands there
pub pages_there : (offloads : List OffloadConfig) (k : ℕ) (offload : OffloadConfig) → slice_get offloads k ≡ Some offload → offload_pages offload ≡ pages_at offloads k
pages_there offloads k offload there =
    sym (ap (λ (found : Option OffloadConfig). elim found [ None ↦ 0 | Some offload ↦ offload_pages offload ]) there)
