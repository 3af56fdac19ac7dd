-- A changed page stands where it stood.
use Rattle.std.proofs.Common.{◌≡◌, ℕ, ◌<◌, List, length, get_or, Option, Some, None, true, slice_get, refl, sym, ap, ◌∙◌}
use Rattle.std.proofs.Math.ListN.{set}
use Rattle.std.proofs.lemmas.Option.{slice_get_read}
use Rattle.std.specs.FinMap.Entries.{is_sorted, is_sorted-put}
use Rattle.cl_types.specs.Places.{Place, place_cmp}
use Rattle.flat_model.specs.State.{Page}
use Rattle.flat_model.specs.Rows.{with_changed}
use Rattle.cl_types.proofs.PlaceLemmas.{place_total}
use Rattle.flat_model.proofs.PutLemmas.{T_of, of_T, put_at}

-- an entry written at its index is one put at its place
pub set_is_changed : (change : Page → Page) (pages : List (Place × Page)) (i : ℕ) (entry : Place × Page) (new : Page) → is_sorted place_cmp pages ≡ true → i < length pages
    → entry ≡ get_or pages i entry → new ≡ change entry.1 → set pages i (entry.0, new) ≡ with_changed change (slice_get pages i) pages
set_is_changed change pages i entry new sorted within is changed =
    ap (λ (page : Page). set pages i (entry.0, page)) changed
    ∙ sym (put_at place_cmp place_total entry.0 (change entry.1) pages i entry (T_of _ sorted) within (ap (λ (e : Place × Page). e.0) (sym is)))
    ∙ ap (λ (found : Option (Place × Page)). with_changed change found pages) (sym (slice_get_read pages (length pages) i entry refl within is))

pub sorted_changed : (change : Page → Page) (entry : Option (Place × Page)) (pages : List (Place × Page)) → is_sorted place_cmp pages ≡ true
    → is_sorted place_cmp (with_changed change entry pages) ≡ true
sorted_changed change None pages sorted = sorted
sorted_changed change (Some entry) pages sorted = of_T _ (is_sorted-put place_cmp place_total entry.0 (change entry.1) pages (T_of _ sorted))

pub sorted_set : (change : Page → Page) (pages : List (Place × Page)) (i : ℕ) (entry : Place × Page) (new : Page) → is_sorted place_cmp pages ≡ true → i < length pages
    → entry ≡ get_or pages i entry → new ≡ change entry.1 → is_sorted place_cmp (set pages i (entry.0, new)) ≡ true
sorted_set change pages i entry new sorted within is changed =
    ap (is_sorted place_cmp) (set_is_changed change pages i entry new sorted within is changed) ∙ sorted_changed change (slice_get pages i) pages sorted
