-- What going on with a page comes to, in each case.
use Rattle.std.proofs.Common.{◌≡◌, ℕ, Bool, true, false, Some, None, Ok, option_map, slice_get, ap, ◌∙◌}
use Rattle.std.specs.List.{position}
use Rattle.cl_types.specs.Places.{Place, place_cmp}
use Rattle.cl_types.specs.declared.numbers.Addr.{Addr}
use Rattle.cl_types.specs.declared.reply.Refusal.TheVariants.{NoMapping, NoPermission, NoPage}
use Rattle.cl_types.specs.Pages.{page_of}
use Rattle.flat_model.specs.Rows.{is_at, allows}
use Rattle.flat_model.specs.Checks.{Opens}
use Rattle.flat_model.specs.declared.need.Need.{Need}
use Rattle.flat_model.specs.State.{FlatState, Page}
use Rattle.flat_model.specs.Step.{Transition, refused, on_found, if_allowed, if_pages_last, on_bytes, is_out_of_pages}
use Rattle.flat_model.proofs.EntryLemmas.{at_position, not_found}
use Rattle.cl_types.proofs.PlaceLemmas.{place_exact}

module _ (s : FlatState) (pid : ℕ) (addr : Addr) (need : Need) where
  -- with the page's bytes, if it may have them
  abbrev goes : (Page → Transition) → Page → Transition
  goes go page = if_pages_last s (is_out_of_pages s page) (go page)

  pub opens_none : position (is_at (pid, page_of addr)) s.map ≡ None → (go : Page → Transition) → on_bytes s pid addr (allows need) go ≡ refused s NoMapping
  opens_none none go = ap (on_found s (allows need) (goes go)) (not_found place_cmp (pid, page_of addr) s.map none)

  -- the entry at this position has this page, and the permission is so
  pub record Stands (i : ℕ) (page : Page) (allowed : Bool) : Type 0 where
    pub at : position (is_at (pid, page_of addr)) s.map ≡ Some i
    pub value : option_map (λ (e : Place × Page). e.1) (slice_get s.map i) ≡ Some page
    pub perm : allows need page.perm ≡ allowed

  found_page : {i : ℕ} {page : Page} {allowed : Bool} → Stands i page allowed → (go : Page → Transition) → on_bytes s pid addr (allows need) go ≡ if_allowed s allowed (goes go page)
  found_page {i} {page} stands go =
      ap (on_found s (allows need) (goes go)) (at_position place_cmp (pid, page_of addr) place_exact s.map i page stands.at stands.value).1
      ∙ ap (λ b. if_allowed s b (goes go page)) stands.perm

  pub opens_denied : {i : ℕ} {page : Page} → Stands i page false → (go : Page → Transition) → on_bytes s pid addr (allows need) go ≡ refused s NoPermission
  opens_denied stands go = found_page stands go

  pub opens_last : {i : ℕ} {page : Page} → Stands i page true → is_out_of_pages s page ≡ true → (go : Page → Transition) → on_bytes s pid addr (allows need) go ≡ refused s NoPage
  opens_last {i} {page} stands out go = found_page stands go ∙ ap (λ b. if_pages_last s b (go page)) out

  pub opens_page : {i : ℕ} {page : Page} → Stands i page true → is_out_of_pages s page ≡ false → Opens s pid addr (allows need) (Ok i)
  opens_page {i} {page} stands out = (
    page,
    (at_position place_cmp (pid, page_of addr) place_exact s.map i page stands.at stands.value).0,
    λ go. found_page stands go ∙ ap (λ b. if_pages_last s b (go page)) out,
  )
