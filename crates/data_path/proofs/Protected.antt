-- What a store means after the pages of a range got another permission.
use Rattle.std.proofs.Common.{◌≡◌, ◌+◌, ◌==◌, ◌<◌, ℕ, Bool, true, false, if◌then◌else◌, inl, inr, is_some, List, [], ◌∷◌, map, None, refl, sym, ap, ◌∙◌, subst, arith}
use Rattle.std.proofs.lemmas.Bool.{cases_Bool}
use Rattle.cl_types.specs.declared.call.Perm.{Perm}
use Rattle.cl_types.specs.declared.numbers.Addr.{Addr}
use Rattle.cl_types.specs.declared.page.Pte.{Pte}
use Rattle.cl_types.specs.Pages.{page_of}
use Rattle.cl_types.specs.Places.{Place, is_process}
use Rattle.flat_model.specs.Rows.{keys}
use Rattle.flat_model.specs.State.{Page}
use Rattle.flat_model.specs.Step.{is_among}
use Rattle.hash_buckets.specs.PageMap.{PageMap, IsValid, entry_of}
use Rattle.range_alloc.specs.Ranges.{AreRanges, frame_at, permitted, span_at, with_perms}
use Rattle.range_alloc.proofs.Entries.{sorted_table}
use Rattle.range_alloc.proofs.Frames.{taken_same}
use Rattle.range_alloc.proofs.Perms.{entry-perms, other_entry, sorted-perms, perms_frames}
use Rattle.translate_cache.specs.Cached.{Cached}
use Rattle.translate_cache.specs.Cached.{entry_of as cached_entry}
use Rattle.data_path.specs.declared.store.PageStore.{PageStore}
use Rattle.data_path.specs.Protecting.{protect, protect_if, protected, with_perm}
use Rattle.data_path.specs.Listing.{AreListed}
use Rattle.data_path.specs.Store.{page_in, pages_in, spans_in, backed, memory_of, IsWhole}
use Rattle.data_path.proofs.Ranging.{offload_outside, offloads_same, range_is}

module _ (space start n : ℕ) (perm : Perm) where
  abbrev given : Place × Pte → Place × Pte
  given entry = (entry.0, permitted space start n perm entry.0 entry.1)

  page_given : (arena : List (List ℕ)) (entry : Place × Pte) → page_in arena (given entry).1 ≡ (with_perm space start n perm (entry.0, page_in arena entry.1)).1
  page_given arena entry = elim (is_among space start n entry.0)
      as (λ b. page_in arena (elim b as (λ b. Pte) [ true ↦ record entry.1 { perm = perm } | false ↦ entry.1 ]) ≡ (elim b as (λ b. Page) [ true ↦ record (page_in arena entry.1) { perm = perm } | false ↦ page_in arena entry.1 ]))
      [ true ↦ refl | false ↦ refl ]

  span_given : (entry : Place × Pte) → (given entry).1.span ≡ entry.1.span
  span_given entry = elim (is_among space start n entry.0)
      as (λ b. (elim b as (λ b. Pte) [ true ↦ record entry.1 { perm = perm } | false ↦ entry.1 ]).span ≡ entry.1.span) [ true ↦ refl | false ↦ refl ]

  frame_given : (entry : Place × Pte) → (given entry).1.frame ≡ entry.1.frame
  frame_given entry = elim (is_among space start n entry.0)
      as (λ b. (elim b as (λ b. Pte) [ true ↦ record entry.1 { perm = perm } | false ↦ entry.1 ]).frame ≡ entry.1.frame) [ true ↦ refl | false ↦ refl ]

  pub pages_given : (arena : List (List ℕ)) (es : List (Place × Pte)) → pages_in arena (map given es) ≡ map (with_perm space start n perm) (pages_in arena es)
  pages_given arena [] = refl
  pages_given arena (e ∷ es) = ap (λ (page : Page). (e.0, page) ∷ pages_in arena (map given es)) (page_given arena e) ∙ ap (λ rest. with_perm space start n perm (e.0, page_in arena e.1) ∷ rest) (pages_given arena es)

  pub spans_given : (es : List (Place × Pte)) → spans_in (map given es) ≡ spans_in es
  spans_given [] = refl
  spans_given (e ∷ es) = ap (λ (span : ℕ). if span == 0 then spans_in (map given es) else (e.0, span) ∷ spans_in (map given es)) (span_given e)
      ∙ ap (λ rest. if e.1.span == 0 then rest else (e.0, e.1.span) ∷ rest) (spans_given es)

  pub backed_given : (es : List (Place × Pte)) → backed (map given es) ≡ backed es
  backed_given [] = refl
  backed_given (e ∷ es) = ap (λ frame. (if is_some frame then 1 else 0) + backed (map given es)) (frame_given e) ∙ ap (λ m. (if is_some e.1.frame then 1 else 0) + m) (backed_given es)

  -- a Protect in the machine
  pub memory_protected : (s : PageStore) → memory_of (record s { table = with_perms s.table space start n perm }) ≡ protected (memory_of s) space start n perm
  memory_protected s = λ i. record (memory_of s) { map = pages_given s.arena s.table.entries i; ranges = spans_given s.table.entries i }

-- what the machine does, by whether the range stands
pub protect_is : (s : PageStore) (space : ℕ) (addr : Addr) (n : ℕ) (perm : Perm) (start : ℕ) (stands : Bool) → IsWhole s → 0 < n → start ≡ page_of addr → (span_at s.table (space, start) == n) ≡ stands
    → protect (memory_of s) space addr n perm ≡ protect_if (memory_of s) space (page_of addr) n perm stands
protect_is s space addr n perm start stands whole some is by =
    ap (protect_if (memory_of s) space (page_of addr) n perm) (range_is s space (page_of addr) n whole.fit some ∙ ap (λ p. span_at s.table (space, p) == n) (sym is) ∙ by)

-- ---- a store stays whole
module _ (s : PageStore) (space start n : ℕ) (perm : Perm) (whole : IsWhole s) (process : is_process space ≡ true) (cache : Cached) where
  abbrev pub now : PageMap
  now = with_perms s.table space start n perm

  abbrev pub protected_store : PageStore
  protected_store = record { table = now; pool = s.pool; arena = s.arena; cache = cache; spaces = s.spaces; ranges = s.ranges }

  away : (q : Place) → is_among space start n q ≡ false → entry_of now q ≡ entry_of s.table q
  away q isnt = entry-perms s.table space start n perm q ∙ other_entry space start n perm q (entry_of s.table q) isnt

  offloads : (q : Place) → is_process q.0 ≡ false → entry_of now q ≡ entry_of s.table q
  offloads q offload = away q (offload_outside space start n q process offload)

  frames : (q : Place) → frame_at now q ≡ frame_at s.table q
  frames q = perms_frames s.table space start n perm q

  pub whole_protected : IsValid now → AreRanges now → ((q : Place) → is_among space start n q ≡ true → cached_entry cache q ≡ None)
      → ((q : Place) → is_among space start n q ≡ false → cached_entry cache q ≡ cached_entry s.cache q) → IsWhole protected_store
  whole_protected valid ranges gone stays = record {
    fit = record {
      valid = valid;
      ranges = ranges;
      taken = taken_same s.table now s.pool whole.fit.taken frames;
      named = let same = backed_given space start n perm s.table.entries in omega (arith, whole.fit.named, same);
      arena = whole.fit.arena;
      sized = λ q frame named. whole.fit.sized q frame (sym (frames q) ∙ named);
      zero = whole.fit.zero;
      cached = λ q pte noted. elim (cases_Bool (is_among space start n q)) [
        | inl is ↦ absurd (let both = sym (gone q is) ∙ noted in cc)
        | inr isnt ↦ away q isnt ∙ whole.fit.cached q pte (sym (stays q isnt) ∙ noted)
      ];
    };
    keys = ap keys (offloads_same s.table now (sorted_table s.table whole.fit.valid) (sorted-perms s.table space start n perm whole.fit.valid) offloads) ∙ whole.keys;
    held = λ q pte offload there. whole.held q pte offload (sym (offloads q offload) ∙ there);
    listed = subst (λ (spans : List (Place × ℕ)). AreListed s.ranges spans s.table.buckets) (sym (spans_given space start n perm s.table.entries)) whole.listed;
  }
