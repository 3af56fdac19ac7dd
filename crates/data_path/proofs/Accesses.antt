-- What the flat machine says of an access, by the entry of its page.
use Rattle.std.proofs.Common.{subst, T, ◌≡◌, ℕ, ◌+◌, ◌-◌, ◌≤◌, Bool, true, false, List, take, Option, Some, None, option_map, refl, sym, ap, ◌∙◌, arith, IfSome}
use Rattle.std.proofs.lemmas.List.{take-replicate, drop-replicate}
use Rattle.std.specs.FinMap.Entries.{is_sorted, find-put}
use Rattle.cl_types.specs.declared.call.Perm.{Perm}
use Rattle.cl_types.specs.declared.page.Pte.{Pte}
use Rattle.cl_types.specs.declared.numbers.Addr.{Addr}
use Rattle.cl_types.specs.declared.numbers.PageNo.{PageNo}
use Rattle.cl_types.specs.declared.reply.Refusal.TheVariants.{NoMapping, NoPermission}
use Rattle.cl_types.specs.Bytes.{bytes_at, with_bytes, zeros, fresh_bytes}
use Rattle.cl_types.specs.Places.{Place, place_cmp}
use Rattle.cl_types.proofs.PlaceLemmas.{place_total, place_exact, same_place-self}
use Rattle.hash_buckets.specs.PageMap.{PageMap, entry_of}
use Rattle.page_arena.specs.Arena.{page_at as arena_page}
use Rattle.translate_cache.specs.Cached.{Cached}
use Rattle.cl_types.specs.Pages.{page_of}
use Rattle.flat_model.specs.State.{FlatState, Page, page_at, bytes_of}
use Rattle.flat_model.specs.Step.{if_pages_last, is_out_of_pages, written}
use Rattle.data_path.specs.declared.store.PageStore.{PageStore}
use Rattle.data_path.specs.Store.{memory_of, page_in, IsCached, IsFit, IsWhole}
use Rattle.data_path.specs.Access.{IsDenied, IsFound, IsFramed, IsOpen}
use Rattle.data_path.proofs.Keyed.{put_put}
use Rattle.data_path.proofs.Pages.{find-pages_in}

-- ---- a page by its entry
pub page_there : (s : PageStore) (space page : ℕ) (o : Option Pte) → entry_of s.table (space, page) ≡ o → page_at (memory_of s) space page ≡ option_map (page_in s.arena) o
page_there s space page o is = find-pages_in s.arena s.table.entries (space, page) ∙ ap (option_map (page_in s.arena)) is

module _ (s : PageStore) (space : ℕ) (addr : Addr) (may : Perm → Bool) (page : ℕ) (is : page ≡ page_of addr) where
  pub not_mapped : None ≡ entry_of s.table (space, page) → IsDenied (memory_of s) space addr may NoMapping
  not_mapped there go = rw (page_there s space (page_of addr) None (ap (λ n. entry_of s.table (space, n)) (sym is) ∙ sym there)) refl

  module _ (pte : Pte) (there : Some pte ≡ entry_of s.table (space, page)) where
    entry : entry_of s.table (space, page_of addr) ≡ Some pte
    entry = ap (λ n. entry_of s.table (space, n)) (sym is) ∙ sym there

    pub not_allowed : may pte.perm ≡ false → IsDenied (memory_of s) space addr may NoPermission
    not_allowed denied go = rw (page_there s space (page_of addr) (Some pte) entry, denied) refl

    pub is_found : may pte.perm ≡ true → IsFound s space addr may pte
    is_found allowed = record { entry = entry; passes = λ go. rw (page_there s space (page_of addr) (Some pte) entry, allowed) refl }

-- a page that was found, and has a frame then
pub is_open : (s t : PageStore) (cache : Cached) (space page : ℕ) (addr : Addr) (may : Perm → Bool) (pte : Pte) (frame : PageNo) → page ≡ page_of addr → IsFound s space addr may pte
    → IsFramed (record s { cache = cache }) t (space, page) pte frame → IsOpen s t space addr may frame
is_open s t cache space page addr may pte frame is found was =
    let f = subst (λ n. IsFramed (record s { cache = cache }) t (space, n) pte frame) is was in
    record {
      page = page_in s.arena pte;
      passes = λ go. found.passes (λ page. if_pages_last (memory_of s) (is_out_of_pages (memory_of s) page) (go page)) ∙ ap (λ b. if_pages_last (memory_of s) b (go (page_in s.arena pte))) f.room;
      entry = record pte { frame = Some frame };
      found =
          let at : Place = (space, page_of addr) in
          ap (λ (table : PageMap). entry_of table at) f.table ∙ find-put place_cmp place_total at at (record pte { frame = Some frame }) s.table.entries ∙ rw (same_place-self at) refl;
      framed = refl;
      memory = f.memory;
      bytes = f.bytes;
    }

-- ---- the bytes of a page
pub bytes_fresh : (arena : List (List ℕ)) (pte : Pte) → pte.frame ≡ None → bytes_of (page_in arena pte) ≡ fresh_bytes
bytes_fresh arena pte is = ap (λ (f : Option PageNo). bytes_of (record { perm = pte.perm; bytes = option_map (λ frame. arena_page arena frame.0) f })) is

pub bytes_framed : (arena : List (List ℕ)) (pte : Pte) (frame : PageNo) → pte.frame ≡ Some frame → bytes_of (page_in arena pte) ≡ arena_page arena frame.0
bytes_framed arena pte frame is = ap (λ (f : Option PageNo). bytes_of (record { perm = pte.perm; bytes = option_map (λ frame. arena_page arena frame.0) f })) is

pub fresh_piece : (at n : ℕ) → at + n ≤ 4096 → zeros n ≡ bytes_at at n fresh_bytes
unfolding fresh_bytes
fresh_piece at n within = piece at n 4096 within
  where
    piece : (at n m : ℕ) → at + n ≤ m → zeros n ≡ bytes_at at n (zeros m)
    piece at n m within = sym (take-replicate n (m - at) 0 (omega (arith, within))) ∙ ap (take n) (sym (drop-replicate at m 0))

-- the cache changed
pub fit_cached : (s : PageStore) (cache : Cached) → IsFit s → IsCached cache s.table → IsFit (record s { cache = cache })
fit_cached s cache w cached = record {
  valid = w.valid;
  ranges = w.ranges;
  taken = w.taken;
  named = w.named;
  arena = w.arena;
  sized = w.sized;
  zero = w.zero;
  cached = cached;
}

pub whole_cached : (s : PageStore) (cache : Cached) → IsWhole s → IsCached cache s.table → IsWhole (record s { cache = cache })
whole_cached s cache whole cached = record { fit = fit_cached s cache whole.fit cached; keys = whole.keys; held = whole.held; listed = whole.listed }

-- ---- a page that is fresh no more, and then changed
pub changed_open : (m mid new : FlatState) (space page : ℕ) (p : Page) (at : ℕ) (bytes : List ℕ) → T (is_sorted place_cmp m.map) → mid ≡ written m space page p (bytes_of p)
    → IfSome (page_at mid space page) (λ q. new ≡ written mid space page q (with_bytes at bytes (bytes_of q)))
    → new ≡ written m space page p (with_bytes at bytes (bytes_of p))
changed_open m mid new space page p at bytes sorted is change =
    let kept : Page = record p { bytes = Some (bytes_of p) } in
    let put_there : page_at (written m space page p (bytes_of p)) space page ≡ Some kept = find-put place_cmp place_total (space, page) (space, page) kept m.map ∙ rw (same_place-self (space, page)) refl in
    let there : page_at mid space page ≡ Some kept = ap (λ (s : FlatState). page_at s space page) is ∙ put_there in
    let found : new ≡ written mid space page kept (with_bytes at bytes (bytes_of p)) = subst (λ (o : Option Page). IfSome o (λ q. new ≡ written mid space page q (with_bytes at bytes (bytes_of q)))) there change in
    let last : Page = record p { bytes = Some (with_bytes at bytes (bytes_of p)) } in
    found ∙ ap (λ (s : FlatState). written s space page kept (with_bytes at bytes (bytes_of p))) is
    ∙ (λ i. record m { map = put_put place_cmp place_total place_exact (space, page) kept last m.map sorted i })
