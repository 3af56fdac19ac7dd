-- What an access to the bytes of a page needs, and what it gives.
use Rattle.std.specs.Prelude.{◌≡◌, ℕ, ◌+◌, ◌<◌, ◌≤◌, Bool, false, Some, Result, Ok, Err}
use Rattle.cl_types.specs.declared.limits.TheConstants.{ADDRESS_END, PAGE_BYTES}
use Rattle.cl_types.specs.declared.call.Perm.{Perm}
use Rattle.cl_types.specs.declared.numbers.Addr.{Addr}
use Rattle.cl_types.specs.declared.numbers.PageNo.{PageNo}
use Rattle.cl_types.specs.declared.page.Pte.{Pte}
use Rattle.cl_types.specs.declared.reply.Refusal.{Refusal}
use Rattle.cl_types.specs.declared.reply.Reply.{Reply}
use Rattle.cl_types.specs.declared.reply.Reply.TheVariants.{Refused}
use Rattle.cl_types.specs.Places.{Place}
use Rattle.hash_buckets.specs.PageMap.{entry_of, with_entry}
use Rattle.page_arena.specs.Arena.{page_at as arena_page}
use Rattle.cl_types.specs.Pages.{page_of, offset_of}
use Rattle.flat_model.specs.State.{FlatState, Page, bytes_of}
use Rattle.flat_model.specs.Step.{Transition, refused, on_page, on_bytes, is_out_of_pages, may_read, may_write, may_change, written}
use Rattle.data_path.specs.declared.need.Need.{Need}
use Rattle.data_path.specs.declared.need.Need.TheVariants.{Read, Write, Change}
use Rattle.data_path.specs.declared.store.PageStore.{PageStore}
use Rattle.data_path.specs.Store.{memory_of, page_in}

-- the n bytes from the address on are at least one, and lie in one page of a space
pub record IsPiece (addr : Addr) (n : ℕ) : Type 0 where
  pub good : addr.0 < ADDRESS_END
  pub some : 0 < n
  pub within : offset_of addr + n ≤ PAGE_BYTES

-- the permission is enough for what is needed
abbrev pub allows : Need → Perm → Bool
allows Read perm = may_read perm
allows Write perm = may_write perm
allows Change perm = may_change perm

-- a call's result as a reply, with the reply that each value stands for
abbrev pub reply_in : {A : Type 0} → (A → Reply) → Result A Refusal → Reply
reply_in reply (Ok value) = reply value
reply_in reply (Err refusal) = Refused refusal

-- the machine refuses the page for this reason, whatever is to be done with it
abbrev pub IsDenied : FlatState → ℕ → Addr → (Perm → Bool) → Refusal → Type 0
IsDenied s pid addr may refusal = (go : Page → Transition) → on_page s pid addr may go ≡ refused s refusal

-- the machine refuses the page's bytes for this reason, whatever is to be done with them
abbrev pub IsClosed : FlatState → ℕ → Addr → (Perm → Bool) → Refusal → Type 0
IsClosed s pid addr may refusal = (go : Page → Transition) → on_bytes s pid addr may go ≡ refused s refusal

-- the entry is that of the address's page, and its permission is enough
pub record IsFound (s : PageStore) (space : ℕ) (addr : Addr) (may : Perm → Bool) (pte : Pte) : Type 0 where
  pub entry : entry_of s.table (space, page_of addr) ≡ Some pte
  pub passes : (go : Page → Transition) → on_page (memory_of s) space addr may go ≡ go (page_in s.arena pte)

-- the page of the entry has this frame, and is fresh no more
pub record IsFramed (old new : PageStore) (place : Place) (pte : Pte) (frame : PageNo) : Type 0 where
  pub room : is_out_of_pages (memory_of old) (page_in old.arena pte) ≡ false
  pub table : new.table ≡ with_entry old.table place (record pte { frame = Some frame })
  pub memory : memory_of new ≡ written (memory_of old) place.0 place.1 (page_in old.arena pte) (bytes_of (page_in old.arena pte))
  pub bytes : arena_page new.arena frame.0 ≡ bytes_of (page_in old.arena pte)

-- the machine gives the bytes of the address's page, and they lie in this frame
pub record IsOpen (old new : PageStore) (space : ℕ) (addr : Addr) (may : Perm → Bool) (frame : PageNo) : Type 0 where
  pub page : Page
  pub passes : (go : Page → Transition) → on_bytes (memory_of old) space addr may go ≡ go page
  pub entry : Pte
  pub found : entry_of new.table (space, page_of addr) ≡ Some entry
  pub framed : entry.frame ≡ Some frame
  -- the page is fresh no more, and else all is as it was
  pub memory : memory_of new ≡ written (memory_of old) space (page_of addr) page (bytes_of page)
  pub bytes : arena_page new.arena frame.0 ≡ bytes_of page
