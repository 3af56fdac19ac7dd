-- One step of the flat machine.
use Rattle.std.specs.Prelude.{ℕ, ◌+◌, ◌*◌, ◌≡◌, ◌==◌, Bool, true, false, ◌&&◌, not, leb, nat_lt, List, [], ◌∷◌, take, Option, Some, None, is_none, Ok, Err, slice_get, slice_set, IsTrue}
use Rattle.std.specs.Int.{to_le_bytes, w64}
use Rattle.std.specs.FinMap.Entries.{find, put, where_key}
use Rattle.std.specs.Ordering.{eq_by_cmp}
use Rattle.cl_types.specs.declared.limits.TheConstants.{PAGE_BYTES}
use Rattle.cl_types.specs.Bytes.{bytes_at, with_bytes}
use Rattle.cl_types.specs.Places.{Place, place_cmp}
use Rattle.cl_types.specs.declared.numbers.Addr.{Addr}
use Rattle.cl_types.specs.declared.call.Perm.{Perm}
use Rattle.cl_types.specs.declared.call.Perm.TheVariants.{ReadOnly, WriteOnly, ReadWrite}
use Rattle.cl_types.specs.declared.call.AtomicOp.{AtomicOp}
use Rattle.cl_types.specs.declared.request.Request.{Request}
use Rattle.cl_types.specs.declared.request.Request.TheVariants.{Alloc, Free, Read, Write, Atomic, Offload}
use Rattle.cl_types.specs.declared.reply.Refusal.{Refusal}
use Rattle.cl_types.specs.declared.reply.Refusal.TheVariants.{NoMapping, NoPermission, NoPage, NoRange, NoOffload}
use Rattle.cl_types.specs.declared.reply.Reply.{Reply}
use Rattle.cl_types.specs.declared.reply.Reply.TheVariants.{Refused, Nothing, At, Word, Got}
use Rattle.cl_types.specs.Pages.{page_of, offset_of, word_at, word_after}
use Rattle.flat_model.specs.Objects.{Object, Given, object_step}
use Rattle.flat_model.specs.State.{FlatState, Page, page_at, bytes_of, used, fits, least, places, places_of}

-- a reply, and the state after it
pub record Transition : Type 0 where
  pub reply : Reply
  pub state : FlatState

-- the outcome of a refusal, which changes nothing
abbrev pub refused : FlatState → Refusal → Transition
refused s refusal = record { reply = Refused refusal; state = s }

-- ---- ranges
-- fresh pages join the map
abbrev pub with_fresh : Perm → List Place → List (Place × Page) → List (Place × Page)
with_fresh perm [] entries = entries
with_fresh perm (place ∷ places) entries = put place_cmp place (record { perm = perm; bytes = None }) (with_fresh perm places entries)

-- a range of fresh pages joins the state
abbrev pub mapped : FlatState → ℕ → ℕ → ℕ → Perm → FlatState
mapped s pid start n perm = record s {
  map = with_fresh perm (places_of pid start n) s.map;
  ranges = put place_cmp (pid, start) n s.ranges;
}

-- the range that begins here has so many pages
abbrev pub has_pages : Option ℕ → ℕ → Bool
has_pages None n = false
has_pages (Some pages) n = pages == n

-- a range of exactly this start and this number of pages is allocated
abbrev pub is_range : FlatState → ℕ → ℕ → ℕ → Bool
is_range s pid start n = has_pages (find place_cmp (pid, start) s.ranges) n

-- the place lies in these pages of a process
abbrev pub is_among : ℕ → ℕ → ℕ → Place → Bool
is_among pid start n place = place.0 == pid && leb start place.1 && nat_lt place.1 (start + n)

-- the range and its pages leave the state
abbrev pub unmapped : FlatState → ℕ → ℕ → ℕ → FlatState
unmapped s pid start n = record s {
  map = where_key place_cmp (λ place. not (is_among pid start n place)) s.map;
  ranges = where_key place_cmp (λ place. not (eq_by_cmp place_cmp (pid, start) place)) s.ranges;
}

-- an Alloc answers the first address of the range at this start, and is refused where there is no start
abbrev pub alloc_at : FlatState → ℕ → ℕ → Perm → Option ℕ → Transition
alloc_at s pid n perm None = refused s NoRange
alloc_at s pid n perm (Some start) = record { reply = At (record { 0 = start * PAGE_BYTES }); state = mapped s pid start n perm }

-- an Alloc of n pages at the least start that fits
abbrev pub alloc : FlatState → ℕ → ℕ → Perm → Transition
alloc s pid n perm = alloc_at s pid n perm (least s.buckets (places s) pid n)

-- a Free takes the range out with its pages where it is allocated, and is refused where not
abbrev pub free_if : FlatState → ℕ → ℕ → ℕ → Bool → Transition
free_if s pid start n true = record { reply = Nothing; state = unmapped s pid start n }
free_if s pid start n false = refused s NoMapping

-- a Free of the range that begins with the address's page and has n pages
abbrev pub free : FlatState → ℕ → Addr → ℕ → Transition
free s pid addr n = free_if s pid (page_of addr) n (is_range s pid (page_of addr) n)

-- ---- the bytes of a page
-- a page with this permission may be read
abbrev pub may_read : Perm → Bool
may_read ReadOnly = true
may_read WriteOnly = false
may_read ReadWrite = true

-- a page with this permission may be written
abbrev pub may_write : Perm → Bool
may_write ReadOnly = false
may_write WriteOnly = true
may_write ReadWrite = true

-- a page with this permission may be read and written, as an atomic needs
abbrev pub may_change : Perm → Bool
may_change perm = may_read perm && may_write perm

-- the state with these bytes as those of the page
abbrev pub written : FlatState → ℕ → ℕ → Page → List ℕ → FlatState
written s pid number page bytes = record s { map = put place_cmp (pid, number) (record page { bytes = Some bytes }) s.map }

-- the page is fresh, and no physical page is free
abbrev pub is_out_of_pages : FlatState → Page → Bool
is_out_of_pages s page = is_none page.bytes && leb s.pages (used s)

-- the outcome where the permission allows it, and else a refusal
abbrev pub if_allowed : FlatState → Bool → Transition → Transition
if_allowed s false outcome = refused s NoPermission
if_allowed s true outcome = outcome

-- goes on with the page that was found and has the permission; that it is mapped is asked first
abbrev pub on_found : FlatState → (Perm → Bool) → (Page → Transition) → Option Page → Transition
on_found s may go None = refused s NoMapping
on_found s may go (Some page) = if_allowed s (may page.perm) (go page)

-- goes on with the page, which must be mapped and have the permission
abbrev pub on_page : FlatState → ℕ → Addr → (Perm → Bool) → (Page → Transition) → Transition
on_page s pid addr may go = on_found s may go (page_at s pid (page_of addr))

-- the outcome unless it lacks a physical page, for which it is refused
abbrev pub if_pages_last : FlatState → Bool → Transition → Transition
if_pages_last s true outcome = refused s NoPage
if_pages_last s false outcome = outcome

-- goes on with the page's bytes, for which a fresh page needs a physical one
abbrev pub on_bytes : FlatState → ℕ → Addr → (Perm → Bool) → (Page → Transition) → Transition
on_bytes s pid addr may go = on_page s pid addr may (λ page. if_pages_last s (is_out_of_pages s page) (go page))

-- the new bytes stand in the page from the address on
abbrev pub puts : FlatState → ℕ → Addr → Page → List ℕ → Reply → Transition
puts s pid addr page bytes reply =
    record { reply = reply; state = written s pid (page_of addr) page (with_bytes (offset_of addr) bytes (bytes_of page)) }

-- a Read answers the n bytes from the address on
abbrev pub read : FlatState → ℕ → Addr → ℕ → Transition
read s pid addr n = on_page s pid addr may_read (λ page. record { reply = Got (bytes_at (offset_of addr) n (bytes_of page)); state = s })

-- a Write puts its bytes into the page from the address on
abbrev pub write : FlatState → ℕ → Addr → List ℕ → Transition
write s pid addr bytes = on_bytes s pid addr may_write (λ page. puts s pid addr page bytes Nothing)

-- an atomic answers the old word of 8 bytes and puts the new one in its place; it fills a fresh page in any case
abbrev pub atomic : FlatState → ℕ → Addr → AtomicOp → Transition
atomic s pid addr op = on_bytes s pid addr may_change (λ page.
    let word = word_at (offset_of addr) (bytes_of page) in
    puts s pid addr page (to_le_bytes w64 (word_after op word)) (Word word))

-- ---- objects
-- what the object gives: the first bytes of its answer, so many as were asked
abbrev pub given : FlatState → ℕ → ℕ → Given → Transition
given s number out (Err refusal) = refused s refusal
given s number out (Ok (answer, object)) =
    record { reply = Got (take out answer); state = record s { objects = slice_set s.objects number object } }

-- what an operation of the object that was found comes to, and a refusal where there is no such offload
abbrev pub on_object : FlatState → ℕ → ℕ → ℕ → List ℕ → Option Object → Transition
on_object s number op out bytes None = refused s NoOffload
on_object s number op out bytes (Some object) = given s number out (object_step object op bytes)

-- an Offload is one operation of the object of this number, and answers at most out bytes
abbrev pub offload : FlatState → ℕ → ℕ → ℕ → List ℕ → Transition
offload s number op out bytes = on_object s number op out bytes (slice_get s.objects number)

-- ---- all requests
-- the machine's reply to a request of a process, and the state after it, with the least start for an Alloc
abbrev pub outcome : FlatState → ℕ → Request → Transition
outcome s pid (Alloc n perm) = alloc s pid n perm
outcome s pid (Free addr n) = free s pid addr n
outcome s pid (Read addr n) = read s pid addr n
outcome s pid (Write addr bytes) = write s pid addr bytes
outcome s pid (Atomic addr op) = atomic s pid addr op
outcome s pid (Offload number op out bytes) = offload s number op out bytes

-- an Alloc may start wherever it fits, and is refused only where it fits nowhere
abbrev pub MayAlloc : FlatState → ℕ → ℕ → Reply → Type 0
MayAlloc s pid n (At addr) = (offset_of addr ≡ 0) × IsTrue (fits s.buckets (places s) pid (page_of addr) n)
MayAlloc s pid n (Refused NoRange) = (start : ℕ) → IsTrue (fits s.buckets (places s) pid start n) → ⊥
MayAlloc s pid n reply = ⊥

-- the machine may give this reply
abbrev pub MayReply : FlatState → ℕ → Request → Reply → Type 0
MayReply s pid (Alloc n perm) reply = MayAlloc s pid n reply
MayReply s pid request reply = reply ≡ (outcome s pid request).reply

-- the state after an Alloc and its reply
abbrev pub alloc_after : FlatState → ℕ → ℕ → Perm → Reply → FlatState
alloc_after s pid n perm (At addr) = mapped s pid (page_of addr) n perm
alloc_after s pid n perm reply = s

-- the state after a request and its reply
abbrev pub state_after : FlatState → ℕ → Request → Reply → FlatState
state_after s pid (Alloc n perm) reply = alloc_after s pid n perm reply
state_after s pid request reply = (outcome s pid request).state
