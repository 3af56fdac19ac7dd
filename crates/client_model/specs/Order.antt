-- Which calls of a client depend on which.
use Rattle.std.specs.Prelude.{ℕ, ◌+◌, ◌-◌, ◌/◌, ◌%◌, ◌==◌, Bool, true, false, ◌&&◌, ◌||◌, not, nat_lt, List, [], length, Option, Some, None, slice_get}
use Rattle.std.specs.List.{list_any, list_all, slice_range, range_with_len}
use Rattle.cl_types.specs.declared.limits.TheConstants.{PAGE_BYTES}
use Rattle.cl_types.specs.declared.call.Call.{Call}
use Rattle.cl_types.specs.declared.call.Call.TheVariants.{Free, Read, Write, Atomic, Offload, Fence}
use Rattle.cl_types.specs.Pages.{page_of}

-- ---- what of a call its order rests on
-- the pages of n bytes from an address on
abbrev pub pages_over : ℕ → ℕ → List ℕ
pages_over at n = range_with_len (at / PAGE_BYTES) ((at + n + (PAGE_BYTES - 1)) / PAGE_BYTES - at / PAGE_BYTES)

-- the pages that a call reaches or names
abbrev pub touches : Call → List ℕ
touches (Free addr pages) = range_with_len (page_of addr) pages
touches (Read addr buf) = pages_over addr.0 (length buf)
touches (Write addr bytes) = pages_over addr.0 (length bytes)
touches (Atomic addr op) = pages_over addr.0 8
touches other = []

-- the call is a Read
abbrev pub is_read : Call → Bool
is_read (Read addr buf) = true
is_read other = false

-- the call is a Fence
abbrev pub is_fence : Call → Bool
is_fence Fence = true
is_fence other = false

-- of an Offload its number, and whether its operation is odd
abbrev pub offload_of : Call → Option (ℕ × Bool)
offload_of (Offload number op bytes buf) = Some (number, op % 2 == 1)
offload_of other = None

-- of a call what its order rests on: its pages, whether it is a Read or a Fence, and its offload
pub record Footprint : Type 0 where
  pub pages : List ℕ
  pub reads : Bool
  pub fence : Bool
  pub offload : Option (ℕ × Bool)

-- what the order of this call rests on
abbrev pub footprint : Call → Footprint
footprint k = record { pages = touches k; reads = is_read k; fence = is_fence k; offload = offload_of k }

-- ---- conflict and dependence
-- a page is in both lists
abbrev pub share_page : List ℕ → List ℕ → Bool
share_page ps qs = list_any (λ p. list_any (λ q. p == q) qs) ps

-- they name the same offload, and an operation is odd
abbrev pub offloads_conflict : Option (ℕ × Bool) → Option (ℕ × Bool) → Bool
offloads_conflict (Some (n, odd)) (Some (m, odd')) = n == m && (odd || odd')
offloads_conflict a b = false

-- they share a page and aren't both reads, or their offloads conflict
abbrev pub collide : Footprint → Footprint → Bool
collide a b = share_page a.pages b.pages && not (a.reads && b.reads) || offloads_conflict a.offload b.offload

-- two calls that may not pass each other, for a page or an offload that both use
abbrev pub conflict : Call → Call → Bool
conflict a b = collide (footprint a) (footprint b)

-- both calls are there and conflict
abbrev pub both_conflict : Option Call → Option Call → Bool
both_conflict (Some a) (Some b) = conflict a b
both_conflict a b = false

-- Of calls in order of issue, the one at place j depends on the earlier one at place i: they conflict, or a Fence is
-- the one, the other, or between them.
abbrev pub depends : List Call → ℕ → ℕ → Bool
depends calls i j = both_conflict (slice_get calls i) (slice_get calls j) || list_any is_fence (slice_range calls i (j + 1))

-- ---- waiting, among the calls that have not ended
-- the later call waits for the earlier one; a Fence between the two waits itself, so it need not be asked for
abbrev pub waits_for : Footprint → Footprint → Bool
waits_for earlier later = collide earlier later || earlier.fence || later.fence

-- the call of this number and footprint waits for none of these
abbrev pub may_go : List (ℕ × Footprint) → ℕ × Footprint → Bool
may_go calls k = list_all (λ other. not (nat_lt other.0 k.0 && waits_for other.1 k.1)) calls

-- the call of number n is one of these and waits for none of them
abbrev pub ready_in : List (ℕ × Footprint) → ℕ → Bool
ready_in calls n = list_any (λ k. k.0 == n && may_go calls k) calls
