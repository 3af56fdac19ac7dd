-- The ranges of requests, and the bounds of Rust's types that a call or a request has; those of a head are `IsHead`.
-- Definitions range over every number; where a law needs a bound of a type, it is one of these.
use Rattle.std.specs.Prelude.{ℕ, ◌+◌, ◌^◌, ◌%◌, ◌==◌, Bool, true, ◌&&◌, leb, nat_lt, List, length}
use Rattle.std.specs.List.{list_all}
use Rattle.cl_types.specs.declared.limits.TheConstants.{ADDRESS_END, PAGE_BYTES, PART_BYTES, RANGE_PAGES, SPACE_PAGES}
use Rattle.cl_types.specs.declared.call.AtomicOp.{AtomicOp}
use Rattle.cl_types.specs.declared.call.AtomicOp.TheVariants.{Add, Cas}
use Rattle.cl_types.specs.declared.numbers.Addr.{Addr}
use Rattle.cl_types.specs.declared.request.Request.{Request}
use Rattle.cl_types.specs.declared.request.Request.TheVariants as request
use Rattle.cl_types.specs.declared.schedule.CallText.{CallText}
use Rattle.cl_types.specs.declared.schedule.CallText.TheVariants as text
use Rattle.cl_types.specs.declared.schedule.Event.{Event}
use Rattle.cl_types.specs.declared.schedule.Event.TheVariants as event
use Rattle.cl_types.specs.Pages.{page_of, offset_of}

-- ---- of types
-- each of the numbers is a byte, below 256
abbrev pub are_bytes : List ℕ → Bool
are_bytes bytes = list_all (λ b. nat_lt b 256) bytes

-- the number is that of a word of 8 bytes, below 2^64
abbrev pub is_word : ℕ → Bool
is_word n = nat_lt n (2 ^ 64)

-- the numbers of the operation are those of words of 8 bytes
abbrev pub has_words : AtomicOp → Bool
has_words (Add n) = is_word n
has_words (Cas expect put) = is_word expect && is_word put
has_words other = true

-- the numbers of a call's line are those of their types
abbrev pub is_typed_call : CallText → Bool
is_typed_call (text.Alloc pages perm) = nat_lt pages (2 ^ 32)
is_typed_call (text.Free addr pages) = nat_lt addr.0 (2 ^ 32) && nat_lt pages (2 ^ 32)
is_typed_call (text.Read addr len) = nat_lt addr.0 (2 ^ 32) && nat_lt len (2 ^ 32)
is_typed_call (text.Write addr bytes) = nat_lt addr.0 (2 ^ 32) && are_bytes bytes.bytes
is_typed_call (text.Atomic addr op) = nat_lt addr.0 (2 ^ 32) && has_words op
is_typed_call (text.Offload number op out bytes) = nat_lt number 256 && nat_lt op 256 && nat_lt out (2 ^ 32) && are_bytes bytes.bytes
is_typed_call text.Fence = true

-- The premise of the laws of the account: the calls of a schedule have numbers of their types. Every
-- schedule that is read from bytes has them, by a law.
abbrev pub is_typed : Event → Bool
is_typed (event.Call client call) = is_typed_call call
is_typed other = true

-- ---- of requests
-- the address is below 2^28, where a space ends
abbrev pub is_good_address : Addr → Bool
is_good_address addr = nat_lt addr.0 ADDRESS_END

-- n bytes, at least one and at most those of a part, stay within the page of the address
abbrev pub is_piece : Addr → ℕ → Bool
is_piece addr n = is_good_address addr && leb 1 n && leb n PART_BYTES && leb (offset_of addr + n) PAGE_BYTES

-- a range may have so many pages: 1 to 1,024
abbrev pub is_page_count : ℕ → Bool
is_page_count n = leb 1 n && leb n RANGE_PAGES

-- the request is one that a frame can carry
abbrev pub is_in_range : Request → Bool
is_in_range (request.Alloc n perm) = is_page_count n
is_in_range (request.Free addr n) = is_good_address addr && (offset_of addr == 0) && is_page_count n && leb (page_of addr + n) SPACE_PAGES
is_in_range (request.Read addr n) = is_piece addr n
is_in_range (request.Write addr bytes) = is_piece addr (length bytes) && are_bytes bytes
is_in_range (request.Atomic addr op) = is_good_address addr && (addr.0 % 8 == 0) && has_words op
is_in_range (request.Offload number op out bytes) =
    nat_lt number 256 && nat_lt op 256 && leb out PART_BYTES && leb (length bytes) PART_BYTES && are_bytes bytes
