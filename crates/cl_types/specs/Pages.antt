-- Addresses, and the words in a page.
use Rattle.std.specs.Prelude.{ℕ, ◌+◌, ◌/◌, ◌%◌, ◌^◌, ◌==◌, List, if◌then◌else◌}
use Rattle.std.specs.Int.{from_le_bytes, w64}
use Rattle.cl_types.specs.declared.limits.TheConstants.{PAGE_BYTES}
use Rattle.cl_types.specs.declared.call.AtomicOp.{AtomicOp}
use Rattle.cl_types.specs.declared.call.AtomicOp.TheVariants.{Lock, Unlock, Add, Cas}
use Rattle.cl_types.specs.declared.numbers.Addr.{Addr}
use Rattle.cl_types.specs.Bytes.{bytes_at}

-- the number of the page in which an address lies
abbrev pub page_of : Addr → ℕ
page_of addr = addr.0 / PAGE_BYTES

-- where an address lies in its page: how many bytes behind the page's first
abbrev pub offset_of : Addr → ℕ
offset_of addr = addr.0 % PAGE_BYTES

-- the word of 8 bytes, little-endian, from a place of a page on
abbrev pub word_at : ℕ → List ℕ → ℕ
word_at at bytes = from_le_bytes w64 (bytes_at at 8 bytes)

-- the word that an atomic leaves in place of this one
abbrev pub word_after : AtomicOp → ℕ → ℕ
word_after Lock word = if word == 0 then 1 else word
word_after Unlock word = 0
word_after (Add n) word = (word + n) % 2 ^ 64
word_after (Cas expect put) word = if word == expect then put else word
