-- The pages of all spaces, in their order, and their homes in a table of buckets.
use Rattle.std.specs.Prelude.{ℕ, ◌+◌, ◌*◌, ◌/◌, ◌%◌, ◌^◌, ◌==◌, Bool, ◌&&◌, leb, List, [], ◌∷◌, map, count_by}
use Rattle.std.specs.List.{list_any}
use Rattle.std.specs.Ordering.{nat_cmp, ordering_then}
use Rattle.std.specs.declared.cmp.Ordering.{Ordering}
use Rattle.cl_types.specs.declared.numbers.TheConstants.{LAST_PID, OFFLOAD_SPACES}

-- a page by the number of its space and its number there
abbrev pub Place : Type 0
Place = ℕ × ℕ

-- places are in order by space, and then by number
abbrev pub place_cmp : Place → Place → Ordering
place_cmp a b = ordering_then (nat_cmp a.0 b.0) (nat_cmp a.1 b.1)

-- the space is a process's; those above are the offloads'
abbrev pub is_process : ℕ → Bool
is_process space = leb 1 space && leb space LAST_PID

-- the number of the space of offload k
abbrev pub space_no : ℕ → ℕ
space_no k = OFFLOAD_SPACES + k

-- 2, 4 and so on to 65,536
abbrev pub bucket_counts : List ℕ
bucket_counts = map (λ k. 2 ^ k) (1 ∷ 2 ∷ 3 ∷ 4 ∷ 5 ∷ 6 ∷ 7 ∷ 8 ∷ 9 ∷ 10 ∷ 11 ∷ 12 ∷ 13 ∷ 14 ∷ 15 ∷ 16 ∷ [])

-- a page table may have so many buckets
abbrev pub is_bucket_count : ℕ → Bool
is_bucket_count n = list_any (λ count. count == n) bucket_counts

-- the hash of a page's place, of 32 bits
abbrev pub hash_of : Place → ℕ
hash_of place = (place.0 * 65536 + place.1) * 2654435769 % 2 ^ 32

-- the bucket of a page: of 2 ^ k buckets, the number that the leading k bits of its hash are
unfoldable pub home_of : ℕ → Place → ℕ
home_of buckets place = hash_of place / (2 ^ 32 / buckets)

-- how many of these pages have this home
abbrev pub homes_at : ℕ → ℕ → List Place → ℕ
homes_at buckets home places = count_by (λ place. home_of buckets place == home) places
