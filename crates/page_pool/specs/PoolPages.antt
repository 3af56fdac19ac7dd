-- What a contract sees of a `Pool`: its pages, by where they stand.
use Rattle.std.specs.Prelude.{◌≡◌, ℕ, ◌+◌, ◌<◌, false, true, nat_lt, nat_eq, List, [], ◌∷◌, ◌++◌, length, if◌then◌else◌}
use Rattle.std.specs.List.{IsDistinct}
use Rattle.index_lists.specs.NodeLists.{has}
use Rattle.cl_types.specs.Bytes.{fresh_bytes}
use Rattle.page_arena.specs.Arena.{page_at}

-- how many pages there are, how many the ring may have, and those that aren't taken, by their parts
pub record PoolPages : Type 0 where
  pub pages : ℕ
  pub capacity : ℕ
  pub ring : List ℕ
  pub clean : List ℕ
  pub dirty : List ℕ

-- the pages that aren't taken
abbrev pub free_list : PoolPages → List ℕ
free_list pool = pool.ring ++ (pool.clean ++ pool.dirty)

-- how many pages aren't taken
abbrev pub free_pages : PoolPages → ℕ
free_pages pool = length pool.ring + length pool.clean + length pool.dirty

-- the page is taken
pub record IsTaken (pool : PoolPages) (page : ℕ) : Type 0 where
  pub in_range : page < pool.pages
  pub not_free : has (free_list pool) page ≡ false

-- the pages that aren't taken are the pool's, and each stands once
pub record IsPartition (pool : PoolPages) : Type 0 where
  pub in_range : (page : ℕ) → has (free_list pool) page ≡ true → page < pool.pages
  pub once : IsDistinct nat_eq (free_list pool)

-- the ring holds a page, or no page is free
abbrev pub IsReady : PoolPages → Type 0
IsReady pool = length pool.ring ≡ 0 → (pool.clean ≡ []) × (pool.dirty ≡ [])

-- the bytes of these pages are zeros
abbrev pub AreZero : List (List ℕ) → List ℕ → Type 0
AreZero arena pages = (page : ℕ) → has pages page ≡ true → page_at arena page ≡ fresh_bytes

-- a page moved into the ring, if it has space: the first clean one, or else the first dirty one
abbrev pub moved : PoolPages → PoolPages
moved pool =
    if nat_lt (length pool.ring) pool.capacity then from_lists pool.clean pool.dirty else pool
  where
    from_lists : List ℕ → List ℕ → PoolPages
    from_lists (page ∷ clean) dirty = record pool { ring = pool.ring ++ page ∷ []; clean = clean }
    from_lists [] (page ∷ dirty) = record pool { ring = pool.ring ++ page ∷ []; dirty = dirty }
    from_lists [] [] = pool
