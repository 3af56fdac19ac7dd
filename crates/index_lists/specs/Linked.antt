-- How the links of a `Lists` spell its lists. No public clause cites this module.
use Rattle.std.specs.Prelude.{◌≡◌, ℕ, zero, suc, ◌+◌, ◌<◌, ◌==◌, true, List, [], ◌∷◌, map, length, Option, Some, None, if◌then◌else◌, slice_index, slice_index_or, slice_set as set}
use Rattle.std.specs.List.{AllByRecursion, range_with_len}
use Rattle.index_lists.specs.NodeLists.{NodeLists, has}

-- from a the links lead through xs to b, and back
abbrev pub IsLinked : (ℕ → ℕ) → (ℕ → ℕ) → ℕ → List ℕ → ℕ → Type 0
IsLinked next prev a [] b = (next a ≡ b) × (prev b ≡ a)
IsLinked next prev a (x ∷ xs) b = (next a ≡ x) × (prev x ≡ a) × IsLinked next prev x xs b

-- the places from c on along the links, up to b, and at most so many
abbrev pub chain : ℕ → (ℕ → ℕ) → ℕ → ℕ → List ℕ
chain zero next c b = []
chain (suc fuel) next c b = if c == b then [] else c ∷ chain fuel next (next c) b

-- the links and owners are those of the lists `at`, by their numbers
pub record IsTied (nodes lists : ℕ) (next prev : ℕ → ℕ) (owner : ℕ → Option ℕ) (at : ℕ → List ℕ) : Type 0 where
  -- the ring of list l begins and ends at the place nodes + l
  pub linked : (l : ℕ) → l < lists → IsLinked next prev (nodes + l) (at l) (nodes + l)
  pub owned : (l : ℕ) → l < lists → AllByRecursion (λ n. (n < nodes) × (owner n ≡ Some l)) (at l)
  pub held : (n l : ℕ) → n < nodes → owner n ≡ Some l → (l < lists) × (has (at l) n ≡ true)

-- the nodes of list l, along its ring
abbrev pub chain_at : ℕ → List ℕ → ℕ → List ℕ
chain_at nodes next l = chain nodes (slice_index next) (slice_index next (nodes + l)) (nodes + l)

-- the list that node n is in
abbrev pub owner_at : List (Option ℕ) → ℕ → Option ℕ
owner_at owner n = slice_index_or owner n None

-- the vectors have their lengths, and the links spell lists
pub record IsSound (nodes lists : ℕ) (next prev : List ℕ) (owner : List (Option ℕ)) : Type 0 where
  pub next_len : length next ≡ nodes + lists
  pub prev_len : length prev ≡ nodes + lists
  pub owner_len : length owner ≡ nodes
  pub tied : IsTied nodes lists (slice_index next) (slice_index prev) (owner_at owner) (chain_at nodes next)

-- what contracts see
abbrev pub node_lists : ℕ → ℕ → List ℕ → NodeLists
node_lists nodes lists next = record { nodes = nodes; lists = map (chain_at nodes next) (range_with_len 0 lists) }

-- the next places, with n put in behind y
abbrev pub next_put : List ℕ → ℕ → ℕ → List ℕ
next_put next y n = set (set next n (slice_index next y)) y n

-- the places before, with n put in behind y
abbrev pub prev_put : List ℕ → List ℕ → ℕ → ℕ → List ℕ
prev_put next prev y n = set (set prev n y) (slice_index next y) n

-- the next places, with n taken out
abbrev pub next_cut : List ℕ → List ℕ → ℕ → List ℕ
next_cut next prev n = set next (slice_index prev n) (slice_index next n)

-- the places before, with n taken out
abbrev pub prev_cut : List ℕ → List ℕ → ℕ → List ℕ
prev_cut next prev n = set prev (slice_index next n) (slice_index prev n)
