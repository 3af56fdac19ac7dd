-- What a search for a key tells. No public clause cites this module.
use Rattle.std.specs.Prelude.{◌≡◌, ◌≢◌, true, ℕ, ◌+◌, ◌-◌, ◌<◌, ◌≤◌, List, [], ◌∷◌, ◌++◌}
use Rattle.kv_offload.specs.declared.kv.Found.{Found}
use Rattle.kv_offload.specs.declared.layout.TheConstants.{HEADS}
use Rattle.kv_offload.specs.Layout.{key_of, value_size, link_of, head_of}
use Rattle.kv_offload.specs.Links.{has, behind}
use Rattle.cl_types.specs.declared.limits.TheConstants.{VALUE_BYTES}

-- no record has the key
abbrev pub IsAbsent : ℕ → List ℕ → List ℕ → Type 0
IsAbsent records contents key = (slot : ℕ) → slot < records → key_of contents slot ≢ key

-- the last of the nodes, or the first where there are no others
abbrev pub last_of : ℕ → List ℕ → ℕ
last_of node [] = node
last_of node (x ∷ xs) = last_of x xs

-- the nodes that a walk of this chain has passed, and where it stands
pub record IsPassed (records : ℕ) (link : ℕ → ℕ) (head before : ℕ) (seen : List ℕ) : Type 0 where
  pub split : behind records link head ≡ seen ++ behind records link before
  pub last : last_of head seen ≡ before

-- a walk along the chain of a key stands before this node, and none that it has passed has the key
pub record IsWalked (records : ℕ) (contents key : List ℕ) (before node : ℕ) : Type 0 where
  pub leads : link_of contents before ≡ node
  pub before_in : before < HEADS + records
  pub seen : List ℕ
  pub passed : IsPassed records (link_of contents) (head_of key) before seen
  pub others : (slot : ℕ) → slot < records → has seen (HEADS + slot) ≡ true → key_of contents slot ≢ key

-- the record has the key, and stands in its chain behind these nodes
pub record IsFound (records : ℕ) (contents key : List ℕ) (found : Found) : Type 0 where
  pub above : HEADS ≤ found.node
  pub below : found.node < HEADS + records
  pub before_in : found.before < HEADS + records
  pub has_key : key_of contents (found.node - HEADS) ≡ key
  pub leads : link_of contents found.before ≡ found.node
  pub next : link_of contents found.node ≡ found.next
  pub next_below : found.next < 65536
  pub value_len : found.value_len ≡ value_size contents (found.node - HEADS)
  pub short : found.value_len ≤ VALUE_BYTES
  pub seen : List ℕ
  pub passed : IsPassed records (link_of contents) (head_of key) found.before seen
