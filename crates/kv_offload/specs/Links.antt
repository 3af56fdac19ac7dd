-- How the links of a store spell its chains. No public clause cites this module.
use Rattle.std.specs.Prelude.{◌≡◌, ℕ, zero, suc, ◌+◌, ◌<◌, ◌≤◌, ◌==◌, ◌||◌, Bool, true, false, List, [], ◌∷◌, if◌then◌else◌}
use Rattle.kv_offload.specs.declared.layout.TheConstants.{HEADS}

-- whether the number is in the list
abbrev pub has : List ℕ → ℕ → Bool
has [] n = false
has (x ∷ xs) n = (n == x) || has xs n

-- from a node on the links lead through these nodes, and end
abbrev pub IsLinked : (ℕ → ℕ) → ℕ → List ℕ → Type 0
IsLinked link node [] = link node ≡ 0
IsLinked link node (x ∷ xs) = (link node ≡ x) × (0 < x) × IsLinked link x xs

-- the nodes behind one along the links, and at most so many
abbrev pub chain : ℕ → (ℕ → ℕ) → ℕ → List ℕ
chain zero link node = []
chain (suc fuel) link node = if link node == 0 then [] else link node ∷ chain fuel link (link node)

-- the nodes behind one along the links of a store of so many records
unfoldable pub behind : ℕ → (ℕ → ℕ) → ℕ → List ℕ
behind records link node = chain (HEADS + records) link node

-- a slot's node, whose home is this head
pub record IsAtHome (records : ℕ) (home : ℕ → ℕ) (head node : ℕ) : Type 0 where
  pub above : HEADS ≤ node
  pub below : node < HEADS + records
  pub at_home : home node ≡ head

-- the links spell a chain for each head, and each slot's node is in that of its home
pub record IsTied (records : ℕ) (link home : ℕ → ℕ) (at : ℕ → List ℕ) : Type 0 where
  pub linked : (head : ℕ) → head < HEADS → IsLinked link head (at head)
  pub member : (head node : ℕ) → head < HEADS → has (at head) node ≡ true → IsAtHome records home head node
  pub held : (node : ℕ) → HEADS ≤ node → node < HEADS + records → has (at (home node)) node ≡ true
