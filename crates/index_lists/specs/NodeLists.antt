-- What a contract sees of a `Lists`.
use Rattle.std.specs.Prelude.{◌≡◌, ℕ, ◌<◌, ◌==◌, nat_eq, ◌||◌, Bool, false, List, [], ◌∷◌, Option, None, if◌then◌else◌, IsTrue, length, slice_get, slice_index_or, slice_set}
use Rattle.std.specs.List.{IsDistinct}

-- how many nodes there are, and the lists of node numbers
pub record NodeLists : Type 0 where
  pub nodes : ℕ
  pub lists : List (List ℕ)

-- whether the number is in the list
abbrev pub has : List ℕ → ℕ → Bool
has [] n = false
has (x ∷ xs) n = (n == x) || has xs n

-- the list of this number
abbrev pub list_at : NodeLists → ℕ → List ℕ
list_at s list = slice_index_or s.lists list []

-- the node is in this list
abbrev pub IsIn : NodeLists → ℕ → ℕ → Type 0
IsIn s list node = IsTrue (has (list_at s list) node)

-- the node is in no list
abbrev pub IsFree : NodeLists → ℕ → Type 0
IsFree s node = (list : ℕ) → has (list_at s list) node ≡ false

-- the node is in some list
abbrev pub IsHeld : NodeLists → ℕ → Type 0
IsHeld s node = (list : ℕ) × IsIn s list node

-- the numbers in the lists are those of nodes, and no two are equal
pub record IsValid (s : NodeLists) : Type 0 where
  pub in_range : (list node : ℕ) → IsIn s list node → (list < length s.lists) × (node < s.nodes)
  -- a node is in one list at most
  pub apart : (list other node : ℕ) → IsIn s list node → IsIn s other node → list ≡ other
  -- and there once
  pub distinct : (list : ℕ) → IsDistinct nat_eq (list_at s list)

-- the same with these nodes in place of this list
abbrev pub with_list : NodeLists → ℕ → List ℕ → NodeLists
with_list s list nodes = record s { lists = slice_set s.lists list nodes }

-- the list without the number
abbrev pub without : ℕ → List ℕ → List ℕ
without n [] = []
without n (x ∷ xs) = if n == x then without n xs else x ∷ without n xs

-- the list with n right behind y
abbrev pub put_after : ℕ → ℕ → List ℕ → List ℕ
put_after y n [] = []
put_after y n (x ∷ xs) = if y == x then x ∷ n ∷ put_after y n xs else x ∷ put_after y n xs

-- the number that stands right behind n
abbrev pub after : ℕ → List ℕ → Option ℕ
after n [] = None
after n (x ∷ xs) = if n == x then slice_get xs 0 else after n xs
