-- What a contract sees of a `PageArena`: its pages, each the list of its bytes.
use Rattle.std.specs.Prelude.{ℕ, List, [], replicate, slice_index_or}

-- a page whose bytes are all zero
unfoldable pub zero_page : List ℕ
zero_page = replicate 4096 0

-- the bytes of a page
abbrev pub page_at : List (List ℕ) → ℕ → List ℕ
page_at pages i = slice_index_or pages i []
