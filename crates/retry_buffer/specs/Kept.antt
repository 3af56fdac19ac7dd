-- What a contract sees of a `Retry`.
use Rattle.std.specs.Prelude.{◌≡◌, ℕ, ◌≤◌, ⊤, List, [], ◌∷◌, ◌++◌, length, find, Option, None, option_map}
use Rattle.std.specs.List.{AllByRecursion}
use Rattle.node_model.specs.Handling.{Executes, latest, oldest_of, on_oldest}
use Rattle.node_model.specs.Nodes.{Name, same_name}
use Rattle.retry_buffer.specs.declared.noted.Noted.{Noted}

-- the records, and how many there may be
pub record Kept : Type 0 where
  pub capacity : ℕ
  -- oldest first
  pub records : List Noted

-- the name of the request whose reply was noted
abbrev pub name_of : Noted → Name
name_of r = record { client = r.client; kind = r.kind; orig = r.orig }

-- the record of this name, where one is kept
abbrev pub noted_as : Name → List Noted → Option Noted
noted_as name records = find (λ r. same_name name (name_of r)) records

-- the moment of the oldest record, where there may be no further one
abbrev pub oldest_moment : Kept → Option ℕ
oldest_moment kept = option_map (λ r. r.moment) (oldest_of kept.capacity kept.records)

-- a further record may be noted at this moment: there are fewer than there may be, or the oldest is no longer young
abbrev pub HasRoom : Kept → ℕ → Type 0
HasRoom kept now = on_oldest now (oldest_moment kept) ≡ Executes

-- the records after a further one was noted: the latest, as many as there may be
abbrev pub with_noted : Noted → Kept → Kept
with_noted r kept = record kept { records = latest kept.capacity (kept.records ++ r ∷ []) }

-- all were noted at this moment or before
abbrev pub AreNotedBy : ℕ → List Noted → Type 0
AreNotedBy now records = AllByRecursion (λ r. r.moment ≤ now) records

-- their moments never fall
abbrev pub AreInOrder : List Noted → Type 0
AreInOrder [] = ⊤
AreInOrder (r ∷ rs) = AllByRecursion (λ later. r.moment ≤ later.moment) rs × AreInOrder rs

-- no two have one name
abbrev pub AreApart : List Noted → Type 0
AreApart [] = ⊤
AreApart (r ∷ rs) = (noted_as (name_of r) rs ≡ None) × AreApart rs

-- what always holds of the records
pub record IsValid (kept : Kept) : Type 0 where
  pub few : length kept.records ≤ kept.capacity
  pub in_order : AreInOrder kept.records
  pub apart : AreApart kept.records
