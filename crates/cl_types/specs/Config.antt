-- The ranges of a node's numbers, in the order in which they are judged, and the pages of its offloads.
use Rattle.std.specs.Prelude.{ℕ, ◌+◌, ◌/◌, Bool, ◌&&◌, leb, List, [], ◌∷◌, ◌++◌, length, Option, Some, None, if◌then◌else◌}
use Rattle.cl_types.specs.declared.config.Field.{Field}
use Rattle.cl_types.specs.declared.config.Field.TheVariants as field
use Rattle.cl_types.specs.declared.config.NodeConfig.{NodeConfig}
use Rattle.cl_types.specs.declared.config.OffloadConfig.{OffloadConfig}
use Rattle.cl_types.specs.declared.config.OffloadConfig.TheVariants.{Kv}
use Rattle.cl_types.specs.Places.{is_bucket_count}

-- the number is in this range, both ends counted
abbrev pub is_within : ℕ → ℕ → ℕ → Bool
is_within low high n = leb low n && leb n high

-- a number of a configuration: its name, its value, and whether it is in its range
abbrev pub Judged : Type 0
Judged = Field × ℕ × Bool

-- an object's numbers
abbrev pub judged_offload : OffloadConfig → List Judged
judged_offload (Kv records) = (field.Records, records, is_within 1 4096 records) ∷ []

-- all objects' numbers, in the order of the offloads
abbrev pub judged_offloads : List OffloadConfig → List Judged
judged_offloads [] = []
judged_offloads (offload ∷ offloads) = judged_offload offload ++ judged_offloads offloads

-- all numbers, in the order in which they are judged
abbrev pub judged : NodeConfig → List Judged
judged c =
    (field.Pages, c.pages, is_within 1 65536 c.pages)
    ∷ (field.Buckets, c.buckets, is_bucket_count c.buckets)
    ∷ (field.Ring, c.ring, is_within 1 1024 c.ring)
    ∷ (field.Retry, c.retry, is_within 1 65536 c.retry)
    ∷ (field.Offloads, length c.offloads, is_within 0 16 (length c.offloads))
    ∷ judged_offloads c.offloads

-- the first of these numbers that isn't in its range
abbrev pub first_bad : List Judged → Option (Field × ℕ)
first_bad [] = None
first_bad (number ∷ numbers) = if number.2 then first_bad numbers else Some (number.0, number.1)

-- the first number of a node that is out of its range, by name and value
abbrev pub bad_number_of : NodeConfig → Option (Field × ℕ)
bad_number_of c = first_bad (judged c)

-- how many pages an offload takes: a store of records has one, and one for each 13 records or fewer
abbrev pub offload_pages : OffloadConfig → ℕ
offload_pages (Kv records) = 1 + (records + 12) / 13
