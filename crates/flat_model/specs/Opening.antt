-- Which configurations open.
use Rattle.std.specs.Prelude.{ℕ, ◌+◌, Bool, ◌&&◌, not, leb, List, length, take, Option, Some, None, option_map, find, slice_get}
use Rattle.std.specs.List.{list_all, range_with_len}
use Rattle.cl_types.specs.declared.limits.TheConstants.{BUCKET_PAGES}
use Rattle.cl_types.specs.Config.{bad_number_of, offload_pages}
use Rattle.cl_types.specs.Places.{Place, homes_at}
use Rattle.cl_types.specs.declared.config.Field.{Field}
use Rattle.cl_types.specs.declared.config.NodeConfig.{NodeConfig}
use Rattle.cl_types.specs.declared.config.OffloadConfig.{OffloadConfig}
use Rattle.cl_types.specs.declared.open_fault.OpenFault.{OpenFault}
use Rattle.cl_types.specs.declared.open_fault.OpenFault.TheVariants.{BadConfig, NoRoom}
use Rattle.flat_model.specs.State.{held_from}

-- the pages of the first k offloads
abbrev pub held_by : NodeConfig → ℕ → List Place
held_by c k = held_from 0 (take k c.offloads)

-- so many pages go into the node, at most four to a bucket
abbrev pub has_room : NodeConfig → List Place → Bool
has_room c held =
    leb (length held) c.pages && list_all (λ home. leb (homes_at c.buckets home held) BUCKET_PAGES) (range_with_len 0 c.buckets)

-- the first offload with which there is no room
abbrev pub first_without_room : NodeConfig → Option ℕ
first_without_room c = find (λ k. not (has_room c (held_by c (k + 1)))) (range_with_len 0 (length c.offloads))

-- how many pages the offload of number k takes, 0 where there is none
abbrev pub pages_at : List OffloadConfig → ℕ → ℕ
pages_at offloads k = elim (slice_get offloads k) [ None ↦ 0 | Some offload ↦ offload_pages offload ]

-- the first offload without room, with the pages that it takes, as the fault of an opening
abbrev pub room_fault : NodeConfig → Option OpenFault
room_fault c = option_map (λ k. NoRoom k (pages_at c.offloads k)) (first_without_room c)

-- the bad number where there is one, and else this fault
abbrev pub if_none_bad : Option (Field × ℕ) → Option OpenFault → Option OpenFault
if_none_bad (Some number) fault = Some (BadConfig number.0 number.1)
if_none_bad None fault = fault

-- why a configuration doesn't open: its first bad number, and else the first offload without room
abbrev pub open_fault : NodeConfig → Option OpenFault
open_fault c = if_none_bad (bad_number_of c) (room_fault c)
