-- What a store means at its opening.
use Rattle.std.specs.Prelude.{ℕ, ◌+◌, List, [], ◌∷◌, map, Some}
use Rattle.cl_types.specs.declared.call.Perm.TheVariants.{ReadWrite}
use Rattle.cl_types.specs.declared.config.NodeConfig.{NodeConfig}
use Rattle.cl_types.specs.declared.config.OffloadConfig.{OffloadConfig}
use Rattle.cl_types.specs.Bytes.{fresh_bytes}
use Rattle.cl_types.specs.Config.{offload_pages}
use Rattle.cl_types.specs.Places.{Place, space_no}
use Rattle.flat_model.specs.State.{FlatState, Page, held_from}

-- a page that may be read and written, and has a frame of zeros
abbrev pub zeroed_page : Page
zeroed_page = record { perm = ReadWrite; bytes = Some fresh_bytes }

-- how many pages offload k has, and those behind it, by the first page of each: all are one range
abbrev pub ranges_from : ℕ → List OffloadConfig → List (Place × ℕ)
ranges_from k [] = []
ranges_from k (offload ∷ offloads) = ((space_no k, 1), offload_pages offload) ∷ ranges_from (k + 1) offloads

-- the memory of a node at its opening: the pages of the offloads, and no other
abbrev pub opened_memory : NodeConfig → FlatState
opened_memory c = record {
  map = map (λ place. (place, zeroed_page)) (held_from 0 c.offloads);
  ranges = ranges_from 0 c.offloads;
  objects = [];
  held = [];
  pages = c.pages;
  buckets = c.buckets;
}
