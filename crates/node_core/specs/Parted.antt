-- A node's memory, whose pages are those of the processes and those of the offloads.
use Rattle.std.specs.Prelude.{◌≡◌, List, [], Some, IsTrue, is_some, false}
use Rattle.std.specs.FinMap.Entries.{find, is_sorted}
use Rattle.cl_types.specs.Places.{Place, place_cmp, is_process}
use Rattle.data_path.specs.Store.{flat_of}
use Rattle.flat_model.specs.Objects.{Object}
use Rattle.flat_model.specs.State.{FlatState, Page}
use Rattle.flat_model.specs.Step.{Transition}

-- what comes of a request, with the state after it as that of the node
abbrev pub flat_outcome : List Object → Transition → Transition
flat_outcome objects o = record { reply = o.reply; state = flat_of objects o.state }

-- a memory in order, in which the pages of the offloads have bytes
pub record IsMemory (memory : FlatState) : Type 0 where
  pub mapped : IsTrue (is_sorted place_cmp memory.map)
  pub allocated : IsTrue (is_sorted place_cmp memory.ranges)
  pub none_held : memory.held ≡ []
  pub filled : (place : Place) (page : Page) → is_process place.0 ≡ false → find place_cmp place memory.map ≡ Some page → IsTrue (is_some page.bytes)
