-- What the rows of an order stand for. No public clause cites this module.
use Rattle.std.specs.Prelude.{ℕ, ◌-◌, List}
use Rattle.std.specs.List.{range_with_len}
use Rattle.client_model.specs.Order.{Footprint}
use Rattle.dep_order.specs.declared.row.Pages.{Pages}
use Rattle.dep_order.specs.declared.row.WaitRow.{WaitRow}

-- the pages, one by one
abbrev pub pages_of : Pages → List ℕ
pages_of pages = range_with_len pages.from (pages.end - pages.from)

-- the call's number, and what its order rests on
abbrev pub print_of : WaitRow → ℕ × Footprint
print_of row = (row.no.0, record { pages = pages_of row.pages; reads = row.reads; fence = row.fence; offload = row.offload })
