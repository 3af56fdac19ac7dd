-- The address is the start of a range.
use Rattle.data_path.specs.Store.{memory_of}
use Rattle.node_core.proofs.Memories.{alloc_start, some_pages}
use Rattle.node_core.proofs.pages.alloc_placed.Goals as goal

pub returns-in-Ok-clause-fits : goal.returns-in-Ok-clause-fits
returns-in-Ok-clause-fits c =
    alloc_start (memory_of c.args.store.now) c.number.result c.args.pages c.args.perm c.in-Ok.addr (some_pages c.args.pages c.requires.pages) c.in-Ok.ensures.reply
