-- What the holder of the address of a client owns.
use base.Fml.{Fml}
use denote.RawPtr.{Ptr}
use Rattle.std_heap.specs.contracts.GlobalAllocator.TheImpl.{ghosts}
use Rattle.std_heap.specs.declared.Global.{Global}
use Rattle.std_alloc.specs.Box.Ownership.{box_owns}
use Rattle.client_model.specs.Client.{ClientState}
use Rattle.client_core.specs.contracts.client.Client.{the_row}

-- the client at the address, and the right to free its block
abbrev pub keeps : Global → Ptr → ClientState → Fml
keeps alloc p state = box_owns (ghosts.dealloc_token alloc) the_row p state
