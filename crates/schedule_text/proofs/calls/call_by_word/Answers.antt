use Rattle.schedule_text.proofs.calls.call_by_word.Goals as goal

pub returns-in-Read : goal.returns-in-Read
returns-in-Read c = rw c.in-Read.is c.read_call.ensures

pub returns-in-Lock : goal.returns-in-Lock
returns-in-Lock c = rw c.in-Lock.is c.lock_call.ensures

pub returns-in-Unlock : goal.returns-in-Unlock
returns-in-Unlock c = rw c.in-Unlock.is c.unlock_call.ensures

pub returns-in-Add : goal.returns-in-Add
returns-in-Add c = rw c.in-Add.is c.add_call.ensures

pub returns-in-Cas : goal.returns-in-Cas
returns-in-Cas c = rw c.in-Cas.is c.cas_call.ensures

pub returns-in-Alloc : goal.returns-in-Alloc
returns-in-Alloc c = rw c.in-Alloc.is c.alloc_call.ensures

pub returns-in-Free : goal.returns-in-Free
returns-in-Free c = rw c.in-Free.is c.free_call.ensures

pub returns-in-Write : goal.returns-in-Write
returns-in-Write c = rw c.in-Write.is c.write_call.ensures

pub returns-in-Offload : goal.returns-in-Offload
returns-in-Offload c = rw c.in-Offload.is c.offload_call.ensures

pub returns-in-Fence : goal.returns-in-Fence
returns-in-Fence c = rw c.in-Fence.is c.fence_call.ensures
