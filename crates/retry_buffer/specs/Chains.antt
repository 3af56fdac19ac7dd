-- The chains in which names are looked for. No public clause cites this module.
use Rattle.std.specs.Prelude.{ℕ, ◌+◌, ◌*◌, ◌/◌, ◌%◌, ◌^◌}
use Rattle.cl_types.specs.Kinds.{kind_number}
use Rattle.node_model.specs.Nodes.{Name}
use Rattle.retry_buffer.specs.declared.chain.TheConstants.{NEIGHBOURS, SENDER, STEP}

-- the hash of whoever sends requests of one kind, of 64 bits
abbrev pub sender_hash : Name → ℕ
sender_hash name = (name.client.0 * 8 + kind_number name.kind) * SENDER % 2 ^ 64

-- the hash of a name, the same for ids that stand side by side, of 32 bits
abbrev pub hash_of : Name → ℕ
hash_of name = (name.orig / NEIGHBOURS * STEP % 2 ^ 64 + sender_hash name) % 2 ^ 64 / 2 ^ 32

-- the chain of a name, for so many records
unfoldable pub chain_of : ℕ → Name → ℕ
chain_of capacity name = hash_of name * capacity / 2 ^ 32 + name.orig % NEIGHBOURS
