-- What an operation asks of a key-value store. No public clause cites this module.
use Rattle.std.specs.Prelude.{ℕ, ◌≤◌, List, length, Option, Some, None, Ok, Err}
use Rattle.std.specs.FinMap.Entries.{find}
use Rattle.std.specs.Int.{to_be_bytes, w32}
use Rattle.cl_types.specs.declared.reply.Refusal.TheVariants.{BadOp}
use Rattle.flat_model.specs.Objects.{Given, KvObject, Pairs, key_cmp, kv_delete, kv_get, kv_put}
use Rattle.offload_host.specs.declared.operation.Operation.{Operation}
use Rattle.offload_host.specs.declared.operation.Operation.TheVariants.{Put, Get, Delete, Count}
use Rattle.cl_types.specs.declared.limits.TheConstants.{KEY_BYTES, VALUE_BYTES}

-- what an operation gives of a store of so many records with these pairs
abbrev pub given_of : Operation → ℕ → Pairs → Given
given_of (Put key value) records pairs = kv_put records pairs key.now value.now
given_of (Get key) records pairs = kv_get records pairs (find key_cmp key.now pairs)
given_of (Delete key) records pairs = kv_delete records pairs key.now
given_of Count records pairs = Ok (to_be_bytes w32 (length pairs), KvObject records pairs)

-- what an operation gives, where one was read; where none was, it is refused as bad
abbrev pub given_if : Option Operation → ℕ → Pairs → Given
given_if None records pairs = Err BadOp
given_if (Some operation) records pairs = given_of operation records pairs

-- a key has at least a byte, and no more than a store takes
abbrev pub IsKey : List ℕ → Type 0
IsKey key = (1 ≤ length key) × (length key ≤ KEY_BYTES)

-- the keys and the value of an operation have lengths that a store takes
abbrev pub HasLengths : Operation → Type 0
HasLengths (Put key value) = (1 ≤ length key.now) × (length key.now ≤ KEY_BYTES) × (length value.now ≤ VALUE_BYTES)
HasLengths (Get key) = IsKey key.now
HasLengths (Delete key) = IsKey key.now
HasLengths Count = Unit {0}
