-- The objects that run at the node, and their steps.
use Rattle.std.specs.Prelude.{ℕ, ◌+◌, ◌==◌, Bool, false, ◌&&◌, not, leb, List, [], ◌∷◌, length, take, drop, if◌then◌else◌, Option, Some, None, Result, Ok, Err, is_some}
use Rattle.std.specs.declared.cmp.Ordering.{Ordering}
use Rattle.std.specs.Ordering.{nat_cmp, eq_by_cmp}
use Rattle.std.specs.Cmp.Lexicographic.{slice_cmp}
use Rattle.std.specs.FinMap.Entries.{find, put, where_key}
use Rattle.std.specs.Int.{to_be_bytes, w32}
use Rattle.cl_types.specs.declared.config.OffloadConfig.{OffloadConfig}
use Rattle.cl_types.specs.declared.config.OffloadConfig.TheVariants.{Kv}
use Rattle.cl_types.specs.declared.reply.Refusal.{Refusal}
use Rattle.cl_types.specs.declared.reply.Refusal.TheVariants.{ObjectFull, NoKey, BadOp}
use Rattle.cl_types.specs.declared.limits.TheConstants.{KEY_BYTES, VALUE_BYTES}

-- the keys of a key-value store with their values, in the order of the keys
abbrev pub Pairs : Type 0
Pairs = List (List ℕ × List ℕ)

-- an object: what it may hold, and what it holds
pub data Object : Type 0 where
  KvObject : (records : ℕ) → (pairs : Pairs) → Object

-- the object of an offload as it is at the opening: it holds nothing
abbrev pub empty_object : OffloadConfig → Object
empty_object (Kv records) = KvObject records []

-- what an operation gives: the answer and the object after it, or a refusal
abbrev pub Given : Type 0
Given = Result (List ℕ × Object) Refusal

-- keys are in order byte by byte, and a key stands before the longer ones that it begins
abbrev pub key_cmp : List ℕ → List ℕ → Ordering
key_cmp = slice_cmp nat_cmp

-- the first byte is the length of the key, of 1 to `KEY_BYTES` bytes, and at most so many bytes stand behind the key
abbrev pub is_keyed : ℕ → List ℕ → Bool
is_keyed most [] = false
is_keyed most (n ∷ bytes) = leb 1 n && leb n KEY_BYTES && leb n (length bytes) && leb (length bytes) (n + most)

-- the key in an operation's bytes, as long as their first byte says
abbrev pub key_in : List ℕ → List ℕ
key_in [] = []
key_in (n ∷ bytes) = take n bytes

-- the bytes behind the key in an operation's bytes
abbrev pub value_in : List ℕ → List ℕ
value_in [] = []
value_in (n ∷ bytes) = drop n bytes

-- a new key is refused where as many keys are held as may be; a key that is there gets the new value
abbrev pub kv_put : ℕ → Pairs → List ℕ → List ℕ → Given
kv_put records pairs key value =
    if not (is_some (find key_cmp key pairs)) && leb records (length pairs) then Err ObjectFull
    else Ok ([], KvObject records (put key_cmp key value pairs))

-- a get answers the value that was found and changes nothing; a key that isn't there is refused
abbrev pub kv_get : ℕ → Pairs → Option (List ℕ) → Given
kv_get records pairs None = Err NoKey
kv_get records pairs (Some value) = Ok (value, KvObject records pairs)

-- a delete takes the key out with its value; a key that isn't there is refused
abbrev pub kv_delete : ℕ → Pairs → List ℕ → Given
kv_delete records pairs key =
    if is_some (find key_cmp key pairs)
    then Ok ([], KvObject records (where_key key_cmp (λ other. not (eq_by_cmp key_cmp key other)) pairs))
    else Err NoKey

-- 1 puts, 2 gets, 3 deletes and 4 counts; nothing else is an operation, and each needs bytes of its form
abbrev pub kv_step : ℕ → Pairs → ℕ → List ℕ → Given
kv_step records pairs op bytes =
    if op == 1 && is_keyed VALUE_BYTES bytes then kv_put records pairs (key_in bytes) (value_in bytes)
    else if op == 2 && is_keyed 0 bytes then kv_get records pairs (find key_cmp (key_in bytes) pairs)
    else if op == 3 && is_keyed 0 bytes then kv_delete records pairs (key_in bytes)
    else if op == 4 && length bytes == 0 then Ok (to_be_bytes w32 (length pairs), KvObject records pairs)
    else Err BadOp

-- what an operation with these bytes gives, by the kind of the object
abbrev pub object_step : Object → ℕ → List ℕ → Given
object_step (KvObject records pairs) op bytes = kv_step records pairs op bytes
