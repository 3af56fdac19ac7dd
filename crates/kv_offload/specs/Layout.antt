-- Where a store keeps its links, its count and its records. No public clause cites this module.
use Rattle.std.specs.Prelude.{◌≡◌, ℕ, ◌+◌, ◌*◌, ◌-◌, ◌/◌, ◌%◌, ◌<◌, ◌==◌, List, [], ◌∷◌, ◌++◌, take, if◌then◌else◌, length, slice_index, nat_lt}
use Rattle.std.specs.Int.{from_be_bytes, to_be_bytes, w16}
use Rattle.cl_types.specs.Bytes.{bytes_at}
use Rattle.cl_types.specs.declared.limits.TheConstants.{PAGE_BYTES, VALUE_BYTES}
use Rattle.kv_offload.specs.declared.layout.TheConstants.{HEADS, KEY_AT, KEY_CHAINS, KEY_LEN_AT, PAGE_SLOTS, SLOT_BYTES, VALUE_AT, VALUE_LEN_AT}

-- where the slot of this number begins: each page but the first has the next slots, one behind the other
unfoldable pub slot_place : ℕ → ℕ
slot_place slot = PAGE_BYTES * (1 + slot / PAGE_SLOTS) + SLOT_BYTES * (slot % PAGE_SLOTS)

-- where the link of a node stands: those of the heads one after the other, that of a slot at its beginning
unfoldable pub link_place : ℕ → ℕ
link_place node = if nat_lt node HEADS then 2 * node else slot_place (node - HEADS)

-- the number of two bytes that stands at a place
abbrev pub number_at : ℕ → List ℕ → ℕ
number_at place contents = from_be_bytes w16 (bytes_at place 2 contents)

-- the front of a slot: its link, and the lengths of its key and its value
abbrev pub front_of : ℕ → ℕ → ℕ → List ℕ
front_of next key_len value_len = to_be_bytes w16 next ++ key_len ∷ to_be_bytes w16 value_len

-- the node behind this one in its chain, or 0 at the end
unfoldable pub link_of : List ℕ → ℕ → ℕ
link_of contents node = number_at (link_place node) contents

-- how many records the store holds, as it counts them
unfoldable pub count_of : List ℕ → ℕ
count_of contents = number_at (2 * HEADS) contents

-- the length of the key in a slot, or 0 in a free one
unfoldable pub key_size : List ℕ → ℕ → ℕ
key_size contents slot = slice_index (bytes_at (slot_place slot + KEY_LEN_AT) 1 contents) 0

-- the length of the value in a slot
unfoldable pub value_size : List ℕ → ℕ → ℕ
value_size contents slot = number_at (slot_place slot + VALUE_LEN_AT) contents

-- the key in a slot, as long as its length says, which is a byte; it has no bytes in a free one
unfoldable pub key_of : List ℕ → ℕ → List ℕ
key_of contents slot = take (key_size contents slot) (bytes_at (slot_place slot + KEY_AT) 255 contents)

-- the value in a slot
unfoldable pub value_of : List ℕ → ℕ → List ℕ
value_of contents slot = take (value_size contents slot) (bytes_at (slot_place slot + VALUE_AT) VALUE_BYTES contents)

-- what a store's bytes say of its nodes and slots
pub record View : Type 0 where
  pub link : ℕ → ℕ
  pub key : ℕ → List ℕ
  pub size : ℕ → ℕ
  pub value : ℕ → List ℕ
  pub count : ℕ

-- what these bytes say
abbrev pub view_of : List ℕ → View
view_of contents = record {
  link = link_of contents;
  key = key_of contents;
  size = value_size contents;
  value = value_of contents;
  count = count_of contents;
}

-- the bytes of a store of so many records say this
pub record Says (records : ℕ) (contents : List ℕ) (view : View) : Type 0 where
  pub link : (node : ℕ) → node < HEADS + records → link_of contents node ≡ view.link node
  pub key : (slot : ℕ) → slot < records → key_of contents slot ≡ view.key slot
  pub size : (slot : ℕ) → slot < records → value_size contents slot ≡ view.size slot
  pub value : (slot : ℕ) → slot < records → value_of contents slot ≡ view.value slot
  pub count : count_of contents ≡ view.count

-- a function with another value at one number
abbrev pub but_at : {A : Type 0} → (ℕ → A) → ℕ → A → ℕ → A
but_at f at there n = if n == at then there else f n

-- the same with another link behind a node
abbrev pub with_link : View → ℕ → ℕ → View
with_link view node to = record view { link = but_at view.link node to }

-- the same with this link, key and value in a slot
abbrev pub with_slot : View → ℕ → ℕ → List ℕ → List ℕ → View
with_slot view slot next key value = record {
  link = but_at view.link (HEADS + slot) next;
  key = but_at view.key slot key;
  size = but_at view.size slot (length value);
  value = but_at view.value slot value;
  count = view.count;
}

-- the same with another count
abbrev pub with_count : View → ℕ → View
with_count view count = record view { count = count }

-- the hash of a key with these bytes behind those that have this hash
abbrev pub hash_on : ℕ → List ℕ → ℕ
hash_on hash [] = hash
hash_on hash (byte ∷ bytes) = hash_on ((hash * 31 + byte) % KEY_CHAINS) bytes

-- the hash of a key, below 1,024
unfoldable pub hash_of : List ℕ → ℕ
hash_of key = hash_on 0 key

-- the head of the chain of a key, which has a byte; that of the free slots is 0
abbrev pub head_of : List ℕ → ℕ
head_of [] = 0
head_of (byte ∷ bytes) = 1 + hash_of (byte ∷ bytes)

-- the head of the chain in which a slot's node stands
abbrev pub home_in : View → ℕ → ℕ
home_in view node = head_of (view.key (node - HEADS))

-- the node behind that of a slot while all slots are free
abbrev pub next_free : ℕ → ℕ → ℕ
next_free records slot = if nat_lt (slot + 1) records then HEADS + (slot + 1) else 0
