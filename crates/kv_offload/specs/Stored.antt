-- What the bytes of a space hold as a key-value store.
use Rattle.std.specs.Prelude.{◌≡◌, ℕ, zero, suc, ◌+◌, ◌*◌, ◌<◌, ◌≤◌, ◌≢◌, List, [], ◌∷◌, take, length, Result, Ok, Err}
use Rattle.std.specs.FinMap.Entries.{put}
use Rattle.cl_types.specs.Config.{offload_pages}
use Rattle.cl_types.specs.declared.config.OffloadConfig.TheVariants.{Kv}
use Rattle.cl_types.specs.declared.limits.TheConstants.{PAGE_BYTES, VALUE_BYTES}
use Rattle.cl_types.specs.declared.reply.Refusal.{Refusal}
use Rattle.flat_model.specs.Objects.{Object, Pairs, Given, key_cmp}
use Rattle.flat_model.specs.Objects.Object.{KvObject}
use Rattle.kv_offload.specs.declared.layout.TheConstants.{MOST_RECORDS}
use Rattle.kv_offload.specs.Layout.{View, view_of, home_in, key_of, value_of}
use Rattle.kv_offload.specs.Links.{IsTied, behind}

-- the pairs with one more, where its key has a byte
abbrev pub with_pair : List ℕ → List ℕ → Pairs → Pairs
with_pair [] value pairs = pairs
with_pair (byte ∷ bytes) value pairs = put key_cmp (byte ∷ bytes) value pairs

-- the keys and values of so many slots, in the order of the keys
unfoldable pub pairs_of : (ℕ → List ℕ) → (ℕ → List ℕ) → ℕ → Pairs
pairs_of key value zero = []
pairs_of key value (suc slot) = with_pair (key slot) (value slot) (pairs_of key value slot)

-- the pairs that a store of so many records holds in these bytes
abbrev pub pairs_in : ℕ → List ℕ → Pairs
pairs_in records contents = pairs_of (key_of contents) (value_of contents) records

-- the object that a store of so many records is in these bytes
abbrev pub object_in : ℕ → List ℕ → Object
object_in records contents = KvObject records (pairs_in records contents)

-- the chains, sizes and count of a store of so many records fit each other
pub record IsSound (records : ℕ) (view : View) : Type 0 where
  pub sizes : (slot : ℕ) → slot < records → view.size slot ≤ VALUE_BYTES
  -- no two records have one key
  pub apart : (slot other : ℕ) → slot < records → other < records → view.key slot ≢ []
      → view.key slot ≡ view.key other → slot ≡ other
  pub tied : IsTied records view.link (home_in view) (behind records view.link)
  -- a slot is free or counted
  pub room : length (behind records view.link 0) + view.count ≡ records
  pub counted : view.count ≡ length (pairs_of view.key view.value records)

-- a store has so many records, and its pages are there
pub record HasPages (records : ℕ) (contents : List ℕ) : Type 0 where
  pub some : 1 ≤ records
  pub few : records ≤ MOST_RECORDS
  pub pages : offload_pages (Kv records) * PAGE_BYTES ≤ length contents

-- the bytes are a store of so many records, as `init` and each call leave it
pub record IsStore (records : ℕ) (contents : List ℕ) : Type 0 where
  pub pages : HasPages records contents
  pub sound : IsSound records (view_of contents)

-- what an operation gave: the answer and the object after it, or its refusal
abbrev pub given_by : {A : Type 0} → Result A Refusal → List ℕ → Object → Given
given_by (Ok done) answer object = Ok (answer, object)
given_by (Err refusal) answer object = Err refusal

-- the bytes that were answered, of those that were to take them
abbrev pub answered : Result ℕ Refusal → List ℕ → List ℕ
answered (Ok size) bytes = take size bytes
answered (Err refusal) bytes = []
