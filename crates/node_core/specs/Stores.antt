-- What a node's page store and its offloads mean, and when they are sound. No public clause cites this module.
use Rattle.std.specs.Prelude.{ℕ, ◌+◌, ◌≡◌, ◌==◌, not, List, [], ◌∷◌, map, IfSome, slice_get}
use Rattle.std.specs.FinMap.Entries.{where_key}
use Rattle.cl_types.specs.declared.config.OffloadConfig.{OffloadConfig}
use Rattle.cl_types.specs.Config.{offload_pages}
use Rattle.cl_types.specs.Places.{place_cmp, space_no}
use Rattle.data_path.specs.declared.store.PageStore.{PageStore}
use Rattle.data_path.specs.Spaces.{contents_of}
use Rattle.data_path.specs.Store.{IsWhole, flat_of, memory_of}
use Rattle.flat_model.specs.Objects.{Object}
use Rattle.flat_model.specs.State.{FlatState}
use Rattle.offload_host.specs.Held.{HoldsObject, object_of}
use Rattle.page_pool.specs.PoolPages.{IsReady}

-- the objects of offload k and of those behind it, as the bytes of their spaces hold them
abbrev pub objects_from : (ℕ → List ℕ) → ℕ → List OffloadConfig → List Object
objects_from bytes k [] = []
objects_from bytes k (offload ∷ offloads) = object_of offload (bytes k) ∷ objects_from bytes (k + 1) offloads

-- the objects of a node's offloads in its store
abbrev pub objects_in : List OffloadConfig → PageStore → List Object
objects_in offloads s = objects_from (λ k. contents_of k s) 0 offloads

-- the flat state that a store means, in whose spaces the objects of these offloads lie
abbrev pub state_in : List OffloadConfig → PageStore → FlatState
state_in offloads s = flat_of (objects_in offloads s) (memory_of s)

-- the space of each offload holds an object of it
abbrev pub HoldObjects : List OffloadConfig → PageStore → Type 0
HoldObjects offloads s = (k : ℕ) → IfSome (slice_get offloads k) (λ offload. HoldsObject offload (contents_of k s))

-- the store is whole and ready, and each of the offloads has its pages there, which hold its object
pub record IsStore (s : PageStore) (offloads : List OffloadConfig) : Type 0 where
  pub whole : IsWhole s
  pub ready : IsReady s.pool
  pub spaces : s.spaces ≡ map offload_pages offloads
  pub objects : HoldObjects offloads s

-- the store and the offloads of a memory of so many pages
pub record FieldsFit (s : PageStore) (offloads : List OffloadConfig) (pages : ℕ) : Type 0 where
  pub store : IsStore s offloads
  pub count : s.pool.pages ≡ pages

-- the bytes of offload k's pages may change, and those of the free pages, and nothing else
pub record ChangesSpace (k : ℕ) (old new : PageStore) : Type 0 where
  pub spaces : new.spaces ≡ old.spaces
  pub table : new.table ≡ old.table
  pub cache : new.cache ≡ old.cache
  pub pool : new.pool ≡ old.pool
  pub others : where_key place_cmp (λ place. not (place.0 == space_no k)) (memory_of new).map
      ≡ where_key place_cmp (λ place. not (place.0 == space_no k)) (memory_of old).map
