-- A request of a process on a store, and what it comes to of the flat state that contracts see.
use Rattle.std.proofs.Common.{◌≡◌, ℕ, true, false, List, IfSome, slice_get, sym, ap, ◌∙◌, subst}
use Rattle.cl_types.specs.declared.config.OffloadConfig.{OffloadConfig}
use Rattle.cl_types.specs.declared.request.Request.{Request}
use Rattle.cl_types.specs.Places.{is_process}
use Rattle.data_path.specs.declared.store.PageStore.{PageStore}
use Rattle.data_path.specs.Spaces.{contents_of}
use Rattle.data_path.specs.Store.{IsWhole, flat_of, memory_of}
use Rattle.flat_model.specs.State.{FlatState}
use Rattle.flat_model.specs.Step.{Transition, outcome}
use Rattle.page_pool.specs.PoolPages.{IsReady}
use Rattle.offload_host.specs.Held.{HoldsObject}
use Rattle.node_core.specs.Placed.{is_offload}
use Rattle.node_core.specs.Parted.{flat_outcome}
use Rattle.node_core.specs.Stores.{FieldsFit, IsStore, objects_in, state_in}
use Rattle.node_core.proofs.Leaving.{LeavesOffloads, contents_stay, process_leaves}
use Rattle.node_core.proofs.Memories.{memory_in_order, outcome_pages, process_outcome}
use Rattle.node_core.proofs.ObjectLists.{objects_same}

module _ (s : PageStore) (offloads : List OffloadConfig) (pid : ℕ) (r : Request) (process : is_process pid ≡ true) (pages : is_offload r ≡ false) where
  -- the outcome of the flat state is that of the memory
  pub outcome_seen : IsWhole s → outcome (state_in offloads s) pid r ≡ flat_outcome (objects_in offloads s) (outcome (memory_of s) pid r)
  outcome_seen whole = process_outcome (objects_in offloads s) (memory_of s) pid r (memory_in_order s whole) process pages

  module _ (t : PageStore) (spaces : t.spaces ≡ s.spaces) (memory : memory_of t ≡ (outcome (memory_of s) pid r).state) where
    leaves : LeavesOffloads (memory_of s) (memory_of t)
    leaves = subst (LeavesOffloads (memory_of s)) (sym memory) (process_leaves (memory_of s) pid r process pages)

    -- the objects stay
    objects_stay : objects_in offloads t ≡ objects_in offloads s
    objects_stay = objects_same (λ k. contents_of k s) (λ k. contents_of k t) 0 offloads (λ k above. contents_stay s t k spaces leaves)

    pub state_seen : IsWhole s → state_in offloads t ≡ (outcome (state_in offloads s) pid r).state
    state_seen whole = (λ i. flat_of (objects_stay i) (memory i)) ∙ sym (ap (λ (o : Transition). o.state) (outcome_seen whole))

    pub store_stays : IsStore s offloads → IsWhole t → IsReady t.pool → IsStore t offloads
    store_stays is whole ready = record {
      whole = whole;
      ready = ready;
      spaces = spaces ∙ is.spaces;
      objects = λ k. subst (λ bytes. IfSome (slice_get offloads k) (λ offload. HoldsObject offload bytes)) (sym (contents_stay s t k spaces leaves)) (is.objects k);
    }

    pub fields_stay : (n : ℕ) → FieldsFit s offloads n → IsWhole t → IsReady t.pool → FieldsFit t offloads n
    fields_stay n is whole ready = record {
      store = store_stays is.store whole ready;
      count = ap (λ (m : FlatState). m.pages) memory ∙ outcome_pages (memory_of s) pid r ∙ is.count;
    }
