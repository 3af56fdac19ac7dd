-- The spaces of the offloads are made to hold their objects, one after the other.
use Rattle.std.proofs.Common.{◌≡◌, ◌≢◌, ℕ, zero, suc, ◌+◌, ◌*◌, ◌<◌, ◌≤◌, ◌==◌, nat_lt, true, inl, inr, List, [], ◌∷◌, map, length, get_or, IfSome, slice_get, refl, sym, ap, ◌∙◌, subst, arith}
use Rattle.std.proofs.lemmas.Bool.{cases_Bool}
use Rattle.std.proofs.lemmas.Bool.Decides.{nat_tests}
use Rattle.std.proofs.lemmas.List.{length-map}
use Rattle.std.proofs.lemmas.Option.{slice_get_past}
use Rattle.cl_types.specs.declared.config.OffloadConfig.{OffloadConfig}
use Rattle.cl_types.specs.Config.{offload_pages}
use Rattle.data_path.specs.declared.store.PageStore.{PageStore}
use Rattle.data_path.specs.Spaces.{contents_of, page_count}
use Rattle.data_path.specs.Store.{IsWhole, flat_of, memory_of}
use Rattle.data_path.proofs.Offloads.{length-contents}
use Rattle.flat_model.specs.Objects.{Object, empty_object}
use Rattle.flat_model.specs.Opening.{pages_at}
use Rattle.flat_model.specs.State.{FlatState}
use Rattle.offload_host.specs.Held.{HoldsEmpty, HoldsObject}
use Rattle.page_pool.specs.PoolPages.{PoolPages, IsReady}
use Rattle.node_core.specs.Stores.{ChangesSpace, IsStore, objects_in, state_in}
use Rattle.node_core.proofs.Beside.{contents_elsewhere, flat_elsewhere}
use Rattle.node_core.proofs.ObjectLists.{objects_empty}

-- the space holds an object of the offload of this number, where there is one, and it is as at the opening
abbrev pub HoldsOne : List OffloadConfig → PageStore → ℕ → Type 0
HoldsOne offloads s k = IfSome (slice_get offloads k) (λ offload. HoldsObject offload (contents_of k s))

abbrev pub HoldsFirst : List OffloadConfig → PageStore → ℕ → Type 0
HoldsFirst offloads s k = IfSome (slice_get offloads k) (λ offload. HoldsEmpty offload (contents_of k s))

-- of the offloads of an old store the first n have their objects
pub record IsBegun (old now : PageStore) (offloads : List OffloadConfig) (n : ℕ) : Type 0 where
  pub whole : IsWhole now
  pub ready : IsReady now.pool
  pub spaces : now.spaces ≡ map offload_pages offloads
  pub objects : (k : ℕ) → k < n → HoldsOne offloads now k
  pub empty : (k : ℕ) → k < n → HoldsFirst offloads now k
  pub rest : (objects : List Object) → flat_of objects (memory_of now) ≡ flat_of objects (memory_of old)
  pub pages : now.pool.pages ≡ old.pool.pages
  pub cache : now.cache ≡ old.cache

pub none_begun : (s : PageStore) (offloads : List OffloadConfig) → IsWhole s → IsReady s.pool → s.spaces ≡ map offload_pages offloads → IsBegun s s offloads 0
none_begun s offloads whole ready spaces = record {
  whole = whole;
  ready = ready;
  spaces = spaces;
  objects = λ k below. absurd (omega (arith, below));
  empty = λ k below. absurd (omega (arith, below));
  rest = λ objects. refl;
  pages = refl;
  cache = refl;
}

-- a space that is left keeps what holds of its bytes
kept : (offloads : List OffloadConfig) (s t : PageStore) (P : OffloadConfig → List ℕ → Type 0) (k n : ℕ) → ChangesSpace n s t → k ≢ n
    → IfSome (slice_get offloads k) (λ offload. P offload (contents_of k s)) → IfSome (slice_get offloads k) (λ offload. P offload (contents_of k t))
kept offloads s t P k n beside other =
    subst (λ bytes. IfSome (slice_get offloads k) (λ offload. P offload bytes)) (sym (contents_elsewhere n s t beside k other))

-- one space more
each_below : (P Q : ℕ → Type 0) (n : ℕ) → ((k : ℕ) → k < n → P k) → ((k : ℕ) → k ≢ n → P k → Q k) → Q n → (k : ℕ) → k < n + 1 → Q k
each_below P Q n before stays here k below = elim (cases_Bool (k == n)) [
  | inl one ↦ (let same : n ≡ k = grind (arith, nat_tests) in subst Q same here)
  | inr two ↦ (let other : k ≢ n = λ is. let wrong : (k == n) ≡ true = grind (arith, nat_tests) in cc in
      let less : k < n = let apart = other in grind (arith, nat_tests) in stays k other (before k less))
]

pub next_begun : (old s t : PageStore) (offloads : List OffloadConfig) (n : ℕ) → IsBegun old s offloads n → ChangesSpace n s t → IsWhole t → IsReady t.pool
    → HoldsOne offloads t n → HoldsFirst offloads t n → IsBegun old t offloads (n + 1)
next_begun old s t offloads n is beside whole ready object empty = record {
  whole = whole;
  ready = ready;
  spaces = beside.spaces ∙ is.spaces;
  objects = each_below (HoldsOne offloads s) (HoldsOne offloads t) n is.objects (λ k. kept offloads s t HoldsObject k n beside) object;
  empty = each_below (HoldsFirst offloads s) (HoldsFirst offloads t) n is.empty (λ k. kept offloads s t HoldsEmpty k n beside) empty;
  rest = λ objects. flat_elsewhere n s t beside objects ∙ is.rest objects;
  pages = ap (λ (pool : PoolPages). pool.pages) beside.pool ∙ is.pages;
  cache = beside.cache ∙ is.cache;
}

-- what holds of each offload there is holds of each number
each_all : (offloads : List OffloadConfig) (P : ℕ → OffloadConfig → Type 0) (n : ℕ) → length offloads ≤ n
    → ((k : ℕ) → k < n → IfSome (slice_get offloads k) (P k)) → (k : ℕ) → IfSome (slice_get offloads k) (P k)
each_all offloads P n all each k = elim (cases_Bool (nat_lt k n)) [
  | inl below ↦ each k (grind (arith, nat_tests))
  | inr past ↦ (let behind : length offloads ≤ k = grind (arith, nat_tests) in subst (λ o. IfSome o (P k)) (sym (slice_get_past offloads k behind)) tt)
]

pub all_begun : (old s : PageStore) (offloads : List OffloadConfig) (n : ℕ) → IsBegun old s offloads n → length offloads ≤ n → IsStore s offloads
all_begun old s offloads n is all = record {
  whole = is.whole;
  ready = is.ready;
  spaces = is.spaces;
  objects = each_all offloads (λ k offload. HoldsObject offload (contents_of k s)) n all is.objects;
}

pub all_empty : (old s : PageStore) (offloads : List OffloadConfig) (n : ℕ) → IsBegun old s offloads n → length offloads ≤ n → (k : ℕ) → HoldsFirst offloads s k
all_empty old s offloads n is all = each_all offloads (λ k offload. HoldsEmpty offload (contents_of k s)) n all is.empty

-- ---- the opening
pub objects_begun : (s : PageStore) (offloads : List OffloadConfig) → ((k : ℕ) → HoldsFirst offloads s k) → objects_in offloads s ≡ map empty_object offloads
objects_begun s offloads empty = objects_empty (λ k. contents_of k s) 0 offloads (λ n. let first : n ≡ 0 + n = omega arith in
    subst (λ m. IfSome (slice_get offloads n) (λ offload. HoldsEmpty offload (contents_of m s))) first (empty n))

-- a store that means the opening means it also with the objects in its spaces
pub opening_begun : (s t : PageStore) (offloads : List OffloadConfig) (opened : FlatState) → flat_of (map empty_object offloads) (memory_of s) ≡ opened
    → ((objects : List Object) → flat_of objects (memory_of t) ≡ flat_of objects (memory_of s)) → ((k : ℕ) → HoldsFirst offloads t k) → state_in offloads t ≡ opened
opening_begun s t offloads opened is rest empty =
    ap (λ os. flat_of os (memory_of t)) (objects_begun t offloads empty) ∙ rest (map empty_object offloads) ∙ is

-- ---- one space
-- the pages of an offload, by the spaces of the store
pages_of_space : (offloads : List OffloadConfig) (k : ℕ) → get_or (map offload_pages offloads) k 0 ≡ pages_at offloads k
pages_of_space [] k = refl
pages_of_space (offload ∷ offloads) zero = refl
pages_of_space (offload ∷ offloads) (suc k) = pages_of_space offloads k

pub space_there : (s : PageStore) (offloads : List OffloadConfig) (k : ℕ) → s.spaces ≡ map offload_pages offloads → k < length offloads → k < length s.spaces
space_there s offloads k spaces below = omega (arith, below, ap length spaces, length-map offloads offload_pages)

-- has the pages of its object
pub space_has_pages : (s : PageStore) (offloads : List OffloadConfig) (k : ℕ) → s.spaces ≡ map offload_pages offloads → pages_at offloads k * 4096 ≤ length (contents_of k s)
space_has_pages s offloads k spaces =
    let pages : page_count s k ≡ pages_at offloads k = ap (λ l. get_or l k 0) spaces ∙ pages_of_space offloads k in
    omega (arith, length-contents s k, ap (λ n. n * 4096) pages)
