-- What the bytes of a space hold as multi-version objects.
use Rattle.std.specs.Prelude.{◌≡◌, ℕ, zero, suc, ◌*◌, ◌-◌, ◌<◌, ◌≤◌, List, [], ◌∷◌, ◌++◌, take, length, Result, Ok, Err}
use Rattle.std.specs.Int.{to_be_bytes, w32}
use Rattle.cl_types.specs.declared.limits.TheConstants.{PAGE_BYTES}
use Rattle.cl_types.specs.declared.reply.Refusal.{Refusal}
use Rattle.mv_offload.specs.declared.layout.TheConstants.{MOST_OBJECTS, MOST_VERSIONS, VERSION_BYTES}
use Rattle.mv_offload.specs.Versions.{Versioned, Object, Given, mv_pages, version_count}
use Rattle.mv_offload.specs.Versions.Object.{MvObject}
use Rattle.mv_offload.specs.Layout.{objects_of, count_of, last_of, number_of, link_of, size_of, bytes_of}

-- the values of a function below a number
abbrev pub list_of : {A : Type 0} → ℕ → (ℕ → A) → List A
list_of zero f = []
list_of (suc n) f = list_of n f ++ f n ∷ []

-- the versions up to a record, found along the links, in order, and at most so many
abbrev pub versions_to : (ℕ → ℕ) → (ℕ → List ℕ) → ℕ → ℕ → List (List ℕ)
versions_to link bytes fuel zero = []
versions_to link bytes zero (suc slot) = []
versions_to link bytes (suc fuel) (suc slot) = versions_to link bytes fuel (link slot) ++ bytes slot ∷ []

-- the versions up to a record, which leads only to those before it
unfoldable pub versions_up : List ℕ → ℕ → List (List ℕ)
versions_up contents node = versions_to (link_of contents) (bytes_of contents) node node

-- the versions of an object
abbrev pub versions_at : List ℕ → ℕ → List (List ℕ)
versions_at contents index = versions_up contents (last_of contents index)

-- the objects that these bytes hold
abbrev pub held_in : List ℕ → Versioned
held_in contents = list_of (objects_of contents) (versions_at contents)

-- the object that these bytes are
abbrev pub object_in : ℕ → ℕ → List ℕ → Object
object_in objects versions contents = MvObject objects versions (held_in contents)

-- the numbers of objects and versions are in range, and their pages are there
pub record HasPages (objects versions : ℕ) (contents : List ℕ) : Type 0 where
  pub some_objects : 1 ≤ objects
  pub few_objects : objects ≤ MOST_OBJECTS
  pub some_versions : 1 ≤ versions
  pub few_versions : versions ≤ MOST_VERSIONS
  pub pages : mv_pages versions * PAGE_BYTES ≤ length contents

-- the counts, heads and records fit each other
pub record IsSound (objects versions : ℕ) (contents : List ℕ) : Type 0 where
  pub few_objects : objects_of contents ≤ objects
  pub few_versions : count_of contents ≤ versions
  pub last : (index : ℕ) → index < objects_of contents → last_of contents index ≤ count_of contents
  pub number : (index : ℕ) → index < objects_of contents → number_of contents index ≡ length (versions_at contents index)
  -- a record leads only to those before it
  pub link : (slot : ℕ) → slot < count_of contents → link_of contents slot ≤ slot
  pub size : (slot : ℕ) → slot < count_of contents → size_of contents slot ≤ VERSION_BYTES
  pub counted : count_of contents ≡ version_count (held_in contents)

-- the bytes hold objects, as `init` and each call leave them
pub record IsStore (objects versions : ℕ) (contents : List ℕ) : Type 0 where
  pub pages : HasPages objects versions contents
  pub sound : IsSound objects versions contents

-- an object of this number is there, and has so many versions
pub record IsObject (contents : List ℕ) (object number : ℕ) : Type 0 where
  pub above : 1 ≤ object
  pub below : object ≤ objects_of contents
  pub is_number : number ≡ number_of contents (object - 1)

-- what an operation gave: the answer and the object after it, or its refusal
abbrev pub given_by : {A : Type 0} → Result A Refusal → List ℕ → Object → Given
given_by (Ok done) answer object = Ok (answer, object)
given_by (Err refusal) answer object = Err refusal

-- a number that was answered, as its 4 bytes, or nothing
abbrev pub numbered : Result ℕ Refusal → List ℕ
numbered (Ok number) = to_be_bytes w32 number
numbered (Err refusal) = []

-- the bytes that were answered, of those that were to take them
abbrev pub answered : Result ℕ Refusal → List ℕ → List ℕ
answered (Ok size) out = take size out
answered (Err refusal) out = []

-- the number and the bytes that were answered
abbrev pub answered_latest : Result (ℕ × ℕ) Refusal → List ℕ → List ℕ
answered_latest (Ok given) out = to_be_bytes w32 given.0 ++ take given.1 out
answered_latest (Err refusal) out = []
