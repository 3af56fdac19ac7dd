-- What a call answers, by the objects that are held.
use Rattle.std.proofs.Common.{◌≡◌, ℕ, zero, suc, ◌+◌, ◌-◌, ◌<◌, ◌≤◌, ◌⊎◌, List, [], ◌∷◌, ◌++◌, length, Some, None, Ok, Err, refl, sym, ap, ◌∙◌, arith, inl, inr, slice_get, slice_set, append_assoc, length-append}
use Rattle.std.specs.Int.{to_be_bytes, w32}
use Rattle.std.proofs.lemmas.Bool.{le-leb, lt-leb}
use Rattle.std.proofs.lemmas.List.{append-nil}
use Rattle.std.proofs.lemmas.Option.{slice_get_past}
use Rattle.cl_types.specs.declared.reply.Refusal.TheVariants.{ObjectFull, NoKey}
use Rattle.mv_offload.specs.Versions.{Versioned, item_numbered, version_of, latest_of, version_count, mv_create, mv_append, mv_read}
use Rattle.mv_offload.specs.Versions.Object.{MvObject}
use Rattle.mv_offload.specs.Layout.{objects_of, count_of, last_of, number_of, link_of, bytes_of}
use Rattle.mv_offload.specs.Stored.{IsStore, IsObject, held_in, object_in, versions_at, versions_up}
use Rattle.mv_offload.proofs.HeldLemmas.{length-list_of, few-list_of, get-list_of, slice_get_seam}
use Rattle.mv_offload.proofs.StoreLemmas.{versions_more, versions_none}

-- ---- an object
-- no object has this number
pub absent : (contents : List ℕ) (object : ℕ) → object ≡ 0 → item_numbered object (held_in contents) ≡ None
absent contents object e = ap (λ n. item_numbered n (held_in contents)) e

pub past : (contents : List ℕ) (object : ℕ) → objects_of contents < object → item_numbered object (held_in contents) ≡ None
past contents zero above = absurd (omega arith)
past contents (suc index) above =
    let long = length-list_of (objects_of contents) (versions_at contents) in
    slice_get_past (held_in contents) index (omega arith)

-- the versions of an object that is there
pub found : {contents : List ℕ} {object number : ℕ} → IsObject contents object number → item_numbered object (held_in contents) ≡ Some (versions_at contents (object - 1))
found {object = zero} is = absurd (omega (arith, is.above))
found {contents} {object = suc index} is =
    let e : suc index - 1 ≡ index = omega arith in
    get-list_of (objects_of contents) (versions_at contents) index (omega (arith, is.below)) ∙ ap (λ i. Some (versions_at contents i)) (sym e)

-- its number of versions is the one in its head
pub found_number : {objects versions : ℕ} {contents : List ℕ} {object number : ℕ} → IsStore objects versions contents → IsObject contents object number
    → number ≡ length (versions_at contents (object - 1))
found_number {objects} {versions} {contents} {object} {number} store is = is.is_number ∙ store.sound.number (object - 1) (omega (arith, is.above, is.below))

-- an object has at most as many versions as there are over all
pub number_below : {objects versions : ℕ} {contents : List ℕ} (index number : ℕ) → IsStore objects versions contents → index < objects_of contents → number ≡ number_of contents index
    → number ≤ count_of contents
number_below {objects} {versions} {contents} index number store there is =
    let few = few-list_of (objects_of contents) (versions_at contents) index there in
    let long = store.sound.number index there in
    omega (arith, store.sound.counted)

-- ---- a walk to a version
-- the versions up to a node are the first ones of an object, and so many of them follow the one looked for
pub record IsBack (contents : List ℕ) (index version node behind : ℕ) : Type 0 where
  pub low : node ≤ count_of contents
  pub long : length (versions_up contents node) ≡ version + behind
  pub rest : List (List ℕ)
  pub split : versions_at contents index ≡ versions_up contents node ++ rest

-- the walk begins at the last record
pub back_start : {objects versions : ℕ} {contents : List ℕ} (index version behind node : ℕ) → IsStore objects versions contents → index < objects_of contents
    → version + behind ≡ number_of contents index → node ≡ last_of contents index → IsBack contents index version node behind
back_start {objects} {versions} {contents} index version behind node store there sum is = record {
  low = let h = store.sound.last index there in omega (arith, is);
  long = ap (λ n. length (versions_up contents n)) is ∙ sym (store.sound.number index there) ∙ sym sum;
  rest = [];
  split = sym (ap (λ n. versions_up contents n ++ []) is ∙ append-nil (versions_at contents index));
}

-- a node with versions up to it is a record's
pub back_node : {contents : List ℕ} {index version node behind : ℕ} → IsBack contents index version node behind → 1 ≤ version → 1 ≤ node
back_node {contents} {node = zero} back some = let none = ap length (versions_none contents) in absurd (omega (arith, back.long))
back_node {node = suc node} back some = omega arith

-- the versions up to a node are those up to the one before it, and its own
pub back_split : {objects versions : ℕ} {contents : List ℕ} {index version node behind : ℕ} → IsStore objects versions contents → IsBack contents index version node behind → 1 ≤ node
    → versions_up contents node ≡ versions_up contents (link_of contents (node - 1)) ++ bytes_of contents (node - 1) ∷ []
back_split {objects} {versions} {contents} {index} {version} {node} {behind} store back some =
    let e : node ≡ node - 1 + 1 = omega arith in
    ap (versions_up contents) e ∙ versions_more contents (node - 1) (λ other low. store.sound.link other (omega (arith, back.low)))

-- a link leads one version back
pub back_next : {objects versions : ℕ} {contents : List ℕ} {index version node behind : ℕ} → IsStore objects versions contents → IsBack contents index version node behind → 1 ≤ version
    → (next left : ℕ) → next ≡ link_of contents (node - 1) → behind ≡ left + 1 → IsBack contents index version next left
back_next {objects} {versions} {contents} {index} {version} {node} {behind} store back some next left is fewer =
    let one = back_node back some in
    let split = back_split store back one in
    let long = ap length split ∙ length-append (versions_up contents (link_of contents (node - 1))) (bytes_of contents (node - 1) ∷ []) in
    let low = store.sound.link (node - 1) (omega (arith, back.low)) in
    record {
      low = omega (arith, back.low, is);
      long = ap (λ n. length (versions_up contents n)) is ∙ (let h : length (versions_up contents (link_of contents (node - 1))) ≡ version + left = omega (arith, back.long) in h);
      rest = bytes_of contents (node - 1) ∷ back.rest;
      split = back.split ∙ ap (λ those. those ++ back.rest) split
          ∙ append_assoc (versions_up contents (link_of contents (node - 1))) (bytes_of contents (node - 1) ∷ []) back.rest
          ∙ ap (λ n. versions_up contents n ++ bytes_of contents (node - 1) ∷ back.rest) (sym is);
    }

-- where none is left to go back, the node has the version that was looked for
pub back_ends : {objects versions : ℕ} {contents : List ℕ} {index version node behind : ℕ} → IsStore objects versions contents → IsBack contents index version node behind → 1 ≤ version
    → behind ≡ 0 → slice_get (versions_at contents index) (version - 1) ≡ Some (bytes_of contents (node - 1))
back_ends {objects} {versions} {contents} {index} {version} {node} {behind} store back some none =
    let one = back_node back some in
    let split = back_split store back one in
    let before : List (List ℕ) = versions_up contents (link_of contents (node - 1)) in
    let long = ap length split ∙ length-append before (bytes_of contents (node - 1) ∷ []) in
    let place : version - 1 ≡ length before = omega (arith, back.long) in
    ap (λ those. slice_get those (version - 1)) (back.split ∙ ap (λ those. those ++ back.rest) split ∙ append_assoc before (bytes_of contents (node - 1) ∷ []) back.rest)
    ∙ ap (slice_get (before ++ bytes_of contents (node - 1) ∷ back.rest)) place
    ∙ slice_get_seam before (bytes_of contents (node - 1)) back.rest

-- ---- what the calls give
-- a create is refused where there are as many objects as there may be
pub create_full : (contents : List ℕ) (objects versions : ℕ) → objects ≤ objects_of contents → Err ObjectFull ≡ mv_create objects versions (held_in contents)
create_full contents objects versions full =
    let long = length-list_of (objects_of contents) (versions_at contents) in
    rw (le-leb objects (length (held_in contents)) (omega arith)) refl

-- a create with room adds an object without a version
with_room : (objects versions : ℕ) (held : Versioned) → length held < objects → mv_create objects versions held ≡ Ok (to_be_bytes w32 (length held + 1), MvObject objects versions (held ++ [] ∷ []))
with_room objects versions held less = rw (lt-leb objects (length held) less) refl

-- and answers its number
pub create_done : (old new : List ℕ) (objects versions index : ℕ) → index ≡ objects_of old → index < objects → held_in new ≡ held_in old ++ [] ∷ []
    → Ok (to_be_bytes w32 (index + 1), object_in objects versions new) ≡ mv_create objects versions (held_in old)
create_done old new objects versions index is room held =
    let long : length (held_in old) ≡ index = length-list_of (objects_of old) (versions_at old) ∙ sym is in
    ap (λ h. Ok (to_be_bytes w32 (index + 1), MvObject objects versions h)) held
    ∙ ap (λ n. Ok (to_be_bytes w32 (n + 1), MvObject objects versions (held_in old ++ [] ∷ []))) (sym long)
    ∙ sym (with_room objects versions (held_in old) (omega arith))

-- an append to no object is refused
pub append_absent : (contents bytes : List ℕ) (objects versions object : ℕ) → item_numbered object (held_in contents) ≡ None
    → Err NoKey ≡ mv_append objects versions (held_in contents) object bytes (item_numbered object (held_in contents))
append_absent contents bytes objects versions object none = sym (ap (mv_append objects versions (held_in contents) object bytes) none)

-- an append is refused where there are as many versions as there may be
full_append : (objects versions : ℕ) (held : Versioned) (object : ℕ) (bytes : List ℕ) (those : List (List ℕ)) → versions ≤ version_count held → mv_append objects versions held object bytes (Some those) ≡ Err ObjectFull
full_append objects versions held object bytes those full = rw (le-leb versions (version_count held) full) refl

pub append_full : {objects versions : ℕ} {contents : List ℕ} {object number : ℕ} → IsStore objects versions contents → IsObject contents object number → (bytes : List ℕ) → versions ≤ count_of contents
    → Err ObjectFull ≡ mv_append objects versions (held_in contents) object bytes (item_numbered object (held_in contents))
append_full {objects} {versions} {contents} {object} {number} store is bytes full =
    sym (ap (mv_append objects versions (held_in contents) object bytes) (found is)
    ∙ full_append objects versions (held_in contents) object bytes (versions_at contents (object - 1)) (omega (arith, store.sound.counted)))

-- an append with room adds its bytes at the end of the object
room_append : (objects versions : ℕ) (held : Versioned) (object : ℕ) (bytes : List ℕ) (those : List (List ℕ)) → version_count held < versions
    → mv_append objects versions held object bytes (Some those) ≡ Ok (to_be_bytes w32 (length those + 1), MvObject objects versions (slice_set held (object - 1) (those ++ bytes ∷ [])))
room_append objects versions held object bytes those room = rw (lt-leb versions (version_count held) room) refl

-- and answers their number
pub append_done : {objects versions : ℕ} {old : List ℕ} {object number : ℕ} → IsStore objects versions old → IsObject old object number → (bytes new : List ℕ) → count_of old < versions
    → held_in new ≡ slice_set (held_in old) (object - 1) (versions_at old (object - 1) ++ bytes ∷ [])
    → Ok (to_be_bytes w32 (number + 1), object_in objects versions new) ≡ mv_append objects versions (held_in old) object bytes (item_numbered object (held_in old))
append_done {objects} {versions} {old} {object} {number} store is bytes new room held =
    let those : List (List ℕ) = versions_at old (object - 1) in
    ap (λ h. Ok (to_be_bytes w32 (number + 1), MvObject objects versions h)) held
    ∙ ap (λ n. Ok (to_be_bytes w32 (n + 1), MvObject objects versions (slice_set (held_in old) (object - 1) (those ++ bytes ∷ [])))) (found_number store is)
    ∙ sym (ap (mv_append objects versions (held_in old) object bytes) (found is)
    ∙ room_append objects versions (held_in old) object bytes those (omega (arith, store.sound.counted)))

-- a read of no object is refused
pub read_absent : (contents : List ℕ) (objects versions object version : ℕ) → item_numbered object (held_in contents) ≡ None
    → Err NoKey ≡ mv_read objects versions (held_in contents) (version_of version (item_numbered object (held_in contents)))
read_absent contents objects versions object version none = sym (ap (λ those. mv_read objects versions (held_in contents) (version_of version those)) none)

-- no version has the number 0, or one past the last
no_version : (version : ℕ) (those : List (List ℕ)) → (version ≡ 0) ⊎ (length those < version) → item_numbered version those ≡ None
no_version zero those out = refl
no_version (suc version) those out = elim out [
  | inl none ↦ absurd (omega arith)
  | inr past ↦ slice_get_past those version (omega arith)
]

-- a read of such a version is refused
pub read_past : {objects versions : ℕ} {contents : List ℕ} {object number : ℕ} → IsStore objects versions contents → IsObject contents object number → (version : ℕ) → (version ≡ 0) ⊎ (number < version)
    → Err NoKey ≡ mv_read objects versions (held_in contents) (version_of version (item_numbered object (held_in contents)))
read_past {objects} {versions} {contents} {object} {number} store is version out =
    let long = found_number store is in
    sym (ap (λ those. mv_read objects versions (held_in contents) (version_of version those)) (found is)
    ∙ ap (mv_read objects versions (held_in contents)) (no_version version (versions_at contents (object - 1)) (elim out [ inl none ↦ inl none | inr past ↦ inr (omega arith) ])))

-- the item of a number is one place lower
nth_before : {A : Type 0} (version : ℕ) (xs : List A) → 1 ≤ version → item_numbered version xs ≡ slice_get xs (version - 1)
nth_before zero xs some = absurd (omega arith)
nth_before (suc version) xs some = let e : version ≡ suc version - 1 = omega arith in ap (slice_get xs) e

-- a read answers the version that is there
pub read_done : {objects versions : ℕ} {contents : List ℕ} {object number : ℕ} → IsStore objects versions contents → IsObject contents object number → (version : ℕ) (bytes text new : List ℕ) → 1 ≤ version
    → slice_get (versions_at contents (object - 1)) (version - 1) ≡ Some bytes → text ≡ bytes → new ≡ contents
    → Ok (text, object_in objects versions new) ≡ mv_read objects versions (held_in contents) (version_of version (item_numbered object (held_in contents)))
read_done {objects} {versions} {contents} {object} {number} store is version bytes text new some there same kept =
    ap (λ t. Ok (t, object_in objects versions new)) same
    ∙ ap (λ c. Ok (bytes, object_in objects versions c)) kept
    ∙ sym (ap (λ those. mv_read objects versions (held_in contents) (version_of version those)) (found is)
    ∙ ap (mv_read objects versions (held_in contents)) (nth_before version (versions_at contents (object - 1)) some ∙ there))

-- the latest version of no object is refused
pub latest_absent : (contents : List ℕ) (objects versions object : ℕ) → item_numbered object (held_in contents) ≡ None
    → Err NoKey ≡ mv_read objects versions (held_in contents) (latest_of (item_numbered object (held_in contents)))
latest_absent contents objects versions object none = sym (ap (λ those. mv_read objects versions (held_in contents) (latest_of those)) none)

-- the latest of a list of versions, by the item at its end
latest_none : (those : List (List ℕ)) → item_numbered (length those) those ≡ None → latest_of (Some those) ≡ None
latest_none those none = rw (none, latest_of) refl

latest_some : (those : List (List ℕ)) (bytes : List ℕ) → item_numbered (length those) those ≡ Some bytes → latest_of (Some those) ≡ Some (to_be_bytes w32 (length those) ++ bytes)
latest_some those bytes there = rw (there, latest_of) refl

-- and of an object without a version
pub latest_past : {objects versions : ℕ} {contents : List ℕ} {object number : ℕ} → IsStore objects versions contents → IsObject contents object number → number ≡ 0
    → Err NoKey ≡ mv_read objects versions (held_in contents) (latest_of (item_numbered object (held_in contents)))
latest_past {objects} {versions} {contents} {object} {number} store is none =
    let those : List (List ℕ) = versions_at contents (object - 1) in
    let long = found_number store is in
    sym (ap (λ found. mv_read objects versions (held_in contents) (latest_of found)) (found is)
    ∙ ap (mv_read objects versions (held_in contents)) (latest_none those (no_version (length those) those (inl (omega arith)))))

-- the latest version is the one that has the number of versions as its own
pub latest_done : {objects versions : ℕ} {contents : List ℕ} {object number : ℕ} → IsStore objects versions contents → IsObject contents object number → (bytes text new : List ℕ) → 1 ≤ number
    → slice_get (versions_at contents (object - 1)) (number - 1) ≡ Some bytes → text ≡ bytes → new ≡ contents
    → Ok (to_be_bytes w32 number ++ text, object_in objects versions new) ≡ mv_read objects versions (held_in contents) (latest_of (item_numbered object (held_in contents)))
latest_done {objects} {versions} {contents} {object} {number} store is bytes text new some there same kept =
    let those : List (List ℕ) = versions_at contents (object - 1) in
    let long = found_number store is in
    ap (λ t. Ok (to_be_bytes w32 number ++ t, object_in objects versions new)) same
    ∙ ap (λ c. Ok (to_be_bytes w32 number ++ bytes, object_in objects versions c)) kept
    ∙ ap (λ n. Ok (to_be_bytes w32 n ++ bytes, MvObject objects versions (held_in contents))) long
    ∙ sym (ap (λ found. mv_read objects versions (held_in contents) (latest_of found)) (found is)
    ∙ ap (mv_read objects versions (held_in contents))
    (latest_some those bytes (ap (λ n. item_numbered n those) (sym long) ∙ nth_before number those some ∙ there)))
