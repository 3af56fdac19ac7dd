-- A store after the writes of a call.
use Rattle.std.proofs.Common.{◌≡◌, ◌≢◌, ℕ, ◌+◌, ◌-◌, ◌<◌, ◌≤◌, not, List, [], length, take, Some, Ok, Err, sym, ap, subst, ◌∙◌, arith}
use Rattle.std.specs.Ordering.{eq_by_cmp}
use Rattle.std.specs.FinMap.Entries.{find, put, where_key}
use Rattle.cl_types.specs.declared.reply.Refusal.TheVariants.{ObjectFull, NoKey}
use Rattle.flat_model.specs.Objects.{Pairs, key_cmp, kv_put, kv_get, kv_delete}
use Rattle.flat_model.specs.Objects.Object.{KvObject}
use Rattle.kv_offload.specs.declared.kv.Found.{Found}
use Rattle.kv_offload.specs.declared.layout.TheConstants.{HEADS}
use Rattle.kv_offload.specs.Found.{IsAbsent, IsFound}
use Rattle.kv_offload.specs.Layout.{View, Says, view_of, link_of, count_of, key_of, value_of, with_link, with_slot, with_count, head_of}
use Rattle.kv_offload.specs.Links.{behind}
use Rattle.kv_offload.specs.Stored.{HasPages, IsStore, pairs_in, object_in}
use Rattle.kv_offload.proofs.CallLemmas.{put_kept, put_new, put_full, delete_there, delete_none, absent_find, slot_find}
use Rattle.kv_offload.proofs.LinkLemmas.{linked_end}
use Rattle.kv_offload.proofs.PairLemmas.{is_sorted-pairs, length-pairs_without}
use Rattle.kv_offload.proofs.SoundLemmas.{sound_says, says_pairs, says_itself, sound_replaced, Adding, IsAdded, sound_added, with_added, was_free, Removing, IsRemoved, sound_removed, with_removed}
use Rattle.kv_offload.proofs.StepLemmas.{Turns}

says_same : (records : ℕ) (old now : List ℕ) → now ≡ old → Says records now (view_of old)
says_same records old now e = subst (λ contents. Says records contents (view_of old)) (sym e) (says_itself records old)

-- the store has the pair
pub record Puts (records : ℕ) (old new key value : List ℕ) : Type 0 where
  pub store : IsStore records new
  pub pairs : pairs_in records new ≡ put key_cmp key value (pairs_in records old)

-- the store lacks the key
pub record Deletes (records : ℕ) (old new key : List ℕ) : Type 0 where
  pub store : IsStore records new
  pub pairs : pairs_in records new ≡ where_key key_cmp (λ other. not (eq_by_cmp key_cmp key other)) (pairs_in records old)

pub added_store : (records node head free first count : ℕ) (key value old c0 c1 c2 c3 c4 new : List ℕ) → IsStore records old
    → c0 ≡ old → Turns records c0 c1 (λ view. with_link view 0 free) → Turns records c1 c2 (λ view. with_slot view (node - HEADS) first key value)
    → Turns records c2 c3 (λ view. with_link view head node) → c4 ≡ c3 → Turns records c4 new (λ view. with_count view (count + 1))
    → head ≡ head_of key → node ≡ link_of old 0 → node ≢ 0 → free ≡ link_of old node → first ≡ link_of old head → count ≡ count_of c3
    → key ≢ [] → length value ≤ 256 → IsAbsent records old key → HasPages records new → Puts records old new key value
added_store records node head free first count key value old c0 c1 c2 c3 c4 new store e0 t1 t2 t3 e4 t4 is_head is_node full is_free is_first is_count some low absent pages =
    let s1 : Says records c1 (with_link (view_of old) 0 free) = t1 (view_of old) (says_same records old c0 e0) in
    let s2 : Says records c2 (with_slot (with_link (view_of old) 0 free) (node - HEADS) first key value) = t2 (with_link (view_of old) 0 free) s1 in
    let s3 : Says records c3 (with_link (with_slot (with_link (view_of old) 0 free) (node - HEADS) first key value) (head_of key) node) =
    subst (λ h. Says records c3 (with_link (with_slot (with_link (view_of old) 0 free) (node - HEADS) first key value) h node)) is_head (t3 (with_slot (with_link (view_of old) 0 free) (node - HEADS) first key value) s2) in
    let s4 : Says records new (with_added (view_of old) node free first count key value) =
    t4 (with_link (with_slot (with_link (view_of old) 0 free) (node - HEADS) first key value) (head_of key) node)
    (subst (λ contents. Says records contents (with_link (with_slot (with_link (view_of old) 0 free) (node - HEADS) first key value) (head_of key) node)) (sym e4) s3) in
    let adding : Adding records (view_of old) node free first count key value = record {
      is_node = is_node;
      full = full;
      is_free = is_free;
      is_first = is_first ∙ ap (link_of old) is_head;
      is_count = is_count ∙ s3.count;
      some = some;
      low = low;
      absent = absent;
    } in
    let added : IsAdded records (view_of old) (with_added (view_of old) node free first count key value) key value = sound_added store.sound adding in
    record { store = record { pages = pages; sound = sound_says s4 added.sound }; pairs = says_pairs s4 ∙ added.pairs }

-- where a slot is free, the store isn't full
pub has_room : (records node : ℕ) (old : List ℕ) → IsStore records old → node ≡ link_of old 0 → node ≢ 0 → length (pairs_in records old) < records
has_room records node old store is full =
    let free = ap length (was_free store.sound node is full) in
    let room = store.sound.room in
    let counted = store.sound.counted in
    omega (arith, free, room, counted)

pub no_room : (records node : ℕ) (old : List ℕ) → IsStore records old → node ≡ link_of old 0 → node ≡ 0 → records ≤ length (pairs_in records old)
no_room records node old store is none =
    let free = ap length (linked_end (link_of old) 0 (behind records (link_of old) 0) (sym is ∙ none) (store.sound.tied.linked 0 (omega arith))) in
    let room = store.sound.room in
    let counted = store.sound.counted in
    omega (arith, free, room, counted)

pub added_given : (records node : ℕ) (old new key value : List ℕ) → IsStore records old → node ≡ link_of old 0 → node ≢ 0 → IsAbsent records old key → Puts records old new key value
    → Ok ([], object_in records new) ≡ kv_put records (pairs_in records old) key value
added_given records node old new key value store is full absent puts =
    ap (λ (pairs : Pairs). Ok ([], KvObject records pairs)) puts.pairs
    ∙ sym (put_new records (pairs_in records old) key value (absent_find records old key absent) (has_room records node old store is full))

pub full_given : (records node : ℕ) (old key value : List ℕ) → IsStore records old → node ≡ link_of old 0 → node ≡ 0 → IsAbsent records old key
    → Err ObjectFull ≡ kv_put records (pairs_in records old) key value
full_given records node old key value store is none absent =
    sym (put_full records (pairs_in records old) key value (absent_find records old key absent) (no_room records node old store is none))

pub replaced_store : {records : ℕ} {old key : List ℕ} {found : Found} → IsFound records old key found → (value before new : List ℕ) → IsStore records old → key ≢ [] → length value ≤ 256
    → before ≡ old → Turns records before new (λ view. with_slot view (found.node - HEADS) found.next key value) → HasPages records new → Puts records old new key value
replaced_store {records} {old} {key} {found} f value before new store some low e turns pages =
    let slot : ℕ = found.node - HEADS in
    let own : HEADS + (found.node - HEADS) ≡ found.node = (let a = f.above in omega (arith, a)) in
    let next : found.next ≡ link_of old (HEADS + (found.node - HEADS)) = sym f.next ∙ ap (link_of old) (sym own) in
    let says : Says records new (with_slot (view_of old) (found.node - HEADS) (link_of old (HEADS + (found.node - HEADS))) key value) =
    subst (λ n. Says records new (with_slot (view_of old) (found.node - HEADS) n key value)) next (turns (view_of old) (says_same records old before e)) in
    let both = sound_replaced store.sound (found.node - HEADS) key value (let a = f.above in let b = f.below in omega (arith, a, b)) some low f.has_key in
    record { store = record { pages = pages; sound = sound_says says both.0 }; pairs = says_pairs says ∙ both.1 }

pub found_find : {records : ℕ} {old key : List ℕ} {found : Found} → IsFound records old key found → IsStore records old → key ≢ []
    → find key_cmp key (pairs_in records old) ≡ Some (value_of old (found.node - HEADS))
found_find {records} {old} {key} {found} f store some =
    slot_find records old key (found.node - HEADS) store (let a = f.above in let b = f.below in omega (arith, a, b)) some f.has_key

pub replaced_given : {records : ℕ} {old key : List ℕ} {found : Found} → IsFound records old key found → (new value : List ℕ) → IsStore records old → key ≢ [] → Puts records old new key value
    → Ok ([], object_in records new) ≡ kv_put records (pairs_in records old) key value
replaced_given {records} {old} {key} {found} f new value store some puts =
    ap (λ (pairs : Pairs). Ok ([], KvObject records pairs)) puts.pairs
    ∙ sym (put_kept records (pairs_in records old) key value (value_of old (found.node - HEADS)) (found_find f store some))

pub removed_store : {records : ℕ} {old key : List ℕ} {found : Found} → IsFound records old key found → (free count : ℕ) (c0 c1 c2 c3 c4 new : List ℕ) → IsStore records old → key ≢ []
    → c0 ≡ old → Turns records c0 c1 (λ view. with_link view found.before found.next) → Turns records c1 c2 (λ view. with_slot view (found.node - HEADS) free [] [])
    → Turns records c2 c3 (λ view. with_link view 0 found.node) → c4 ≡ c3 → Turns records c4 new (λ view. with_count view (count - 1))
    → free ≡ link_of old 0 → count ≡ count_of c3 → HasPages records new → Deletes records old new key
removed_store {records} {old} {key} {found} f free count c0 c1 c2 c3 c4 new store some e0 t1 t2 t3 e4 t4 is_free is_count pages =
    let one : View = with_link (view_of old) found.before found.next in
    let two : View = with_slot (with_link (view_of old) found.before found.next) (found.node - HEADS) free [] [] in
    let three : View = with_link (with_slot (with_link (view_of old) found.before found.next) (found.node - HEADS) free [] []) 0 found.node in
    let s3 : Says records c3 three = t3 two (t2 one (t1 (view_of old) (says_same records old c0 e0))) in
    let s4 : Says records new (with_removed (view_of old) found.before found.node found.next free count) = t4 three (subst (λ contents. Says records contents three) (sym e4) s3) in
    let removing : Removing records (view_of old) found.before found.node found.next free count key f.seen = record {
      above = f.above;
      below = f.below;
      has_key = f.has_key;
      leads = f.leads;
      is_next = sym f.next;
      is_free = is_free;
      is_count = is_count ∙ s3.count;
      some = some;
      split = f.passed.split;
      last = f.passed.last;
    } in
    let removed : IsRemoved records (view_of old) (with_removed (view_of old) found.before found.node found.next free count) key = sound_removed store.sound removing in
    record { store = record { pages = pages; sound = sound_says s4 removed.sound }; pairs = says_pairs s4 ∙ removed.pairs }

pub removed_given : {records : ℕ} {old key : List ℕ} {found : Found} → IsFound records old key found → (new : List ℕ) → IsStore records old → key ≢ [] → Deletes records old new key
    → Ok ([], object_in records new) ≡ kv_delete records (pairs_in records old) key
removed_given {records} {old} {key} {found} f new store some deletes =
    ap (λ (pairs : Pairs). Ok ([], KvObject records pairs)) deletes.pairs
    ∙ sym (delete_there records (pairs_in records old) key key (value_of old (found.node - HEADS)) (found_find f store some))

-- a store that has the key counts a record
pub found_counted : {records : ℕ} {old key : List ℕ} {found : Found} → IsFound records old key found → IsStore records old → key ≢ [] → 1 ≤ count_of old
found_counted {records} {old} {key} {found} f store some =
    let fewer = length-pairs_without key (value_of old (found.node - HEADS)) (pairs_in records old) (is_sorted-pairs (key_of old) (value_of old) records) (found_find f store some) in
    let counted = store.sound.counted in
    omega (arith, fewer, counted)

-- as many records are counted as there are slots at most
pub counted_below : {records : ℕ} {old : List ℕ} → IsStore records old → count_of old ≤ 4096
counted_below {records} {old} store = let room = store.sound.room in let few = store.pages.few in omega (arith, room, few)

pub got_given : {records : ℕ} {old key : List ℕ} {found : Found} → IsFound records old key found → (now out : List ℕ) → IsStore records old → key ≢ [] → now ≡ old
    → take found.value_len out ≡ value_of old (found.node - HEADS)
    → Ok (take found.value_len out, object_in records now) ≡ kv_get records (pairs_in records old) (find key_cmp key (pairs_in records old))
got_given {records} {old} {key} {found} f now out store some e there =
    ap (λ (bytes : List ℕ). Ok (take found.value_len out, object_in records bytes)) e
    ∙ ap (λ (answer : List ℕ). Ok (answer, object_in records old)) there
    ∙ sym (ap (kv_get records (pairs_in records old)) (found_find f store some))

pub absent_got : (records : ℕ) (old key : List ℕ) → IsAbsent records old key → Err NoKey ≡ kv_get records (pairs_in records old) (find key_cmp key (pairs_in records old))
absent_got records old key absent = sym (ap (kv_get records (pairs_in records old)) (absent_find records old key absent))

pub absent_deleted : (records : ℕ) (old key : List ℕ) → IsAbsent records old key → Err NoKey ≡ kv_delete records (pairs_in records old) key
absent_deleted records old key absent = sym (delete_none records (pairs_in records old) key key (absent_find records old key absent))

-- the count stays until it is set
pub added_count : (records node head free first : ℕ) (key value old c0 c1 c2 c3 : List ℕ) → c0 ≡ old → Turns records c0 c1 (λ view. with_link view 0 free)
    → Turns records c1 c2 (λ view. with_slot view (node - HEADS) first key value) → Turns records c2 c3 (λ view. with_link view head node) → count_of c3 ≡ count_of old
added_count records node head free first key value old c0 c1 c2 c3 e0 t1 t2 t3 =
    let s1 : Says records c1 (with_link (view_of old) 0 free) = t1 (view_of old) (says_same records old c0 e0) in
    (t3 (with_slot (with_link (view_of old) 0 free) (node - HEADS) first key value) (t2 (with_link (view_of old) 0 free) s1)).count

pub removed_count : {records : ℕ} {old key : List ℕ} {found : Found} → IsFound records old key found → (free : ℕ) (c0 c1 c2 c3 : List ℕ)
    → c0 ≡ old → Turns records c0 c1 (λ view. with_link view found.before found.next) → Turns records c1 c2 (λ view. with_slot view (found.node - HEADS) free [] [])
    → Turns records c2 c3 (λ view. with_link view 0 found.node) → count_of c3 ≡ count_of old
removed_count {records} {old} {key} {found} f free c0 c1 c2 c3 e0 t1 t2 t3 =
    let one : View = with_link (view_of old) found.before found.next in
    let two : View = with_slot (with_link (view_of old) found.before found.next) (found.node - HEADS) free [] [] in
    (t3 two (t2 one (t1 (view_of old) (says_same records old c0 e0)))).count
