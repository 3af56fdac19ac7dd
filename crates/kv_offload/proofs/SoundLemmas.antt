-- A store before and after a record is put into it, replaced or taken out.
use Rattle.std.proofs.Common.{◌≡◌, ◌≢◌, ℕ, suc, ◌+◌, ◌-◌, ◌<◌, ◌≤◌, true, false, not, ◌⊎◌, inl, inr, List, [], ◌∷◌, ◌++◌, length, drop, Some, refl, sym, ap, subst, ◌∙◌, arith}
use Rattle.std.specs.Ordering.{eq_by_cmp}
use Rattle.std.specs.FinMap.Entries.{find, put, where_key}
use Rattle.std.proofs.lemmas.Bool.{cases_eq}
use Rattle.flat_model.specs.Objects.{key_cmp}
use Rattle.kv_offload.specs.declared.layout.TheConstants.{HEADS}
use Rattle.kv_offload.specs.Found.{last_of}
use Rattle.kv_offload.specs.Layout.{View, Says, view_of, but_at, with_link, with_slot, with_count, head_of, home_in}
use Rattle.kv_offload.specs.Links.{has, IsLinked, behind, IsAtHome, IsTied}
use Rattle.kv_offload.specs.Stored.{IsSound, pairs_of}
use Rattle.kv_offload.proofs.HeadLemmas.{head_below, head_some}
use Rattle.kv_offload.proofs.LinkLemmas.{linked_apart, linked_append, has_head, has_not, last_in, has_cases}
use Rattle.kv_offload.proofs.PairLemmas.{Changes, pairs-put, pairs-without, pairs_agree, find-found, find-none, is_sorted-pairs, length-pairs_put, length-pairs_kept, length-pairs_without}
use Rattle.kv_offload.proofs.SaysLemmas.{but_here, but_other}
use Rattle.kv_offload.proofs.TiedLemmas.{linked_first, behind_is, tied_behind, tied_same, Joins, tied_joins, Parts, tied_parts}

pub home_below : (view : View) (node : ℕ) → home_in view node < HEADS
home_below view node = head_below (view.key (node - HEADS))

-- what bytes say of themselves
pub says_itself : (records : ℕ) (contents : List ℕ) → Says records contents (view_of contents)
says_itself records contents = record { link = λ node less. refl; key = λ slot less. refl; size = λ slot less. refl; value = λ slot less. refl; count = refl }

-- bytes that say what is sound are sound
pub sound_says : {records : ℕ} {contents : List ℕ} {view : View} → Says records contents view → IsSound records view → IsSound records (view_of contents)
sound_says {records} {contents} {view} says sound =
    let now : View = view_of contents in
    let homes : (node : ℕ) → HEADS ≤ node → node < HEADS + records → home_in now node ≡ home_in view node = λ node more less. ap head_of (says.key (node - HEADS) (omega arith)) in
    let tied : IsTied records now.link (home_in now) (behind records view.link) = tied_same sound.tied now.link (home_in now) says.link homes in
    let same : pairs_of now.key now.value records ≡ pairs_of view.key view.value records = pairs_agree view.key view.value now.key now.value records says.key says.value in
    record {
      sizes = λ slot less. let e = says.size slot less in omega (arith, e, sound.sizes slot less);
      apart = λ slot other less less' some e. sound.apart slot other less less' (λ z. some (says.key slot less ∙ z)) (sym (says.key slot less) ∙ e ∙ says.key other less');
      tied = tied_behind tied (home_below now);
      room = (let e = ap length (behind_is tied 0 (omega arith)) in omega (arith, e, says.count, sound.room));
      counted = says.count ∙ sound.counted ∙ ap length (sym same);
    }

pub says_pairs : {records : ℕ} {contents : List ℕ} {view : View} → Says records contents view
    → pairs_of (view_of contents).key (view_of contents).value records ≡ pairs_of view.key view.value records
says_pairs {records} {contents} {view} says = pairs_agree view.key view.value (view_of contents).key (view_of contents).value records says.key says.value

-- a slot that gets a key which no other has leaves the keys apart
apart_with : (records slot : ℕ) (key' : ℕ → List ℕ) (key : ℕ → List ℕ) (k : List ℕ)
    → ((a b : ℕ) → a < records → b < records → key a ≢ [] → key a ≡ key b → a ≡ b)
    → key' slot ≡ k → ((other : ℕ) → other ≢ slot → key' other ≡ key other)
    → ((other : ℕ) → other < records → other ≢ slot → key other ≢ [] → key other ≢ k)
    → (a b : ℕ) → a < records → b < records → key' a ≢ [] → key' a ≡ key' b → a ≡ b
apart_with records slot key' key k apart here others ne a b less_a less_b some e = elim (cases_eq a slot) [
  | inl at_a ↦ elim (cases_eq b slot) [
    | inl at_b ↦ at_a ∙ sym at_b
    | inr other_b ↦
        let kb : key b ≡ k = sym (others b other_b) ∙ sym e ∙ ap key' at_a ∙ here in
        absurd (ne b less_b other_b (λ z. some (ap key' at_a ∙ here ∙ sym kb ∙ z)) kb)
  ]
  | inr other_a ↦ elim (cases_eq b slot) [
    | inl at_b ↦
        let ka : key a ≡ k = sym (others a other_a) ∙ e ∙ ap key' at_b ∙ here in
        absurd (ne a less_a other_a (λ z. some (others a other_a ∙ z)) ka)
    | inr other_b ↦ apart a b less_a less_b (λ z. some (others a other_a ∙ z)) (sym (others a other_a) ∙ e ∙ others b other_b)
  ]
]

sizes_with : (records slot n : ℕ) (size : ℕ → ℕ) → n ≤ 256 → ((s : ℕ) → s < records → size s ≤ 256) → (s : ℕ) → s < records → but_at size slot n s ≤ 256
sizes_with records slot n size low sizes s less = elim (cases_eq s slot) [
  | inl e ↦ let z : but_at size slot n s ≡ n = ap (but_at size slot n) e ∙ but_here size slot n in omega (arith, z)
  | inr ne ↦ let z = but_other size slot s n ne in omega (arith, z, sizes s less)
]

-- the node of a slot
node_is : (node slot : ℕ) → HEADS ≤ node → slot ≡ node - HEADS → HEADS + slot ≡ node
node_is node slot more e = omega (arith, e)

-- ---- a value is replaced
-- a record gets another value
pub sound_replaced : {records : ℕ} {view : View} → IsSound records view → (slot : ℕ) (key value : List ℕ) → slot < records → key ≢ [] → length value ≤ 256
    → view.key slot ≡ key → IsSound records (with_slot view slot (view.link (HEADS + slot)) key value)
    × (pairs_of (with_slot view slot (view.link (HEADS + slot)) key value).key (with_slot view slot (view.link (HEADS + slot)) key value).value records ≡ put key_cmp key value (pairs_of view.key view.value records))
sound_replaced {records} {view} sound slot key value less some low has =
    let new : View = with_slot view slot (view.link (HEADS + slot)) key value in
    let keys : (other : ℕ) → new.key other ≡ view.key other = λ other. elim (cases_eq other slot) [
      | inl e ↦ ap new.key e ∙ but_here view.key slot key ∙ sym (ap view.key e ∙ has)
      | inr ne ↦ but_other view.key slot other key ne
    ] in
    let links : (node : ℕ) → new.link node ≡ view.link node = λ node. elim (cases_eq node (HEADS + slot)) [
      | inl e ↦ ap new.link e ∙ but_here view.link (HEADS + slot) (view.link (HEADS + slot)) ∙ sym (ap view.link e)
      | inr ne ↦ but_other view.link (HEADS + slot) node (view.link (HEADS + slot)) ne
    ] in
    let changes : Changes view.key view.value new.key new.value key slot records = record {
      some = some;
      within = less;
      was = inl has;
      is = inl (keys slot ∙ has);
      keys = λ other l ne. keys other;
      values = λ other l ne. but_other view.value slot other value ne;
      apart = λ other l ne e. ne (sound.apart other slot l less (λ z. some (sym e ∙ z)) (e ∙ sym has));
    } in
    let pairs : pairs_of new.key new.value records ≡ put key_cmp key value (pairs_of view.key view.value records) = pairs-put changes value (keys slot ∙ has) (but_here view.value slot value) in
    let tied : IsTied records new.link (home_in new) (behind records view.link) = tied_same sound.tied new.link (home_in new) (λ node l. links node) (λ node m l. ap head_of (keys (node - HEADS))) in
    let found : find key_cmp key (pairs_of view.key view.value records) ≡ Some (view.value slot) = find-found view.key view.value key slot records some less has changes.apart in (
      record {
        sizes = sizes_with records slot (length value) view.size low sound.sizes;
        apart = apart_with records slot new.key view.key key sound.apart (keys slot ∙ has) (λ other ne. keys other) (λ other l ne full e. changes.apart other l ne e);
        tied = tied_behind tied (home_below new);
        room = (let e = ap length (behind_is tied 0 (omega arith)) in omega (arith, e, sound.room));
        counted = sound.counted ∙ sym (ap length pairs ∙ length-pairs_kept key value (view.value slot) (pairs_of view.key view.value records) (is_sorted-pairs view.key view.value records) found);
      },
      pairs,
    )

-- ---- a record is added
head_zero : (key : List ℕ) → head_of key ≡ 0 → key ≡ []
head_zero [] e = refl
head_zero (byte ∷ bytes) e = let some = head_some (byte ∷ bytes) (λ z. absurd cc) in absurd (omega (arith, some, e))

-- what the store says once the first free slot has the record
abbrev pub with_added : View → ℕ → ℕ → ℕ → ℕ → List ℕ → List ℕ → View
with_added view node free first count key value =
    with_count (with_link (with_slot (with_link view 0 free) (node - HEADS) first key value) (head_of key) node) (count + 1)

pub record IsAdded (records : ℕ) (old new : View) (key value : List ℕ) : Type 0 where
  pub sound : IsSound records new
  pub pairs : pairs_of new.key new.value records ≡ put key_cmp key value (pairs_of old.key old.value records)

-- what was read of the store, and asked, before the record is added
pub record Adding (records : ℕ) (view : View) (node free first count : ℕ) (key value : List ℕ) : Type 0 where
  pub is_node : node ≡ view.link 0
  pub full : node ≢ 0
  pub is_free : free ≡ view.link node
  pub is_first : first ≡ view.link (head_of key)
  pub is_count : count ≡ view.count
  pub some : key ≢ []
  pub low : length value ≤ 256
  pub absent : (slot : ℕ) → slot < records → view.key slot ≢ key

pub was_free : {records : ℕ} {view : View} → IsSound records view → (node : ℕ) → node ≡ view.link 0 → node ≢ 0
    → behind records view.link 0 ≡ node ∷ drop 1 (behind records view.link 0)
was_free {records} {view} sound node is full =
    linked_first view.link 0 (behind records view.link 0) (sound.tied.linked 0 (omega arith)) (λ z. full (is ∙ z))
    ∙ ap (λ n. n ∷ drop 1 (behind records view.link 0)) (sym is)

-- the first free node
pub free_home : {records : ℕ} {view : View} → IsSound records view → (node : ℕ) → node ≡ view.link 0 → node ≢ 0 → IsAtHome records (home_in view) 0 node
free_home {records} {view} sound node is full =
    sound.tied.member 0 node (omega arith) (subst (λ xs. has xs node ≡ true) (sym (was_free sound node is full)) (has_head node (drop 1 (behind records view.link 0))))

added_links : (link : ℕ → ℕ) (at : ℕ → List ℕ) (head node free first : ℕ) (rest : List ℕ) → HEADS ≤ node → 1 ≤ head → head < HEADS
    → at 0 ≡ node ∷ rest → free ≡ link node → first ≡ link head
    → Joins link (but_at (but_at (but_at link 0 free) (HEADS + (node - HEADS)) first) head node) at (but_at (but_at at 0 rest) head (node ∷ at head)) head node rest
added_links link at head node free first rest more some below was is_free is_first =
    let one : ℕ → ℕ = but_at link 0 free in
    let two : ℕ → ℕ = but_at one (HEADS + (node - HEADS)) first in
    let own : HEADS + (node - HEADS) ≡ node = omega (arith, more) in
    record {
      was = was;
      first =
          but_other two head 0 node (λ z. omega (arith, z, some))
          ∙ but_other one (HEADS + (node - HEADS)) 0 first (λ z. omega (arith, z))
          ∙ but_here link 0 free ∙ is_free;
      second =
          but_other two head node node (λ z. omega (arith, z, more, below))
          ∙ ap two (sym own) ∙ but_here one (HEADS + (node - HEADS)) first ∙ is_first;
      third = but_here two head node;
      others = λ n zero' not_node not_head.
          but_other two head n node not_head
          ∙ but_other one (HEADS + (node - HEADS)) n first (λ z. not_node (z ∙ own))
          ∙ but_other link 0 n free zero';
      at_free = but_other (but_at at 0 rest) head 0 (node ∷ at head) (λ z. omega (arith, z, some)) ∙ but_here at 0 rest;
      at_head = but_here (but_at at 0 rest) head (node ∷ at head);
      at_others = λ h zero' not_head. but_other (but_at at 0 rest) head h (node ∷ at head) not_head ∙ but_other at 0 h rest zero';
    }

pub sound_added : {records : ℕ} {view : View} {node free first count : ℕ} {key value : List ℕ} → IsSound records view → Adding records view node free first count key value
    → IsAdded records view (with_added view node free first count key value) key value
sound_added {records} {view} {node} {free} {first} {count} {key} {value} sound a =
    let new : View = with_added view node free first count key value in
    let slot : ℕ = node - HEADS in
    let head : ℕ = head_of key in
    let at : ℕ → List ℕ = behind records view.link in
    let rest : List ℕ = drop 1 (behind records view.link 0) in
    let at_node = free_home sound node a.is_node a.full in
    let was : behind records view.link 0 ≡ node ∷ drop 1 (behind records view.link 0) = was_free sound node a.is_node a.full in
    let less : node - HEADS < records = omega (arith, at_node.above, at_node.below) in
    let free_key : view.key (node - HEADS) ≡ [] = head_zero (view.key (node - HEADS)) at_node.at_home in
    let joins : Joins view.link new.link at (but_at (but_at at 0 rest) head (node ∷ at head)) head node rest =
    added_links view.link at head node free first rest at_node.above (head_some key a.some) (head_below key) was a.is_free a.is_first in
    let changes : Changes view.key view.value new.key new.value key (node - HEADS) records = record {
      some = a.some;
      within = less;
      was = inr free_key;
      is = inl (but_here view.key (node - HEADS) key);
      keys = λ other l ne. but_other view.key (node - HEADS) other key ne;
      values = λ other l ne. but_other view.value (node - HEADS) other value ne;
      apart = λ other l ne. a.absent other l;
    } in
    let pairs : pairs_of new.key new.value records ≡ put key_cmp key value (pairs_of view.key view.value records) =
    pairs-put changes value (but_here view.key (node - HEADS) key) (but_here view.value (node - HEADS) value) in
    let tied : IsTied records new.link (home_in new) (but_at (but_at at 0 rest) head (node ∷ at head)) =
    tied_joins sound.tied joins (head_some key a.some) (head_below key) (ap head_of (but_here view.key (node - HEADS) key))
    (λ n more l ne. ap head_of (but_other view.key (node - HEADS) (n - HEADS) key (λ z. ne (omega (arith, z, at_node.above, more))))) in
    let free_now : length (behind records new.link 0) ≡ length rest = ap length (behind_is tied 0 (omega arith) ∙ joins.at_free) in
    let free_was : length (behind records view.link 0) ≡ suc (length rest) = ap length was in
    let more : length (put key_cmp key value (pairs_of view.key view.value records)) ≡ length (pairs_of view.key view.value records) + 1 =
    length-pairs_put key value (pairs_of view.key view.value records) (is_sorted-pairs view.key view.value records) (find-none view.key view.value key records a.absent) in
    record {
      sound = record {
        sizes = sizes_with records (node - HEADS) (length value) view.size a.low sound.sizes;
        apart = apart_with records (node - HEADS) new.key view.key key sound.apart (but_here view.key (node - HEADS) key) (λ other ne. but_other view.key (node - HEADS) other key ne) (λ other l ne some. a.absent other l);
        tied = tied_behind tied (home_below new);
        room = omega (arith, free_now, free_was, sound.room, a.is_count);
        counted = (let e = ap length pairs in omega (arith, e, more, sound.counted, a.is_count));
      };
      pairs = pairs;
    }

-- ---- a record is taken out
-- what the store says once the record at the node is taken out of its chain
abbrev pub with_removed : View → ℕ → ℕ → ℕ → ℕ → ℕ → View
with_removed view before node next free count =
    with_count (with_link (with_slot (with_link view before next) (node - HEADS) free [] []) 0 node) (count - 1)

-- what was read of the store, and found, before the record is taken out
pub record Removing (records : ℕ) (view : View) (before node next free count : ℕ) (key seen : List ℕ) : Type 0 where
  pub above : HEADS ≤ node
  pub below : node < HEADS + records
  pub has_key : view.key (node - HEADS) ≡ key
  pub leads : view.link before ≡ node
  pub is_next : next ≡ view.link node
  pub is_free : free ≡ view.link 0
  pub is_count : count ≡ view.count
  pub some : key ≢ []
  pub split : behind records view.link (head_of key) ≡ seen ++ behind records view.link before
  pub last : last_of (head_of key) seen ≡ before

removed_links : (link : ℕ → ℕ) (at : ℕ → List ℕ) (head before node next free : ℕ) (seen rest : List ℕ) → HEADS ≤ node → 1 ≤ head
    → before ≢ 0 → before ≢ node → at head ≡ seen ++ node ∷ rest → last_of head seen ≡ before → next ≡ link node → free ≡ link 0
    → Parts link (but_at (but_at (but_at link before next) (HEADS + (node - HEADS)) free) 0 node) at (but_at (but_at at head (seen ++ rest)) 0 (node ∷ at 0)) head node seen rest
removed_links link at head before node next free seen rest more some some_before not_node was last is_next is_free =
    let one : ℕ → ℕ = but_at link before next in
    let two : ℕ → ℕ = but_at one (HEADS + (node - HEADS)) free in
    let own : HEADS + (node - HEADS) ≡ node = omega (arith, more) in
    record {
      was = was;
      first =
          ap (but_at two 0 node) last
          ∙ but_other two 0 before node some_before
          ∙ but_other one (HEADS + (node - HEADS)) before free (λ z. not_node (z ∙ own))
          ∙ but_here link before next ∙ is_next;
      second =
          but_other two 0 node node (λ z. omega (arith, z, more))
          ∙ ap two (sym own) ∙ but_here one (HEADS + (node - HEADS)) free ∙ is_free;
      third = but_here two 0 node;
      others = λ n zero' not_last not_own.
          but_other two 0 n node zero'
          ∙ but_other one (HEADS + (node - HEADS)) n free (λ z. not_own (z ∙ own))
          ∙ but_other link before n next (λ z. not_last (z ∙ sym last));
      at_free = but_here (but_at at head (seen ++ rest)) 0 (node ∷ at 0);
      at_head = but_other (but_at at head (seen ++ rest)) 0 head (node ∷ at 0) (λ z. omega (arith, z, some)) ∙ but_here at head (seen ++ rest);
      at_others = λ h zero' not_head. but_other (but_at at head (seen ++ rest)) 0 h (node ∷ at 0) zero' ∙ but_other at head h (seen ++ rest) not_head;
    }

pub record IsRemoved (records : ℕ) (old new : View) (key : List ℕ) : Type 0 where
  pub sound : IsSound records new
  pub pairs : pairs_of new.key new.value records ≡ where_key key_cmp (λ other. not (eq_by_cmp key_cmp key other)) (pairs_of old.key old.value records)

-- where a walk along a chain stands
pub record Stands (records : ℕ) (view : View) (head before : ℕ) : Type 0 where
  pub linked : IsLinked view.link before (behind records view.link before)
  pub place : (before ≡ head) ⊎ IsAtHome records (home_in view) head before

pub stands : {records : ℕ} {view : View} → IsSound records view → (head before : ℕ) (seen : List ℕ) → head < HEADS
    → behind records view.link head ≡ seen ++ behind records view.link before → last_of head seen ≡ before → Stands records view head before
stands {records} {view} sound head before seen below split last =
    let all : IsLinked view.link head (seen ++ behind records view.link before) = subst (λ xs. IsLinked view.link head xs) split (sound.tied.linked head below) in
    record {
      linked = subst (λ n. IsLinked view.link n (behind records view.link before)) last (linked_append view.link head seen (behind records view.link before) all);
      place = elim (has_cases head before (seen ++ behind records view.link before) (subst (λ n. has (head ∷ (seen ++ behind records view.link before)) n ≡ true) last (last_in head seen (behind records view.link before)))) [
        | inl e ↦ inl e
        | inr there ↦ inr (sound.tied.member head before below (subst (λ xs. has xs before ≡ true) (sym split) there))
      ];
    }

pub sound_removed : {records : ℕ} {view : View} {before node next free count : ℕ} {key seen : List ℕ} → IsSound records view → Removing records view before node next free count key seen
    → IsRemoved records view (with_removed view before node next free count) key
sound_removed {records} {view} {before} {node} {next} {free} {count} {key} {seen} sound r =
    let new : View = with_removed view before node next free count in
    let head : ℕ = head_of key in
    let at : ℕ → List ℕ = behind records view.link in
    let rest : List ℕ = drop 1 (behind records view.link before) in
    let here = stands sound (head_of key) before seen (head_below key) r.split r.last in
    let full : node ≢ 0 = λ z. omega (arith, z, r.above) in
    let behind_before : behind records view.link before ≡ node ∷ drop 1 (behind records view.link before) =
    linked_first view.link before (behind records view.link before) here.linked (λ z. full (sym r.leads ∙ z)) ∙ ap (λ n. n ∷ drop 1 (behind records view.link before)) r.leads in
    let was : behind records view.link (head_of key) ≡ seen ++ node ∷ drop 1 (behind records view.link before) = r.split ∙ ap (λ xs. seen ++ xs) behind_before in
    let some_before : before ≢ 0 = λ z. elim here.place [ inl e ↦ (let h = head_some key r.some in omega (arith, z, e, h)) | inr is ↦ omega (arith, z, is.above) ] in
    let apart : has (node ∷ drop 1 (behind records view.link before)) before ≡ false =
    linked_apart view.link before (node ∷ drop 1 (behind records view.link before)) (subst (λ xs. IsLinked view.link before xs) behind_before here.linked) in
    let not_node : before ≢ node = λ z. (has_not node before (drop 1 (behind records view.link before)) apart).0 z in
    let less : node - HEADS < records = omega (arith, r.above, r.below) in
    let parts : Parts view.link new.link at (but_at (but_at at head (seen ++ rest)) 0 (node ∷ at 0)) head node seen rest =
    removed_links view.link at head before node next free seen rest r.above (head_some key r.some) some_before not_node was r.last r.is_next r.is_free in
    let apart_keys : (other : ℕ) → other < records → other ≢ node - HEADS → view.key other ≢ key = λ other l ne e. ne (sound.apart other (node - HEADS) l less (λ z. r.some (sym e ∙ z)) (e ∙ sym r.has_key)) in
    let changes : Changes view.key view.value new.key new.value key (node - HEADS) records = record {
      some = r.some;
      within = less;
      was = inl r.has_key;
      is = inr (but_here view.key (node - HEADS) []);
      keys = λ other l ne. but_other view.key (node - HEADS) other [] ne;
      values = λ other l ne. but_other view.value (node - HEADS) other [] ne;
      apart = apart_keys;
    } in
    let pairs : pairs_of new.key new.value records ≡ where_key key_cmp (λ other. not (eq_by_cmp key_cmp key other)) (pairs_of view.key view.value records) =
    pairs-without changes (but_here view.key (node - HEADS) []) in
    let tied : IsTied records new.link (home_in new) (but_at (but_at at head (seen ++ rest)) 0 (node ∷ at 0)) =
    tied_parts sound.tied parts (head_some key r.some) (head_below key) (ap head_of (but_here view.key (node - HEADS) []))
    (λ n more l ne. ap head_of (but_other view.key (node - HEADS) (n - HEADS) [] (λ z. ne (omega (arith, z, r.above, more))))) in
    let free_now : length (behind records new.link 0) ≡ suc (length (behind records view.link 0)) = ap length (behind_is tied 0 (omega arith) ∙ parts.at_free) in
    let found : find key_cmp key (pairs_of view.key view.value records) ≡ Some (view.value (node - HEADS)) = find-found view.key view.value key (node - HEADS) records r.some less r.has_key apart_keys in
    let fewer : length (where_key key_cmp (λ other. not (eq_by_cmp key_cmp key other)) (pairs_of view.key view.value records)) + 1 ≡ length (pairs_of view.key view.value records) =
    length-pairs_without key (view.value (node - HEADS)) (pairs_of view.key view.value records) (is_sorted-pairs view.key view.value records) found in
    record {
      sound = record {
        sizes = sizes_with records (node - HEADS) 0 view.size (omega arith) sound.sizes;
        apart = apart_with records (node - HEADS) new.key view.key [] sound.apart (but_here view.key (node - HEADS) []) (λ other ne. but_other view.key (node - HEADS) other [] ne) (λ other l ne some. some);
        tied = tied_behind tied (home_below new);
        room = omega (arith, free_now, sound.room, r.is_count, sound.counted, fewer);
        counted = (let e = ap length pairs in omega (arith, e, fewer, sound.counted, r.is_count));
      };
      pairs = pairs;
    }
