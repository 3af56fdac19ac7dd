-- What the object's operations give in each case.
use Rattle.std.proofs.Common.{◌≡◌, ◌≢◌, ℕ, ◌+◌, ◌-◌, ◌<◌, ◌≤◌, true, not, inl, inr, List, [], ◌∷◌, ◌++◌, length, append_assoc, drop, Some, None, Ok, Err, refl, sym, ap, subst, ◌∙◌, arith}
use Rattle.std.specs.Ordering.{eq_by_cmp}
use Rattle.std.specs.FinMap.Entries.{find, put, where_key}
use Rattle.std.proofs.lemmas.Bool.{le-leb, lt-leb}
use Rattle.std.proofs.lemmas.List.{append-nil}
use Rattle.cl_types.specs.declared.reply.Refusal.TheVariants.{ObjectFull, NoKey}
use Rattle.flat_model.specs.Objects.{Pairs, key_cmp, kv_put, kv_delete}
use Rattle.flat_model.specs.Objects.Object.{KvObject}
use Rattle.kv_offload.specs.declared.layout.TheConstants.{HEADS}
use Rattle.kv_offload.specs.Found.{IsAbsent, IsFound, IsWalked, last_of}
use Rattle.kv_offload.specs.Layout.{view_of, link_of, key_of, value_of, value_size, head_of, home_in}
use Rattle.kv_offload.specs.Links.{has, behind, IsAtHome}
use Rattle.kv_offload.specs.Stored.{IsStore, pairs_in}
use Rattle.kv_offload.proofs.HeadLemmas.{head_below}
use Rattle.kv_offload.proofs.LinkLemmas.{has_mid, has_push, linked_end, last_more}
use Rattle.kv_offload.proofs.PairLemmas.{find-found, find-none}
use Rattle.kv_offload.proofs.SoundLemmas.{Stands, stands}
use Rattle.kv_offload.proofs.TiedLemmas.{linked_first, behind_rest}

module _ (records : ℕ) (pairs : Pairs) (key value : List ℕ) where
  pub put_kept : (old : List ℕ) → find key_cmp key pairs ≡ Some old → kv_put records pairs key value ≡ Ok ([], KvObject records (put key_cmp key value pairs))
  put_kept old there = rw there refl

  pub put_new : find key_cmp key pairs ≡ None → length pairs < records → kv_put records pairs key value ≡ Ok ([], KvObject records (put key_cmp key value pairs))
  put_new none less = rw (none, lt-leb records (length pairs) less) refl

  pub put_full : find key_cmp key pairs ≡ None → records ≤ length pairs → kv_put records pairs key value ≡ Err ObjectFull
  put_full none more = rw (none, le-leb records (length pairs) more) refl

  pub delete_there : (old : List ℕ) → find key_cmp key pairs ≡ Some old
      → kv_delete records pairs key ≡ Ok ([], KvObject records (where_key key_cmp (λ other. not (eq_by_cmp key_cmp key other)) pairs))
  delete_there old there = rw there refl

  pub delete_none : find key_cmp key pairs ≡ None → kv_delete records pairs key ≡ Err NoKey
  delete_none none = rw none refl

-- what is found of a key that no record has, and of one that a record has
pub absent_find : (records : ℕ) (contents key : List ℕ) → IsAbsent records contents key → find key_cmp key (pairs_in records contents) ≡ None
absent_find records contents key absent = find-none (key_of contents) (value_of contents) key records absent

pub slot_find : (records : ℕ) (contents key : List ℕ) (slot : ℕ) → IsStore records contents → slot < records → key ≢ [] → key_of contents slot ≡ key
    → find key_cmp key (pairs_in records contents) ≡ Some (value_of contents slot)
slot_find records contents key slot store less some has =
    find-found (key_of contents) (value_of contents) key slot records some less has
    (λ other l ne e. ne (store.sound.apart other slot l less (λ z. some (sym e ∙ z)) (e ∙ sym has)))

-- ---- the search for a key
module _ {records : ℕ} {contents key : List ℕ} (store : IsStore records contents) (some : key ≢ []) where
  -- a walk begins at the head
  pub walk_begins : (before node : ℕ) → before ≡ head_of key → node ≡ link_of contents before → IsWalked records contents key before node
  walk_begins before node e is = record {
    leads = sym is;
    before_in = (let h = head_below key in omega (arith, h, e));
    seen = [];
    passed = record { split = ap (behind records (link_of contents)) (sym e); last = sym e };
    others = λ slot less h. absurd cc;
  }

  module _ {before node : ℕ} (walk : IsWalked records contents key before node) where
    walk_stands : Stands records (view_of contents) (head_of key) before
    walk_stands = stands store.sound (head_of key) before walk.seen (head_below key) walk.passed.split walk.passed.last

    walk_first : node ≢ 0 → behind records (link_of contents) before ≡ node ∷ drop 1 (behind records (link_of contents) before)
    walk_first full =
        linked_first (link_of contents) before (behind records (link_of contents) before) walk_stands.linked (λ z. full (sym walk.leads ∙ z))
        ∙ ap (λ n. n ∷ drop 1 (behind records (link_of contents) before)) walk.leads

    walk_split : (full : node ≢ 0) → behind records (link_of contents) (head_of key) ≡ (walk.seen ++ node ∷ []) ++ drop 1 (behind records (link_of contents) before)
    walk_split full =
        walk.passed.split ∙ ap (λ xs. walk.seen ++ xs) (walk_first full)
        ∙ sym (append_assoc walk.seen (node ∷ []) (drop 1 (behind records (link_of contents) before)))

    -- the nodes behind the one that a walk comes to
    pub walk_behind : node ≢ 0 → behind records (link_of contents) before ≡ node ∷ behind records (link_of contents) node
    walk_behind full =
        let rest : behind records (link_of contents) (last_of (head_of key) (walk.seen ++ node ∷ [])) ≡ drop 1 (behind records (link_of contents) before) =
        behind_rest store.sound.tied (head_of key) (walk.seen ++ node ∷ []) (drop 1 (behind records (link_of contents) before)) (head_below key) (walk_split full) in
        let last : last_of (head_of key) (walk.seen ++ node ∷ []) ≡ node = last_more (head_of key) node walk.seen in
        walk_first full ∙ ap (λ xs. node ∷ xs) (sym (ap (behind records (link_of contents)) (sym last) ∙ rest))

    -- what is read behind a slot's node
    pub walk_reads : (now : List ℕ) (next : ℕ) → now ≡ contents → HEADS ≤ node → next ≡ link_of now (HEADS + (node - HEADS)) → next ≡ link_of contents node
    walk_reads now next e above is =
        let own : HEADS + (node - HEADS) ≡ node = omega (arith, above) in
        is ∙ ap (λ (bytes : List ℕ). link_of bytes (HEADS + (node - HEADS))) e ∙ ap (link_of contents) own

    -- it is a slot's, in the key's chain
    pub walk_node : node ≢ 0 → IsAtHome records (home_in (view_of contents)) (head_of key) node
    walk_node full =
        store.sound.tied.member (head_of key) node (head_below key)
        (subst (λ xs. has xs node ≡ true) (sym (walk.passed.split ∙ ap (λ xs. walk.seen ++ xs) (walk_first full))) (has_mid walk.seen (drop 1 (behind records (link_of contents) before)) node))

    -- the walk goes on behind a record with another key
    pub walk_next : (next : ℕ) → node ≢ 0 → next ≡ link_of contents node → key_of contents (node - HEADS) ≢ key → IsWalked records contents key node next
    walk_next next full is other = record {
      leads = sym is;
      before_in = (walk_node full).below;
      seen = walk.seen ++ node ∷ [];
      passed = record {
        split = walk.passed.split ∙ ap (λ xs. walk.seen ++ xs) (walk_behind full) ∙ sym (append_assoc walk.seen (node ∷ []) (behind records (link_of contents) node));
        last = last_more (head_of key) node walk.seen;
      };
      others = λ slot less h e. elim (has_push walk.seen node (HEADS + slot) h) [
        | inl was ↦ walk.others slot less was e
        | inr same ↦ other (ap (key_of contents) (let z : node - HEADS ≡ slot = omega (arith, same) in z) ∙ e)
      ];
    }

    -- no record has the key where the walk ends
    pub walk_ends : node ≡ 0 → IsAbsent records contents key
    walk_ends e slot less is_key =
        let none : behind records (link_of contents) before ≡ [] = linked_end (link_of contents) before (behind records (link_of contents) before) (walk.leads ∙ e) walk_stands.linked in
        let all : behind records (link_of contents) (head_of key) ≡ walk.seen = walk.passed.split ∙ ap (λ xs. walk.seen ++ xs) none ∙ append-nil walk.seen in
        let own : HEADS + slot - HEADS ≡ slot = omega arith in
        let home : home_in (view_of contents) (HEADS + slot) ≡ head_of key = ap head_of (ap (key_of contents) own ∙ is_key) in
        let held = store.sound.tied.held (HEADS + slot) (omega arith) (omega arith) in
        walk.others slot less (subst (λ xs. has xs (HEADS + slot) ≡ true) (ap (behind records (link_of contents)) home ∙ all) held) is_key

    -- the record of the key
    pub walk_found : (next value_len : ℕ) → node ≢ 0 → next < 65536 → key_of contents (node - HEADS) ≡ key → next ≡ link_of contents node → value_len ≡ value_size contents (node - HEADS)
        → IsFound records contents key (record { before = before; node = node; next = next; value_len = value_len })
    walk_found next value_len full low has is size =
        let home = walk_node full in
        record {
          above = home.above;
          below = home.below;
          before_in = walk.before_in;
          has_key = has;
          leads = walk.leads;
          next = sym is;
          next_below = low;
          value_len = size;
          short = (let low = store.sound.sizes (node - HEADS) (let a = home.above in let b = home.below in omega (arith, a, b)) in omega (arith, low, size));
          seen = walk.seen;
          passed = walk.passed;
        }
