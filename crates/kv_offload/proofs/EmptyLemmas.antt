-- The store with no records: all slots in the chain of the free ones.
use Rattle.std.proofs.Common.{◌≡◌, ℕ, zero, suc, ◌+◌, ◌-◌, ◌<◌, ◌≤◌, ◌==◌, true, inl, inr, List, [], ◌∷◌, length, refl, sym, ap, ◌∙◌, arith, if◌then◌else◌}
use Rattle.std.specs.Prelude.{nat_lt}
use Rattle.std.proofs.lemmas.Bool.{cases_eq, cases_lt, eq-eqb, ne_eqb}
use Rattle.std.proofs.lemmas.Bool.Decides.{nat_tests}
use Rattle.kv_offload.specs.declared.layout.TheConstants.{HEADS}
use Rattle.kv_offload.specs.Layout.{view_of, link_of, count_of, key_of, value_size, head_of, home_in, next_free}
use Rattle.kv_offload.specs.Links.{has, IsLinked, IsAtHome, IsTied}
use Rattle.kv_offload.specs.Stored.{HasPages, IsStore, pairs_in}
use Rattle.kv_offload.proofs.LinkLemmas.{has_cases, has_more}
use Rattle.kv_offload.proofs.PairLemmas.{pairs_none}
use Rattle.kv_offload.proofs.SoundLemmas.{home_below}
use Rattle.kv_offload.proofs.TiedLemmas.{behind_is, tied_behind}

-- so many numbers from one on
run : ℕ → ℕ → List ℕ
run zero from = []
run (suc k) from = from ∷ run k (from + 1)

length-run : (k from : ℕ) → length (run k from) ≡ k
unfolding run
length-run zero from = refl
length-run (suc k) from = ap suc (length-run k (from + 1))

in_run : (k from n : ℕ) → has (run k from) n ≡ true → (from ≤ n) × (n < from + k)
unfolding run
in_run zero from n h = absurd cc
in_run (suc k) from n h = elim (has_cases from n (run k (from + 1)) h) [
  | inl e ↦ (omega (arith, e), omega (arith, e))
  | inr there ↦ let both = in_run k (from + 1) n there in (omega (arith, both.0), omega (arith, both.1))
]

run_has : (k from n : ℕ) → from ≤ n → n < from + k → has (run k from) n ≡ true
unfolding run
run_has zero from n low high = absurd (omega arith)
run_has (suc k) from n low high = elim (cases_eq n from) [
  | inl e ↦ rw (eq-eqb n from e) refl
  | inr ne ↦ has_more from n (run k (from + 1)) (run_has k (from + 1) n (omega (arith, ne)) (omega arith))
]

-- a node below the end, or none
abbrev pub node_or_end : ℕ → ℕ → ℕ
node_or_end end n = if nat_lt n end then n else 0

inside : (end n : ℕ) → n < end → node_or_end end n ≡ n
inside end n less = grind (arith, nat_tests)

outside : (end n : ℕ) → end ≤ n → node_or_end end n ≡ 0
outside end n more = grind (arith, nat_tests)

linked_run : (link : ℕ → ℕ) (end k from node : ℕ) → from + k ≡ end → 0 < from → link node ≡ node_or_end end from
    → ((n : ℕ) → from ≤ n → n < end → link n ≡ node_or_end end (n + 1)) → IsLinked link node (run k from)
unfolding run
linked_run link end zero from node is some first links = first ∙ outside end from (omega (arith, is))
linked_run link end (suc k) from node is some first links = (
  first ∙ inside end from (omega (arith, is)),
  some,
  linked_run link end k (from + 1) from (omega (arith, is)) (omega arith) (links from (omega arith) (omega (arith, is))) (λ n low high. links n (omega arith) high),
)

-- what the bytes of a store say whose slots up to one are free
pub record AreFree (records done : ℕ) (contents : List ℕ) : Type 0 where
  pub keys : (slot : ℕ) → slot < done → key_of contents slot ≡ []
  pub sizes : (slot : ℕ) → slot < done → value_size contents slot ≡ 0
  pub links : (slot : ℕ) → slot < done → link_of contents (HEADS + slot) ≡ next_free records slot
  pub heads : (node : ℕ) → node < HEADS → link_of contents node ≡ (if node == 0 then HEADS else 0)
  pub count : count_of contents ≡ 0

-- the chains: that of the free slots has all nodes
chains : ℕ → ℕ → List ℕ
chains records zero = run records HEADS
chains records (suc head) = []

not_first : (head : ℕ) → 0 < head → (if head == 0 then HEADS else 0) ≡ 0
not_first head some = rw (ne_eqb head 0 (λ z. omega (arith, z, some))) refl

next_is : (records slot : ℕ) → next_free records slot ≡ node_or_end (HEADS + records) (HEADS + slot + 1)
next_is records slot = elim (cases_lt (slot + 1) records) [
  | inl less ↦ (let e : next_free records slot ≡ HEADS + (slot + 1) = grind (arith, nat_tests) in e) ∙ (let e : HEADS + (slot + 1) ≡ HEADS + slot + 1 = omega arith in e) ∙ sym (inside (HEADS + records) (HEADS + slot + 1) (omega arith))
  | inr more ↦ (let e : next_free records slot ≡ 0 = grind (arith, nat_tests) in e) ∙ sym (outside (HEADS + records) (HEADS + slot + 1) (omega arith))
]

module _ {records : ℕ} {contents : List ℕ} (pages : HasPages records contents) (free : AreFree records records contents) where
  free_linked : (head : ℕ) → head < HEADS → IsLinked (link_of contents) head (chains records head)
  unfolding chains
  free_linked zero less =
      linked_run (link_of contents) (HEADS + records) records HEADS 0 refl (omega arith)
      (free.heads 0 less ∙ sym (inside (HEADS + records) HEADS (let some = pages.some in omega (arith, some))))
      (λ n low high.
      let own : HEADS + (n - HEADS) ≡ n = omega (arith, low) in
      ap (link_of contents) (sym own) ∙ free.links (n - HEADS) (omega (arith, low, high)) ∙ next_is records (n - HEADS) ∙ ap (λ m. node_or_end (HEADS + records) (m + 1)) own)
  free_linked (suc head) less = free.heads (suc head) less ∙ not_first (suc head) (omega arith)

  free_home : (node : ℕ) → HEADS ≤ node → node < HEADS + records → home_in (view_of contents) node ≡ 0
  free_home node more less = ap head_of (free.keys (node - HEADS) (omega (arith, more, less)))

  free_member : (head node : ℕ) → head < HEADS → has (chains records head) node ≡ true → IsAtHome records (home_in (view_of contents)) head node
  unfolding chains
  free_member zero node less h = let both = in_run records HEADS node h in record { above = both.0; below = both.1; at_home = free_home node both.0 both.1 }
  free_member (suc head) node less h = absurd cc

  free_held : (node : ℕ) → HEADS ≤ node → node < HEADS + records → has (chains records (home_in (view_of contents) node)) node ≡ true
  unfolding chains
  free_held node more less = rw (free_home node more less) (run_has records HEADS node more less)

  free_tied : IsTied records (link_of contents) (home_in (view_of contents)) (chains records)
  free_tied = record { linked = free_linked; member = free_member; held = free_held }

  pub free_pairs : pairs_in records contents ≡ []
  free_pairs = pairs_none (view_of contents).key (view_of contents).value records free.keys

  free_length : length (chains records 0) ≡ records
  unfolding chains
  free_length = length-run records HEADS

  pub free_store : IsStore records contents
  free_store = record {
    pages = pages;
    sound = record {
      sizes = λ slot less. let e = free.sizes slot less in omega (arith, e);
      apart = λ slot other less less' some e. absurd (some (free.keys slot less));
      tied = tied_behind free_tied (home_below (view_of contents));
      room = (let e = ap length (behind_is free_tied 0 (omega arith)) in let f = free_length in let n = free.count in omega (arith, e, f, n));
      counted = free.count ∙ sym (ap length free_pairs);
    };
  }
