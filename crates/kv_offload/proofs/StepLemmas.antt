-- What the steps that make a space an empty store give.
use Rattle.std.proofs.Common.{◌≡◌, ℕ, ◌+◌, ◌<◌, ◌==◌, inl, inr, List, [], refl, sym, ap, ◌∙◌, arith, if◌then◌else◌}
use Rattle.std.proofs.lemmas.Bool.{cases_eq, ne_eqb}
use Rattle.kv_offload.specs.declared.layout.TheConstants.{HEADS}
use Rattle.kv_offload.specs.Layout.{View, Says, view_of, link_of, count_of, key_of, value_size, with_link, with_slot, with_count, next_free}
use Rattle.kv_offload.proofs.SaysLemmas.{but_here, but_other}
use Rattle.kv_offload.proofs.SoundLemmas.{says_itself}
use Rattle.kv_offload.proofs.EmptyLemmas.{AreFree}

-- what a write makes of all that the bytes said
abbrev pub Turns : ℕ → List ℕ → List ℕ → (View → View) → Type 0
Turns records old new turned = (view : View) → Says records old view → Says records new (turned view)

-- one more head has no node behind it
pub head_cleared : (records head : ℕ) (old new : List ℕ) → head < HEADS → Turns records old new (λ view. with_link view head 0)
    → ((node : ℕ) → node < head → link_of old node ≡ 0) → (node : ℕ) → node < head + 1 → link_of new node ≡ 0
head_cleared records head old new below turns cleared node less =
    let says = turns (view_of old) (says_itself records old) in
    says.link node (omega arith) ∙ elim (cases_eq node head) [
      | inl e ↦ ap (with_link (view_of old) head 0).link e ∙ but_here (link_of old) head 0
      | inr ne ↦ but_other (link_of old) head node 0 ne ∙ cleared node (omega (arith, ne))
    ]

pub count_cleared : (records : ℕ) (old new : List ℕ) → Turns records old new (λ view. with_count view 0) → count_of new ≡ 0
count_cleared records old new turns = (turns (view_of old) (says_itself records old)).count

pub count_links : (records : ℕ) (old new : List ℕ) → Turns records old new (λ view. with_count view 0)
    → ((node : ℕ) → node < HEADS → link_of old node ≡ 0) → (node : ℕ) → node < HEADS → link_of new node ≡ 0
count_links records old new turns cleared node less = (turns (view_of old) (says_itself records old)).link node (omega arith) ∙ cleared node less

-- the free slots begin with the first slot
pub free_begins : (records : ℕ) (old new : List ℕ) → Turns records old new (λ view. with_link view 0 HEADS)
    → ((node : ℕ) → node < HEADS → link_of old node ≡ 0) → (node : ℕ) → node < HEADS → link_of new node ≡ (if node == 0 then HEADS else 0)
free_begins records old new turns cleared node less =
    (turns (view_of old) (says_itself records old)).link node (omega arith) ∙ elim (cases_eq node 0) [
      | inl e ↦ rw e refl
      | inr ne ↦ rw (ne_eqb node 0 ne) (cleared node less)
    ]

pub count_stays : (records : ℕ) (old new : List ℕ) → Turns records old new (λ view. with_link view 0 HEADS) → count_of old ≡ 0 → count_of new ≡ 0
count_stays records old new turns none = (turns (view_of old) (says_itself records old)).count ∙ none

-- no slot was made free yet
pub none_free : (records : ℕ) (contents : List ℕ) → ((node : ℕ) → node < HEADS → link_of contents node ≡ (if node == 0 then HEADS else 0)) → count_of contents ≡ 0
    → AreFree records 0 contents
none_free records contents heads count = record {
  keys = λ slot less. absurd (omega arith);
  sizes = λ slot less. absurd (omega arith);
  links = λ slot less. absurd (omega arith);
  heads = heads;
  count = count;
}

-- one more slot is free
pub more_free : (records done next : ℕ) (old new : List ℕ) → done < records → next ≡ next_free records done → Turns records old new (λ view. with_slot view done next [] [])
    → AreFree records done old → AreFree records (done + 1) new
more_free records done next old new inside is turns free =
    let says = turns (view_of old) (says_itself records old) in
    let now : View = with_slot (view_of old) done next [] [] in
    record {
      keys = λ slot less. says.key slot (omega arith) ∙ elim (cases_eq slot done) [
        | inl e ↦ ap now.key e ∙ but_here (key_of old) done []
        | inr ne ↦ but_other (key_of old) done slot [] ne ∙ free.keys slot (omega (arith, ne))
      ];
      sizes = λ slot less. says.size slot (omega arith) ∙ elim (cases_eq slot done) [
        | inl e ↦ ap now.size e ∙ but_here (value_size old) done 0
        | inr ne ↦ but_other (value_size old) done slot 0 ne ∙ free.sizes slot (omega (arith, ne))
      ];
      links = λ slot less. says.link (HEADS + slot) (omega arith) ∙ elim (cases_eq slot done) [
        | inl e ↦ ap (λ s. now.link (HEADS + s)) e ∙ but_here (link_of old) (HEADS + done) next ∙ is ∙ ap (next_free records) (sym e)
        | inr ne ↦ but_other (link_of old) (HEADS + done) (HEADS + slot) next (λ z. ne (omega (arith, z))) ∙ free.links slot (omega (arith, ne))
      ];
      heads = λ node less. says.link node (omega arith) ∙ but_other (link_of old) (HEADS + done) node next (λ z. omega (arith, z)) ∙ free.heads node less;
      count = says.count ∙ free.count;
    }
