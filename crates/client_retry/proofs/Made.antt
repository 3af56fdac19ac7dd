-- The fields of a flight that has no part yet.
use Rattle.std.proofs.Common.{◌≡◌, ℕ, zero, suc, ◌+◌, List, [], length, replicate, Option, None, refl, sym, ap, ◌∙◌}
use Rattle.std.proofs.lemmas.List.{length-replicate}
use Rattle.index_lists.specs.NodeLists.{NodeLists, has, list_at, IsValid}
use Rattle.client_retry.specs.declared.flown.Flown.{Flown}
use Rattle.client_retry.specs.Fields.{IsSound}
use Rattle.client_retry.specs.Slots.{slot_at}
use Rattle.index_lists.proofs.Free.{with_free, no_list}

no_slot : (n p : ℕ) → slot_at (replicate n None) p ≡ None
no_slot zero p = refl
no_slot (suc n) zero = refl
no_slot (suc n) (suc p) = no_slot n p

pub made_sound : (slots : List (Option Flown)) (places chains : NodeLists) → slots ≡ replicate 64 None → places ≡ with_free 64 64 → IsValid places → chains ≡ record { nodes = 64; lists = replicate 64 [] } → IsValid chains
    → IsSound slots places chains 0
made_sound slots places chains es ep vp ec vc = record {
  slot_count = ap (length {A = Option Flown}) es ∙ length-replicate {A = Option Flown} 64 None;
  place_count = ap (λ v. v.nodes) ep;
  two_lists = ap (λ v. length v.lists) ep;
  places_valid = vp;
  chained_count = ap (λ v. v.nodes) ec;
  chain_count = ap (λ v. length v.lists) ec ∙ length-replicate {A = List ℕ} 64 [];
  chains_valid = vc;
  counted = sym (ap (λ v. length (list_at v 0)) ep);
  all_listed = ap (λ v. length (list_at v 0) + length (list_at v 1)) ep;
  filled = λ p h. absurd (let none = sym (ap (λ v. has (list_at v 0) p) ep) ∙ h in cc);
  vacant = λ p h. ap (λ v. slot_at v p) es ∙ no_slot 64 p;
  chained = λ p h. absurd (let none = sym (ap (λ v. has (list_at v 0) p) ep) ∙ h in cc);
  used = λ l p h. absurd (let none = sym (ap (λ v. has (list_at v l) p) ec ∙ ap (λ xs. has xs p) (no_list 64 l)) ∙ h in cc);
  alone = λ p q h h' same. absurd (let none = sym (ap (λ v. has (list_at v 0) p) ep) ∙ h in cc);
}
