-- Two ranges of pages have a page in common exactly where the later begins before the earlier ends.
use Rattle.std.proofs.Common.{◌≡◌, ℕ, zero, suc, ◌+◌, ◌-◌, ◌<◌, ◌≤◌, inl, inr, true, eqb, ltb, min, max, sym, ◌∙◌, arith}
use Rattle.std.specs.List.{list_any, range_with_len}
use Rattle.std.proofs.lemmas.Bool.{cases_Bool, or_cases, or_left, or_right, eqb-true, eq-eqb, ltb-true, ltb-false, false_from_ne_true, cases_eq, cases_lt}
use Rattle.client_model.specs.Order.{share_page}

-- what is among n numbers from b on lies there
in_range : (p b n : ℕ) → list_any (λ q. eqb p q) (range_with_len b n) ≡ true → (b ≤ p) × (p < b + n)
in_range p b zero h = absurd cc
in_range p b (suc n) h = elim (or_cases (eqb p b) (list_any (λ q. eqb p q) (range_with_len (b + 1) n)) h) [
  | inl e ↦ let same = eqb-true p b e in (omega arith, omega arith)
  | inr t ↦ let rest = in_range p (b + 1) n t in (omega (arith, rest), omega (arith, rest))
]

-- and the other way round
range_has : (p b n : ℕ) → b ≤ p → p < b + n → list_any (λ q. eqb p q) (range_with_len b n) ≡ true
range_has p b zero low high = absurd (omega arith)
range_has p b (suc n) low high = elim (cases_eq p b) [
  | inl e ↦ or_left (eqb p b) (list_any (λ q. eqb p q) (range_with_len (b + 1) n)) (eq-eqb p b e)
  | inr ne ↦ or_right (eqb p b) (list_any (λ q. eqb p q) (range_with_len (b + 1) n)) (range_has p (b + 1) n (omega arith) (omega arith))
]

shared : (a m b n : ℕ) → share_page (range_with_len a m) (range_with_len b n) ≡ true → max a b < min (a + m) (b + n)
shared a zero b n h = absurd cc
shared a (suc m) b n h = elim (or_cases (list_any (λ q. eqb a q) (range_with_len b n)) (share_page (range_with_len (a + 1) m) (range_with_len b n)) h) [
  | inl t ↦ omega (arith, in_range a b n t)
  | inr t ↦ omega (arith, shared (a + 1) m b n t)
]

shares : (a m b n : ℕ) → max a b < min (a + m) (b + n) → share_page (range_with_len a m) (range_with_len b n) ≡ true
shares a zero b n h = absurd (omega arith)
shares a (suc m) b n h = elim (cases_lt a b) [
  | inr ge ↦ or_left (list_any (λ q. eqb a q) (range_with_len b n)) (share_page (range_with_len (a + 1) m) (range_with_len b n)) (range_has a b n (omega arith) (omega arith))
  | inl lt ↦ or_right (list_any (λ q. eqb a q) (range_with_len b n)) (share_page (range_with_len (a + 1) m) (range_with_len b n)) (shares (a + 1) m b n (omega arith))
]

pub overlap : (a e b f : ℕ) → share_page (range_with_len a (e - a)) (range_with_len b (f - b)) ≡ ltb (max a b) (min e f)
overlap a e b f = elim (cases_Bool (ltb (max a b) (min e f))) [
  | inl t ↦ let below = ltb-true _ _ t in shares a (e - a) b (f - b) (omega arith) ∙ sym t
  | inr t ↦ let above = ltb-false _ _ t in false_from_ne_true _ (λ h. let below = shared a (e - a) b (f - b) h in omega arith) ∙ sym t
]
