-- Replies that are all noted at moment 0.
use Rattle.std.proofs.Common.{◌≡◌, ◌≤◌, ◌-◌, ℕ, zero, suc, List, [], ◌∷◌, ◌++◌, length, drop}
use Rattle.std.specs.List.{AllByRecursion}
use Rattle.retry_buffer.specs.declared.noted.Noted.{Noted}
use Rattle.retry_buffer.specs.Kept.{Kept, AreNotedBy, with_noted}

all_push : (P : Noted → Type 0) (xs : List Noted) (r : Noted) → AllByRecursion P xs → P r → AllByRecursion P (xs ++ r ∷ [])
all_push P [] r all last = (last, tt)
all_push P (x ∷ xs) r all last = (all.0, all_push P xs r all.1 last)

all_drop : (P : Noted → Type 0) (k : ℕ) (xs : List Noted) → AllByRecursion P xs → AllByRecursion P (drop k xs)
all_drop P zero xs all = all
all_drop P (suc k) [] all = tt
all_drop P (suc k) (x ∷ xs) all = all_drop P k xs all.1

-- one more of moment 0 leaves them so
pub noted_more : (r : Noted) (kept : Kept) → r.moment ≤ 0 → AreNotedBy 0 kept.records → AreNotedBy 0 (with_noted r kept).records
noted_more r kept young all =
    let whole = kept.records ++ r ∷ [] in
    all_drop (λ (n : Noted). n.moment ≤ 0) (length whole - kept.capacity) whole (all_push (λ (n : Noted). n.moment ≤ 0) kept.records r all young)
