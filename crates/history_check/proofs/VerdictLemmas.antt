-- Verdicts, entry by entry.
use Rattle.std.proofs.Common.{◌≡◌, ℕ, zero, suc, ◌+◌, ◌↔◌, Bool, true, false, IsTrue, List, [], ◌∷◌, ◌++◌, length, take, drop, refl, sym, ap, ◌∙◌, subst, Option, Some, None, option_map, slice_get, arith}
use Rattle.cl_types.specs.Config.{bad_number_of}
use Rattle.cl_types.specs.declared.config.Field.{Field}
use Rattle.cl_types.specs.declared.config.NodeConfig.{NodeConfig}
use Rattle.cl_types.specs.declared.line.Entry.{Entry}
use Rattle.cl_types.specs.declared.open_fault.OpenFault.TheVariants.{NoMemory, NoRoom}
use Rattle.flat_model.specs.Opening.{first_without_room, if_none_bad, open_fault, pages_at}
use Rattle.flat_model.specs.State.{FlatState, opening}
use Rattle.flat_model.specs.Run.{IsRunFrom, MayStep, Step, after, after_entry}
use Rattle.flat_model.proofs.RunLemmas.{after-append, run_append, run_split}
use Rattle.history_check.specs.VerdictLaws.{VerdictIsFixed}
use Rattle.history_check.specs.Verdicts.{IsFirstFault, IsVerdictFrom}
use Rattle.history_check.specs.declared.history.Verdict.{Verdict}
use Rattle.history_check.specs.declared.history.Verdict.TheVariants.{Run, NotRun}

-- ---- the opening
-- running out of memory is no fault of a configuration
pub memory_is_no_open_fault : (c : NodeConfig) → open_fault c ≡ Some NoMemory → ⊥
memory_is_no_open_fault c is = none (bad_number_of c) (first_without_room c) is
  where
    none : (number : Option (Field × ℕ)) (first : Option ℕ) → if_none_bad number (option_map (λ k. NoRoom k (pages_at c.offloads k)) first) ≡ Some NoMemory → ⊥
    none (Some number) first is = cc is
    none None None is = cc is
    none None (Some k) is = cc is

-- ---- one entry more
-- the entries up to this one
pub take_one : {A : Type 0} (xs : List A) (i : ℕ) (x : A) → slice_get xs i ≡ Some x → take (i + 1) xs ≡ take i xs ++ x ∷ []
take_one [] i x there = absurd cc
take_one (y ∷ xs) zero x there = let same : y ≡ x = cc there in ap (λ z. z ∷ []) same
take_one (y ∷ xs) (suc i) x there =
    let next : suc i + 1 ≡ suc (i + 1) = omega arith in
    rw next (ap (λ zs. y ∷ zs) (take_one xs i x there))

-- a list, parted at one of its items
pub parted_at : {A : Type 0} (xs : List A) (i : ℕ) (x : A) → slice_get xs i ≡ Some x → xs ≡ take i xs ++ x ∷ drop (i + 1) xs
parted_at [] i x there = absurd cc
parted_at (y ∷ xs) zero x there = let same : y ≡ x = cc there in ap (λ z. z ∷ xs) same
parted_at (y ∷ xs) (suc i) x there =
    let next : suc i + 1 ≡ suc (i + 1) = omega arith in
    rw next (ap (λ zs. y ∷ zs) (parted_at xs i x there))

pub length_at : {A : Type 0} (xs : List A) (i : ℕ) (x : A) → slice_get xs i ≡ Some x → length (take i xs) ≡ i
length_at [] i x there = absurd cc
length_at (y ∷ xs) zero x there = refl
length_at (y ∷ xs) (suc i) x there = ap suc (length_at xs i x there)

module _ (s : FlatState) (entries : List Entry) (i : ℕ) (entry : Entry) where
  -- an entry that is a step goes on with the run
  pub run_on : (now new : FlatState) → slice_get entries i ≡ Some entry → now ≡ after s (take i entries) → IsRunFrom s (take i entries)
      → Step now entry.pid entry.request entry.reply new
      → (new ≡ after s (take (i + 1) entries)) × IsRunFrom s (take (i + 1) entries)
  run_on now new there here run step =
      let taken : take (i + 1) entries ≡ take i entries ++ entry ∷ [] = take_one entries i entry there in
      let more : Step (after s (take i entries)) entry.pid entry.request entry.reply new = subst (λ (t : FlatState). Step t entry.pid entry.request entry.reply new) here step in
      let is : new ≡ after_entry (after s (take i entries)) entry = more.after in
      let steps : Step (after s (take i entries)) entry.pid entry.request entry.reply (after_entry (after s (take i entries)) entry) =
      subst (λ (t : FlatState). Step (after s (take i entries)) entry.pid entry.request entry.reply t) is more in
      let there' : new ≡ after s (take i entries ++ entry ∷ []) = is ∙ sym (after-append s (take i entries) (entry ∷ [])) in (
        there' ∙ ap (λ (es : List Entry). after s es) (sym taken),
        subst (λ (es : List Entry). IsRunFrom s es) (sym taken) (run_append s (take i entries) (entry ∷ []) run (steps, tt)),
      )

  -- an entry that is no step ends it
  pub run_ends : (now : FlatState) (number : ℕ) → slice_get entries i ≡ Some entry → now ≡ after s (take i entries) → IsRunFrom s (take i entries)
      → number ≡ i + 1 → (MayStep now entry.pid entry.request entry.reply → ⊥) → IsFirstFault s entries number
  run_ends now number there here run counted fails = record {
    before = take i entries;
    entry = entry;
    behind = drop (i + 1) entries;
    parted = parted_at entries i entry there;
    numbered = counted ∙ ap (λ n. n + 1) (sym (length_at entries i entry there));
    run = run;
    no_step = λ may. fails (subst (λ (t : FlatState). MayStep t entry.pid entry.request entry.reply) (sym here) may);
  }

-- a check that answers no refuses the step
pub refused : {may : Type 0} (answer : Bool) → IsTrue answer ↔ may → answer ≡ false → may → ⊥
refused answer allowed fails step = let passes : answer ≡ true = allowed.1 step in cc

-- ---- one verdict
-- a run has no entry that is no step
no_fault : (s : FlatState) (entries : List Entry) (number : ℕ) → IsRunFrom s entries → IsFirstFault s entries number → ⊥
no_fault s entries number run fault =
    let parts = run_split s fault.before (fault.entry ∷ fault.behind) (subst (λ (es : List Entry). IsRunFrom s es) fault.parted run) in
    fault.no_step parts.1.0

-- two first faults come after as many entries
same_length : (s : FlatState) (before other : List Entry) (entry last : Entry) (behind rest : List Entry) → before ++ entry ∷ behind ≡ other ++ last ∷ rest
    → IsRunFrom s before → IsRunFrom s other → (MayStep (after s before) entry.pid entry.request entry.reply → ⊥)
    → (MayStep (after s other) last.pid last.request last.reply → ⊥) → length before ≡ length other
same_length s [] [] entry last behind rest same run run' fails fails' = refl
same_length s [] (x ∷ other) entry last behind rest same run run' fails fails' =
    let e : x ≡ entry = cc same in
    absurd (fails (subst (λ (e : Entry). MayStep s e.pid e.request e.reply) e run'.0))
same_length s (x ∷ before) [] entry last behind rest same run run' fails fails' =
    let e : x ≡ last = cc same in
    absurd (fails' (subst (λ (e : Entry). MayStep s e.pid e.request e.reply) e run.0))
same_length s (x ∷ before) (y ∷ other) entry last behind rest same run run' fails fails' =
    let e : y ≡ x = cc same in
    let tail : before ++ entry ∷ behind ≡ other ++ last ∷ rest = cc same in
    ap suc (same_length (after_entry s x) before other entry last behind rest tail run.1
    (subst (λ (e : Entry). IsRunFrom (after_entry s e) other) e run'.1) fails
    (subst (λ (e : Entry). MayStep (after (after_entry s e) other) last.pid last.request last.reply → ⊥) e fails'))

one_fault : (s : FlatState) (entries : List Entry) (number other : ℕ) → IsFirstFault s entries number → IsFirstFault s entries other → number ≡ other
one_fault s entries number other first second =
    first.numbered
    ∙ ap (λ n. n + 1)
    (same_length s first.before second.before first.entry second.entry first.behind second.behind (sym first.parted ∙ second.parted) first.run second.run first.no_step second.no_step)
    ∙ sym second.numbered

one_verdict : (s : FlatState) (entries : List Entry) (verdict other : Verdict) → IsVerdictFrom s entries verdict → IsVerdictFrom s entries other → verdict ≡ other
one_verdict s entries Run Run is is' = refl
one_verdict s entries Run (NotRun number) is is' = absurd (no_fault s entries number is is')
one_verdict s entries (NotRun number) Run is is' = absurd (no_fault s entries number is' is)
one_verdict s entries (NotRun number) (NotRun other) is is' = ap (λ (n : ℕ). NotRun n) (one_fault s entries number other is is')

pub verdict_is_fixed : VerdictIsFixed
verdict_is_fixed c entries verdict other is is' = one_verdict (opening c) entries verdict other is is'
