-- An entry put into its place.
use Rattle.std.proofs.Common.{◌≡◌, ℕ, List, [], ◌∷◌, ◌++◌, refl, sym, ap, ◌∙◌, subst, Bool, true, false, cond, ◌⊎◌, inl, inr}
use Rattle.std.specs.Prelude.{filter, IsTrue}
use Rattle.cl_types.specs.declared.line.Entry.{Entry}
use Rattle.cl_types.specs.declared.config.Config.{Config}
use Rattle.cl_types.specs.Requests.{is_changing}
use Rattle.flat_model.specs.State.{FlatState, opening}
use Rattle.cl_types.specs.Ranges.{is_in_range}
use Rattle.flat_model.specs.Step.{MayReply}
use Rattle.flat_model.specs.Run.{after, after_entry, IsRunFrom}
use Rattle.trace.specs.Account.{with_entry, with_entries, is_before, memory_at}
use Rattle.std.specs.List.{AllByRecursion as Each}
use Rattle.trace.specs.Properties.{IsInOrder}
use Rattle.flat_model.proofs.RunLemmas.{reading_keeps, run_append}
use Rattle.lemmas.proofs.Lists.{each_weaker}
use Rattle.trace_laws.proofs.Reading.{memory_with_entry}
use Rattle.trace.proofs.HistoryLemmas.{follows_on}

-- where all stand before it, it joins them at the end
pub with_last : (e : Entry) (h : List Entry) → Each (λ (x : Entry). is_before e.line e.position x ≡ true) h → with_entry e h ≡ h ++ e ∷ []
with_last e [] k = refl
with_last e (x ∷ h) k = go (is_before e.line e.position x) k.0 (with_last e h k.1)
  where
    go : (b : Bool) → b ≡ true → with_entry e h ≡ h ++ e ∷ [] → elim b [ true ↦ x ∷ with_entry e h | false ↦ e ∷ x ∷ h ] ≡ x ∷ h ++ e ∷ []
    go b t k = rw t (ap (λ z. x ∷ z) k)

pub all_before : (test : Entry → Bool) (h : List Entry) → Each (λ (x : Entry). test x ≡ true) h → filter test h ≡ h
all_before test [] k = refl
all_before test (x ∷ h) k = rw k.0 (ap (λ z. x ∷ z) (all_before test h k.1))

pub none_before : (test : Entry → Bool) (h : List Entry) → Each (λ (x : Entry). test x ≡ false) h → filter test h ≡ []
none_before test [] k = refl
none_before test (x ∷ h) k = rw k.0 (none_before test h k.1)

-- an entry that fails the test may be put anywhere
pub filter_with_entry : (test : Entry → Bool) (e : Entry) (h : List Entry) → test e ≡ false → filter test (with_entry e h) ≡ filter test h
filter_with_entry test e [] k = rw k refl
filter_with_entry test e (x ∷ h) k = go (is_before e.line e.position x) (filter_with_entry test e h k)
  where
    more : (d : Bool) → filter test (with_entry e h) ≡ filter test h → cond d (x ∷ filter test (with_entry e h)) (filter test (with_entry e h)) ≡ cond d (x ∷ filter test h) (filter test h)
    more d r = rw r refl

    go : (b : Bool) → filter test (with_entry e h) ≡ filter test h → filter test (elim b [ true ↦ x ∷ with_entry e h | false ↦ e ∷ x ∷ h ]) ≡ filter test (x ∷ h)
    go true r = more (test x) r
    go false r = rw k refl

-- ---- the memory before a place, as entries join
-- entries that read, or don't stand before the place
abbrev pub Apart : ℕ → ℕ → Entry → Type 0
Apart l q e = (is_changing e.request ≡ false) ⊎ (is_before l q e ≡ false)

memory_apart : (c : Config) (e : Entry) (h : List Entry) (l q : ℕ) → Apart l q e → memory_at c (with_entry e h) l q ≡ memory_at c h l q
memory_apart c e h l q (inl r) = memory_with_entry c e h l q r
memory_apart c e h l q (inr r) = ap (after (opening c.node)) (filter_with_entry (is_before l q) e h r)

pub memory_kept : (c : Config) (es h : List Entry) (l q : ℕ) → Each (Apart l q) es → memory_at c (with_entries es h) l q ≡ memory_at c h l q
memory_kept c [] h l q k = refl
memory_kept c (e ∷ es) h l q k = memory_kept c es (with_entry e h) l q k.1 ∙ memory_apart c e h l q k.0

-- ---- runs
pub run_push : (s : FlatState) (e : Entry) (h : List Entry) → IsRunFrom s h → IsTrue (is_in_range e.request) → MayReply (after s h) e.pid e.request e.reply → IsRunFrom s (h ++ e ∷ [])
run_push s e h r i m = run_append s h (e ∷ []) r (record { in_range = i; may = m; after = refl }, tt)

-- a reading entry goes into its place, where its reply may be given
pub run_insert : (s : FlatState) (e : Entry) (h : List Entry) → is_changing e.request ≡ false → IsInOrder h → IsRunFrom s h → IsTrue (is_in_range e.request) →
    MayReply (after s (filter (is_before e.line e.position) h)) e.pid e.request e.reply → IsRunFrom s (with_entry e h)
run_insert s e [] c o r i m = (record { in_range = i; may = m; after = refl }, tt)
run_insert s e (x ∷ h) c o r i m = go (is_before e.line e.position x) refl m (run_insert (after_entry s x) e h c o.1 r.1 i)
  where
    go : (b : Bool) → is_before e.line e.position x ≡ b →
        MayReply (after s (cond b (x ∷ filter (is_before e.line e.position) h) (filter (is_before e.line e.position) h))) e.pid e.request e.reply →
        (MayReply (after (after_entry s x) (filter (is_before e.line e.position) h)) e.pid e.request e.reply → IsRunFrom (after_entry s x) (with_entry e h)) →
        IsRunFrom s (elim b [ true ↦ x ∷ with_entry e h | false ↦ e ∷ x ∷ h ])
    go true t m rec = (r.0, rec m)
    go false t m rec =
        let none : filter (is_before e.line e.position) h ≡ [] = none_before (is_before e.line e.position) h (each_weaker _ _ (λ y z. follows_on e x y t z) h o.0) in (
          record { in_range = i; may = subst (λ z. MayReply (after s z) e.pid e.request e.reply) none m; after = refl },
          subst (λ z. IsRunFrom z (x ∷ h)) (sym (reading_keeps s e.pid e.request e.reply c)) r,
        )
