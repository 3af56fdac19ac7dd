-- An entry of a reading part changes no state.
use Rattle.std.proofs.Common.{◌≡◌, ℕ, List, [], ◌∷◌, refl, ap, Bool, true, false, cond}
use Rattle.std.specs.Prelude.{filter}
use Rattle.cl_types.specs.declared.line.Entry.{Entry}
use Rattle.cl_types.specs.declared.config.Config.{Config}
use Rattle.cl_types.specs.Requests.{is_changing}
use Rattle.flat_model.specs.State.{FlatState, opening}
use Rattle.flat_model.specs.Run.{after, after_entry}
use Rattle.trace.specs.Account.{with_entry, is_before, memory_at}
use Rattle.flat_model.proofs.RunLemmas.{reading_keeps}

-- ---- a reading entry in its place leaves what is after any of the entries
after_kept_one : (test : Entry → Bool) (s : FlatState) (e : Entry) (es : List Entry) (b : Bool) → is_changing e.request ≡ false → after s (cond b (e ∷ es) es) ≡ after s es
after_kept_one test s e es true r = ap (λ z. after z es) (reading_keeps s e.pid e.request e.reply r)
after_kept_one test s e es false r = refl

after_kept_more : (test : Entry → Bool) (s : FlatState) (e x : Entry) (h : List Entry) (b c : Bool) → is_changing e.request ≡ false →
    ((s : FlatState) → after s (filter test (with_entry e h)) ≡ after s (filter test h)) →
    after s (filter test (elim b [ true ↦ x ∷ with_entry e h | false ↦ e ∷ x ∷ h ])) ≡ after s (filter test (x ∷ h))
after_kept_more test s e x h true c r rec = more (test x)
  where
    more : (d : Bool) → after s (cond d (x ∷ filter test (with_entry e h)) (filter test (with_entry e h))) ≡ after s (cond d (x ∷ filter test h) (filter test h))
    more true = rec (after_entry s x)
    more false = rec s
after_kept_more test s e x h false c r rec = after_kept_one test s e (filter test (x ∷ h)) (test e) r

pub after_with_entry : (test : Entry → Bool) (s : FlatState) (e : Entry) (h : List Entry) → is_changing e.request ≡ false → after s (filter test (with_entry e h)) ≡ after s (filter test h)
after_with_entry test s e [] r = after_kept_one test s e [] (test e) r
after_with_entry test s e (x ∷ h) r =
    after_kept_more test s e x h (is_before e.line e.position x) true r (λ z. after_with_entry test z e h r)

-- the memory before any position is the same with a reading entry in its place
pub memory_with_entry : (c : Config) (e : Entry) (h : List Entry) (l q : ℕ) → is_changing e.request ≡ false → memory_at c (with_entry e h) l q ≡ memory_at c h l q
memory_with_entry c e h l q r = after_with_entry (is_before l q) (opening c.node) e h r
