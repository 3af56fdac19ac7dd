-- What is nothing is nothing, for any machine that it leaves as it was.
use Rattle.std.proofs.Common.{◌≡◌, List, [], ◌∷◌, refl, sym, ap, ◌∙◌, Bool, true, false, cond}
use Rattle.std.specs.Prelude.{filter, not, if◌then◌else◌}
use Rattle.lemmas.specs.Machines.{Machine, answers_over, after_all, without_junk, JunkIsNothing}

module _ {State Given Answer : Type 0} (m : Machine State Given Answer) (is_junk : Answer → Bool) where
  -- junk leaves the machine as it was
  abbrev Stays : Type 0
  Stays = (s : State) (g : Given) → is_junk (m.answer s g) ≡ true → m.after s g ≡ s

  -- one thing more in front, junk or not
  one_more : Stays → (s : State) (g : Given) (gs : List Given) → JunkIsNothing m is_junk (m.after s g) gs → JunkIsNothing m is_junk s (g ∷ gs)
  one_more stays s g gs rest = record { answers = (go (is_junk (m.answer s g)) refl).0; state = (go (is_junk (m.answer s g)) refl).1 } where
    kept : List Given
    kept = without_junk m is_junk (m.after s g) gs

    others : List Answer
    others = filter (λ a. not (is_junk a)) (answers_over m (m.after s g) gs)

    go : (b : Bool) → is_junk (m.answer s g) ≡ b
        → (answers_over m s (if b then kept else g ∷ kept) ≡ cond (not b) (m.answer s g ∷ others) others)
        × (after_all m s (if b then kept else g ∷ kept) ≡ after_all m (m.after s g) gs)
    go true is =
        let same : s ≡ m.after s g = sym (stays s g is) in
        (ap (λ x. answers_over m x kept) same ∙ rest.answers, ap (λ x. after_all m x kept) same ∙ rest.state)
    go false is = (ap (λ answers. m.answer s g ∷ answers) rest.answers, rest.state)

  -- so it is nothing, by induction on what the machine is given
  pub junk_is_nothing : Stays → (given : List Given) (s : State) → JunkIsNothing m is_junk s given
  junk_is_nothing stays [] s = record { answers = refl; state = refl }
  junk_is_nothing stays (g ∷ gs) s = one_more stays s g gs (junk_is_nothing stays gs (m.after s g))
