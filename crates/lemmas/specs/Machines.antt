-- Any machine that is given one thing after another: what it answers, how it stands after, and what its junk is.
use Rattle.std.specs.Prelude.{◌≡◌, Bool, List, [], ◌∷◌, not, filter, if◌then◌else◌}

-- a machine: its answer to what it is given, and how it stands after that
pub record Machine (State Given Answer : Type 0) : Type 0 where
  pub answer : State → Given → Answer
  pub after : State → Given → State

module _ {State Given Answer : Type 0} (m : Machine State Given Answer) where
  -- its answers to all that it is given, in order
  abbrev pub answers_over : State → List Given → List Answer
  answers_over s [] = []
  answers_over s (g ∷ gs) = m.answer s g ∷ answers_over (m.after s g) gs

  -- how it stands after all that it is given
  abbrev pub after_all : State → List Given → State
  after_all s [] = s
  after_all s (g ∷ gs) = after_all (m.after s g) gs

  -- what it is given without what it answers with junk, each thing judged as the machine stands when it comes
  abbrev pub without_junk : (Answer → Bool) → State → List Given → List Given
  without_junk is_junk s [] = []
  without_junk is_junk s (g ∷ gs) =
      if is_junk (m.answer s g) then without_junk is_junk (m.after s g) gs else g ∷ without_junk is_junk (m.after s g) gs

  -- without the junk, it gives the other answers in their order, and stands after as it does with the junk
  pub record JunkIsNothing (is_junk : Answer → Bool) (s : State) (given : List Given) : Type 0 where
    pub answers : answers_over s (without_junk is_junk s given) ≡ filter (λ a. not (is_junk a)) (answers_over s given)
    pub state : after_all s (without_junk is_junk s given) ≡ after_all s given
