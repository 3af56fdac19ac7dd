-- A clock before an answer, by the clock after it.
use Rattle.std.proofs.Common.{◌≡◌, ℕ, List, [], ◌∷◌, Option, Some, None, refl, sym}
use Rattle.std.specs.Option.{option_map}
use Rattle.std.specs.Prelude.{IfSome}
use Rattle.cl_outside.specs.Clock.{Moments, next_moment, after_moment}
use Rattle.wire_loop.specs.Outside.{ClockAnswers, answer_of, after_answer}
use Rattle.wire_loop.specs.Serves.{IsTold, clock_of}

-- a clock that gives this answer, and is this one afterwards
pub record Before (moments : Option Moments) (answer : ℕ) (clock : ClockAnswers) : Type 0 where
  pub first : ClockAnswers
  pub told : IsTold first moments
  pub gives : answer_of first ≡ answer
  pub after : after_answer first ≡ clock

before_told : (coming : List ℕ) (repeated answer : ℕ) (clock : ClockAnswers)
    → answer ≡ next_moment (record { coming = coming; repeated = repeated })
    → clock ≡ clock_of (after_moment (record { coming = coming; repeated = repeated }))
    → Before (Some (record { coming = coming; repeated = repeated })) answer clock
before_told [] repeated answer clock gives after =
    record { first = record { answers = []; repeats = repeated }; told = refl; gives = sym gives; after = sym after }
before_told (n ∷ ns) repeated answer clock gives after =
    record { first = record { answers = n ∷ ns; repeats = repeated }; told = refl; gives = sym gives; after = sym after }

pub clock_before : (moments : Option Moments) (answer : ℕ) → IfSome moments (λ told. answer ≡ next_moment told)
    → (clock : ClockAnswers) → IsTold clock (option_map after_moment moments) → Before moments answer clock
clock_before None answer gives clock told =
    record { first = record { answers = answer ∷ clock.answers; repeats = clock.repeats }; told = tt; gives = refl; after = refl }
clock_before (Some m) answer gives clock told = before_told m.coming m.repeated answer clock gives told
