-- What a wire and a clock give to the loops that serve a node and drive a client.
use Rattle.std.specs.Prelude.{ℕ, max, Bool, true, List, [], ◌∷◌}

-- ---- a clock
-- a clock: the moments that it still answers, in ticks, and the one that it repeats after them
pub record ClockAnswers : Type 0 where
  pub answers : List ℕ
  pub repeats : ℕ

-- the clock's next answer
abbrev pub answer_of : ClockAnswers → ℕ
answer_of clock = elim clock.answers [ [] ↦ clock.repeats | n ∷ ns ↦ n ]

-- the clock after its next answer
abbrev pub after_answer : ClockAnswers → ClockAnswers
after_answer clock = record clock { answers = elim clock.answers [ [] ↦ [] | n ∷ ns ↦ ns ] }

-- the greater of the clock's answer and the last moment
abbrev pub moment_of : ClockAnswers → (last : ℕ) → ℕ
moment_of clock last = max (answer_of clock) last

-- ---- a wire: what each receiving gives; where a datagram comes from is a value of any type
-- what a receiving gives: a datagram with where it comes from, nothing, or a fault of the wire
pub data Received (Peer : Type 0) : Type 0 where
  Datagram : (bytes : List ℕ) → (from : Peer) → Received Peer
  NothingCame : Received Peer
  ReceivingFailed : Received Peer

-- whether each sending to come goes through; after the list each does
abbrev pub Sendings : Type 0
Sendings = List Bool

-- the next sending goes through
abbrev pub goes_through : Sendings → Bool
goes_through [] = true
goes_through (sent ∷ sendings) = sent

-- the sendings to come after the next one
abbrev pub after_sending : Sendings → Sendings
after_sending [] = []
after_sending (sent ∷ sendings) = sendings
