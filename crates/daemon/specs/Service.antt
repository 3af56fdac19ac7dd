-- Serving a node until it is stopped.
use Rattle.std.specs.Prelude.{◌≡◌, ◌⊎◌, ℕ, ◌-◌, ◌^◌, List, [], ◌∷◌, length}
use Rattle.node_core.specs.Keeping.{KeptNode}
use Rattle.wire_loop.specs.Serves.{Told}
use Rattle.daemon.specs.Counts.{counted, no_counts}
use Rattle.daemon.specs.Turns.{IsTurn}
use Rattle.daemon.specs.declared.counts.Counts.{Counts}
use Rattle.daemon.specs.declared.networks.Network.{Network}
use Rattle.daemon.specs.declared.service.TheConstants.{MOST_FAILURES}
use Rattle.daemon.specs.declared.turns.Turn.{Turn}

-- from the one to the other by these turns, the latest of them first
abbrev pub Ran : List Network → List Turn → (old new : KeptNode) → (before after : Told) → Type 0
Ran networks [] old new before after = (new ≡ old) × (after ≡ before)
Ran networks (turn ∷ earlier) old new before after =
    (node : KeptNode) × (told : Told) × Ran networks earlier old node before told × IsTurn networks turn node new told after

-- the counts of these turns, the latest of them first
abbrev pub counts_of : List Turn → Counts
counts_of [] = no_counts
counts_of (turn ∷ earlier) = counted turn (counts_of earlier)

-- so many turns were made, and these are their counts
pub record TurnsMade (networks : List Network) (old new : KeptNode) (before after : Told) (counts : Counts) (count : ℕ) : Type 0 where
  pub turns : List Turn
  pub ran : Ran networks turns old new before after
  pub counts_are : counts ≡ counts_of turns
  pub count_is : count ≡ length turns

-- a node was served until the wire was out of order, or as many turns were made as can be counted
pub record Serviced (networks : List Network) (old new : KeptNode) (before after : Told) (counts : Counts) : Type 0 where
  pub count : ℕ
  pub made : TurnsMade networks old new before after counts count
  pub ends : (counts.failed_in_a_row ≡ MOST_FAILURES) ⊎ (count ≡ 2 ^ 64 - 1)
