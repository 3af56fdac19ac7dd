-- Some turns of serving. No public clause cites this module.
use Rattle.std.specs.Prelude.{ℕ, Bool, false, List, [], ◌++◌, map}
use Rattle.cl_outside.specs.Told.{Added}
use Rattle.cl_outside.specs.declared.wire.Peer.{Peer}
use Rattle.wire_loop.specs.Outside.{ClockAnswers, Received}
use Rattle.wire_loop.specs.Serving.{Serving, Turned}
use Rattle.node_core.specs.Keeping.{KeptNode}
use Rattle.node_model.specs.Handling.{latest}
use Rattle.wire_loop.specs.Serves.{Gave, IsTold, Told, message_of}
use Rattle.wire_loop.specs.Turns.{serving}

-- from one node to another by turns of the definition, of which none is the last yet
pub record Ran (frames idles : ℕ) (old now : KeptNode) (before after : Told) (served idle : ℕ) (failed : Bool) : Type 0 where
  pub receives : List (Received Peer)
  pub sendings : List Bool
  pub sent : List (Peer × List ℕ)
  pub gave : Gave receives before.coming after.coming
  pub messages : Added (map message_of sent) before.sent after.sent
  -- whatever the clock and the sendings give later, and whatever is received later
  pub holds : (clock : ClockAnswers) → IsTold clock after.moments → (first : ClockAnswers) × IsTold first before.moments
      × ((more : List Bool) (rest : List (Received Peer)) (end : Serving Peer)
      → Turned latest frames idles (serving now.node now.last clock more sent served idle failed) rest end
      → Turned latest frames idles (serving old.node old.last first (sendings ++ more) [] 0 0 false) (receives ++ rest) end)
