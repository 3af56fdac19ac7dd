-- How the fields of a world stand for it, and what holds of them. No public clause cites this module.
use Rattle.std.specs.Prelude.{ℕ, ◌*◌, ◌≡◌, ◌≤◌, List, [], length, map}
use Rattle.std.specs.List.{AllByRecursion as Each}
use Rattle.cl_types.specs.declared.numbers.ClientNo.{ClientNo}
use Rattle.client_model.specs.Client.{ClientState, new_client}
use Rattle.node_model.specs.Nodes.{NodeState}
use Rattle.trace.specs.Properties.{IsInOrder}
use Rattle.client_model.specs.Apart.{AreApart}
use Rattle.indexmap.specs.IndexMap.{IndexMap, keys, values}
use Rattle.world.specs.declared.whole.Whole.{Whole}
use Rattle.world.specs.Worlds.{WorldState}
use Rattle.cl_types.specs.declared.limits.TheConstants.{MOST_TICKS}

-- the world of the fields
abbrev pub world_of : Whole → WorldState
world_of w = record {
  moment = w.moment;
  node = w.node.node;
  clients = values w.clients;
  link = w.link;
  notes = w.notes.items;
  history = w.history.items;
}

-- the world of a node and of new clients, in which nothing has happened
abbrev pub world_around : NodeState → List (ClientNo × ℕ) → WorldState
world_around node given = record {
  moment = 0;
  node = node;
  clients = map (λ g. new_client g.0 g.1) given;
  link = record { frames = []; handed_out = 0 };
  notes = [];
  history = [];
}

-- the numbers of the clients
abbrev pub numbers_of : List ClientState → List ℕ
numbers_of clients = map (λ s. s.client.0) clients

-- each client stands under its number
abbrev pub AreKeyed : {S : Type 0} → IndexMap ℕ ClientState S → Type 0
AreKeyed clients = keys clients ≡ numbers_of (values clients)

-- the client has issued at most n calls, was given no moment after t, and has handed out all that ended
pub record IsWithin (n t : ℕ) (s : ClientState) : Type 0 where
  pub issued : s.issued ≤ n
  pub last : s.last ≤ t
  pub handed_out : s.ended ≡ []

-- what holds of a world after the event of line l
pub record IsSound (l : ℕ) (w : WorldState) : Type 0 where
  pub moment : w.moment ≤ MOST_TICKS * l
  pub frames : length w.link.frames ≤ l
  -- each frame has its note
  pub notes : length w.notes ≡ length w.link.frames
  pub clients : Each (IsWithin l w.moment) w.clients
  pub apart : AreApart (numbers_of w.clients)
  pub order : IsInOrder w.history

-- what holds of the fields after the event of line l
pub record AreSound (l : ℕ) (w : Whole) : Type 0 where
  pub world : IsSound l (world_of w)
  pub node : w.node.last ≤ w.moment
  -- an event makes at most one entry
  pub entries : length w.history.items ≤ l

-- all numbers of a world are as small as they are after the last line that a schedule may have, so that one more event has room
abbrev pub IsReady : Whole → Type 0
IsReady w = AreSound 536870911 w
