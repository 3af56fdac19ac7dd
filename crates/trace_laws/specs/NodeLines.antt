-- The keeping node read off an account, and what each line leaves of it, by the node's machine alone.
use Rattle.std.specs.Prelude.{ℕ, ◌+◌, ◌≡◌, ◌≤◌, Bool, true, false, List, [], ◌∷◌, ◌++◌, map, Option, Some, None}
use Rattle.cl_types.specs.declared.config.Config.{Config}
use Rattle.cl_types.specs.declared.frame.How.{How}
use Rattle.cl_types.specs.declared.frame.How.TheVariants.{Executed, Looked}
use Rattle.cl_types.specs.declared.line.Did.TheVariants as did
use Rattle.cl_types.specs.declared.line.Entry.{Entry}
use Rattle.cl_types.specs.declared.schedule.Event.{Event}
use Rattle.cl_types.specs.declared.schedule.Event.TheVariants as event
use Rattle.cl_types.specs.Times.{is_live}
use Rattle.trace.specs.Account.{Account, Carried, Effect, Frame, Load, Asks, Answers, frame_at, joined_by, now, says, taken_in_order}
use Rattle.trace.specs.Clients.{first_sent}
use Rattle.trace.specs.Events.{account_of_latest, entry_of, handed, next_account, nothing_happens, replies, then_also}
use Rattle.frame_model.specs.Frames.{Item, kind_of}
use Rattle.node_model.specs.Handling.{latest}
use Rattle.node_model.specs.Nodes.{NodeState, Record, ItemAnswer, Gives, IsBusy, node_after, said_to}
use Rattle.flat_model.specs.Run.{after, changing_of}
use Rattle.flat_model.specs.State.{opening}
use Rattle.trace.specs.Schedules.{IsRisingFrom, AreTyped}

-- ---- the node of an account
-- the id of a first sending, and 0 where there was none
abbrev pub id_of : Option (ℕ × ℕ) → ℕ
id_of None = 0
id_of (Some first) = first.0

-- a changing entry, as the node recorded it: under the id of the first sending of its part
abbrev pub record_at : Account → Entry → Record
record_at a e = record {
  moment = now a e.line;
  name = record { client = e.client; kind = kind_of e.request; orig = id_of (first_sent a e.client e.part) };
  reply = e.reply;
}

-- the node: the flat state after the history, and the latest changing entries as its records
abbrev pub node_at : Config → Account → NodeState
node_at config a = record {
  flat = after (opening config.node) a.history;
  records = map (record_at a) (latest config.node.retry (changing_of a.history));
  retry = config.node.retry;
}

-- ---- what it says
-- the items that are carried, as a node reads them
abbrev pub items_carried : List Carried → List Item
items_carried items = map (λ i. i.item) items

-- the entries that an answer brings at once: that of an executed request
abbrev pub entries_by : How → Entry → List Entry
entries_by Executed e = e ∷ []
entries_by other e = []

-- the entries that it brings where its reply is taken: that of a look
abbrev pub looks_by : How → Entry → List Entry
looks_by Looked e = e ∷ []
looks_by other e = []

-- what it brings that a node says this to the item at position q of a frame
abbrev pub on_said : Account → (l frame q : ℕ) → Carried → ItemAnswer → Effect
on_said a l frame q i (Gives how reply) =
    replies a l frame i how reply (entries_by how (entry_of l q i reply)) (looks_by how (entry_of l q i reply))
on_said a l frame q i (IsBusy oldest at) = says (did.Busy frame i.item.head.client i.part oldest at)

-- what it brings that a node says this to the items of a frame, in order
abbrev pub on_all_said : Account → (l frame q : ℕ) → List Carried → List ItemAnswer → Effect
on_all_said a l frame q (i ∷ items) (said ∷ rest) =
    let e : Effect = on_said a l frame q i said in then_also e (on_all_said (joined_by a e) l frame (q + 1) items rest)
on_all_said a l frame q other said = nothing_happens

-- ---- what a line leaves of it
-- a live frame: its items are answered in order
abbrev pub node_after_load : ℕ → Load → NodeState → NodeState
node_after_load t (Asks items) n = node_after latest n t (items_carried items)
node_after_load t (Answers head reply if_taken) n = n

-- a frame that was delivered, live or not: only a live one comes to the node
abbrev pub node_after_delivered : ℕ → Bool → Frame → NodeState → NodeState
node_after_delivered t true frame n = node_after_load t frame.load n
node_after_delivered t false frame n = n

-- the frame of a delivery, where there is one
abbrev pub node_after_frame : ℕ → Option Frame → NodeState → NodeState
node_after_frame t None n = n
node_after_frame t (Some frame) n = node_after_delivered t (is_live t frame.moment) frame n

-- the node after an event: a live request frame is a step of its machine, and all else leaves it
abbrev pub node_after_event : Account → ℕ → Event → NodeState → NodeState
node_after_event a l (event.Deliver frame) n = node_after_frame (now a l) (frame_at a frame) n
node_after_event a l event.DeliverNext n = node_after_frame (now a l) (frame_at a (taken_in_order a + 1)) n
node_after_event a l other n = n

-- what an account and a line more say of its node
pub record NodeFollows (config : Config) (a : Account) (l : ℕ) (event : Event) : Type 0 where
  -- the line leaves it as its machine does
  pub node : node_at config (next_account (latest config.node.retry) config a (l, event)) ≡ node_after_event a l event (node_at config a)
  -- and a request frame that comes to it brings what it says
  pub says : (k : ℕ) (frame : Frame) (items : List Carried) → frame_at a k ≡ Some frame → frame.load ≡ Asks items
      → handed (latest config.node.retry) config a l k (Asks items)
      ≡ on_all_said a l k 0 items (said_to latest (node_at config a) (now a l) (items_carried items))

-- In the account of every schedule, where the node keeps at least one record, each line leaves the node as its machine
-- does, and brings what the machine says.
abbrev pub NodesFollow : Type 0
NodesFollow =
    (config : Config) (events : List (ℕ × Event)) (l : ℕ) (event : Event)
    → 1 ≤ config.node.retry → IsRisingFrom 0 (events ++ (l, event) ∷ []) → AreTyped events
    → NodeFollows config (account_of_latest config events) l event
