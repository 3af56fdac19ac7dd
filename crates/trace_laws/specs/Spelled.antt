-- The bytes of an account's frames spell what the frames carry, and are heard as that.
use Rattle.std.specs.Prelude.{ℕ, ◌^◌, ◌<◌, ◌≡◌, List, [], ◌∷◌, length, Option, Some, None}
use Rattle.std.specs.List.{AllByRecursion as Each}
use Rattle.cl_types.specs.declared.config.Config.{Config}
use Rattle.cl_types.specs.declared.frame.Head.{Head}
use Rattle.cl_types.specs.declared.line.Entry.{Entry}
use Rattle.cl_types.specs.declared.reply.Reply.{Reply}
use Rattle.cl_types.specs.declared.request.Request.{Request}
use Rattle.cl_types.specs.declared.schedule.Event.{Event}
use Rattle.trace.specs.Account.{Carried, Frame, Load, Asks, Answers, frame_at}
use Rattle.client_model.specs.Client.{Sending, flight_under}
use Rattle.trace.specs.Clients.{client_at}
use Rattle.trace.specs.Events.{account}
use Rattle.frame_model.specs.Frames.{SpellsReply, SpellsRequest, kind_of}
use Rattle.client_model.specs.Hearing.{Hearing, HearsLate, HearsReply, hearing}
use Rattle.trace.specs.Schedules.{IsGood}
use Rattle.node_laws.specs.RepliesFit.{IsReplyTo}

-- an entry that waits for the reply of a frame stands on the frame's line, and is of the process in its head
pub record IsLookOf (line : ℕ) (head : Head) (e : Entry) : Type 0 where
  pub on_line : e.line ≡ line
  pub first : e.position ≡ 0
  pub process : e.pid ≡ head.pid

-- The bytes of a frame of this line spell the one item that it asks, or the reply that it carries, which is one to some
-- request.
abbrev pub SpellsLoad : List ℕ → ℕ → Load → Type 0
SpellsLoad bytes line (Asks items) = (i : Carried) × (items ≡ i ∷ []) × SpellsRequest bytes i.item.head i.item.request
SpellsLoad bytes line (Answers head reply if_taken) =
    (r : Request) × SpellsReply bytes head (kind_of r) reply × IsReplyTo r reply × Each (IsLookOf line head) if_taken

-- In the account of every good schedule, of fewer events than an id counts, each frame spells what it carries.
abbrev pub FramesAreSpelled : Type 0
FramesAreSpelled =
    (config : Config) (events : List (ℕ × Event)) → IsGood config events → length events < 2 ^ 64
    → Each (λ (f : Frame). SpellsLoad f.bytes f.line f.load) (account config events).frames

-- a good reply is late where no part in flight has its orig, and else is taken for that part
abbrev pub heard_as : Head → Reply → Option Sending → Hearing
heard_as head reply None = HearsLate head.orig
heard_as head reply (Some f) = HearsReply f reply

-- And each reply frame is heard by its client as the reply that it carries: it is late or taken, and never unfit.
abbrev pub RepliesAreHeard : Type 0
RepliesAreHeard =
    (config : Config) (events : List (ℕ × Event)) → IsGood config events → length events < 2 ^ 64
    → (k : ℕ) (f : Frame) (head : Head) (reply : Reply) (if_taken : List Entry)
    → frame_at (account config events) k ≡ Some f → f.load ≡ Answers head reply if_taken
    → hearing (client_at config (account config events) head.client) f.bytes
    ≡ heard_as head reply (flight_under head.orig (client_at config (account config events) head.client))
