-- Each part at most once, by its own request: what each account keeps.
use Rattle.std.specs.Prelude.{ℕ, ◌≤◌, ◌≡◌, ◌⊎◌, true, false, Bool, List, [], ◌∷◌, Some, is_some}
use Rattle.std.specs.List.{AllByRecursion as Each}
use Rattle.cl_types.specs.Requests.{is_changing}
use Rattle.cl_types.specs.declared.config.Config.{Config}
use Rattle.cl_types.specs.declared.numbers.ClientNo.{ClientNo}
use Rattle.cl_types.specs.declared.request.Request.{Request}
use Rattle.cl_types.specs.declared.reply.Part.{Part}
use Rattle.cl_types.specs.declared.reply.Reply.{Reply}
use Rattle.cl_types.specs.declared.line.Entry.{Entry}
use Rattle.trace.specs.Account.{Account, Frame, Carried, Load, Asks, Answers, items_of, if_taken_of}
use Rattle.trace.specs.Clients.{first_sent, request_of_part, end_of_part, sendings, pid_of}
use Rattle.trace.specs.Properties.{AreDistinct}

-- the part left flight
abbrev pub is_over : Account → ClientNo → Part → Bool
is_over a c p = is_some (end_of_part a c p)

-- the part was first sent under this id, by its client's process, and has this request
pub record Owned (config : Config) (a : Account) (c : ClientNo) (pid : ℕ) (p : Part) (r : Request) (o : ℕ) : Type 0 where
  pub moment : ℕ
  pub sent : first_sent a c p ≡ Some (o, moment)
  pub request : request_of_part a c p ≡ Some r
  pub process : pid ≡ pid_of config c

abbrev pub ItemOwned : Config → Account → Carried → Type 0
ItemOwned config a i = Owned config a i.item.head.client i.item.head.pid i.part i.item.request i.item.head.orig

pub record EntryOwned (config : Config) (a : Account) (e : Entry) : Type 0 where
  pub orig : ℕ
  pub owned : Owned config a e.client e.pid e.part e.request orig

pub record IsEntry (c : ClientNo) (p : Part) (reply : Reply) (e : Entry) : Type 0 where
  pub client : e.client ≡ c
  pub part : e.part ≡ p
  pub reply_is : e.reply ≡ reply

-- an entry of the part with this reply stands in the history
abbrev pub HasEntry : List Entry → ClientNo → Part → Reply → Type 0
HasEntry [] c p reply = ⊥
HasEntry (e ∷ es) c p reply = IsEntry c p reply e ⊎ HasEntry es c p reply

-- where a reply comes from: the record of a changing part, or a look whose entry waits
abbrev pub ComesFrom : List Entry → ClientNo → Part → Request → Reply → List Entry → Type 0
ComesFrom h c p r reply [] = (is_changing r ≡ true) × HasEntry h c p reply
ComesFrom h c p r reply (e ∷ es) = (is_changing r ≡ false) × IsEntry c p reply e × (es ≡ [])

abbrev pub ReplyStands : Config → Account → List Entry → Load → Type 0
ReplyStands config a h (Asks items) = Unit {0}
ReplyStands config a h (Answers head reply if_taken) =
    (p : Part) × (r : Request) × Owned config a head.client head.pid p r head.orig × ComesFrom h head.client p r reply if_taken

-- ids tell the parts of a client apart
pub record Ids (a : Account) : Type 0 where
  pub below : (c : ClientNo) (p : Part) (o m : ℕ) → first_sent a c p ≡ Some (o, m) → o ≤ sendings a c
  pub one : (c : ClientNo) (p q : Part) (o m n : ℕ) → first_sent a c p ≡ Some (o, m) → first_sent a c q ≡ Some (o, n) → p ≡ q

pub record PartsOnce (config : Config) (a : Account) : Type 0 where
  pub ids : Ids a
  pub items : Each (λ (f : Frame). Each (ItemOwned config a) (items_of f.load)) a.frames
  pub answers : Each (λ (f : Frame). ReplyStands config a a.history f.load) a.frames
  pub looks : Each (λ (f : Frame). Each (EntryOwned config a) (if_taken_of f.load)) a.frames
  pub entries : Each (EntryOwned config a) a.history
  pub reads_over : Each (λ (e : Entry). is_changing e.request ≡ false → is_over a e.client e.part ≡ true) a.history
  pub distinct : AreDistinct a.history
