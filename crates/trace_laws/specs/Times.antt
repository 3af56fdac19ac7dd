-- The law of times: how old a part is when a frame that carries it is sent, and until when such a frame is live.
use Rattle.std.specs.Prelude.{ℕ, ◌+◌, ◌-◌, ◌<◌, ◌≤◌, ◌≡◌, true, false, List, Some, sum_by}
use Rattle.std.specs.List.{AllByRecursion as Each}
use Rattle.cl_types.specs.declared.config.Config.{Config}
use Rattle.cl_types.specs.declared.limits.TheConstants.{LAST_RESEND, SPAN}
use Rattle.cl_types.specs.declared.line.Did.{Did}
use Rattle.cl_types.specs.declared.line.Did.TheVariants as did
use Rattle.cl_types.specs.declared.line.Entry.{Entry}
use Rattle.cl_types.specs.declared.numbers.ClientNo.{ClientNo}
use Rattle.cl_types.specs.declared.reply.Part.{Part}
use Rattle.cl_types.specs.declared.schedule.Event.{Event}
use Rattle.cl_types.specs.Times.{is_live}
use Rattle.trace.specs.Account.{Account, Line, Frame, Carried, items_of, now, ticks_of}
use Rattle.trace.specs.Clients.{first_sent}
use Rattle.trace.specs.Events.{account}
use Rattle.trace.specs.Properties.{CarriesPart}
use Rattle.trace.specs.Schedules.{IsRisingFrom}

-- all ticks so far
abbrev pub clock : Account → ℕ
clock a = sum_by (λ (line : Line). ticks_of line.event) a.lines

-- the part was first sent at this moment
pub record FirstAt (a : Account) (c : ClientNo) (p : Part) (moment : ℕ) : Type 0 where
  pub id : ℕ
  pub sent : first_sent a c p ≡ Some (id, moment)

-- P holds of each frame with each of its items
abbrev pub EachItem : (Frame → Carried → Type 0) → List Frame → Type 0
EachItem P frames = Each (λ (f : Frame). Each (P f) (items_of f.load)) frames

-- the frame is sent while its part may be sent again, and is live only before the part may be given up
pub record OfAge (a : Account) (f : Frame) (i : Carried) : Type 0 where
  pub first : ℕ
  pub sent : FirstAt a i.item.head.client i.part first
  pub not_before : first ≤ f.moment
  pub young : f.moment - first ≤ LAST_RESEND
  pub live : (t : ℕ) → f.moment ≤ t → is_live t f.moment ≡ true → t - first < SPAN

-- from this moment on no request frame that carries the part is live
abbrev pub IsGone : Account → ClientNo → Part → ℕ → Type 0
IsGone a c p from =
    EachItem (λ f i. CarriesPart c p i → (t : ℕ) → from ≤ t → is_live t f.moment ≡ false) a.frames

-- from the text that gives a part up, no request frame that carries the part is live
abbrev pub GoneFrom : Account → ℕ → Did → Type 0
GoneFrom a t (did.GaveUp c p) = IsGone a c p t
GoneFrom a t other = Unit {0}

-- a request frame that carries the entry's part is live only less than the span after the entry was made
abbrev pub IsSpent : Account → Entry → Type 0
IsSpent a e =
    EachItem (λ f i. CarriesPart e.client e.part i
    → (t : ℕ) → is_live t f.moment ≡ true → t < now a e.line + SPAN) a.frames

-- each item of each frame was sent young, and is live only while its part is young enough
pub record AreOfAge (a : Account) : Type 0 where
  pub ages : EachItem (OfAge a) a.frames
  pub gone : Each (λ (line : Line). Each (GoneFrom a line.moment) line.texts) a.lines
  pub spent : Each (IsSpent a) a.history

-- in the account of every schedule the times of frames, parts and entries are so
abbrev pub LawOfTimes : Type 0
LawOfTimes =
    (config : Config) (events : List (ℕ × Event))
    → IsRisingFrom 0 events → AreOfAge (account config events)
