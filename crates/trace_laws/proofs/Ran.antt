-- The history as a run of the flat machine: what each account keeps.
use Rattle.std.specs.Prelude.{ℕ, ◌<◌, ◌≡◌, true, false, List, Some, IsTrue}
use Rattle.std.specs.List.{AllByRecursion as Each}
use Rattle.cl_types.specs.Requests.{is_changing}
use Rattle.cl_types.specs.declared.config.Config.{Config}
use Rattle.cl_types.specs.declared.numbers.ClientNo.{ClientNo}
use Rattle.cl_types.specs.declared.call.Call.{Call}
use Rattle.cl_types.specs.declared.request.Request.{Request}
use Rattle.cl_types.specs.declared.line.Entry.{Entry}
use Rattle.cl_types.specs.Ranges.{is_in_range}
use Rattle.flat_model.specs.Step.{outcome}
use Rattle.flat_model.specs.Run.{IsRun}
use Rattle.client_model.specs.Cut.{cut}
use Rattle.trace.specs.Account.{Account, Line, Frame, Carried, items_of, if_taken_of, is_before, memory_at}
use Rattle.trace.specs.Clients.{issued_on}
use Rattle.trace.specs.Properties.{IsInOrder, ShowsMemory}

abbrev pub InRange : Request → Type 0
InRange r = IsTrue (is_in_range r)

-- an issued call is cut into requests in their ranges
abbrev pub IssuesGood : Line → Type 0
IssuesGood line = (c : ClientNo) (k : Call) → issued_on c line.event line.texts ≡ Some k → Each InRange (cut k)

-- an entry that a look left, for when its reply is taken
pub record LookOf (config : Config) (h : List Entry) (l q : ℕ) (e : Entry) : Type 0 where
  pub reading : is_changing e.request ≡ false
  pub in_range : InRange e.request
  pub before : is_before l q e ≡ true
  pub reply : e.reply ≡ (outcome (memory_at config h e.line e.position) e.pid e.request).reply

-- what holds of each account before a position of line l
pub record Ran (config : Config) (a : Account) (l q : ℕ) : Type 0 where
  pub sorted : IsInOrder a.history
  pub before : Each (λ (e : Entry). is_before l q e ≡ true) a.history
  pub run : IsRun config.node a.history
  pub calls : Each IssuesGood a.lines
  pub items : Each (λ (f : Frame). Each (λ (i : Carried). InRange i.item.request) (items_of f.load)) a.frames
  pub looked : Each (λ (f : Frame). Each (LookOf config a.history l q) (if_taken_of f.load)) a.frames
  pub rising : Each (λ (line : Line). line.number < l) a.lines
  pub peeks : Each (λ (line : Line). ShowsMemory config a.history line line.event) a.lines
