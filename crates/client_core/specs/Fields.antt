-- How the fields of a client stand for its state. No public clause cites this module.
use Rattle.std.specs.Prelude.{ℕ, ◌≡◌, ◌≤◌, Bool, true, false, nat_lt, List, [], ◌∷◌, length, map, filter_map, find, Option, Some, None, slice_index_or}
use Rattle.std.specs.List.{AllByRecursion as Each}
use Rattle.cl_types.specs.declared.numbers.ClientNo.{ClientNo}
use Rattle.cl_types.specs.declared.reply.Part.{Part}
use Rattle.client_model.specs.Cut.{cut, Ending}
use Rattle.frame_model.specs.Faults.{first_fault}
use Rattle.client_model.specs.Issue.{call_faults}
use Rattle.cl_types.specs.Parts.{same_part}
use Rattle.client_model.specs.Client.{ClientState, ClientCall, ClientPart, Sending, Standing, Unsent, InFlight, Over, call_standing, emptied, flight, flights, parts_of}
use Rattle.client_model.specs.Order.{Footprint}
use Rattle.client_retry.specs.declared.flown.Flown.{Flown}
use Rattle.client_retry.specs.Flights.{Flights}
use Rattle.client_core.specs.Held.{Held, Holding, print_of}
use Rattle.client_core.specs.Valid.{IsValid}

-- ---- the state
-- how a part stands that was sent and of which nothing has come; a sent one always has its entry in the flight
abbrev pub standing_flown : Option Flown → Standing
standing_flown (Some f) = InFlight f.orig f.first f.last
standing_flown None = InFlight 0 0 0

-- how a part stands, by what came of it, whether it was sent, and its entry in the flight
abbrev pub standing_by : Option Ending → Bool → Option Flown → Standing
standing_by (Some ending) sent f = Over ending
standing_by None true f = standing_flown f
standing_by None false f = Unsent

-- how a part of the call stands
abbrev pub standing_in : List Flown → Held → Part → Standing
standing_in fs h p = standing_by (slice_index_or h.came p.part None) (nat_lt p.part h.sent) (find (λ f. same_part p f.part) fs)

-- the call, each of its parts as it stands
abbrev pub call_in : List Flown → Held → ClientCall
call_in fs h = call_standing (standing_in fs h) (h.number, h.call)

-- what contracts see
abbrev pub state_of : ClientNo → ℕ → ℕ → ℕ → Holding → Flights → ℕ → ClientState
state_of client pid issued sendings calls f last = record {
  client = client;
  pid = pid;
  issued = issued;
  sendings = sendings;
  calls = map (call_in f.flown) calls.held;
  ended = calls.ended;
  last = last;
}

-- ---- the flight
-- a part in flight, as the flight has it
abbrev pub flown_of : Sending → Flown
flown_of f = record { part = f.part; orig = f.orig; first = f.first; last = f.last }

-- those of the parts that are in flight, as the flight has them
abbrev pub flown_among : List ClientPart → List Flown
flown_among ps = map flown_of (filter_map (λ p. flight p.part p.request p.standing) ps)

-- ---- what holds
-- a good call, its buffer of zeros, with as many outcomes as parts, and none of an unsent part
pub record IsFit (h : Held) : Type 0 where
  pub empty : emptied h.call ≡ h.call
  pub good : first_fault (call_faults h.call) ≡ None
  pub parts : length h.came ≡ length (cut h.call)
  pub unsent : (i : ℕ) → h.sent ≤ i → slice_index_or h.came i None ≡ None

-- what holds of the fields at every moment
pub record IsSound (s : ClientState) (held : List Held) (f : Flights) : Type 0 where
  pub valid : IsValid s
  pub fits : Each IsFit held
  -- the flight has the parts that stand in flight
  pub flight : flown_among (parts_of s.calls) ≡ f.flown
  pub moment : f.last ≤ s.last
