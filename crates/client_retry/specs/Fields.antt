-- How the fields of a flight stand for its parts. No public clause cites this module.
use Rattle.std.specs.Prelude.{◌≡◌, ℕ, ◌+◌, ◌%◌, true, List, length, map, Option, is_some, None, unwrap_or}
use Rattle.index_lists.specs.NodeLists.{NodeLists, list_at, IsIn, IsValid}
use Rattle.client_retry.specs.declared.flown.Flown.{Flown}
use Rattle.client_retry.specs.Flights.{Flights}
use Rattle.client_retry.specs.Slots.{slot_at}

-- a stand-in for the part at a place that has none
abbrev pub no_part : Flown
no_part = record { part = record { call = record { 0 = 0 }; part = 0 }; orig = 0; first = 0; last = 0 }

-- the part at a place
abbrev pub flown_at : List (Option Flown) → ℕ → Flown
flown_at slots p = unwrap_or (slot_at slots p) no_part

-- the list of places that parts of this orig are in
abbrev pub chain_of : ℕ → ℕ
chain_of orig = orig % 64

-- the list of places that the part at a place is in
abbrev pub chain_at : List (Option Flown) → ℕ → ℕ
chain_at slots p = chain_of (flown_at slots p).orig

-- the parts in flight: those at the places of list 0
abbrev pub flying : List (Option Flown) → NodeLists → List Flown
flying slots places = map (flown_at slots) (list_at places 0)

-- what contracts see
abbrev pub flights : List (Option Flown) → NodeLists → ℕ → Flights
flights slots places last = record { flown = flying slots places; last = last }

-- what holds of the fields at every moment
pub record IsSound (slots : List (Option Flown)) (places chains : NodeLists) (count : ℕ) : Type 0 where
  pub slot_count : length slots ≡ 64
  pub place_count : places.nodes ≡ 64
  pub two_lists : length places.lists ≡ 2
  pub places_valid : IsValid places
  pub chained_count : chains.nodes ≡ 64
  pub chain_count : length chains.lists ≡ 64
  pub chains_valid : IsValid chains
  -- each place is in one of the two lists, and those in list 0 have parts
  pub counted : count ≡ length (list_at places 0)
  pub all_listed : length (list_at places 0) + length (list_at places 1) ≡ 64
  pub filled : (p : ℕ) → IsIn places 0 p → is_some (slot_at slots p) ≡ true
  pub vacant : (p : ℕ) → IsIn places 1 p → slot_at slots p ≡ None
  -- and are in the chain of its orig, which no other part has
  pub chained : (p : ℕ) → IsIn places 0 p → IsIn chains (chain_at slots p) p
  pub used : (l p : ℕ) → IsIn chains l p → IsIn places 0 p
  pub alone : (p q : ℕ) → IsIn places 0 p → IsIn places 0 q → (flown_at slots p).orig ≡ (flown_at slots q).orig → p ≡ q
