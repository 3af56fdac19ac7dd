-- What a flight of the client's state says of the account.
use Rattle.std.specs.Prelude.{◌≡◌, Some, None}
use Rattle.std.specs.List.{AllByRecursion as Each}
use Rattle.cl_types.specs.declared.numbers.ClientNo.{ClientNo}
use Rattle.cl_types.specs.declared.config.Config.{Config}
use Rattle.trace.specs.Account.{Account}
use Rattle.client_model.specs.Client.{Sending, InFlight, flights}
use Rattle.trace.specs.Clients.{standing_at, first_sent, request_of_part, ending, client_at}

-- the flight is of a part of an issued call, was first sent so, and is not over
pub record FlightOf (a : Account) (c : ClientNo) (f : Sending) : Type 0 where
  pub stands : standing_at a c f.part ≡ InFlight f.orig f.first f.last
  pub request : request_of_part a c f.part ≡ Some f.request
  pub sent : first_sent a c f.part ≡ Some (f.orig, f.first)
  pub is_open : ending a c f.part ≡ None

-- each flight of a client's state is such a part
abbrev pub FlightLaw : Type 0
FlightLaw =
    (config : Config) (a : Account) (c : ClientNo) → Each (FlightOf a c) (flights (client_at config a c))
