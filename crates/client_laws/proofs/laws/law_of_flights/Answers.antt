use Rattle.client_laws.proofs.StateRead.{flights_are}
use Rattle.client_laws.proofs.laws.law_of_flights.Goals as goal

pub returns : goal.returns
returns c = flights_are
