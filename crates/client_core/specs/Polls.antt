-- What one rule of a poll does. No public clause cites this module.
use Rattle.std.specs.Prelude.{ℕ, ◌≡◌, List, map}
use Rattle.cl_types.specs.Bytes.{with_bytes}
use Rattle.client_model.specs.Client.{ClientState, Polled, flights, after_polled, poll}
use Rattle.client_retry.specs.declared.due.Due.{Due}
use Rattle.client_retry.specs.Rules.{due_of}
use Rattle.client_core.specs.declared.answers.Poll.{Poll}
use Rattle.client_core.specs.Answers.{poll_answer, poll_bytes}
use Rattle.client_core.specs.Fields.{flown_of}

-- what is due of the parts in flight, at the client's latest moment
abbrev pub due_in : ClientState → Due
due_in s = due_of (map flown_of (flights s)) s.last

-- the client did this, answered it so, and left this in the buffer
pub record Does (p : Polled) (old new : ClientState) (answer : Poll) (out out' : List ℕ) : Type 0 where
  pub answered : answer ≡ poll_answer old p
  pub bytes : out' ≡ with_bytes 0 (poll_bytes old p) out
  pub state : new ≡ after_polled old.last p old

-- the client did what its poll does at its latest moment
pub record IsPolled (old new : ClientState) (answer : Poll) (out out' : List ℕ) : Type 0 where
  pub does : Does (poll old old.last) old new answer out out'
