-- How the fields of a row stand for a call that has not ended. No public clause cites this module.
use Rattle.std.specs.Prelude.{ℕ, ◌≡◌, ◌≤◌, Bool, true, List, length, map, count_by, is_none, None}
use Rattle.cl_types.specs.declared.numbers.CallNo.{CallNo}
use Rattle.cl_types.specs.declared.call.Call.{Call}
use Rattle.client_model.specs.Client.{Finished, emptied}
use Rattle.client_model.specs.Order.{Footprint}
use Rattle.call_cut.specs.declared.outcome.PartOutcome.{PartOutcome}
use Rattle.call_cut.specs.Came.{came}
use Rattle.call_cut.specs.Taking.{Gathers}
use Rattle.client_core.specs.declared.ended.Ended.{Ended}
use Rattle.client_core.specs.Held.{Held, part_to_send, print_of}
use Rattle.cl_types.specs.declared.limits.TheConstants.{MOST_PARTS}

-- what a row stands for
abbrev pub held_in : CallNo → Call → List PartOutcome → ℕ → Held
held_in number k gather sent = record { number = number.0; call = emptied k; came = came gather k; sent = sent }

-- what holds of a row at every moment
pub record IsRow (k : Call) (gather : List PartOutcome) (parts sent waiting : ℕ) : Type 0 where
  pub gathers : Gathers gather k
  pub all_parts : parts ≡ length (came gather k)
  pub few : parts ≤ MOST_PARTS
  pub sent_of_them : sent ≤ parts
  -- how many parts nothing has come of
  pub still_waiting : waiting ≡ count_by is_none (came gather k)

-- an ended call, as a contract sees it
abbrev pub finished_of : Ended → Finished
finished_of e = record { number = e.no.0; answer = e.answer; call = e.call }

-- what holds of the calls, their order, the room and the note that nothing is to be sent, at every moment
pub record AreKept (held : List Held) (order : List (ℕ × Footprint)) (room_for_ended : ℕ) (quiet : Bool) : Type 0 where
  pub ordered : order ≡ map print_of held
  -- so ending a call takes no memory
  pub reserved_for_ended : 256 ≤ room_for_ended
  pub nothing_to_send : quiet ≡ true → part_to_send held ≡ None
