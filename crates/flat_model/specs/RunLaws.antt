-- Laws of steps and runs, each proved by a function of src/run_laws.rt.
use Rattle.std.specs.Prelude.{ℕ, ◌≡◌, ◌↔◌, false, List, ◌++◌}
use Rattle.cl_types.specs.Requests.{is_changing}
use Rattle.cl_types.specs.declared.line.Entry.{Entry}
use Rattle.cl_types.specs.declared.reply.Reply.{Reply}
use Rattle.cl_types.specs.declared.request.Request.{Request}
use Rattle.flat_model.specs.State.{FlatState}
use Rattle.flat_model.specs.Step.{state_after}
use Rattle.flat_model.specs.Run.{Step, IsRunFrom, after, changing_of}

-- a request, a state and a reply fix the state after the step
abbrev pub StateAfterIsFixed : Type 0
StateAfterIsFixed =
    (s : FlatState) (pid : ℕ) (request : Request) (reply : Reply) (new other : FlatState)
    → Step s pid request reply new → Step s pid request reply other → new ≡ other

-- a reading request leaves the state, whatever its reply
abbrev pub ReadingChangesNothing : Type 0
ReadingChangesNothing =
    (s : FlatState) (pid : ℕ) (request : Request) (reply : Reply) → is_changing request ≡ false → state_after s pid request reply ≡ s

-- the state after a history is the state after its changing entries
abbrev pub ChangingEntriesSuffice : Type 0
ChangingEntriesSuffice = (s : FlatState) (history : List Entry) → after s (changing_of history) ≡ after s history

-- a run splits at any place, and two runs join where the second goes on from the end of the first
abbrev pub RunsSplit : Type 0
RunsSplit =
    (s : FlatState) (front back : List Entry) → IsRunFrom s (front ++ back) ↔ (IsRunFrom s front × IsRunFrom (after s front) back)
