-- Steps and runs of the flat machine.
use Rattle.std.specs.Prelude.{ℕ, ◌≡◌, List, [], ◌∷◌, filter, IsTrue}
use Rattle.cl_types.specs.Requests.{is_changing}
use Rattle.cl_types.specs.declared.config.NodeConfig.{NodeConfig}
use Rattle.cl_types.specs.declared.line.Entry.{Entry}
use Rattle.cl_types.specs.declared.reply.Reply.{Reply}
use Rattle.cl_types.specs.declared.request.Request.{Request}
use Rattle.flat_model.specs.State.{FlatState, opening}
use Rattle.flat_model.specs.Step.{MayReply, state_after}
use Rattle.cl_types.specs.Ranges.{is_in_range}

-- one step: the request is in its ranges, the reply is one that may be given, and new is the state after it
pub record Step (s : FlatState) (pid : ℕ) (request : Request) (reply : Reply) (new : FlatState) : Type 0 where
  pub in_range : IsTrue (is_in_range request)
  pub may : MayReply s pid request reply
  pub after : new ≡ state_after s pid request reply

-- the machine may take this step
abbrev pub MayStep : FlatState → ℕ → Request → Reply → Type 0
MayStep s pid request reply = Step s pid request reply (state_after s pid request reply)

-- the state after an entry's request and reply
abbrev pub after_entry : FlatState → Entry → FlatState
after_entry s entry = state_after s entry.pid entry.request entry.reply

-- the state after these entries
abbrev pub after : FlatState → List Entry → FlatState
after s [] = s
after s (entry ∷ entries) = after (after_entry s entry) entries

-- each entry in turn is a step from this state on
abbrev pub IsRunFrom : FlatState → List Entry → Type 0
IsRunFrom s [] = Unit {0}
IsRunFrom s (entry ∷ entries) =
    Step s entry.pid entry.request entry.reply (after_entry s entry) × IsRunFrom (after_entry s entry) entries

-- a run from the opening
abbrev pub IsRun : NodeConfig → List Entry → Type 0
IsRun c entries = IsRunFrom (opening c) entries

-- the changing entries among these
abbrev pub changing_of : List Entry → List Entry
changing_of entries = filter (λ entry. is_changing entry.request) entries
