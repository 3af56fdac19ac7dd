-- How many steps a client that is driven still has before it, so that its driving ends. No public clause cites this module.
use Rattle.std.specs.Prelude.{ℕ, ◌+◌, ◌-◌, ◌*◌, ◌^◌, sum_by}
use Rattle.cl_types.specs.declared.limits.TheConstants.{STALL_TURNS}
use Rattle.client_core.specs.declared.ids.TheConstants.{LAST_FIRST_ID}
use Rattle.client_model.specs.Client.{ClientState, ClientCall, Standing, Unsent, InFlight, Over}

-- the steps of a part: it is sent, and it is over
abbrev pub part_steps : Standing → ℕ
part_steps Unsent = 2
part_steps (InFlight orig first last) = 1
part_steps (Over ending) = 0

-- the steps of a call: those of its parts, and its end
abbrev pub call_steps : ClientCall → ℕ
call_steps k = 1 + sum_by (λ p. part_steps p.standing) k.parts

-- the steps of a client with so many calls to come: ticks up to the last moment of 64 bits, ids of sendings up to 260 for each
-- call above the greatest first one, those of the calls that have not ended, and those of the calls to come, of which each has
-- at most 65 parts
abbrev pub steps_left : ClientState → (calls : ℕ) → ℕ
steps_left s calls = (2 ^ 64 - 1 - s.last) + (LAST_FIRST_ID + 260 * (s.issued + calls) - s.sendings) + sum_by call_steps s.calls + 131 * calls

-- no more turns are left than this: before each step, and after the last, at most 1,000,000 in a row are fruitless
abbrev pub turns_left : (steps fruitless : ℕ) → ℕ
turns_left steps fruitless = steps * (STALL_TURNS + 1) + (STALL_TURNS - fruitless)
