-- When C gets a client.
use Rattle.std.specs.Prelude.{◌≡◌, ℕ, Bool, true, false, ◌&&◌, Result, Ok, Err}
use Rattle.cl_types.specs.Config.{is_within}
use Rattle.cl_types.specs.declared.numbers.TheConstants.{LAST_PID}
use Rattle.client_core.specs.declared.ids.TheConstants.{LAST_FIRST_ID}
use Rattle.clio_c.specs.declared.creating.NotMade.{NotMade}
use Rattle.clio_c.specs.declared.creating.NotMade.TheVariants.{BadArgument, NoMemory}

-- there is a process of this number, and the first sending may have this id
abbrev pub is_client : (pid first : ℕ) → Bool
is_client pid first = is_within 1 LAST_PID pid && is_within 1 LAST_FIRST_ID first

-- the arguments are bad exactly where they are not a client's; memory may be refused for good ones alone
abbrev pub IsJudged : {Client : Type 0} → (pid first : ℕ) → Result Client NotMade → Type 0
IsJudged pid first (Ok client) = is_client pid first ≡ true
IsJudged pid first (Err BadArgument) = is_client pid first ≡ false
IsJudged pid first (Err NoMemory) = is_client pid first ≡ true

-- the status of a client that was not made
abbrev pub cause_number : NotMade → ℕ
cause_number BadArgument = 101
cause_number NoMemory = 100
