-- What the rules of time ask for.
use Rattle.std.specs.Prelude.{ℕ, List, Option, Some, None, find}
use Rattle.cl_types.specs.Times.{is_old, is_due}
use Rattle.client_retry.specs.declared.due.Due.{Due}
use Rattle.client_retry.specs.declared.due.Due.TheVariants as due
use Rattle.client_retry.specs.declared.flown.Flown.{Flown}

-- the first of the parts that are to be sent again, where there is one
abbrev pub due_again : Option Flown → Due
due_again None = due.Nothing
due_again (Some f) = due.Resend f.part f.orig

-- the first of the parts that are to be given up, where there is one, and else the other
abbrev pub due_first : Option Flown → Due → Due
due_first None other = other
due_first (Some f) other = due.GiveUp f.part f.orig f.first

-- what is due at moment t: first to give up, then to send again
abbrev pub due_of : List Flown → ℕ → Due
due_of fs t = due_first (find (λ f. is_old t f.first) fs) (due_again (find (λ f. is_due t f.first f.last) fs))
