-- What is due, by what is found.
use Rattle.std.proofs.Common.{◌≡◌, ℕ, List, find, Some, None, refl}
use Rattle.cl_types.specs.Times.{is_old, is_due}
use Rattle.client_retry.specs.declared.due.Due.TheVariants as due
use Rattle.client_retry.specs.declared.flown.Flown.{Flown}
use Rattle.client_retry.specs.Rules.{due_of}

pub due_old : (fs : List Flown) (t : ℕ) (f : Flown) → find (λ g. is_old t g.first) fs ≡ Some f → due.GiveUp f.part f.orig f.first ≡ due_of fs t
due_old fs t f old = rw old refl

pub due_again : (fs : List Flown) (t : ℕ) (f : Flown) → find (λ g. is_old t g.first) fs ≡ None → find (λ g. is_due t g.first g.last) fs ≡ Some f → due.Resend f.part f.orig ≡ due_of fs t
due_again fs t f old again = rw (old, again) refl

pub due_nothing : (fs : List Flown) (t : ℕ) → find (λ g. is_old t g.first) fs ≡ None → find (λ g. is_due t g.first g.last) fs ≡ None → due.Nothing ≡ due_of fs t
due_nothing fs t old again = rw (old, again) refl
