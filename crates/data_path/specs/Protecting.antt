-- A Protect, as the flat machine will have it: a range's pages get another permission.
use Rattle.std.specs.Prelude.{ℕ, Bool, true, false, map}
use Rattle.cl_types.specs.declared.call.Perm.{Perm}
use Rattle.cl_types.specs.declared.numbers.Addr.{Addr}
use Rattle.cl_types.specs.declared.reply.Refusal.TheVariants.{NoMapping}
use Rattle.cl_types.specs.declared.reply.Reply.TheVariants.{Nothing}
use Rattle.cl_types.specs.Pages.{page_of}
use Rattle.cl_types.specs.Places.{Place}
use Rattle.flat_model.specs.State.{FlatState, Page}
use Rattle.flat_model.specs.Step.{Transition, is_among, is_range, refused}

-- the entry of a page, with this permission where it is one of these pages; its bytes stay
abbrev pub with_perm : ℕ → ℕ → ℕ → Perm → Place × Page → Place × Page
with_perm pid start n perm entry =
    (entry.0, elim (is_among pid start n entry.0) [ true ↦ record entry.1 { perm = perm } | false ↦ entry.1 ])

-- the pages of a range get a permission
abbrev pub protected : FlatState → ℕ → ℕ → ℕ → Perm → FlatState
protected s pid start n perm = record s { map = map (with_perm pid start n perm) s.map }

-- a Protect gives the permission to the range where it is allocated, and is refused where not
abbrev pub protect_if : FlatState → ℕ → ℕ → ℕ → Perm → Bool → Transition
protect_if s pid start n perm true = record { reply = Nothing; state = protected s pid start n perm }
protect_if s pid start n perm false = refused s NoMapping

-- a Protect of the range that begins with the address's page and has n pages
abbrev pub protect : FlatState → ℕ → Addr → ℕ → Perm → Transition
protect s pid addr n perm = protect_if s pid (page_of addr) n perm (is_range s pid (page_of addr) n)
