-- Where an access to a space may lie.
use Rattle.std.specs.Prelude.{ℕ, ◌+◌, ◌*◌, ◌<◌, ◌≤◌}
use Rattle.cl_types.specs.declared.limits.TheConstants.{PAGE_BYTES}

-- a piece of n bytes lies in one page of a space of so many bytes; an empty piece, in the page of its place
abbrev pub IsInOnePage : ℕ → ℕ → ℕ → Type 0
IsInOnePage at n size =
    (page : ℕ)
    × (page * PAGE_BYTES ≤ at)
    × (at < page * PAGE_BYTES + PAGE_BYTES)
    × (at + n ≤ page * PAGE_BYTES + PAGE_BYTES)
    × (page * PAGE_BYTES + PAGE_BYTES ≤ size)
