-- What the rules of time ask for, of moments in ticks.
use Rattle.std.specs.Prelude.{ℕ, ◌-◌, Bool, ◌&&◌, leb, nat_lt}
use Rattle.cl_types.specs.declared.limits.TheConstants.{LIFE, TIMEOUT, LAST_RESEND, SPAN}

-- at moment t a frame that was sent then is live: fewer than 100 ticks ago
abbrev pub is_live : (t sent : ℕ) → Bool
is_live t sent = nat_lt (t - sent) LIFE

-- at moment t a part is to be given up: it was first sent 400 ticks ago or earlier
abbrev pub is_old : (t first : ℕ) → Bool
is_old t first = leb SPAN (t - first)

-- at moment t a part is to be sent again: last sent at least 100 ticks ago, first sent at most 300 ticks ago
abbrev pub is_due : (t first last : ℕ) → Bool
is_due t first last = leb TIMEOUT (t - last) && leb (t - first) LAST_RESEND

-- a reply that was recorded then is younger than 400 ticks at moment t
abbrev pub is_young : (t recorded : ℕ) → Bool
is_young t recorded = nat_lt (t - recorded) SPAN
