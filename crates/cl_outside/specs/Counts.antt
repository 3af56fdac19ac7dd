-- When a count of idles rose, and which calls of an object failed.
use Rattle.std.specs.Prelude.{◌≡◌, ℕ, ◌+◌, ◌-◌, ◌^◌, min, true, false}
use Rattle.cl_outside.specs.declared.faults.Faults.{Faults}

-- the count after one more; at its last value it stays
abbrev pub one_more : ℕ → ℕ
one_more count = min (count + 1) (2 ^ 64 - 1)

-- it grew by one, or it stands at its last value
abbrev pub Rose : ℕ → ℕ → Type 0
Rose before now = now ≡ one_more before

-- no call was made
abbrev pub no_faults : Faults
no_faults = record { count = 0; last = false }

-- after a call that failed: there is one more, and it was the last call
abbrev pub after_fault : Faults → Faults
after_fault faults = record { count = one_more faults.count; last = true }

-- after a call that did not fail
abbrev pub after_good : Faults → Faults
after_good faults = record faults { last = false }

-- of all calls made since, the last alone failed
abbrev pub LastFailed : Faults → Faults → Type 0
LastFailed before now = now ≡ after_fault before

-- none of the calls made since failed
abbrev pub NoneFailed : Faults → Faults → Type 0
NoneFailed before now = now.count ≡ before.count
