-- What a contract sees of a flight, and what its calls do to that.
use Rattle.std.specs.Prelude.{ℕ, ◌==◌, Bool, true, false, ◌&&◌, ◌||◌, not, nat_lt, List, [], ◌∷◌, map, filter, if◌then◌else◌}
use Rattle.std.specs.List.{list_any}
use Rattle.cl_types.specs.declared.reply.Part.{Part}
use Rattle.cl_types.specs.Parts.{same_part}
use Rattle.client_retry.specs.declared.flown.Flown.{Flown}

-- the parts in flight, in order of call and then of part, and the latest moment at which a part was sent or sent again
pub record Flights : Type 0 where
  pub flown : List Flown
  pub last : ℕ

-- the part comes before the other, in order of call and then of part
abbrev pub is_before : Part → Part → Bool
is_before p q = nat_lt p.call.0 q.call.0 || p.call.0 == q.call.0 && nat_lt p.part q.part

-- the parts with one more, in its place
abbrev pub with_flown : Flown → List Flown → List Flown
with_flown f [] = f ∷ []
with_flown f (g ∷ gs) = elim (is_before f.part g.part) [ true ↦ f ∷ g ∷ gs | false ↦ g ∷ with_flown f gs ]

-- the part is in flight
abbrev pub has_part : Part → List Flown → Bool
has_part p fs = list_any (λ f. same_part p f.part) fs

-- a part in flight was first sent under this id
abbrev pub has_orig : ℕ → List Flown → Bool
has_orig orig fs = list_any (λ f. f.orig == orig) fs

-- the parts without the one of this orig
abbrev pub without : ℕ → List Flown → List Flown
without orig fs = filter (λ f. not (f.orig == orig)) fs

-- the part, last sent at moment t where it has this orig
abbrev pub again : ℕ → ℕ → Flown → Flown
again orig t f = record f { last = if f.orig == orig then t else f.last }

-- the parts after the one of this orig was sent again at moment t
abbrev pub sent_again : ℕ → ℕ → List Flown → List Flown
sent_again orig t fs = map (again orig t) fs
