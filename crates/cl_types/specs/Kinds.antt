-- The numbers of the kinds of requests.
use Rattle.std.specs.Prelude.{ℕ}
use Rattle.cl_types.specs.declared.call.Kind.{Kind}
use Rattle.cl_types.specs.declared.call.Kind.TheVariants as kind

-- the byte of a kind in a request's frame, 1 to 6; a reply's is 128 more
abbrev pub kind_number : Kind → ℕ
kind_number kind.Alloc = 1
kind_number kind.Free = 2
kind_number kind.Read = 3
kind_number kind.Write = 4
kind_number kind.Atomic = 5
kind_number kind.Offload = 6
