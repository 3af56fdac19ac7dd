use Rattle.std.proofs.Common.{◌≡◌, ◌<◌, Bool, true, ℕ, arith}
use Rattle.std.specs.Prelude.{◌&&◌, nat_lt}
use Rattle.std.proofs.lemmas.Bool.Decides.{nat_tests}
use Rattle.client_core.proofs.frames.are_of_an_offload.Goals as goal

all_three : (m n : ℕ) (b : Bool) → m < 256 → n < 256 → b ≡ true → (nat_lt m 256 && nat_lt n 256 && b) ≡ true
all_three m n b x y z = grind (arith, nat_tests)

pub returns : goal.returns
returns c = all_three c.args.no c.args.op _ (omega arith) (omega arith) c.are_of_bytes.ensures
