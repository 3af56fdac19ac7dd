-- One delivery more, and one closing round more.
use Rattle.std.proofs.Common.{ℕ, ◌+◌, ◌*◌, ◌≡◌, zero, suc, [], ◌∷◌, ◌++◌, length, length-append, arith, ap, refl}
use Rattle.cl_types.specs.declared.schedule.Event.TheVariants as event
use Rattle.storm_gen.specs.Generated.{deliveries, settle, settles}

pub deliveries-more : (left next : ℕ) → left ≡ next + 1 → deliveries left ≡ event.DeliverNext ∷ deliveries next
deliveries-more left next more =
    let one : left ≡ suc next = omega arith in
    ap deliveries one

pub settles-more : (left next : ℕ) → left ≡ next + 1 → settles left ≡ settle ++ settles next
unfolding settles
settles-more left next more =
    let one : left ≡ suc next = omega arith in
    ap settles one

pub no_settles : settles 0 ≡ []
unfolding settles
no_settles = refl

pub length-settle : length settle ≡ 13
unfolding settle
length-settle = refl

-- each closing round has 13 events
pub length-settles : (n : ℕ) → length (settles n) ≡ 13 * n
unfolding settles
length-settles zero = omega arith
length-settles (suc n) =
    let rest : length (settles n) ≡ 13 * n = length-settles n in
    let first : length settle ≡ 13 = length-settle in
    rw length-append (omega arith)
