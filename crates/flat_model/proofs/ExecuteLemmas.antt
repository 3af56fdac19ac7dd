-- Steps that the flat machine takes by itself.
use Rattle.std.proofs.Common.{◌≡◌, ℕ, ◌<◌, ◌≤◌, IsTrue, List, Some, Ok, Err, sym, ap, subst, ◌∙◌, arith}
use Rattle.cl_types.specs.Places.{Place}
use Rattle.cl_types.specs.declared.numbers.Addr.{Addr}
use Rattle.cl_types.specs.declared.reply.Refusal.{Refusal}
use Rattle.cl_types.specs.declared.reply.Reply.TheVariants.{Nothing}
use Rattle.flat_model.specs.Checks.{Opens}
use Rattle.cl_types.specs.Pages.{offset_of}
use Rattle.flat_model.specs.Rows.{put_bytes}
use Rattle.flat_model.specs.State.{FlatState, fits, least}
use Rattle.flat_model.specs.Step.{may_write, puts, refused, write}
use Rattle.flat_model.proofs.CheckLemmas.{put_is_puts}
use Rattle.flat_model.proofs.LeastLemmas.{least_start_is_the_least, fits_within}

-- pages fit at the least start
pub start_fits : (buckets : ℕ) (places : List Place) (pid n start : ℕ) → least buckets places pid n ≡ Some start → IsTrue (fits buckets places pid start n)
start_fits buckets places pid n start found = (least_start_is_the_least buckets places pid n start found).fitting

-- and it is the number of a page
pub start_small : (buckets : ℕ) (places : List Place) (pid n start : ℕ) → 1 ≤ n → least buckets places pid n ≡ Some start → start < 65536
start_small buckets places pid n start some found =
    let within = fits_within buckets places pid start n (start_fits buckets places pid n start found) in omega (arith, within.1)

-- ---- a write
-- the page that a write needs is refused
pub write_refused : (s : FlatState) (number pid : ℕ) (addr : Addr) (bytes : List ℕ) (refusal : Refusal) → number ≡ pid
    → Opens s number addr may_write (Err refusal) → write s pid addr bytes ≡ refused s refusal
write_refused s number pid addr bytes refusal same opens =
    subst (λ n. write s n addr bytes ≡ refused s refusal) same (opens (λ page. puts s number addr page bytes Nothing))

-- the bytes are put into the page that was found
pub write_puts : (s : FlatState) (number pid : ℕ) (addr : Addr) (bytes : List ℕ) (i : ℕ) → number ≡ pid
    → (opens : Opens s number addr may_write (Ok i)) → write s pid addr bytes ≡ record { reply = Nothing; state = put_bytes s i (offset_of addr) bytes }
write_puts s number pid addr bytes i same opens =
    subst (λ n. write s n addr bytes ≡ record { reply = Nothing; state = put_bytes s i (offset_of addr) bytes }) same
    (opens.2 (λ page. puts s number addr page bytes Nothing)
    ∙ ap (λ (state : FlatState). record { reply = Nothing; state = state }) (sym (put_is_puts s number addr i opens.0 bytes Nothing opens.1)))
