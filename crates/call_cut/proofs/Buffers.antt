-- Bytes put into a buffer, and what came of the parts whose bytes stand there.
use Rattle.std.proofs.Common.{◌≡◌, ℕ, zero, suc, ◌+◌, ◌≤◌, List, [], ◌∷◌, ◌++◌, length, take, drop, set, Option, Some, None, refl, sym, ap, ◌∙◌, arith, append_assoc, slice_get, replicate}
use Rattle.std.proofs.Math.Seq.{take-add}
use Rattle.std.proofs.lemmas.List.{length-take-le, length-drop, take_at, take-take, drop_at, drop-drop}
use Rattle.std.proofs.lemmas.Slice.{drop-append-drop}
use Rattle.cl_types.specs.Bytes.{with_bytes}
use Rattle.cl_types.specs.declared.reply.Reply.TheVariants as reply
use Rattle.client_model.specs.Cut.{Ending, Replied}
use Rattle.call_cut.specs.declared.outcome.PartOutcome.{PartOutcome}
use Rattle.call_cut.specs.declared.outcome.PartOutcome.TheVariants as outcome
use Rattle.call_cut.specs.Fills.{before}
use Rattle.call_cut.specs.Came.{ending_in, came_in}

-- bytes put behind the first n leave these
with_bytes_behind : (n at : ℕ) (bytes old : List ℕ) → with_bytes (n + at) bytes old ≡ take n old ++ with_bytes at bytes (drop n old)
with_bytes_behind n at bytes old =
    let sum : n + at + length bytes ≡ n + (at + length bytes) = omega arith in
    let rest : drop (n + at + length bytes) old ≡ drop (at + length bytes) (drop n old) = ap (λ k. drop k old) sum ∙ sym (drop-drop (at + length bytes) n old) in
    ap (λ front. front ++ bytes ++ drop (n + at + length bytes) old) (take-add n at old)
    ∙ ap (λ rest. take n old ++ take at (drop n old) ++ bytes ++ rest) rest
    ∙ ap (λ front. front ++ drop (at + length bytes) (drop n old)) (append_assoc (take n old) (take at (drop n old)) bytes)
    ∙ append_assoc (take n old) (take at (drop n old) ++ bytes) (drop (at + length bytes) (drop n old))

-- an outcome without bytes, put among the others
pub came_set : (buf ns : List ℕ) (os : List PartOutcome) (i : ℕ) (o : PartOutcome) (e : Option Ending) → ((bytes : List ℕ) → ending_in bytes o ≡ e)
    → came_in buf ns (set os i o) ≡ set (came_in buf ns os) i e
came_set buf [] [] i o e is = refl
came_set buf [] (x ∷ os) zero o e is = refl
came_set buf [] (x ∷ os) (suc i) o e is = refl
came_set buf (n ∷ ns) [] i o e is = refl
came_set buf (n ∷ ns) (x ∷ os) zero o e is = ap (λ (y : Option Ending). y ∷ came_in (drop n buf) ns os) (is (take n buf))
came_set buf (n ∷ ns) (x ∷ os) (suc i) o e is = ap (λ (ys : List (Option Ending)). ending_in (take n buf) x ∷ ys) (came_set (drop n buf) ns os i o e is)

-- an outcome with bytes, put among the others, and its bytes at their place
pub came_put : (buf ns : List ℕ) (os : List PartOutcome) (i n : ℕ) (bytes : List ℕ) → slice_get ns i ≡ Some n → length bytes ≤ n → before i ns + length bytes ≤ length buf
    → came_in (with_bytes (before i ns) bytes buf) ns (set os i (outcome.Got (length bytes))) ≡ set (came_in buf ns os) i (Some (Replied (reply.Got bytes)))
came_put buf [] os i n bytes at short fits = absurd cc
came_put buf (m ∷ ns) [] i n bytes at short fits = refl
came_put buf (m ∷ ns) (x ∷ os) zero n bytes at short fits =
    let same : m ≡ n = cc in
    let within : length bytes ≤ m = omega arith in
    let here : take (length bytes) (take m (with_bytes 0 bytes buf)) ≡ bytes = take-take (length bytes) m (with_bytes 0 bytes buf) within ∙ take_at bytes (drop (0 + length bytes) buf) (length bytes) refl in
    let none : 0 + length bytes ≡ length bytes = omega arith in
    let rest : drop m (with_bytes 0 bytes buf) ≡ drop m buf = ap (λ k. drop m (bytes ++ drop k buf)) none ∙ drop-append-drop (length bytes) buf bytes m within refl in
    ap (λ (b : List ℕ). Some (Replied (reply.Got b)) ∷ came_in (drop m (with_bytes 0 bytes buf)) ns os) here
    ∙ ap (λ b. Some (Replied (reply.Got bytes)) ∷ came_in b ns os) rest
came_put buf (m ∷ ns) (x ∷ os) (suc i) n bytes at short fits =
    let front : m ≤ length buf = omega arith in
    let behind = with_bytes_behind m (before i ns) bytes buf in
    let len = length-take-le m buf front in
    let first : take m (with_bytes (m + before i ns) bytes buf) ≡ take m buf = ap (take m) behind ∙ take_at (take m buf) (with_bytes (before i ns) bytes (drop m buf)) m len in
    let rest : drop m (with_bytes (m + before i ns) bytes buf) ≡ with_bytes (before i ns) bytes (drop m buf) = ap (drop m) behind ∙ drop_at (take m buf) (with_bytes (before i ns) bytes (drop m buf)) m len in
    let others = came_put (drop m buf) ns os i n bytes at short (omega (arith, length-drop m buf)) in
    ap (λ b. ending_in b x ∷ came_in (drop m (with_bytes (m + before i ns) bytes buf)) ns (set os i (outcome.Got (length bytes)))) first
    ∙ ap (λ b. ending_in (take m buf) x ∷ came_in b ns (set os i (outcome.Got (length bytes)))) rest
    ∙ ap (λ (ys : List (Option Ending)). ending_in (take m buf) x ∷ ys) others

-- where nothing has come yet
pub came_none : (buf ns : List ℕ) (n : ℕ) → length ns ≡ n → came_in buf ns (replicate n outcome.Waiting) ≡ replicate n None
came_none buf [] zero e = refl
came_none buf [] (suc n) e = absurd (omega arith)
came_none buf (m ∷ ns) zero e = absurd (omega arith)
came_none buf (m ∷ ns) (suc n) e = ap (λ (ys : List (Option Ending)). None ∷ ys) (came_none (drop m buf) ns n (omega arith))
