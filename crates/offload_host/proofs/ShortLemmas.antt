-- The answers of operations that change an object are short.
use Rattle.std.proofs.Common.{◌≡◌, ◌≤◌, ◌==◌, ◌%◌, ◌&&◌, not, ℕ, Bool, true, false, List, [], length, take, Result, Ok, Err, IfOk, is_some, leb, if◌then◌else◌, refl, sym, ap, subst, ◌∙◌, arith}
use Rattle.std.proofs.lemmas.Bool.{eqb-true, and_parts}
use Rattle.std.proofs.lemmas.List.{length-take-le}
use Rattle.std.specs.FinMap.Entries.{find, put, where_key}
use Rattle.std.specs.Int.{to_be_bytes, w32}
use Rattle.std.specs.Ordering.{eq_by_cmp}
use Rattle.cl_types.specs.declared.reply.Refusal.{Refusal}
use Rattle.cl_types.specs.declared.reply.Refusal.TheVariants.{BadOp, NoKey, ObjectFull}
use Rattle.flat_model.specs.Objects.{Given, KvObject, Object, Pairs, is_keyed, key_cmp, key_in, kv_delete, kv_get, kv_put, kv_step, value_in}
use Rattle.kv_offload.specs.Stored.{answered, given_by}

-- an answer, where there is one, has no bytes
abbrev pub IsSilent : Given → Type 0
IsSilent (Err refusal) = Unit {0}
IsSilent (Ok (answer, object)) = answer ≡ []

silent_if : (test : Bool) (x y : Given) → (test ≡ true → IsSilent x) → (test ≡ false → IsSilent y) → IsSilent (if test then x else y)
silent_if true x y holds fails = holds refl
silent_if false x y holds fails = fails refl

silent_put : (records : ℕ) (pairs : Pairs) (key value : List ℕ) → IsSilent (kv_put records pairs key value)
silent_put records pairs key value =
    silent_if (not (is_some (find key_cmp key pairs)) && leb records (length pairs)) (Err ObjectFull)
    (Ok ([], KvObject records (put key_cmp key value pairs))) (λ _. tt) (λ _. refl)

silent_delete : (records : ℕ) (pairs : Pairs) (key : List ℕ) → IsSilent (kv_delete records pairs key)
silent_delete records pairs key =
    silent_if (is_some (find key_cmp key pairs))
    (Ok ([], KvObject records (where_key key_cmp (λ other. not (eq_by_cmp key_cmp key other)) pairs))) (Err NoKey) (λ _. refl) (λ _. tt)

-- an odd operation isn't one of these
is_odd : (op wanted : ℕ) (form : Bool) → op % 2 ≡ 1 → wanted % 2 ≡ 0 → (op == wanted && form) ≡ true → ⊥
is_odd op wanted form odd even both =
    let same : op ≡ wanted = eqb-true op wanted (and_parts (op == wanted) form both).0 in
    let other : op % 2 ≡ 0 = ap (λ n. n % 2) same ∙ even in
    cc (sym odd ∙ other)

-- an odd operation of a store answers no bytes
pub odd_is_silent : (records : ℕ) (pairs : Pairs) (op : ℕ) (bytes : List ℕ) → op % 2 ≡ 1 → IsSilent (kv_step records pairs op bytes)
odd_is_silent records pairs op bytes odd =
    let counts : Given = if op == 4 && length bytes == 0 then Ok (to_be_bytes w32 (length pairs), KvObject records pairs) else Err BadOp in
    let deletes : Given = if op == 3 && is_keyed 0 bytes then kv_delete records pairs (key_in bytes) else counts in
    let gets : Given = if op == 2 && is_keyed 0 bytes then kv_get records pairs (find key_cmp (key_in bytes) pairs) else deletes in
    silent_if (op == 1 && is_keyed 256 bytes) (kv_put records pairs (key_in bytes) (value_in bytes)) gets
    (λ _. silent_put records pairs (key_in bytes) (value_in bytes)) (λ _.
    silent_if (op == 2 && is_keyed 0 bytes) (kv_get records pairs (find key_cmp (key_in bytes) pairs)) deletes
    (λ get. absurd (is_odd op 2 (is_keyed 0 bytes) odd refl get)) (λ _.
    silent_if (op == 3 && is_keyed 0 bytes) (kv_delete records pairs (key_in bytes)) counts
    (λ _. silent_delete records pairs (key_in bytes)) (λ _.
    silent_if (op == 4 && length bytes == 0) (Ok (to_be_bytes w32 (length pairs), KvObject records pairs)) (Err BadOp)
    (λ count. absurd (is_odd op 4 (length bytes == 0) odd refl count)) (λ _. tt))))

-- so the length that is told is small
pub silent_is_short : (result : Result ℕ Refusal) (out : List ℕ) (object : Object) (step : Given)
    → length out ≡ 1024 → IfOk result (λ len. len ≤ 1024) → given_by result (answered result out) object ≡ step → IsSilent step
    → IfOk result (λ len. len ≤ 16)
silent_is_short (Err refusal) out object step whole within given silent = tt
silent_is_short (Ok len) out object step whole within given silent =
    let front : len ≤ length out = omega (arith, whole, within) in
    let empty : take len out ≡ [] = subst IsSilent (sym given) silent in
    let none : length (take len out) ≡ 0 = ap length empty in
    omega (arith, length-take-le len out front, none)
