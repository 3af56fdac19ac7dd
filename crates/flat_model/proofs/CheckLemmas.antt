-- What a checked write or atomic comes to.
use Rattle.std.proofs.Common.{IfOk, OnErr, Result, Err, ◌≡◌, ◌<◌, ◌↔◌, ℕ, Bool, true, false, IsTrue, List, length, Option, Some, Ok, option_map, slice_get, refl, sym, ap, subst, ◌∙◌, arith, if◌then◌else◌}
use Rattle.std.specs.Int.{to_le_bytes, w64}
use Rattle.std.proofs.lemmas.Option.{slice_get_within}
use Rattle.std.proofs.lemmas.Result.{IfOk-weaker}
use Rattle.cl_types.specs.declared.items.NoMemory.{NoMemory}
use Rattle.cl_types.specs.declared.request.Request.{Request}
use Rattle.cl_types.specs.Ranges.{is_in_range}
use Rattle.cl_types.specs.Places.{Place}
use Rattle.cl_types.specs.declared.call.AtomicOp.{AtomicOp}
use Rattle.cl_types.specs.declared.call.Perm.{Perm}
use Rattle.cl_types.specs.declared.numbers.Addr.{Addr}
use Rattle.cl_types.specs.declared.reply.Refusal.{Refusal}
use Rattle.cl_types.specs.declared.reply.Reply.{Reply}
use Rattle.cl_types.specs.declared.reply.Reply.TheVariants.{Refused, Nothing, Word}
use Rattle.cl_types.specs.Pages.{page_of, offset_of, word_at, word_after}
use Rattle.flat_model.specs.Rows.{put_bytes, with_changed, with_put}
use Rattle.flat_model.specs.Checks.{Opens, Checks}
use Rattle.flat_model.specs.Run.{MayStep}
use Rattle.flat_model.specs.State.{FlatState, Page, bytes_of}
use Rattle.flat_model.specs.Step.{MayReply, Transition, refused, puts, read, write, atomic, may_write, may_change}

same_either_way : {A : Type 0} (b : Bool) (x y : A) → x ≡ y → y ≡ (if b then x else y)
same_either_way true x y same = sym same
same_either_way false x y same = refl

-- what holds, holds where there was no memory
in_err : {P : Type 0} (result : Result Bool NoMemory) → P → OnErr result P
in_err (Ok may) holds = tt
in_err (Err fault) holds = holds

module _ (s : FlatState) (outcome : Transition) (reply : Reply) where
  -- a reply to a refused request
  pub checks_refused : (refusal : Refusal) (may : Bool) → outcome ≡ refused s refusal → IsTrue may ↔ (reply ≡ Refused refusal) → Checks s outcome reply may s
  checks_refused refusal may is test = record {
    allowed = subst (λ (o : Transition). IsTrue may ↔ (reply ≡ o.reply)) (sym is) test;
    after = same_either_way may outcome.state s (ap (λ (o : Transition). o.state) is);
  }

  -- a reply that isn't the machine's
  pub checks_other : (may : Bool) → IsTrue may ↔ (reply ≡ outcome.reply) → may ≡ false → Checks s outcome reply false s
  checks_other may test fails = record { allowed = subst (λ b. IsTrue b ↔ (reply ≡ outcome.reply)) fails test; after = refl }

  -- the machine's reply, and its step
  pub checks_same : (may : Bool) (new : FlatState) → IsTrue may ↔ (reply ≡ outcome.reply) → may ≡ true → new ≡ outcome.state → Checks s outcome reply true new
  checks_same may new test passes is = record { allowed = subst (λ b. IsTrue b ↔ (reply ≡ outcome.reply)) passes test; after = is }

pub opened_within : (s : FlatState) (pid : ℕ) (addr : Addr) (may : Perm → Bool) (i : ℕ) → Opens s pid addr may (Ok i) → i < length s.map
opened_within s pid addr may i opens = slice_get_within s.map i ((pid, page_of addr), opens.0) opens.1

pub put_is_puts : (s : FlatState) (pid : ℕ) (addr : Addr) (i : ℕ) (page : Page) (bytes : List ℕ) (reply : Reply) → slice_get s.map i ≡ Some ((pid, page_of addr), page)
    → put_bytes s i (offset_of addr) bytes ≡ (puts s pid addr page bytes reply).state
put_is_puts s pid addr i page bytes reply there =
    ap (λ (found : Option (Place × Page)). record s { map = with_changed (with_put (offset_of addr) bytes) found s.map }) there

module _ (s : FlatState) (pid : ℕ) (addr : Addr) (i : ℕ) (bytes : List ℕ) (reply : Reply) (may : Bool) (test : IsTrue may ↔ (reply ≡ Nothing)) where
  write_test : (opens : Opens s pid addr may_write (Ok i)) → IsTrue may ↔ (reply ≡ (write s pid addr bytes).reply)
  write_test opens = subst (λ (o : Transition). IsTrue may ↔ (reply ≡ o.reply)) (sym (opens.2 (λ page. puts s pid addr page bytes Nothing))) test

  pub checks_write : (new : FlatState) → Opens s pid addr may_write (Ok i) → may ≡ true → new ≡ put_bytes s i (offset_of addr) bytes → Checks s (write s pid addr bytes) reply true new
  checks_write new opens passes is =
      checks_same s (write s pid addr bytes) reply may new (write_test opens) passes
      (is ∙ put_is_puts s pid addr i opens.0 bytes Nothing opens.1 ∙ ap (λ (o : Transition). o.state) (sym (opens.2 (λ page. puts s pid addr page bytes Nothing))))

  pub wants_write : (result : Result Bool NoMemory) → Opens s pid addr may_write (Ok i) → may ≡ true → OnErr result (reply ≡ (write s pid addr bytes).reply)
  wants_write result opens passes = in_err result ((write_test opens).0 passes)

  pub checks_no_write : Opens s pid addr may_write (Ok i) → may ≡ false → Checks s (write s pid addr bytes) reply false s
  checks_no_write opens fails = checks_other s (write s pid addr bytes) reply may (write_test opens) fails

-- what an atomic comes to, with the word that stands there
abbrev changes_word : FlatState → ℕ → Addr → AtomicOp → Page → ℕ → Transition
changes_word s pid addr op page word = puts s pid addr page (to_le_bytes w64 (word_after op word)) (Word word)

module _ (s : FlatState) (pid : ℕ) (addr : Addr) (i : ℕ) (op : AtomicOp) (reply : Reply) (may : Bool) (word : ℕ) (read : Page) where
  -- the page was read, and the word in it; the reply was tested to be the word
  pub record Read : Type 0 where
    pub opens : Opens s pid addr may_change (Ok i)
    pub value : option_map (λ (e : Place × Page). e.1) (slice_get s.map i) ≡ Some read
    pub is_word : word ≡ word_at (offset_of addr) (bytes_of read)
    pub test : IsTrue may ↔ (reply ≡ Word word)

  same_page : (r : Read) → read ≡ r.opens.0
  same_page r =
      let both : Some read ≡ Some r.opens.0 = sym r.value ∙ ap (λ (found : Option (Place × Page)). option_map (λ e. e.1) found) r.opens.1 in
      cc both

  atomic_is : (r : Read) → atomic s pid addr op ≡ changes_word s pid addr op r.opens.0 word
  atomic_is r =
      r.opens.2 (λ page. changes_word s pid addr op page (word_at (offset_of addr) (bytes_of page)))
      ∙ ap (changes_word s pid addr op r.opens.0) (ap (λ (page : Page). word_at (offset_of addr) (bytes_of page)) (sym (same_page r)) ∙ sym r.is_word)

  atomic_test : (r : Read) → IsTrue may ↔ (reply ≡ (atomic s pid addr op).reply)
  atomic_test r = subst (λ (o : Transition). IsTrue may ↔ (reply ≡ o.reply)) (sym (atomic_is r)) r.test

  pub checks_atomic : (new : FlatState) → Read → may ≡ true → new ≡ put_bytes s i (offset_of addr) (to_le_bytes w64 (word_after op word))
      → Checks s (atomic s pid addr op) reply true new
  checks_atomic new r passes is =
      checks_same s (atomic s pid addr op) reply may new (atomic_test r) passes
      (is ∙ put_is_puts s pid addr i r.opens.0 (to_le_bytes w64 (word_after op word)) (Word word) r.opens.1 ∙ ap (λ (o : Transition). o.state) (sym (atomic_is r)))

  pub wants_atomic : (result : Result Bool NoMemory) → Read → may ≡ true → OnErr result (reply ≡ (atomic s pid addr op).reply)
  wants_atomic result r passes = in_err result ((atomic_test r).0 passes)

  pub checks_no_atomic : Read → may ≡ false → Checks s (atomic s pid addr op) reply false s
  checks_no_atomic r fails = checks_other s (atomic s pid addr op) reply may (atomic_test r) fails

-- a read changes nothing
pub read_keeps : (s : FlatState) (pid : ℕ) (addr : Addr) (n : ℕ) → (read s pid addr n).state ≡ s
read_keeps s pid addr n = grind arith

-- what may be replied to a request in its ranges is a step
pub may_step : (s : FlatState) (number pid : ℕ) (request : Request) (reply : Reply) (result : Result Bool NoMemory) → number ≡ pid → IsTrue (is_in_range request)
    → IfOk result (λ may. IsTrue may ↔ MayReply s number request reply) → IfOk result (λ may. IsTrue may ↔ MayStep s pid request reply)
may_step s number pid request reply result same in_range may =
    IfOk-weaker result (λ b. IsTrue b ↔ MayReply s pid request reply) (λ b. IsTrue b ↔ MayStep s pid request reply)
    (λ b both. (λ is. record { in_range = in_range; may = both.0 is; after = refl }, λ step. both.1 step.may))
    (subst (λ (n : ℕ). IfOk result (λ b. IsTrue b ↔ MayReply s n request reply)) same may)
