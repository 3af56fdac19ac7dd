-- The output on an input, and its causes.
use Rattle.std.proofs.Common.{◌≡◌, ℕ, ◌+◌, ◌<◌, true, List, length, ◌++◌, length-append, Option, Some, None, Ok, Err, inl, inr, refl, sym, ap, subst, ◌∙◌, arith}
use Rattle.std.specs.Prelude.{Result, nat_lt}
use Rattle.std.proofs.lemmas.Bool.Decides.{nat_tests}
use Rattle.cl_outside.specs.Told.{Took}
use Rattle.cl_types.specs.declared.limits.TheConstants.{INPUT_BYTES}
use Rattle.cl_types.specs.declared.open_fault.OpenFault.{OpenFault}
use Rattle.schedule_text.specs.Reading.{too_long_of}
use Rattle.schedule_text.specs.declared.fault.ScheduleFault.TheVariants as long
use Rattle.texts.specs.Grammar.{Fault}
use Rattle.command_text.specs.Outputs.{AnswersInput, Encodes, HasBadNode, IsRefused, IsTooLong, OnBadLine, OnBadNode, OnLong, OnValue, AsksTranscript, AsksVerdict, History, verdict_output}
use Rattle.command_text.specs.Streams.{Gave}
use Rattle.command_text.specs.Status.{number_of}
use Rattle.command_text.specs.declared.output.Output.{Output}
use Rattle.command_text.specs.declared.status.Status.{Status}
use Rattle.command_text.specs.declared.status.Status.TheVariants as status
use Rattle.cl_types.specs.declared.schedule.Schedule.{Schedule}
use Rattle.history_check.specs.Verdicts.{IsVerdict}
use Rattle.history_check.specs.declared.history.Verdict.{Verdict}
use Rattle.history_check.specs.declared.history.Verdict.TheVariants as verdict

-- ---- statuses
-- an output may have this status
abbrev pub IsFinal : Status → Type 0
IsFinal status.ReadFault = ⊥
IsFinal status.WriteFault = ⊥
IsFinal status.NoMemory = ⊥
IsFinal status.WireFault = ⊥
IsFinal status.Stalled = ⊥
IsFinal other = Unit {0}

-- what a value asks for has this status
abbrev pub IsAnswer : Status → Type 0
IsAnswer status.Ok = Unit {0}
IsAnswer status.NotRun = Unit {0}
IsAnswer other = ⊥

pub answer_final : (st : Status) → IsAnswer st → IsFinal st
answer_final status.Ok is = tt
answer_final status.NotRun is = tt
answer_final status.BadWords is = absurd is
answer_final status.BadInput is = absurd is
answer_final status.TooLong is = absurd is
answer_final status.BadNode is = absurd is
answer_final status.ReadFault is = absurd is
answer_final status.WriteFault is = absurd is
answer_final status.NoMemory is = absurd is
answer_final status.WireFault is = absurd is
answer_final status.Stalled is = absurd is

-- the status of an output that is another
pub status_is : {output other : Output} → output ≡ other → output.status ≡ other.status
status_is is = ap (λ (o : Output). o.status) is

-- two statuses are told apart by their numbers
pub differs : (st other : Status) → st ≡ other → (number_of st ≡ number_of other → ⊥) → ⊥
differs st other same never = never (ap number_of same)

pub none_some : {A : Type 0} (o : Option A) (x : A) → o ≡ None → o ≡ Some x → ⊥
none_some o x none some = absurd (let never : ◌≡◌ {A = Option _} None (Some x) = sym none ∙ some in grind arith)

pub ok_err : {A B : Type 0} (r : Result A B) (x : A) (e : B) → r ≡ Ok x → r ≡ Err e → ⊥
ok_err r x e ok err = absurd (let never : ◌≡◌ {A = Result _ _} (Ok x) (Err e) = sym ok ∙ err in grind arith)

ok_same : {A B : Type 0} (r : Result A B) (x y : A) → r ≡ Ok x → r ≡ Ok y → x ≡ y
ok_same r x y first second = let same : ◌≡◌ {A = Result _ _} (Ok x) (Ok y) = sym first ∙ second in cc

-- ---- the output on an input
module _ (A : Type 0) (read : List ℕ → Result A Fault) (fault_of : A → Option OpenFault) (Asked : A → Output → Type 0) (bytes : List ℕ) (output : Output) where
  abbrev Answers : Type 0
  Answers = AnswersInput A read fault_of Asked bytes output

  module _ (answer : (value : A) → Asked value output → IsAnswer output.status) where
    pub answers_final : Answers → IsFinal output.status
    answers_final (OnLong long is) = subst IsFinal (sym (status_is is)) tt
    answers_final (OnBadLine refused is) = subst IsFinal (sym (status_is is)) tt
    answers_final (OnBadNode bad is) = subst IsFinal (sym (status_is is)) tt
    answers_final (OnValue value encoded asked) = answer_final output.status (answer value asked)

    -- no words are bad
    pub answers_words : Answers → output.status ≡ status.BadWords → ⊥
    answers_words (OnLong long is) st = differs _ _ (sym (status_is is) ∙ st) (λ same. omega (arith, same))
    answers_words (OnBadLine refused is) st = differs _ _ (sym (status_is is) ∙ st) (λ same. omega (arith, same))
    answers_words (OnBadNode bad is) st = differs _ _ (sym (status_is is) ∙ st) (λ same. omega (arith, same))
    answers_words (OnValue value encoded asked) st = subst IsAnswer st (answer value asked)

    -- the cause of each status
    pub is_long : Answers → output.status ≡ status.TooLong → IsTooLong bytes
    is_long (OnLong long is) st = long
    is_long (OnBadLine refused is) st = absurd (differs _ _ (sym (status_is is) ∙ st) (λ same. omega (arith, same)))
    is_long (OnBadNode bad is) st = absurd (differs _ _ (sym (status_is is) ∙ st) (λ same. omega (arith, same)))
    is_long (OnValue value encoded asked) st = absurd (subst IsAnswer st (answer value asked))

    pub is_refused : Answers → output.status ≡ status.BadInput → IsRefused A read bytes
    is_refused (OnLong long is) st = absurd (differs _ _ (sym (status_is is) ∙ st) (λ same. omega (arith, same)))
    is_refused (OnBadLine refused is) st = refused
    is_refused (OnBadNode bad is) st = absurd (differs _ _ (sym (status_is is) ∙ st) (λ same. omega (arith, same)))
    is_refused (OnValue value encoded asked) st = absurd (subst IsAnswer st (answer value asked))

    pub is_closed : Answers → output.status ≡ status.BadNode → HasBadNode A read fault_of bytes
    is_closed (OnLong long is) st = absurd (differs _ _ (sym (status_is is) ∙ st) (λ same. omega (arith, same)))
    is_closed (OnBadLine refused is) st = absurd (differs _ _ (sym (status_is is) ∙ st) (λ same. omega (arith, same)))
    is_closed (OnBadNode bad is) st = bad
    is_closed (OnValue value encoded asked) st = absurd (subst IsAnswer st (answer value asked))

    -- a status that only a value asks for
    pub is_asked : (st : Status) → IsAnswer st → Answers → output.status ≡ st → (value : A) × Encodes A read fault_of bytes value × Asked value output
    is_asked st final (OnLong long is) same = absurd (subst IsAnswer (sym same ∙ status_is is) final)
    is_asked st final (OnBadLine refused is) same = absurd (subst IsAnswer (sym same ∙ status_is is) final)
    is_asked st final (OnBadNode bad is) same = absurd (subst IsAnswer (sym same ∙ status_is is) final)
    is_asked st final (OnValue value encoded asked) same = (value, encoded, asked)

  -- the status of each cause
  pub long_status : Answers → IsTooLong bytes → output.status ≡ status.TooLong
  long_status (OnLong long is) cause = status_is is
  long_status (OnBadLine refused is) cause = absurd (none_some (too_long_of bytes) cause.0 refused.short cause.1)
  long_status (OnBadNode bad is) cause = absurd (none_some (too_long_of bytes) cause.0 bad.short cause.1)
  long_status (OnValue value encoded asked) cause = absurd (none_some (too_long_of bytes) cause.0 encoded.short cause.1)

  pub refused_status : Answers → IsRefused A read bytes → output.status ≡ status.BadInput
  refused_status (OnLong long is) cause = absurd (none_some (too_long_of bytes) long.0 cause.short long.1)
  refused_status (OnBadLine refused is) cause = status_is is
  refused_status (OnBadNode bad is) cause = absurd (ok_err (read bytes) bad.value cause.fault bad.encoded cause.line)
  refused_status (OnValue value encoded asked) cause = absurd (ok_err (read bytes) value cause.fault encoded.encoded cause.line)

  pub closed_status : Answers → HasBadNode A read fault_of bytes → output.status ≡ status.BadNode
  closed_status (OnLong long is) cause = absurd (none_some (too_long_of bytes) long.0 cause.short long.1)
  closed_status (OnBadLine refused is) cause = absurd (ok_err (read bytes) cause.value refused.fault cause.encoded refused.line)
  closed_status (OnBadNode bad is) cause = status_is is
  closed_status (OnValue value encoded asked) cause =
      absurd (none_some (fault_of value) cause.fault encoded.opens (ap (λ v. fault_of v) (ok_same (read bytes) value cause.value encoded.encoded cause.encoded) ∙ cause.closed))

  -- what the value asks for
  pub value_asked : Answers → (value : A) → Encodes A read fault_of bytes value → Asked value output
  value_asked (OnLong long is) value e = absurd (none_some (too_long_of bytes) long.0 e.short long.1)
  value_asked (OnBadLine refused is) value e = absurd (ok_err (read bytes) value refused.fault e.encoded refused.line)
  value_asked (OnBadNode bad is) value e =
      absurd (none_some (fault_of value) bad.fault e.opens (ap (λ v. fault_of v) (ok_same (read bytes) value bad.value e.encoded bad.encoded) ∙ bad.closed))
  value_asked (OnValue other encoded asked) value e = subst (λ v. Asked v output) (ok_same (read bytes) other value encoded.encoded e.encoded) asked

  -- an input that nothing is asked of
  pub refused_answers : AnswersInput A read fault_of (λ value o. ⊥) bytes output → Answers
  refused_answers (OnLong long is) = OnLong long is
  refused_answers (OnBadLine refused is) = OnBadLine refused is
  refused_answers (OnBadNode bad is) = OnBadNode bad is
  refused_answers (OnValue value encoded asked) = absurd asked

-- ---- too many bytes
pub many_long : (bytes : List ℕ) → INPUT_BYTES < length bytes → too_long_of bytes ≡ Some (long.TooLong true (INPUT_BYTES + 1))
many_long bytes many =
    let more : nat_lt INPUT_BYTES (length bytes) ≡ true = grind (arith, nat_tests) in
    rw more refl

-- of a source that tells, the output is the one on its bytes
pub gave_answers : (A : Type 0) (read : List ℕ → Result A Fault) (fault_of : A → Option OpenFault) (Asked : A → Output → Type 0) (given bytes : List ℕ) (output : Output) (after : Option (List ℕ))
    → Gave given (Some bytes) after → AnswersInput A read fault_of Asked given output → AnswersInput A read fault_of Asked bytes output
gave_answers A read fault_of Asked given bytes output after (inl input) answers = subst (λ given. AnswersInput A read fault_of Asked given output) input.whole answers
gave_answers A read fault_of Asked given bytes output after (inr many) answers = by after many.taken answers where
  first : too_long_of given ≡ Some (long.TooLong true (INPUT_BYTES + 1))
  first = let count = many.count in many_long given (omega (arith, count))

  on : too_long_of bytes ≡ Some (long.TooLong true (INPUT_BYTES + 1)) → AnswersInput A read fault_of Asked given output → AnswersInput A read fault_of Asked bytes output
  on second (OnLong (fault, is_long) is) = OnLong (fault, second ∙ sym first ∙ is_long) is
  on second (OnBadLine refused is) = absurd (none_some (too_long_of given) _ refused.short first)
  on second (OnBadNode bad is) = absurd (none_some (too_long_of given) _ bad.short first)
  on second (OnValue value encoded asked) = absurd (none_some (too_long_of given) _ encoded.short first)

  by : (left : Option (List ℕ)) → Took given (Some bytes) left → AnswersInput A read fault_of Asked given output → AnswersInput A read fault_of Asked bytes output
  by None taken answers = absurd (let never : ◌≡◌ {A = Option (List ℕ)} (Some bytes) None = taken in grind arith)
  by (Some rest) taken answers =
      let whole : bytes ≡ given ++ rest = cc in
      let n : length bytes ≡ length given + length rest = ap length whole ∙ length-append given rest in
      let count = many.count in
      on (many_long bytes (omega (arith, count, n))) answers

-- ---- what values ask for
pub transcript_answer : (s : Schedule) (output : Output) → AsksTranscript s output → IsAnswer output.status
transcript_answer s output asked = subst IsAnswer (sym (status_is asked)) tt

verdict_answer : (count : ℕ) (v : Verdict) → IsAnswer (verdict_output count v).status
verdict_answer count verdict.Run = tt
verdict_answer count (verdict.NotRun entry) = tt

pub history_answer : (h : History) (output : Output) → AsksVerdict h output → IsAnswer output.status
history_answer h output (v, is, asked) = subst IsAnswer (sym (status_is asked)) (verdict_answer (length h.1) v)

-- a verdict by its status
pub run_of : (h : History) (v : Verdict) → IsVerdict h.0.node h.1 v → (verdict_output (length h.1) v).status ≡ status.Ok → v ≡ verdict.Run
run_of h verdict.Run is st = refl
run_of h (verdict.NotRun entry) is st = absurd (differs _ _ st (λ same. omega (arith, same)))
