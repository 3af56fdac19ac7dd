-- The answer and the buffer of a call, by the outcomes of its parts alone.
use Rattle.std.proofs.Common.{◌≡◌, ℕ, ◌+◌, ◌-◌, ◌<◌, ◌≤◌, ◌⊎◌, inl, inr, Bool, true, false, eqb, List, [], ◌∷◌, ◌++◌, length, map, take, drop, get_or, Option, Some, None, option_map, unwrap_or, IfSome, refl, sym, ap, subst, ◌∙◌, arith, append-nil}
use Rattle.std.specs.List.{list_any}
use Rattle.std.proofs.Math.Seq.{take-add}
use Rattle.std.proofs.lemmas.Bool.{and_parts, eqb-true, leb-true}
use Rattle.std.proofs.lemmas.List.{at_drop_more, length-replicate, length-take-le, take-take, take_all}
use Rattle.cl_types.specs.Bytes.{zeros}
use Rattle.cl_types.specs.declared.numbers.Addr.{Addr}
use Rattle.cl_types.specs.declared.call.Call.{Call}
use Rattle.cl_types.specs.declared.call.Call.TheVariants as call
use Rattle.cl_types.specs.declared.request.Request.{Request}
use Rattle.cl_types.specs.declared.request.Request.TheVariants as request
use Rattle.cl_types.specs.declared.reply.Answer.{Answer}
use Rattle.cl_types.specs.declared.reply.Answer.TheVariants as answer
use Rattle.cl_types.specs.declared.reply.Reply.TheVariants as reply
use Rattle.cl_types.specs.declared.reply.Value.{Value}
use Rattle.cl_types.specs.declared.reply.Value.TheVariants as value
use Rattle.client_model.specs.Client.{buffer_of, emptied, every}
use Rattle.client_model.specs.Cut.{Ending, Replied, GivenUp, combine, cut, done_value, filled, first_answer, first_given_up, first_refusal, handed_back, joined, only_value, pieces}
use Rattle.call_cut.specs.declared.outcome.PartOutcome.{PartOutcome}
use Rattle.call_cut.specs.declared.outcome.PartOutcome.TheVariants as outcome
use Rattle.call_cut.specs.Fills.{fills}
use Rattle.call_cut.specs.Came.{came, came_in, ending_in}
use Rattle.call_cut.specs.Taking.{Gathers, is_outcome_of, are_outcomes_of}
use Rattle.call_cut.specs.Ends.{is_waiting, given_up_among, refusal_among, failure_among, first_of, got_of, only_value_of, value_of, with_rest_cleared}
use Rattle.call_cut.proofs.PieceLemmas.{total, total_pieces}
use Rattle.call_cut.proofs.Takings.{length_fills, length_outcomes}
use Rattle.client_model.proofs.Buffers.{refusal_cases}

-- a walk over outcomes finds what a look at them all does
pub found_here : (among : List PartOutcome → Option Answer) (os : List PartOutcome) (i : ℕ) (d o : PartOutcome) → i < length os → get_or os i d ≡ o
    → among (drop i os) ≡ among os → among (o ∷ drop (i + 1) os) ≡ among os
found_here among os i d o within is so_far = sym (ap (λ x. among (x ∷ drop (i + 1) os)) is) ∙ sym (at_drop_more among os i d within) ∙ so_far

-- ---- the endings, where something came of each part
-- what came of a part; a stand-in where nothing has
abbrev ending : List ℕ → PartOutcome → Ending
ending bytes o = unwrap_or (ending_in bytes o) (Replied reply.Nothing)

abbrev endings_in : List ℕ → List ℕ → List PartOutcome → List Ending
endings_in buf (n ∷ ns) (o ∷ os) = ending (take n buf) o ∷ endings_in (drop n buf) ns os
endings_in buf ns os = []

-- nothing has come of some part
every_waiting : (buf ns : List ℕ) (os : List PartOutcome) → length os ≤ length ns → list_any is_waiting os ≡ true → every (came_in buf ns os) ≡ None
every_waiting buf ns [] few h = absurd cc
every_waiting buf [] (o ∷ os) few h = absurd (omega arith)
every_waiting buf (n ∷ ns) (outcome.Waiting ∷ os) few h = refl
every_waiting buf (n ∷ ns) (o ∷ os) few h = rw (every_waiting (drop n buf) ns os (omega arith) h) refl

-- something has come of each
every_over : (buf ns : List ℕ) (os : List PartOutcome) → length os ≤ length ns → list_any is_waiting os ≡ false → every (came_in buf ns os) ≡ Some (endings_in buf ns os)
every_over buf [] [] few h = refl
every_over buf (n ∷ ns) [] few h = refl
every_over buf [] (o ∷ os) few h = absurd (omega arith)
every_over buf (n ∷ ns) (outcome.Waiting ∷ os) few h = absurd cc
every_over buf (n ∷ ns) (o ∷ os) few h = rw (every_over (drop n buf) ns os (omega arith) h) refl

given_up_is : (buf ns : List ℕ) (os : List PartOutcome) → length os ≤ length ns → first_given_up (endings_in buf ns os) ≡ given_up_among os
given_up_is buf [] [] few = refl
given_up_is buf (n ∷ ns) [] few = refl
given_up_is buf [] (o ∷ os) few = absurd (omega arith)
given_up_is buf (n ∷ ns) (outcome.GivenUp first_sent now ∷ os) few = refl
given_up_is buf (n ∷ ns) (o ∷ os) few = given_up_is (drop n buf) ns os (omega arith)

refusal_is : (buf ns : List ℕ) (os : List PartOutcome) → length os ≤ length ns → first_refusal (endings_in buf ns os) ≡ refusal_among os
refusal_is buf [] [] few = refl
refusal_is buf (n ∷ ns) [] few = refl
refusal_is buf [] (o ∷ os) few = absurd (omega arith)
refusal_is buf (n ∷ ns) (outcome.Refused refusal ∷ os) few = refl
refusal_is buf (n ∷ ns) (o ∷ os) few = refusal_is (drop n buf) ns os (omega arith)

only_value_is : (buf ns : List ℕ) (os : List PartOutcome) → length os ≤ length ns → only_value (endings_in buf ns os) ≡ only_value_of os
only_value_is buf [] [] few = refl
only_value_is buf (n ∷ ns) [] few = refl
only_value_is buf [] (o ∷ os) few = absurd (omega arith)
only_value_is buf (n ∷ ns) (outcome.Waiting ∷ os) few = refl
only_value_is buf (n ∷ ns) (outcome.Refused refusal ∷ os) few = refl
only_value_is buf (n ∷ ns) (outcome.Nothing ∷ os) few = refl
only_value_is buf (n ∷ ns) (outcome.At addr ∷ os) few = refl
only_value_is buf (n ∷ ns) (outcome.Word word ∷ os) few = refl
only_value_is buf (n ∷ ns) (outcome.Got len ∷ os) few = refl
only_value_is buf (n ∷ ns) (outcome.GivenUp first_sent now ∷ os) few = refl

-- ---- a call that failed
-- the first part that was given up, or none was
given_up_cases : (es : List Ending) → (first_given_up es ≡ None) ⊎ ((first_sent now : ℕ) × (first_given_up es ≡ Some (answer.TimedOut first_sent now)))
given_up_cases [] = inl refl
given_up_cases (Replied r ∷ es) = given_up_cases es
given_up_cases (GivenUp first_sent now ∷ es) = inr (first_sent, now, refl)

-- the answer is that failure, and the buffer is of zeros
failed : (es : List Ending) (a : Answer) → first_of (first_given_up es) (first_refusal es) ≡ Some a → (d : Answer)
    → (first_answer (first_given_up es) (first_refusal es) d ≡ a) × ((buf : List ℕ) → filled (first_answer (first_given_up es) (first_refusal es) d) buf es ≡ zeros (length buf))
failed es a is d = elim (given_up_cases es) [
  | inr (first_sent, now, e) ↦ let is' : Some (answer.TimedOut first_sent now) ≡ Some a = rw e at is in rw e (cc, λ buf. refl)
  | inl e ↦ elim (refusal_cases es) [
    | inr (refusal, e') ↦ let is' : Some (answer.Refused refusal) ≡ Some a = rw (e, e') at is in rw (e, e') (cc, λ buf. refl)
    | inl e' ↦ absurd (let none : None ≡ Some a = rw (e, e') at is in cc)
  ]
]

zeros_again : (buf : List ℕ) → zeros (length (zeros (length buf))) ≡ zeros (length buf)
zeros_again buf = ap zeros (length-replicate (length buf) 0)

-- and so the call is handed back with a buffer of zeros
handed_back_failed : (k : Call) (es : List Ending) (a : Answer) → first_of (first_given_up es) (first_refusal es) ≡ Some a → emptied k ≡ handed_back (emptied k) es
handed_back_failed (call.Read addr buf) es a is = ap (call.Read addr) (sym ((failed es a is _).1 (zeros (length buf)) ∙ zeros_again buf))
handed_back_failed (call.Offload number op sent buf) es a is = ap (call.Offload number op sent) (sym ((failed es a is _).1 (zeros (length buf)) ∙ zeros_again buf))
handed_back_failed (call.Alloc pages perm) es a is = refl
handed_back_failed (call.Free addr pages) es a is = refl
handed_back_failed (call.Write addr sent) es a is = refl
handed_back_failed (call.Atomic addr op) es a is = refl
handed_back_failed call.Fence es a is = refl

-- ---- a call that is done
-- nothing failed
pub record AllDone (os : List PartOutcome) : Type 0 where
  pub over : list_any is_waiting os ≡ false
  pub kept : given_up_among os ≡ None
  pub granted : refusal_among os ≡ None

-- each part of a Read then has all its bytes
abbrev reads : List (ℕ × ℕ) → List Request
reads ps = map (λ p. request.Read (record { 0 = p.0 }) p.1) ps

all_got : (ps : List (ℕ × ℕ)) (os : List PartOutcome) → are_outcomes_of (reads ps) os ≡ true → AllDone os → os ≡ map (λ p. outcome.Got p.1) ps
all_got [] [] fit d = refl
all_got [] (o ∷ os) fit d = absurd cc
all_got (p ∷ ps) [] fit d = absurd cc
all_got (p ∷ ps) (outcome.Waiting ∷ os) fit d = absurd (let h = d.over in cc)
all_got (p ∷ ps) (outcome.Refused refusal ∷ os) fit d = absurd (let h = d.granted in cc)
all_got (p ∷ ps) (outcome.GivenUp first_sent now ∷ os) fit d = absurd (let h = d.kept in cc)
all_got (p ∷ ps) (outcome.Nothing ∷ os) fit d = absurd cc
all_got (p ∷ ps) (outcome.At addr ∷ os) fit d = absurd cc
all_got (p ∷ ps) (outcome.Word word ∷ os) fit d = absurd cc
all_got (p ∷ ps) (outcome.Got len ∷ os) fit d =
    let both = and_parts (eqb len p.1) (are_outcomes_of (reads ps) os) fit in
    let same = eqb-true len p.1 both.0 in
    let rest = all_got ps os both.1 (record { over = d.over; kept = d.kept; granted = d.granted }) in
    rw (same, rest) refl

-- and they make the whole buffer
joined_all : (ps : List (ℕ × ℕ)) (buf : List ℕ) → joined (endings_in buf (map (λ p. p.1) ps) (map (λ p. outcome.Got p.1) ps)) ≡ take (total (map (λ p. p.1) ps)) buf
joined_all [] buf = refl
joined_all (p ∷ ps) buf =
    ap (λ (b : List ℕ). b ++ joined (endings_in (drop p.1 buf) (map (λ p. p.1) ps) (map (λ p. outcome.Got p.1) ps))) (take-take p.1 p.1 buf (omega arith))
    ∙ ap (λ (b : List ℕ). take p.1 buf ++ b) (joined_all ps (drop p.1 buf))
    ∙ sym (take-add p.1 (total (map (λ p. p.1) ps)) buf)

-- the only part of an Offload then has its answer
got_alone : (number op : ℕ) (sent buf : List ℕ) (os : List PartOutcome) → are_outcomes_of (cut (call.Offload number op sent buf)) os ≡ true → AllDone os
    → (len : ℕ) × (os ≡ outcome.Got len ∷ []) × (len ≤ length buf)
got_alone number op sent buf [] fit d = absurd cc
got_alone number op sent buf (o ∷ (x ∷ os)) fit d = absurd (let h = (and_parts (is_outcome_of (request.Offload number op (length buf) sent) o) _ fit).1 in cc)
got_alone number op sent buf (outcome.Waiting ∷ []) fit d = absurd (let h = d.over in cc)
got_alone number op sent buf (outcome.Refused refusal ∷ []) fit d = absurd (let h = d.granted in cc)
got_alone number op sent buf (outcome.GivenUp first_sent now ∷ []) fit d = absurd (let h = d.kept in cc)
got_alone number op sent buf (outcome.Nothing ∷ []) fit d = absurd cc
got_alone number op sent buf (outcome.At addr ∷ []) fit d = absurd cc
got_alone number op sent buf (outcome.Word word ∷ []) fit d = absurd cc
got_alone number op sent buf (outcome.Got len ∷ []) fit d = (len, refl, leb-true len (length buf) (and_parts (is_outcome_of (request.Offload number op (length buf) sent) (outcome.Got len)) _ fit).0)

-- a call with these endings has this answer, and is handed back as k'
pub record EndsBy (k k' : Call) (es : List Ending) (a : Answer) : Type 0 where
  pub answer_is : a ≡ combine (emptied k) es
  pub call_is : k' ≡ handed_back (emptied k) es

-- what was joined, and then zeros
filled_done : (v : Value) (buf joins : List ℕ) (es : List Ending) → joined es ≡ joins → filled (answer.Done v) (zeros (length buf)) es ≡ joins ++ zeros (length buf - length joins)
filled_done v buf joins es j = ap (λ n. joined es ++ zeros (n - length (joined es))) (length-replicate (length buf) 0) ∙ ap (λ b. b ++ zeros (length buf - length b)) j

module _ (es : List Ending) (kept : first_given_up es ≡ None) (granted : first_refusal es ≡ None) where
  combine_done : (k : Call) → combine k es ≡ answer.Done (done_value k es)
  combine_done k = rw (kept, granted) refl

  done_read : (addr : Addr) (buf : List ℕ) → joined es ≡ buf → EndsBy (call.Read addr buf) (call.Read addr buf) es (answer.Done (value.Len (length buf)))
  done_read addr buf j =
      let all : length buf - length buf ≡ 0 = omega arith in
      record {
        answer_is = ap (λ b. answer.Done (value.Len (length b))) (sym j) ∙ sym (combine_done (call.Read addr (zeros (length buf))));
        call_is = ap (call.Read addr) (sym (
            ap (λ a. filled a (zeros (length buf)) es) (combine_done (call.Read addr (zeros (length buf))))
            ∙ filled_done (done_value (call.Read addr (zeros (length buf))) es) buf buf es j
            ∙ ap (λ n. buf ++ zeros n) all
            ∙ append-nil buf));
      }

  done_offload : (number op len : ℕ) (sent buf : List ℕ) → len ≤ length buf → joined es ≡ take len buf
      → EndsBy (call.Offload number op sent buf) (call.Offload number op sent (take len buf ++ zeros (length buf - len))) es (answer.Done (value.Len len))
  done_offload number op len sent buf within j =
      let size : length (take len buf) ≡ len = length-take-le len buf within in
      record {
        answer_is = ap (λ n. answer.Done (value.Len n)) (sym (ap length j ∙ size)) ∙ sym (combine_done (call.Offload number op sent (zeros (length buf))));
        call_is = ap (call.Offload number op sent) (sym (
            ap (λ a. filled a (zeros (length buf)) es) (combine_done (call.Offload number op sent (zeros (length buf))))
            ∙ filled_done (done_value (call.Offload number op sent (zeros (length buf))) es) buf (take len buf) es j
            ∙ ap (λ n. take len buf ++ zeros (length buf - n)) size));
      }

  done_plain : (k : Call) (os : List PartOutcome) → emptied k ≡ k → handed_back k es ≡ k → done_value k es ≡ only_value_of os → EndsBy k k es (answer.Done (only_value_of os))
  done_plain k os plain same is = record {
    answer_is = ap answer.Done (sym is) ∙ sym (combine_done k) ∙ ap (λ c. combine c es) (sym plain);
    call_is = sym same ∙ ap (λ c. handed_back c es) (sym plain);
  }

module _ (os : List PartOutcome) (k : Call) (g : Gathers os k) where
  -- there are no more outcomes than places for their bytes
  as_many : length os ≤ length (fills k)
  as_many = omega (arith, length_fills k, length_outcomes (cut k) os g.fit)

  -- what came of the parts, where something came of each
  abbrev all : List Ending
  all = endings_in (buffer_of k) (fills k) os

  waits : list_any is_waiting os ≡ true → every (came os k) ≡ None
  waits h = every_waiting (buffer_of k) (fills k) os as_many h

  over : list_any is_waiting os ≡ false → every (came os k) ≡ Some all
  over h = every_over (buffer_of k) (fills k) os as_many h

  failure_is : first_of (first_given_up all) (first_refusal all) ≡ failure_among os
  failure_is = ap (λ a. first_of a (first_refusal all)) (given_up_is (buffer_of k) (fills k) os as_many) ∙ ap (first_of (given_up_among os)) (refusal_is (buffer_of k) (fills k) os as_many)

  fails : (a : Answer) → failure_among os ≡ Some a → EndsBy k (emptied k) all a
  fails a is =
      let first = failure_is ∙ is in
      record { answer_is = sym (failed all a first (answer.Done (done_value (emptied k) all))).0; call_is = handed_back_failed k all a first }

  finishes_plain : AllDone os → emptied k ≡ k → handed_back k all ≡ k → done_value k all ≡ only_value all → EndsBy k k all (answer.Done (only_value_of os))
  finishes_plain d plain same is =
      done_plain all (given_up_is (buffer_of k) (fills k) os as_many ∙ d.kept) (refusal_is (buffer_of k) (fills k) os as_many ∙ d.granted) k os plain same (is ∙ only_value_is (buffer_of k) (fills k) os as_many)

-- the call ends by outcomes of which none failed
finishes : (os : List PartOutcome) (k : Call) (g : Gathers os k) → AllDone os → EndsBy k (with_rest_cleared os k) (all os k g) (answer.Done (value_of os k))
finishes os (call.Read addr buf) g d =
    let k : Call = call.Read addr buf in
    let ps : List (ℕ × ℕ) = pieces addr.0 (length buf) in
    let j = ap (λ w. joined (endings_in buf (fills k) w)) (all_got ps os g.fit d) ∙ joined_all ps buf ∙ ap (λ n. take n buf) (total_pieces addr.0 (length buf)) ∙ take_all (length buf) buf (omega arith) in
    done_read (all os k g) (given_up_is buf (fills k) os (as_many os k g) ∙ d.kept) (refusal_is buf (fills k) os (as_many os k g) ∙ d.granted) addr buf j
finishes os (call.Offload number op sent buf) g d =
    let k : Call = call.Offload number op sent buf in
    let alone = got_alone number op sent buf os g.fit d in
    let len : ℕ = alone.0 in
    let j = ap (λ w. joined (endings_in buf (length buf ∷ []) w)) alone.1 ∙ append-nil (take len (take (length buf) buf)) ∙ take-take len (length buf) buf alone.2 in
    subst (λ n. EndsBy k (call.Offload number op sent (take n buf ++ zeros (length buf - n))) (all os k g) (answer.Done (value.Len n))) (sym (ap got_of alone.1))
    (done_offload (all os k g) (given_up_is buf (fills k) os (as_many os k g) ∙ d.kept) (refusal_is buf (fills k) os (as_many os k g) ∙ d.granted) number op len sent buf alone.2 j)
finishes os (call.Alloc pages perm) g d = finishes_plain os _ g d refl refl refl
finishes os (call.Free addr pages) g d = finishes_plain os _ g d refl refl refl
finishes os (call.Write addr sent) g d = finishes_plain os _ g d refl refl refl
finishes os (call.Atomic addr op) g d = finishes_plain os _ g d refl refl refl
finishes os call.Fence g d = finishes_plain os _ g d refl refl refl

none_of : (a b : Option Answer) → first_of a b ≡ None → (a ≡ None) × (b ≡ None)
none_of None b h = (refl, h)
none_of (Some x) b h = absurd cc

-- ---- what `answer` ensures
-- of a call to which this has come, the answer and the call as it is handed back
pub record Answered (os : List PartOutcome) (k k' : Call) (result : Option Answer) : Type 0 where
  pub answer_is : result ≡ option_map (combine (emptied k)) (every (came os k))
  pub call_is : IfSome (every (came os k)) (λ endings. k' ≡ handed_back (emptied k) endings)

ended : {os : List PartOutcome} {k k' : Call} {es : List Ending} {a : Answer} → every (came os k) ≡ Some es → EndsBy k k' es a → Answered os k k' (Some a)
ended {os} {k} {k'} e by = record {
  answer_is = ap Some by.answer_is ∙ ap (option_map (combine (emptied k))) (sym e);
  call_is = subst (λ o. IfSome o (λ endings. k' ≡ handed_back (emptied k) endings)) (sym e) by.call_is;
}

answered_waiting : (os : List PartOutcome) (k : Call) → Gathers os k → list_any is_waiting os ≡ true → Answered os k k None
answered_waiting os k g h =
    let none = waits os k g h in
    record {
      answer_is = ap (option_map (combine (emptied k))) (sym none);
      call_is = subst (λ o. IfSome o (λ endings. k ≡ handed_back (emptied k) endings)) (sym none) tt;
    }

answered_failed : (os : List PartOutcome) (k : Call) → Gathers os k → list_any is_waiting os ≡ false → (a : Answer) → failure_among os ≡ Some a → Answered os k (emptied k) (Some a)
answered_failed os k g h a is = ended (over os k g h) (fails os k g a is)

answered_done : (os : List PartOutcome) (k : Call) → Gathers os k → list_any is_waiting os ≡ false → failure_among os ≡ None → Answered os k (with_rest_cleared os k) (Some (answer.Done (value_of os k)))
answered_done os k g h is =
    let none = none_of (given_up_among os) (refusal_among os) is in
    ended (over os k g h) (finishes os k g (record { over = h; kept = none.0; granted = none.1 }))

-- the outcomes w are those of the gatherer, as far as they count
module _ (w : List PartOutcome) {os : List PartOutcome} {k : Call} (e : w ≡ os) (g : Gathers os k) {waiting : Bool} (looked : waiting ≡ list_any is_waiting w) where
  gathered : Gathers w k
  gathered = subst (λ os. Gathers os k) (sym e) g

  pub answer_waiting : waiting ≡ true → Answered os k k None
  answer_waiting h = subst (λ os. Answered os k k None) e (answered_waiting w k gathered (sym looked ∙ h))

  pub answer_failed : {failure : Option Answer} {a : Answer} {k' : Call} → waiting ≡ false → failure ≡ failure_among w → failure ≡ Some a → k' ≡ emptied k → Answered os k k' (Some a)
  answer_failed {failure} {a} {k'} h found is call_is =
      subst (λ os. Answered os k k' (Some a)) e (subst (λ c. Answered w k c (Some a)) (sym call_is) (answered_failed w k gathered (sym looked ∙ h) a (sym found ∙ is)))

  pub answer_done : {failure : Option Answer} {v : Value} {k' : Call} → waiting ≡ false → failure ≡ failure_among w → failure ≡ None → v ≡ value_of w k → k' ≡ with_rest_cleared w k → Answered os k k' (Some (answer.Done v))
  answer_done {failure} {v} {k'} h found is value_is call_is =
      subst (λ os. Answered os k k' (Some (answer.Done v))) e (
      subst (λ c. Answered w k c (Some (answer.Done v))) (sym call_is) (
      subst (λ x. Answered w k (with_rest_cleared w k) (Some (answer.Done x))) (sym value_is) (answered_done w k gathered (sym looked ∙ h) (sym found ∙ is))))
