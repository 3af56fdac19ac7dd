-- What is counted from line to line is what is counted of the whole account.
use Rattle.std.proofs.Common.{◌≡◌, ℕ, ◌+◌, ◌-◌, ◌<◌, ◌≤◌, ◌^◌, Bool, true, false, cond, List, [], ◌∷◌, ◌++◌, Option, Some, None, refl, sym, ap, ◌∙◌, subst, length, arith, add-zero, append-nil}
use Rattle.std.specs.Prelude.{count_by, filter_map, flat_map, option_map}
use Rattle.std.proofs.lemmas.Grind.{flat_map-append}
use Rattle.std.proofs.lemmas.List.Elements.{filter_map-append}
use Rattle.std.proofs.lemmas.List.Sums.{sum_by-cons, sum_by_push}
use Rattle.cl_types.specs.declared.line.Did.{Did}
use Rattle.cl_types.specs.declared.line.Did.TheVariants as did
use Rattle.cl_types.specs.declared.line.EndedCall.{EndedCall}
use Rattle.cl_types.specs.declared.line.Summary.{Summary}
use Rattle.cl_types.specs.declared.reply.Answer.{Answer}
use Rattle.cl_types.specs.declared.reply.Answer.TheVariants as answer
use Rattle.cl_types.specs.declared.schedule.Event.{Event}
use Rattle.trace.specs.Account.{Account, Effect, Line, extended}
use Rattle.trace.specs.Clients.{says_issued}
use Rattle.trace.specs.Summaries.{answers, is_done, is_refused, is_timed_out, issued_count, summary_of}
use Rattle.world.specs.Summed.{HasRoom, IsWithinLine, ended_count, summed, with_answer, with_did, with_ended, with_unended}

-- ---- one line more
-- each answer is of one kind
kind : (x : Answer) → cond (is_done x) 1 0 + cond (is_refused x) 1 0 + cond (is_timed_out x) 1 0 ≡ 1
kind (answer.Done value) = refl
kind (answer.Refused refusal) = refl
kind (answer.TimedOut first now) = refl

kinds : (xs : List Answer) → count_by is_done xs + count_by is_refused xs + count_by is_timed_out xs ≡ length xs
kinds [] = refl
kinds (x ∷ xs) =
    let done : count_by is_done (x ∷ xs) ≡ cond (is_done x) 1 0 + count_by is_done xs = sum_by-cons (λ (y : Answer). cond (is_done y) 1 0) x xs in
    let refused : count_by is_refused (x ∷ xs) ≡ cond (is_refused x) 1 0 + count_by is_refused xs = sum_by-cons (λ (y : Answer). cond (is_refused y) 1 0) x xs in
    let timed_out : count_by is_timed_out (x ∷ xs) ≡ cond (is_timed_out x) 1 0 + count_by is_timed_out xs = sum_by-cons (λ (y : Answer). cond (is_timed_out y) 1 0) x xs in
    omega (arith, kinds xs, done, refused, timed_out, kind x)

-- the answer of the call that ended, where one did
told_answers : Option EndedCall → List Answer
told_answers None = []
told_answers (Some ended) = ended.answer ∷ []

module _ (a : Account) (l : ℕ) (event : Event) (e : Effect) where
  issued_next : (text : Did) → e.texts ≡ text ∷ [] → issued_count (extended a l event e) ≡ issued_count a + cond (says_issued text) 1 0
  issued_next text is =
      ap (count_by says_issued) (flat_map-append (λ (line : Line). line.texts) a.lines _ ∙ ap (λ (texts : List Did). flat_map (λ (line : Line). line.texts) a.lines ++ (texts ++ [])) is)
      ∙ sum_by_push (λ (d : Did). cond (says_issued d) 1 0) (flat_map (λ (line : Line). line.texts) a.lines) text

  answers_next : (o : Option EndedCall) → e.ended ≡ o → answers (extended a l event e) ≡ answers a ++ told_answers o
  unfolding told_answers
  answers_next o is =
      filter_map-append (λ (line : Line). option_map (λ (ended : EndedCall). ended.answer) line.ended) a.lines _
      ∙ ap (λ (xs : List Answer). answers a ++ xs) (ap (λ (o : Option EndedCall). filter_map (λ (line : Line). option_map (λ (ended : EndedCall). ended.answer) line.ended) (record { number = l; moment = 0; event = event; texts = e.texts; ended = o } ∷ [])) is ∙ only o)
    where
      only : (o : Option EndedCall) → filter_map (λ (line : Line). option_map (λ (ended : EndedCall). ended.answer) line.ended) (record { number = l; moment = 0; event = event; texts = e.texts; ended = o } ∷ []) ≡ told_answers o
      only None = refl
      only (Some ended) = refl

-- ---- summaries
summary_is : (s t : Summary) → s.issued ≡ t.issued → s.done ≡ t.done → s.refused ≡ t.refused → s.timed_out ≡ t.timed_out → s.unended ≡ t.unended → s.entries ≡ t.entries → s ≡ t
summary_is s t issued done refused timed_out unended entries =
    λ i. record { issued = issued i; done = done i; refused = refused i; timed_out = timed_out i; unended = unended i; entries = entries i }

with_did_is : (text : Did) (s : Summary) → with_did text s ≡ record s { issued = s.issued + cond (says_issued text) 1 0 }
with_did_is (did.Issued client number) s = refl
with_did_is other s = ap (λ n. record s { issued = n }) (sym (add-zero s.issued))

-- the counts with one call more, where it was issued
with_call : Bool → Summary → Summary
with_call b s = record s { issued = s.issued + cond b 1 0 }

module _ (a b : Account) (text : Did) (issued : issued_count b ≡ issued_count a + cond (says_issued text) 1 0) where
  counted : (p : Answer → Bool) (x : Answer) → answers b ≡ answers a ++ x ∷ [] → count_by p (answers b) ≡ count_by p (answers a) + cond (p x) 1 0
  counted p x more = ap (count_by p) more ∙ sum_by_push (λ (y : Answer). cond (p y) 1 0) (answers a) x

  -- no call ended
  no_answer : answers b ≡ answers a → summary_of b ≡ with_unended (length b.history) (with_did text (summary_of a))
  unfolding with_call
  no_answer same =
      let c : Summary = with_call (says_issued text) (summary_of a) in
      let long : length (answers b) ≡ length (answers a) = ap length same in
      let unended : issued_count b - length (answers b) ≡ c.issued - (c.done + c.refused + c.timed_out) = omega (arith, issued, long, kinds (answers a)) in
      summary_is (summary_of b) (with_unended (length b.history) c) issued (ap (count_by is_done) same) (ap (count_by is_refused) same) (ap (count_by is_timed_out) same) unended refl
      ∙ ap (with_unended (length b.history)) (sym (with_did_is text (summary_of a)))

  -- a call ended with this answer
  an_answer : (x : Answer) → answers b ≡ answers a ++ x ∷ [] → summary_of b ≡ with_unended (length b.history) (with_answer x (with_did text (summary_of a)))
  unfolding with_call
  an_answer (answer.Done value) more =
      let x : Answer = answer.Done value in
      let c : Summary = with_answer x (with_call (says_issued text) (summary_of a)) in
      let done : count_by is_done (answers b) ≡ c.done = counted is_done x more in
      let refused : count_by is_refused (answers b) ≡ c.refused = counted is_refused x more ∙ add-zero (count_by is_refused (answers a)) in
      let timed_out : count_by is_timed_out (answers b) ≡ c.timed_out = counted is_timed_out x more ∙ add-zero (count_by is_timed_out (answers a)) in
      let unended : issued_count b - length (answers b) ≡ c.issued - (c.done + c.refused + c.timed_out) = omega (arith, issued, done, refused, timed_out, kinds (answers b)) in
      summary_is (summary_of b) (with_unended (length b.history) c) issued done refused timed_out unended refl
      ∙ ap (λ (s : Summary). with_unended (length b.history) (with_answer x s)) (sym (with_did_is text (summary_of a)))
  an_answer (answer.Refused refusal) more =
      let x : Answer = answer.Refused refusal in
      let c : Summary = with_answer x (with_call (says_issued text) (summary_of a)) in
      let done : count_by is_done (answers b) ≡ c.done = counted is_done x more ∙ add-zero (count_by is_done (answers a)) in
      let refused : count_by is_refused (answers b) ≡ c.refused = counted is_refused x more in
      let timed_out : count_by is_timed_out (answers b) ≡ c.timed_out = counted is_timed_out x more ∙ add-zero (count_by is_timed_out (answers a)) in
      let unended : issued_count b - length (answers b) ≡ c.issued - (c.done + c.refused + c.timed_out) = omega (arith, issued, done, refused, timed_out, kinds (answers b)) in
      summary_is (summary_of b) (with_unended (length b.history) c) issued done refused timed_out unended refl
      ∙ ap (λ (s : Summary). with_unended (length b.history) (with_answer x s)) (sym (with_did_is text (summary_of a)))
  an_answer (answer.TimedOut first now) more =
      let x : Answer = answer.TimedOut first now in
      let c : Summary = with_answer x (with_call (says_issued text) (summary_of a)) in
      let done : count_by is_done (answers b) ≡ c.done = counted is_done x more ∙ add-zero (count_by is_done (answers a)) in
      let refused : count_by is_refused (answers b) ≡ c.refused = counted is_refused x more ∙ add-zero (count_by is_refused (answers a)) in
      let timed_out : count_by is_timed_out (answers b) ≡ c.timed_out = counted is_timed_out x more in
      let unended : issued_count b - length (answers b) ≡ c.issued - (c.done + c.refused + c.timed_out) = omega (arith, issued, done, refused, timed_out, kinds (answers b)) in
      summary_is (summary_of b) (with_unended (length b.history) c) issued done refused timed_out unended refl
      ∙ ap (λ (s : Summary). with_unended (length b.history) (with_answer x s)) (sym (with_did_is text (summary_of a)))

  summary_grown : (o : Option EndedCall) → answers b ≡ answers a ++ told_answers o → summary_of b ≡ summed text o (length b.history) (summary_of a)
  unfolding told_answers
  summary_grown None more = no_answer (more ∙ append-nil (answers a))
  summary_grown (Some ended) more = an_answer ended.answer more

-- a line more of an account
pub summary_next : (a : Account) (l : ℕ) (event : Event) (e : Effect) (text : Did) (o : Option EndedCall) → e.texts ≡ text ∷ [] → e.ended ≡ o
    → summary_of (extended a l event e) ≡ summed text o (length (extended a l event e).history) (summary_of a)
summary_next a l event e text o texts ended = summary_grown a (extended a l event e) text (issued_next a l event e text texts) o (answers_next a l event e o ended)

-- ---- as many as lines
did_within : (text : Did) (s : Summary) → (with_did text s).issued ≤ s.issued + 1
did_within text s = subst (λ (t : Summary). t.issued ≤ s.issued + 1) (sym (with_did_is text s)) (go (says_issued text)) where
  go : (b : Bool) → s.issued + cond b 1 0 ≤ s.issued + 1
  go true = omega arith
  go false = omega arith

did_ended : (text : Did) (s : Summary) → ended_count (with_did text s) ≡ ended_count s
did_ended text s = ap ended_count (with_did_is text s)

answer_issued : (x : Answer) (s : Summary) → (with_answer x s).issued ≡ s.issued
answer_issued (answer.Done value) s = refl
answer_issued (answer.Refused refusal) s = refl
answer_issued (answer.TimedOut first now) s = refl

answer_more : (x : Answer) (s : Summary) → ended_count (with_answer x s) ≤ ended_count s + 1
answer_more (answer.Done value) s = omega arith
answer_more (answer.Refused refusal) s = omega arith
answer_more (answer.TimedOut first now) s = omega arith

ended_issued : (o : Option EndedCall) (s : Summary) → (with_ended o s).issued ≡ s.issued
ended_issued None s = refl
ended_issued (Some ended) s = answer_issued ended.answer s

ended_more : (o : Option EndedCall) (s : Summary) → ended_count (with_ended o s) ≤ ended_count s + 1
ended_more None s = omega arith
ended_more (Some ended) s = answer_more ended.answer s

-- the counts of a line more have room for their sum
pub ended_room : (text : Did) (o : Option EndedCall) (s : Summary) → HasRoom s → ended_count (with_ended o (with_did text s)) < 2 ^ 32
ended_room text o s room = omega (arith, room.ended, did_ended text s, ended_more o (with_did text s))

pub did_room : (text : Did) (s : Summary) → HasRoom s → ended_count (with_did text s) < 2 ^ 29
did_room text s room = omega (arith, room.ended, did_ended text s)

pub within_next : (l m : ℕ) (text : Did) (o : Option EndedCall) (n : ℕ) (s : Summary) → l < m → IsWithinLine l s → IsWithinLine m (summed text o n s)
within_next l m text o n s more h = record {
  issued = omega (arith, more, h.issued, did_within text s, ended_issued o (with_did text s));
  ended = omega (arith, more, h.ended, did_ended text s, ended_more o (with_did text s));
}

pub has_room : (l m : ℕ) (s : Summary) → l < m → m < 2 ^ 29 → IsWithinLine l s → HasRoom s
has_room l m s more few h = record {
  issued = omega (arith, more, few, h.issued);
  ended = omega (arith, more, few, h.ended);
}
