-- Calls that ended, handed out one after another.
use Rattle.std.proofs.Common.{◌≡◌, ℕ, ◌<◌, List, [], ◌∷◌, ◌++◌, Option, Some, None, refl, sym, ap, ◌∙◌, subst, length, drop, map, arith, append_assoc, append-nil}
use Rattle.std.specs.Prelude.{option_map, slice_get}
use Rattle.cl_outside.specs.Loops.{WroteFront}
use Rattle.cl_outside.specs.Told.{Added}
use Rattle.cl_types.specs.declared.call.Call.{Call}
use Rattle.cl_types.specs.declared.numbers.CallNo.{CallNo}
use Rattle.cl_types.specs.declared.reply.Answer.{Answer}
use Rattle.client_core.specs.Answers.{done_answer}
use Rattle.client_model.specs.Client.{ClientState, Finished, after_done, told}
use Rattle.wire_loop.specs.Driving.{Printed, Answered, line_of}
use Rattle.wire_loop.specs.Printing.{printed_text}
use Rattle.wire_loop.specs.Drives.{text_of}
use Rattle.wire_loop.specs.Driven.{Handed, answered_by, answered_text}
use Rattle.wire_loop.proofs.IssueLemmas.{added_texts, front_before, front_of_texts}

abbrev given : CallNo × Answer × Call → Option (CallNo × Answer × Call) → CallNo × Answer × Call
given d None = d
given d (Some x) = x

-- the first that ended, and the others
pub record IsFirst (s : ClientState) (lines : List ℕ) (number : CallNo) (answer : Answer) (call : Call) : Type 0 where
  pub printed : Printed
  pub text : printed_text printed ≡ answered_text (line_of lines number.0) answer call
  pub rest : answered_by s lines ≡ printed ∷ answered_by (after_done s) lines
  pub fewer : length (after_done s).ended < length s.ended

pub first_ended : (s : ClientState) (lines : List ℕ) (number : CallNo) (answer : Answer) (call : Call)
    → Some (number, answer, call) ≡ option_map done_answer (slice_get s.ended 0) → IsFirst s lines number answer call
first_ended s lines number answer call is = go s.ended refl is where
  go : (ended : List Finished) → s.ended ≡ ended → Some (number, answer, call) ≡ option_map done_answer (slice_get ended 0) → IsFirst s lines number answer call
  go [] same is = absurd cc
  go (f ∷ fs) same is =
      let no_is : number.0 ≡ f.number = ap (λ (o : Option (CallNo × Answer × Call)). (given (number, answer, call) o).0.0) is in
      let answer_is : answer ≡ f.answer = ap (λ (o : Option (CallNo × Answer × Call)). (given (number, answer, call) o).1) is in
      let call_is : call ≡ f.call = ap (λ (o : Option (CallNo × Answer × Call)). (given (number, answer, call) o).2) is in
      let printed : Finished → Printed = λ x. Answered (line_of lines x.number) (told s.client x) in record {
        printed = printed f;
        text = λ j. answered_text (line_of lines (sym no_is j)) (sym answer_is j) (sym call_is j);
        rest = ap (λ (xs : List Finished). map printed xs) same ∙ (λ j. printed f ∷ map printed (drop 1 (sym same j)));
        fewer = subst (λ (xs : List Finished). length (drop 1 xs) < length xs) (sym same) (omega arith);
      }

module _ (old now : ClientState) (lines : List ℕ) (w w' w'' : Option (List ℕ)) (h : Handed old now lines w w') where
  -- one more was handed out
  pub handed_one : (number : CallNo) (answer : Answer) (call : Call) (new : ClientState) (line : ℕ) → IsFirst now lines number answer call → new ≡ after_done now → line ≡ line_of lines number.0
      → Added (answered_text line answer call) w' w'' → Handed old new lines w w''
  handed_one number answer call new line first state at text =
      let same : answered_text line answer call ≡ text_of (first.printed ∷ []) = (λ j. answered_text (at j) answer call) ∙ sym first.text ∙ sym (append-nil (printed_text first.printed)) in record {
        printed = h.printed ++ first.printed ∷ [];
        text = added_texts h.printed (first.printed ∷ []) w w' w'' h.text (subst (λ t. Added t w' w'') same text);
        rest = h.rest ∙ ap (λ (xs : List Printed). h.printed ++ xs) (first.rest ∙ ap (λ (s : ClientState). first.printed ∷ answered_by s lines) (sym state))
            ∙ sym (append_assoc h.printed (first.printed ∷ []) (answered_by new lines));
      }

  -- a front of the next line was written
  pub handed_front : (number : CallNo) (answer : Answer) (call : Call) (line : ℕ) → IsFirst now lines number answer call → line ≡ line_of lines number.0
      → WroteFront (answered_text line answer call) w' w'' → WroteFront (text_of (answered_by old lines)) w w''
  handed_front number answer call line first at front =
      let same : answered_text line answer call ≡ printed_text first.printed = (λ j. answered_text (at j) answer call) ∙ sym first.text in
      let others : List Printed = answered_by (after_done now) lines in
      subst (λ (xs : List Printed). WroteFront (text_of xs) w w'') (sym (h.rest ∙ ap (λ (xs : List Printed). h.printed ++ xs) first.rest))
      (front_of_texts h.printed (first.printed ∷ others) w w' w'' h.text (front_before (printed_text first.printed) (text_of others) w' w'' (subst (λ t. WroteFront t w' w'') same front)))
