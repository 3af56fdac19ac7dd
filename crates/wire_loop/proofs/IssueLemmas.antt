-- Calls of a script, one after another.
use Rattle.std.proofs.Common.{◌≡◌, ℕ, zero, suc, ◌+◌, ◌≤◌, List, [], ◌∷◌, ◌++◌, Bool, true, false, Option, Some, None, refl, sym, ap, ◌∙◌, subst, length, take, drop, arith, length-append, append-nil, append_assoc, add-one}
use Rattle.std.specs.Prelude.{◌&&◌, nat_lt, slice_get, Result, Ok, Err, OnErr}
use Rattle.std.proofs.lemmas.List.{take-append-le}
use Rattle.std.proofs.lemmas.Bool.Decides.{nat_tests}
use Rattle.cl_outside.specs.Loops.{WroteFront}
use Rattle.cl_outside.specs.Told.{Added}
use Rattle.cl_types.specs.declared.frame.IssueFault.{IssueFault}
use Rattle.cl_types.specs.declared.limits.TheConstants.{HELD_CALLS}
use Rattle.cl_types.specs.declared.schedule.CallText.{CallText}
use Rattle.cl_outside.specs.declared.wire.Peer.{Peer}
use Rattle.client_core.specs.Answers.{issue_state}
use Rattle.client_model.specs.Client.{ClientState, held}
use Rattle.cl_types.specs.Written.{call_of}
use Rattle.wire_loop.specs.Driving.{Driving, Printed, issued_or_not, issues}
use Rattle.client_model.specs.Issue.{issue_fault}
use Rattle.wire_loop.specs.Outside.{ClockAnswers, Received}
use Rattle.wire_loop.specs.Printing.{printed_text}
use Rattle.wire_loop.specs.Drives.{text_of}
use Rattle.wire_loop.specs.Driven.{BrokeIssuing, Issued, Tried, driving, lines_by, printed_by}
use Rattle.wire_loop.proofs.RanLemmas.{added_both, added_none}

-- ---- texts
pub text_both : (xs ys : List Printed) → text_of (xs ++ ys) ≡ text_of xs ++ text_of ys
text_both [] ys = refl
text_both (x ∷ xs) ys = ap (λ rest. printed_text x ++ rest) (text_both xs ys) ∙ sym (append_assoc (printed_text x) (text_of xs) (text_of ys))

pub added_texts : (xs ys : List Printed) (a b c : Option (List ℕ)) → Added (text_of xs) a b → Added (text_of ys) b c → Added (text_of (xs ++ ys)) a c
added_texts xs ys a b c first second = subst (λ t. Added t a c) (sym (text_both xs ys)) (added_both (text_of xs) (text_of ys) a b c first second)

zero_first : (n : ℕ) → zero + n ≡ n
zero_first n = omega arith

suc_first : (m n : ℕ) → suc m + n ≡ suc (m + n)
suc_first m n = omega arith

take_behind : (xs ys : List ℕ) (n : ℕ) → take (length xs + n) (xs ++ ys) ≡ xs ++ take n ys
take_behind [] ys n = rw (zero_first n) refl
take_behind (x ∷ xs) ys n = rw (suc_first (length xs) n) (ap (λ rest. x ∷ rest) (take_behind xs ys n))

-- a whole text, and then a front of another
pub front_behind : (xs ys : List ℕ) (a b c : Option (List ℕ)) → Added xs a b → WroteFront ys b c → WroteFront (xs ++ ys) a c
front_behind xs ys a b c first front = (
  length xs + front.0,
  subst (λ m. length xs + front.0 ≤ m) (sym (length-append xs ys)) (omega (arith, front.1)),
  subst (λ t. Added t a c) (sym (take_behind xs ys front.0)) (added_both xs (take front.0 ys) a b c first front.2),
)

-- a front of a text is a front of more
pub front_before : (xs ys : List ℕ) (a b : Option (List ℕ)) → WroteFront xs a b → WroteFront (xs ++ ys) a b
front_before xs ys a b front = (
  front.0,
  subst (λ m. front.0 ≤ m) (sym (length-append xs ys)) (omega (arith, front.1)),
  subst (λ t. Added t a b) (sym (take-append-le front.0 xs ys front.1)) front.2,
)

-- nothing was written yet
pub none_written : (bytes : List ℕ) (w : Option (List ℕ)) → WroteFront bytes w w
none_written bytes w = (0, omega arith, added_none w)

pub front_of_texts : (xs ys : List Printed) (a b c : Option (List ℕ)) → Added (text_of xs) a b → WroteFront (text_of ys) b c → WroteFront (text_of (xs ++ ys)) a c
front_of_texts xs ys a b c first front = subst (λ t. WroteFront t a c) (sym (text_both xs ys)) (front_behind (text_of xs) (text_of ys) a b c first front)

-- ---- one call
module _ (clock : ClockAnswers) (receives : List (Received Peer)) (sendings : List Bool) (sent : List (List ℕ)) (others : List Printed) (fruitless : ℕ) where
  abbrev at : ClientState → List (ℕ × CallText) → List ℕ → List Printed → Driving Peer
  at s rest lines said = driving s rest lines clock receives sendings sent said fruitless false

  goes_on : (b : Bool) → b ≡ true → (d e : Driving Peer) → (elim b [ false ↦ d | true ↦ e ]) ≡ e
  goes_on true is d e = refl
  goes_on false is d e = absurd cc

  stays : (b : Bool) → b ≡ false → (d e : Driving Peer) → (elim b [ false ↦ d | true ↦ e ]) ≡ d
  stays false is d e = refl
  stays true is d e = absurd cc

  tried_one : (s : ClientState) (k : ℕ × CallText) (rest cs : List (ℕ × CallText)) (lines : List ℕ) (o : Option IssueFault)
      → issued_or_not k rest o (at s cs lines others) ≡ at (issue_state s (call_of k.1) o) rest (lines_by k.0 o lines) (others ++ printed_by k.0 o)
  tried_one s k rest cs lines None = λ j. at (issue_state s (call_of k.1) None) rest (lines ++ k.0 ∷ []) (sym (append-nil others) j)
  tried_one s k rest cs lines (Some fault) = refl

  pub issues_one : (s new : ClientState) (k : ℕ × CallText) (rest cs : List (ℕ × CallText)) (lines lines' : List ℕ)
      → cs ≡ k ∷ rest → nat_lt (held s) HELD_CALLS ≡ true
      → new ≡ issue_state s (call_of k.1) (issue_fault s (call_of k.1)) → lines' ≡ lines_by k.0 (issue_fault s (call_of k.1)) lines
      → issues cs (at s cs lines others) ≡ issues rest (at new rest lines' (others ++ printed_by k.0 (issue_fault s (call_of k.1))))
  issues_one s new k rest cs lines lines' is room state told =
      ap (λ (ks : List (ℕ × CallText)). issues ks (at s ks lines others)) is
      ∙ goes_on (nat_lt (held s) HELD_CALLS) room (at s (k ∷ rest) lines others) (issues rest (issued_or_not k rest (issue_fault s (call_of k.1)) (at s (k ∷ rest) lines others)))
      ∙ ap (λ (d : Driving Peer). issues rest d) (tried_one s k rest (k ∷ rest) lines (issue_fault s (call_of k.1)))
      ∙ (λ j. issues rest (at (sym state j) rest (sym told j) (others ++ printed_by k.0 (issue_fault s (call_of k.1)))))

  pub issues_end : (s : ClientState) (cs : List (ℕ × CallText)) (lines : List ℕ) (left room : Bool) → (left ≡ false → cs ≡ []) → room ≡ nat_lt (held s) HELD_CALLS
      → (left && room) ≡ false → issues cs (at s cs lines others) ≡ at s cs lines others
  issues_end s cs lines false room none is over = ap (λ (ks : List (ℕ × CallText)). issues ks (at s cs lines others)) (none refl)
  issues_end s [] lines true room none is over = refl
  issues_end s (k ∷ rest) lines true room none is over =
      stays (nat_lt (held s) HELD_CALLS) (sym is ∙ over) (at s (k ∷ rest) lines others) (issues rest (issued_or_not k rest (issue_fault s (call_of k.1)) (at s (k ∷ rest) lines others)))

-- ---- many
drop_read : (calls : List (ℕ × CallText)) (n : ℕ) (k : ℕ × CallText) → slice_get calls n ≡ Some k → drop n calls ≡ k ∷ drop (n + 1) calls
drop_read calls n k is = rw add-one (go calls n is) where
  go : (cs : List (ℕ × CallText)) (m : ℕ) → slice_get cs m ≡ Some k → drop m cs ≡ k ∷ drop (suc m) cs
  go [] m is = absurd cc
  go (c ∷ cs) zero is = let same : c ≡ k = cc in ap (λ x. x ∷ cs) same
  go (c ∷ cs) (suc m) is = go cs m is

drop_all : (calls : List (ℕ × CallText)) (n : ℕ) → nat_lt n (length calls) ≡ false → drop n calls ≡ []
drop_all [] zero past = refl
drop_all [] (suc n) past = refl
drop_all (c ∷ calls) zero past = absurd (grind (arith, nat_tests))
drop_all (c ∷ calls) (suc n) past = drop_all calls n (grind (arith, nat_tests))

pub tried_none : (calls : List (ℕ × CallText)) (s : ClientState) (n : ℕ) (lines : List ℕ) (w : Option (List ℕ)) → Tried calls s s n n lines lines w w
tried_none calls s n lines w = record {
  printed = [];
  text = added_none w;
  holds = λ clock receives sendings sent others fruitless j. issues (drop n calls) (driving s (drop n calls) lines clock receives sendings sent (sym (append-nil others) j) fruitless false);
}

module _ (calls : List (ℕ × CallText)) (old now : ClientState) (from at_now : ℕ) (lines l : List ℕ) (w w' : Option (List ℕ)) (so_far : Tried calls old now from at_now lines l w w') where
  pub tried_more : (new : ClientState) (k : ℕ × CallText) (l' : List ℕ) (w'' : Option (List ℕ)) → slice_get calls at_now ≡ Some k → nat_lt (held now) HELD_CALLS ≡ true
      → new ≡ issue_state now (call_of k.1) (issue_fault now (call_of k.1)) → l' ≡ lines_by k.0 (issue_fault now (call_of k.1)) l
      → Added (text_of (printed_by k.0 (issue_fault now (call_of k.1)))) w' w'' → Tried calls old new from (at_now + 1) lines l' w w''
  tried_more new k l' w'' there room state told text =
      let said : List Printed = printed_by k.0 (issue_fault now (call_of k.1)) in record {
        printed = so_far.printed ++ said;
        text = added_texts so_far.printed said w w' w'' so_far.text text;
        holds = λ clock receives sendings sent others fruitless.
            so_far.holds clock receives sendings sent others fruitless
            ∙ issues_one clock receives sendings sent (others ++ so_far.printed) fruitless now new k (drop (at_now + 1) calls) (drop at_now calls) l l' (drop_read calls at_now k there) room state told
            ∙ (λ j. issues (drop (at_now + 1) calls) (driving new (drop (at_now + 1) calls) l' clock receives sendings sent (append_assoc others so_far.printed said j) fruitless false));
      }

  pub tried_all : (nat_lt at_now (length calls) && nat_lt (held now) HELD_CALLS) ≡ false → Issued calls old now from at_now lines l w w'
  tried_all over = record {
    printed = so_far.printed;
    text = so_far.text;
    holds = λ clock receives sendings sent others fruitless.
        so_far.holds clock receives sendings sent others fruitless
        ∙ issues_end clock receives sendings sent (others ++ so_far.printed) fruitless now (drop at_now calls) l (nat_lt at_now (length calls)) (nat_lt (held now) HELD_CALLS) (drop_all calls at_now) refl over;
  }

-- ---- a client that issues
pub issued_one : (s : ClientState) (k : ℕ × CallText) (o : Option IssueFault) (new : ClientState) → new ≡ issue_state s (call_of k.1) o → new.issued ≤ s.issued + 1
issued_one s k None new is = subst (λ (x : ClientState). x.issued ≤ s.issued + 1) (sym is) (omega arith)
issued_one s k (Some fault) new is = subst (λ (x : ClientState). x.issued ≤ s.issued + 1) (sym is) (omega arith)

pub issued_ended : (s : ClientState) (k : ℕ × CallText) (o : Option IssueFault) (new : ClientState) → new ≡ issue_state s (call_of k.1) o → new.ended ≡ s.ended
issued_ended s k None new is = ap (λ (x : ClientState). x.ended) is
issued_ended s k (Some fault) new is = ap (λ (x : ClientState). x.ended) is

-- ---- what the definition prints grows
pub issues_grow : (rest : List (ℕ × CallText)) (d : Driving Peer) → (more : List Printed) × ((issues rest d).printed ≡ d.printed ++ more)
issues_grow [] d = ([], sym (append-nil d.printed))
issues_grow (k ∷ rest) d = by_room (issues_grow rest) (nat_lt (held d.client) HELD_CALLS) (issue_fault d.client (call_of k.1)) where
  by_room : ((e : Driving Peer) → (more : List Printed) × ((issues rest e).printed ≡ e.printed ++ more)) → (b : Bool) (o : Option IssueFault)
      → (more : List Printed) × ((elim b as (λ x. Driving Peer) [ false ↦ d | true ↦ issues rest (issued_or_not k rest o d) ]).printed ≡ d.printed ++ more)
  by_room grow false o = ([], sym (append-nil d.printed))
  by_room grow true None = grow (issued_or_not k rest None d)
  by_room grow true (Some fault) =
      let m = grow (issued_or_not k rest (Some fault) d) in
      (printed_by k.0 (Some fault) ++ m.0, m.1 ∙ append_assoc d.printed (printed_by k.0 (Some fault)) m.0)

pub broke_at : (calls : List (ℕ × CallText)) (old now : ClientState) (from at_now : ℕ) (lines l : List ℕ) (w w' w'' : Option (List ℕ)) → Tried calls old now from at_now lines l w w'
    → (k : ℕ × CallText) → slice_get calls at_now ≡ Some k → nat_lt (held now) HELD_CALLS ≡ true
    → WroteFront (text_of (printed_by k.0 (issue_fault now (call_of k.1)))) w' w'' → BrokeIssuing calls old from lines w w''
broke_at calls old now from at_now lines l w w' w'' so_far k there room front =
    let o : Option IssueFault = issue_fault now (call_of k.1) in
    let said : List Printed = printed_by k.0 o in record {
      printed = so_far.printed ++ said;
      front = front_of_texts so_far.printed said w w' w'' so_far.text front;
      holds = λ clock receives sendings sent others fruitless.
          let rest : List (ℕ × CallText) = drop (at_now + 1) calls in
          let after : Driving Peer = driving (issue_state now (call_of k.1) o) rest (lines_by k.0 o l) clock receives sendings sent ((others ++ so_far.printed) ++ said) fruitless false in
          let m = issues_grow rest after in
          let same = so_far.holds clock receives sendings sent others fruitless
          ∙ issues_one clock receives sendings sent (others ++ so_far.printed) fruitless now (issue_state now (call_of k.1) o) k rest (drop at_now calls) l (lines_by k.0 o l) (drop_read calls at_now k there) room refl refl in (
            m.0,
            ap (λ (d : Driving Peer). d.printed) same ∙ m.1 ∙ append_assoc (others ++ so_far.printed) said m.0 ∙ append_assoc others so_far.printed (said ++ m.0)
                ∙ ap (λ (t : List Printed). others ++ t) (sym (append_assoc so_far.printed said m.0)),
          );
    }

pub on_err_always : {A E Q : Type 0} (r : Result A E) → Q → OnErr r Q
on_err_always (Ok x) q = tt
on_err_always (Err e) q = q
