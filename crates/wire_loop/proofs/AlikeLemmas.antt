-- The node that keeps the latest replies serves as the one that keeps all, by what they answer.
use Rattle.std.proofs.Common.{◌≡◌, ℕ, ◌+◌, leb, ◌||◌, Bool, true, false, List, [], ◌∷◌, ◌++◌, Option, Some, None, refl, sym, ap, ◌∙◌, subst, arith}
use Rattle.std.specs.Prelude.{if◌then◌else◌}
use Rattle.cl_outside.specs.declared.wire.Peer.{Peer}
use Rattle.cl_types.specs.declared.frame.BadFrame.{BadFrame}
use Rattle.frame_model.specs.Frames.{Item, head_in, kind_of, reply_frame, request_in, request_fault}
use Rattle.node_model.specs.Handling.{latest}
use Rattle.node_model.specs.Nodes.{NodeState, NodeStep, Record, ItemAnswer, Gives, IsBusy, NodeAnswer, Refuses, Says, answer_judged, items_judged, items_read, keep_every, node_after, node_answer, node_given, step_item}
use Rattle.node_laws.specs.Span.{Given, AreInTime, answers_to}
use Rattle.node_laws.proofs.SpanKept.{law_of_span}
use Rattle.wire_loop.specs.Outside.{Received, Datagram, NothingCame, ReceivingFailed, moment_of, goes_through}
use Rattle.wire_loop.specs.ServedAlike.{AreAlike, LawOfServing, given_in, given_over}
use Rattle.wire_loop.specs.Serving.{Serving, answers, at_moment, counted, is_over, said_back, served_over, serving_of, turn, with_reply}

-- the same run with this node
having : NodeState → Serving Peer → Serving Peer
having n s = record s { node = n }

-- the request that the bytes carry
item_in : List ℕ → Item
item_in bytes = record { head = head_in bytes; request = request_in bytes }

-- ---- a datagram, by its answer
-- what comes of an answer, whichever node gave it
by_said : Peer → Item → List ItemAnswer → Serving Peer → Serving Peer
by_said from i [] s = s
by_said from i (said ∷ others) s = said_back from i said s

by_answer : Peer → Item → NodeAnswer → Serving Peer → Serving Peer
by_answer from i (Refuses fault) s = s
by_answer from i (Says said) s = by_said from i said s

module _ (keep : ℕ → List Record → List Record) where
  answers_so : (from : Peer) (t : ℕ) (bytes : List ℕ) (s : Serving Peer) → s.failed ≡ false
      → answers keep from t (items_read bytes) s
      ≡ by_answer from (item_in bytes) (node_answer keep s.node t bytes) (having (node_given keep s.node t bytes) s)
  unfolding having item_in by_said by_answer
  answers_so from t bytes s good = go (request_fault bytes)
    where
      go : (o : Option BadFrame) → answers keep from t (items_judged bytes o) s
          ≡ by_answer from (item_in bytes) (answer_judged keep s.node t bytes o) (having (node_after keep s.node t
          (items_judged bytes o)) s)
      go (Some fault) = refl
      go None =
          let i : Item = record { head = head_in bytes; request = request_in bytes } in
          let step : NodeStep = step_item keep s.node t i in
          ap (λ (b : Bool). if b then s else said_back from i step.said (record s { node = step.node })) good

-- ---- the node stands apart from all else
with_reply_having : (to : Peer) (bytes : List ℕ) (sent : Bool) (n : NodeState) (s : Serving Peer)
    → with_reply to bytes sent (having n s) ≡ having n (with_reply to bytes sent s)
unfolding having
with_reply_having to bytes true n s = refl
with_reply_having to bytes false n s = refl

said_back_having : (from : Peer) (i : Item) (said : ItemAnswer) (n : NodeState) (s : Serving Peer)
    → said_back from i said (having n s) ≡ having n (said_back from i said s)
unfolding having
said_back_having from i (Gives how reply) n s = with_reply_having from _ (goes_through s.sendings) n s
said_back_having from i (IsBusy oldest now) n s = refl

by_answer_having : (from : Peer) (i : Item) (a : NodeAnswer) (n : NodeState) (s : Serving Peer)
    → by_answer from i a (having n s) ≡ having n (by_answer from i a s)
unfolding having by_said by_answer
by_answer_having from i (Refuses fault) n s = refl
by_answer_having from i (Says []) n s = refl
by_answer_having from i (Says (said ∷ others)) n s = said_back_having from i said n s

counted_having : (n : NodeState) (s : Serving Peer) → counted (having n s) ≡ having n (counted s)
unfolding having
counted_having n s = go s.failed
  where
    go : (b : Bool) → (if b then record s { node = n } else record s { node = n; served = s.served + 1; idles = 0 })
        ≡ record (if b then s else record s { served = s.served + 1; idles = 0 }) { node = n }
    go true = refl
    go false = refl

-- the moment stays
with_reply_last : (to : Peer) (bytes : List ℕ) (sent : Bool) (s : Serving Peer) → (with_reply to bytes sent s).last ≡ s.last
with_reply_last to bytes true s = refl
with_reply_last to bytes false s = refl

said_back_last : (from : Peer) (i : Item) (said : ItemAnswer) (s : Serving Peer) → (said_back from i said s).last ≡ s.last
said_back_last from i (Gives how reply) s = with_reply_last from (reply_frame i.head (kind_of i.request) reply)
    (goes_through s.sendings) s
said_back_last from i (IsBusy oldest now) s = refl

by_answer_last : (from : Peer) (i : Item) (a : NodeAnswer) (s : Serving Peer) → (by_answer from i a s).last ≡ s.last
unfolding by_said by_answer
by_answer_last from i (Refuses fault) s = refl
by_answer_last from i (Says []) s = refl
by_answer_last from i (Says (said ∷ others)) s = said_back_last from i said s

counted_last : (s : Serving Peer) → (counted s).last ≡ s.last
counted_last s = go s.failed
  where
    go : (b : Bool) → (if b then s else record s { served = s.served + 1; idles = 0 }).last ≡ s.last
    go true = refl
    go false = refl

-- ---- a turn
-- what a datagram leaves, but for the node
left_by : Peer → List ℕ → NodeAnswer → Serving Peer → Serving Peer
left_by from bytes a s = counted (by_answer from (item_in bytes) a (at_moment (moment_of s.clock s.last) s))

turned_by : (keep : ℕ → List Record → List Record) (from : Peer) (bytes : List ℕ) (s : Serving Peer) → s.failed ≡ false
    → turn keep s (Datagram bytes from)
    ≡ having (node_given keep s.node (moment_of s.clock s.last) bytes)
    (left_by from bytes (node_answer keep s.node (moment_of s.clock s.last) bytes) s)
unfolding left_by
turned_by keep from bytes s good =
    let t : ℕ = moment_of s.clock s.last in
    let a : NodeAnswer = node_answer keep s.node t bytes in
    let n : NodeState = node_given keep s.node t bytes in
    ap counted (answers_so keep from t bytes (at_moment t s) good ∙ by_answer_having from (item_in bytes) a n (at_moment t s))
    ∙ counted_having n (by_answer from (item_in bytes) a (at_moment t s))

left_last : (from : Peer) (bytes : List ℕ) (a : NodeAnswer) (s : Serving Peer)
    → (left_by from bytes a s).last ≡ moment_of s.clock s.last
unfolding left_by
left_last from bytes a s =
    counted_last _ ∙ by_answer_last from (item_in bytes) a (at_moment (moment_of s.clock s.last) s)

turned_last : (from : Peer) (bytes : List ℕ) (s : Serving Peer) → s.failed ≡ false
    → (turn latest s (Datagram bytes from)).last ≡ moment_of s.clock s.last
unfolding having
turned_last from bytes s good =
    let a : NodeAnswer = node_answer latest s.node (moment_of s.clock s.last) bytes in
    ap (λ (z : Serving Peer). z.last) (turned_by latest from bytes s good) ∙ left_last from bytes a s

left_having : (from : Peer) (bytes : List ℕ) (a : NodeAnswer) (n : NodeState) (s : Serving Peer)
    → left_by from bytes a (having n s) ≡ having n (left_by from bytes a s)
unfolding having left_by
left_having from bytes a n s =
    let t : ℕ = moment_of s.clock s.last in
    ap counted (by_answer_having from (item_in bytes) a n (at_moment t s))
    ∙ counted_having n (by_answer from (item_in bytes) a (at_moment t s))

same_first : {A : Type 0} → (x y : A) (xs ys : List A) → x ∷ xs ≡ y ∷ ys → x ≡ y
same_first x y xs ys same = cc

same_others : {A : Type 0} → (x y : A) (xs ys : List A) → x ∷ xs ≡ y ∷ ys → xs ≡ ys
same_others x y xs ys same = cc

not_failed : (frames idles : ℕ) (s : Serving Peer) → is_over frames idles s ≡ false → s.failed ≡ false
not_failed frames idles s going = go s.failed going
  where
    go : (b : Bool) → (b || leb frames s.served || leb idles s.idles) ≡ false → b ≡ false
    go true is = absurd cc
    go false is = refl

-- ---- the turns
-- two runs are alike where serving is over, and where it goes on if the nodes answer what they are given alike
alike_either : (over : Bool) (given : List Given) (k n : NodeState) (s t s2 t2 : Serving Peer)
    → AreAlike s t
    → (over ≡ false → answers_to latest k given ≡ answers_to keep_every n given → AreAlike s2 t2)
    → answers_to latest k (elim over [ true ↦ [] | false ↦ given ]) ≡ answers_to keep_every n (elim over [ true ↦ [] | false ↦ given ])
    → AreAlike (elim over [ true ↦ s | false ↦ s2 ]) (elim over [ true ↦ t | false ↦ t2 ])
alike_either true given k n s t s2 t2 ended more same = ended
alike_either false given k n s t s2 t2 ended more same = more refl same

both_none : (over : Bool) (k n : NodeState)
    → answers_to latest k (elim over [ true ↦ [] | false ↦ [] ]) ≡ answers_to keep_every n (elim over [ true ↦ [] | false ↦ [] ])
both_none true k n = refl
both_none false k n = refl

module _ (frames idles : ℕ) where
  -- the two nodes answer all datagrams of the turns alike
  abbrev AnswerAlike : List (Received Peer) → Serving Peer → NodeState → Type 0
  AnswerAlike rs s n = answers_to latest s.node (given_over frames idles s rs) ≡ answers_to keep_every n (given_over frames idles s rs)

  -- the runs of the two nodes are alike
  abbrev RunAlike : List (Received Peer) → Serving Peer → NodeState → Type 0
  RunAlike rs s n = AreAlike (served_over latest frames idles s rs) (served_over keep_every frames idles (having n s) rs)

  -- one turn of both, where serving goes on
  turned_alike : (r : Received Peer) (rs : List (Received Peer)) (s : Serving Peer) (n : NodeState)
      → ((s2 : Serving Peer) (m : NodeState) → AnswerAlike rs s2 m → RunAlike rs s2 m)
      → is_over frames idles s ≡ false
      → answers_to latest s.node (given_in s r ++ given_over frames idles (turn latest s r) rs)
      ≡ answers_to keep_every n (given_in s r ++ given_over frames idles (turn latest s r) rs)
      → AreAlike
      (served_over latest frames idles (turn latest s r) rs)
      (served_over keep_every frames idles (turn keep_every (having n s) r) rs)
  unfolding having
  turned_alike NothingCame rs s n rest going alike = rest (turn latest s NothingCame) n alike
  turned_alike ReceivingFailed rs s n rest going alike = rest (turn latest s ReceivingFailed) n alike
  turned_alike (Datagram bytes from) rs s n rest going alike =
      let t : ℕ = moment_of s.clock s.last in
      let good : s.failed ≡ false = not_failed frames idles s going in
      let s2 : Serving Peer = turn latest s (Datagram bytes from) in
      let given : List Given = given_over frames idles s2 rs in
      let a : NodeAnswer = node_answer latest s.node t bytes in
      let b : NodeAnswer = node_answer keep_every n t bytes in
      let k : NodeState = node_given latest s.node t bytes in
      let m : NodeState = node_given keep_every n t bytes in
      let same : a ≡ b = same_first a b (answers_to latest k given) (answers_to keep_every m given) alike in
      let others : answers_to latest k given ≡ answers_to keep_every m given
      = same_others a b (answers_to latest k given) (answers_to keep_every m given) alike in
      let first : s2 ≡ having k (left_by from bytes a s) = turned_by latest from bytes s good in
      let second : turn keep_every (having n s) (Datagram bytes from) ≡ having m s2
      = turned_by keep_every from bytes (having n s) good
      ∙ ap (having m) (left_having from bytes b n s)
      ∙ ap (λ (x : NodeAnswer). having m (left_by from bytes x s)) (sym same)
      ∙ ap (having m) (sym first) in
      subst (λ (z : Serving Peer). AreAlike (served_over latest frames idles s2 rs) (served_over keep_every frames idles z rs))
      (sym second)
      (rest s2 m (ap (λ (z : Serving Peer). answers_to latest z.node given) first ∙ others))

  same_run : (rs : List (Received Peer)) (s : Serving Peer) (n : NodeState) → AnswerAlike rs s n → RunAlike rs s n
  unfolding having
  same_run [] s n alike =
      let ended : Serving Peer = record s { idles = idles } in
      alike_either (is_over frames idles s) [] s.node n s (having n s) ended (having n ended) refl (λ going same. refl)
      (both_none (is_over frames idles s) s.node n)
  same_run (r ∷ rs) s n alike =
      alike_either (is_over frames idles s) (given_in s r ++ given_over frames idles (turn latest s r) rs) s.node n s (having n s)
      (served_over latest frames idles (turn latest s r) rs)
      (served_over keep_every frames idles (turn keep_every (having n s) r) rs)
      refl (turned_alike r rs s n (same_run rs)) alike

  -- the moments don't fall
  turned_in_time : (r : Received Peer) (rs : List (Received Peer)) (s : Serving Peer)
      → AreInTime (turn latest s r).last (given_over frames idles (turn latest s r) rs)
      → is_over frames idles s ≡ false → AreInTime s.last (given_in s r ++ given_over frames idles (turn latest s r) rs)
  turned_in_time NothingCame rs s rest going = rest
  turned_in_time ReceivingFailed rs s rest going = rest
  turned_in_time (Datagram bytes from) rs s rest going =
      let t : ℕ = moment_of s.clock s.last in
      let last : (turn latest s (Datagram bytes from)).last ≡ t = turned_last from bytes s (not_failed frames idles s going) in
      (omega arith, subst (λ (l : ℕ). AreInTime l (given_over frames idles (turn latest s (Datagram bytes from)) rs)) last rest)

  in_time : (rs : List (Received Peer)) (s : Serving Peer) → AreInTime s.last (given_over frames idles s rs)
  in_time [] s = tt
  in_time (r ∷ rs) s = go (is_over frames idles s) refl (turned_in_time r rs s (in_time rs (turn latest s r)))
    where
      go : (b : Bool) → is_over frames idles s ≡ b
          → (is_over frames idles s ≡ false → AreInTime s.last (given_in s r ++ given_over frames idles (turn latest s r) rs))
          → AreInTime s.last (elim b as (λ z. List Given) [
            | true ↦ []
            | false ↦ given_in s r ++ given_over frames idles
                (turn latest s r) rs
          ])
      go true is more = tt
      go false is more = more is

pub law_of_serving : LawOfServing
unfolding having
law_of_serving frames idles node last clock sendings receives set span =
    let start : Serving Peer = serving_of node last clock sendings in
    same_run frames idles receives start node
    (law_of_span node last (given_over frames idles start receives) set (in_time frames idles receives start) span).0
