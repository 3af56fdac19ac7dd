-- What an outcome of a datagram is of the definition of serving.
use Rattle.std.proofs.Common.{◌≡◌, ◌≤◌, ℕ, Bool, true, false, List, [], ◌∷◌, ◌++◌, take, Option, Some, None, sym}
use Rattle.std.proofs.lemmas.List.{append-nil}
use Rattle.cl_outside.specs.declared.wire.Peer.{Peer}
use Rattle.cl_types.specs.declared.frame.BadFrame.{BadFrame}
use Rattle.cl_types.specs.declared.frame.How.{How}
use Rattle.frame_model.specs.Frames.{Item, head_in, request_in, request_fault}
use Rattle.node_model.specs.Handling.{latest}
use Rattle.node_model.specs.Nodes.{NodeState, NodeStep, ItemAnswer, Gives, IsBusy, answer_judged, items_judged, items_read, node_after, node_answer, node_given, step_item}
use Rattle.wire_loop.specs.Outside.{ClockAnswers}
use Rattle.wire_loop.specs.Serving.{answers, said_back}
use Rattle.node_core.specs.Keeping.{Tells, TellsSaid}
use Rattle.node_core.specs.declared.outcome.Outcome.TheVariants as outcome
use Rattle.cl_types.specs.declared.limits.TheConstants.{REPLY_BYTES}
use Rattle.wire_loop.specs.Turns.{serving}

module _ (from : Peer) (now : ℕ) (clock : ClockAnswers) (more : List Bool) (others : List (Peer × List ℕ))
    (served idles : ℕ) where
  -- ---- a reply
  module _ (len : ℕ) (how : How) (status : ℕ) (out : List ℕ) where
    -- it was sent
    said_sent : (item : Item) (x : ItemAnswer) (n : NodeState) → TellsSaid item x (outcome.Replied len how status) out
        → said_back from item x (serving n now clock (true ∷ more) others served idles false)
        ≡ serving n now clock more (others ++ (from, take len out) ∷ []) served idles false
    said_sent item (Gives h reply) n told = λ j. serving n now clock more (others ++ (from, sym told.3 j) ∷ []) served idles false
    said_sent item (IsBusy oldest at) n told = absurd told

    -- its sending failed
    said_failed : (item : Item) (x : ItemAnswer) (n : NodeState) → TellsSaid item x (outcome.Replied len how status) out
        → said_back from item x (serving n now clock (false ∷ more) others served idles false)
        ≡ serving n now clock more (others ++ []) served idles true
    said_failed item (Gives h reply) n told = λ j. serving n now clock more (sym (append-nil others) j) served idles true
    said_failed item (IsBusy oldest at) n told = absurd told

    module _ (n : NodeState) (frame : List ℕ) where
      pub answers_sent : Tells frame (node_answer latest n now frame) (outcome.Replied len how status) out
          → answers latest from now (items_read frame) (serving n now clock (true ∷ more) others served idles false)
          ≡ serving (node_given latest n now frame) now clock more (others ++ (from, take len out) ∷ []) served idles false
      answers_sent told = go (request_fault frame) told where
        go : (o : Option BadFrame) → Tells frame (answer_judged latest n now frame o) (outcome.Replied len how status) out
            → answers latest from now (items_judged frame o) (serving n now clock (true ∷ more) others served idles false)
            ≡ serving (node_after latest n now (items_judged frame o)) now clock more
            (others ++ (from, take len out) ∷ []) served idles false
        go (Some fault) told = absurd told
        go None told =
            let i : Item = record { head = head_in frame; request = request_in frame } in
            let s : NodeStep = step_item latest n now i in
            said_sent i s.said s.node told

      pub answers_failed : Tells frame (node_answer latest n now frame) (outcome.Replied len how status) out
          → answers latest from now (items_read frame) (serving n now clock (false ∷ more) others served idles false)
          ≡ serving (node_given latest n now frame) now clock more (others ++ []) served idles true
      answers_failed told = go (request_fault frame) told where
        go : (o : Option BadFrame) → Tells frame (answer_judged latest n now frame o) (outcome.Replied len how status) out
            → answers latest from now (items_judged frame o) (serving n now clock (false ∷ more) others served idles false)
            ≡ serving (node_after latest n now (items_judged frame o)) now clock more (others ++ []) served idles true
        go (Some fault) told = absurd told
        go None told =
            let i : Item = record { head = head_in frame; request = request_in frame } in
            let s : NodeStep = step_item latest n now i in
            said_failed i s.said s.node told

  -- ---- a busy node, and bytes that spell nothing
  module _ (n : NodeState) (frame out : List ℕ) where
    pub answers_bad : (fault : BadFrame) → Tells frame (node_answer latest n now frame) (outcome.Bad fault) out
        → answers latest from now (items_read frame) (serving n now clock more others served idles false)
        ≡ serving (node_given latest n now frame) now clock more (others ++ []) served idles false
    answers_bad fault told = go (request_fault frame) told where
      go : (o : Option BadFrame) → Tells frame (answer_judged latest n now frame o) (outcome.Bad fault) out
          → answers latest from now (items_judged frame o) (serving n now clock more others served idles false)
          ≡ serving (node_after latest n now (items_judged frame o)) now clock more (others ++ []) served idles false
      go (Some found) told = λ j. serving n now clock more (sym (append-nil others) j) served idles false
      go None told = absurd_said (step_item latest n now
          (record { head = head_in frame; request = request_in frame })).said told where
            absurd_said : (x : ItemAnswer) → TellsSaid (record { head = head_in frame; request = request_in frame }) x
                (outcome.Bad fault) out
                → answers latest from now (items_judged frame None) (serving n now clock more others served idles false)
                ≡ serving (node_after latest n now (items_judged frame None)) now clock more (others ++ []) served idles false
            absurd_said (Gives h reply) told = absurd told
            absurd_said (IsBusy oldest at) told = absurd told

    said_busy : (item : Item) (x : ItemAnswer) (m : NodeState) (oldest at : ℕ) → TellsSaid item x (outcome.Busy oldest at) out
        → said_back from item x (serving m now clock more others served idles false)
        ≡ serving m now clock more (others ++ []) served idles false
    said_busy item (Gives h reply) m oldest at told = absurd told
    said_busy item (IsBusy since moment) m oldest at told = λ j. serving m now clock more (sym
        (append-nil others) j) served idles false

    pub answers_busy : (oldest at : ℕ) → Tells frame (node_answer latest n now frame) (outcome.Busy oldest at) out
        → answers latest from now (items_read frame) (serving n now clock more others served idles false)
        ≡ serving (node_given latest n now frame) now clock more (others ++ []) served idles false
    answers_busy oldest at told = go (request_fault frame) told where
      go : (o : Option BadFrame) → Tells frame (answer_judged latest n now frame o) (outcome.Busy oldest at) out
          → answers latest from now (items_judged frame o) (serving n now clock more others served idles false)
          ≡ serving (node_after latest n now (items_judged frame o)) now clock more (others ++ []) served idles false
      go (Some fault) told = absurd told
      go None told =
          let i : Item = record { head = head_in frame; request = request_in frame } in
          let s : NodeStep = step_item latest n now i in
          said_busy i s.said s.node oldest at told

-- a reply fits the buffer
short_said : (item : Item) (x : ItemAnswer) (len : ℕ) (how : How) (status : ℕ) (out : List ℕ)
    → TellsSaid item x (outcome.Replied len how status) out → len ≤ REPLY_BYTES
short_said item (Gives h reply) len how status out told = told.2
short_said item (IsBusy oldest at) len how status out told = absurd told

pub reply_is_short : (n : NodeState) (now : ℕ) (frame : List ℕ) (len : ℕ) (how : How) (status : ℕ) (out : List ℕ)
    → Tells frame (node_answer latest n now frame) (outcome.Replied len how status) out → len ≤ REPLY_BYTES
reply_is_short n now frame len how status out told = go (request_fault frame) told where
  go : (o : Option BadFrame) → Tells frame (answer_judged latest n now frame o) (outcome.Replied len how status) out
      → len ≤ REPLY_BYTES
  go (Some fault) told = absurd told
  go None told =
      let i : Item = record { head = head_in frame; request = request_in frame } in
      short_said i (step_item latest n now i).said len how status out told
