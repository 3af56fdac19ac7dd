-- What the node answers to bytes, told by its outcome, and the step that it brings.
use Rattle.std.proofs.Common.{◌≡◌, ℕ, List, take, Option, Some, None, refl, sym, ap, ◌∙◌, subst}
use Rattle.std.specs.Prelude.{IsTrue}
use Rattle.cl_types.specs.declared.frame.BadFrame.{BadFrame}
use Rattle.cl_types.specs.declared.frame.End.TheVariants as to
use Rattle.cl_types.specs.declared.frame.Head.{Head}
use Rattle.cl_types.specs.declared.frame.How.{How}
use Rattle.cl_types.specs.declared.frame.How.TheVariants as how
use Rattle.cl_types.specs.declared.line.Did.TheVariants as did
use Rattle.cl_types.specs.declared.reply.Part.{Part}
use Rattle.cl_types.specs.declared.reply.Reply.{Reply}
use Rattle.cl_types.specs.declared.request.Request.{Request}
use Rattle.frame_model.proofs.ReplyFrameLemmas.{replies_are_read_again}
use Rattle.frame_model.specs.FrameLaws.{ReadsAsReply, ReadsAsRequest}
use Rattle.frame_model.specs.Frames.{IsHead, Item, head_in, is_reply_of, kind_of, reply_frame, reply_in, request_fault, request_in, status_in}
use Rattle.node_model.specs.Handling.{latest}
use Rattle.node_model.specs.Nodes.{NodeState, NodeStep, ItemAnswer as NodeSaid, Gives, IsBusy, Refuses, answer_judged, items_judged, node_after, node_answer, node_given, step_item}
use Rattle.node_core.specs.Keeping.{IsCarried, Tells, TellsSaid}
use Rattle.node_core.specs.declared.outcome.Outcome.{Outcome}
use Rattle.node_core.specs.declared.outcome.Outcome.TheVariants as outcome
use Rattle.world.specs.declared.ask.FrameAnswer.{FrameAnswer}
use Rattle.world.specs.declared.ask.FrameAnswer.TheVariants as said
use Rattle.world.specs.Saying.{IsReadable, IsSaid, IsSaidTo, IsShort, answered_step, made_in, said_step}
use Rattle.world.specs.Worlds.{WorldState, Stepped, entered, entry_of, looked_by, next_frame, node_judged, node_said, sends_frame, shows}

-- ---- the outcome of a request
-- the reply to an execution is read again in its frame
carried_again : (item : Item) (reply : Reply) (bytes : List ℕ) → IsHead item.head → bytes ≡ reply_frame item.head (kind_of item.request) reply
    → IsTrue (is_reply_of (kind_of item.request) reply) → ReadsAsReply bytes item.head (kind_of item.request) reply
carried_again item reply bytes head spelled carried = replies_are_read_again bytes item.head (kind_of item.request) reply (record { good_head = head; good_body = carried; spelling = spelled })

short_of : (item : Item) (x : NodeSaid) (o : Outcome) (out : List ℕ) → TellsSaid item x o out → IsShort o
short_of item (Gives h reply) (outcome.Replied len told status) out tells = tells.2
short_of item (Gives h reply) (outcome.Busy since at) out tells = absurd tells
short_of item (Gives h reply) (outcome.Bad fault) out tells = absurd tells
short_of item (IsBusy oldest at) (outcome.Replied len told status) out tells = absurd tells
short_of item (IsBusy oldest at) (outcome.Busy since now) out tells = tt
short_of item (IsBusy oldest at) (outcome.Bad fault) out tells = absurd tells

readable_reply : (item : Item) (h told : How) (reply : Reply) (len status : ℕ) (out : List ℕ) → IsHead item.head → told ≡ h → take len out ≡ reply_frame item.head (kind_of item.request) reply
    → IsCarried (kind_of item.request) h reply → IsReadable (outcome.Replied len told status) out
readable_reply item how.Executed how.Executed reply len status out head same spelled carried = (carried_again item reply (take len out) head spelled carried).faultless
readable_reply item how.Repeated how.Executed reply len status out head same spelled carried = absurd cc
readable_reply item how.Looked how.Executed reply len status out head same spelled carried = absurd cc
readable_reply item h how.Repeated reply len status out head same spelled carried = tt
readable_reply item h how.Looked reply len status out head same spelled carried = tt

readable_of : (item : Item) (x : NodeSaid) (o : Outcome) (out : List ℕ) → IsHead item.head → TellsSaid item x o out → IsReadable o out
readable_of item (Gives h reply) (outcome.Replied len told status) out head tells = readable_reply item h told reply len status out head tells.0 tells.3 tells.4
readable_of item (Gives h reply) (outcome.Busy since at) out head tells = absurd tells
readable_of item (Gives h reply) (outcome.Bad fault) out head tells = absurd tells
readable_of item (IsBusy oldest at) (outcome.Replied len told status) out head tells = absurd tells
readable_of item (IsBusy oldest at) (outcome.Busy since now) out head tells = tt
readable_of item (IsBusy oldest at) (outcome.Bad fault) out head tells = absurd tells

module _ (n : NodeState) (t : ℕ) (frame : List ℕ) where
  -- the item that the bytes spell
  abbrev item_there : Item
  item_there = record { head = head_in frame; request = request_in frame }

  -- what the node says to it
  abbrev said_there : Item → NodeSaid
  said_there i = (step_item latest n t i).said

  -- what an outcome gives where the bytes spell a request
  pub record Asked (head : Head) (body : Request) (o : Outcome) (out : List ℕ) : Type 0 where
    pub short : IsShort o
    pub readable : IsReadable o out
    pub tells : TellsSaid (record { head = head; request = body }) (said_there (record { head = head; request = body })) o out

  pub asked : (head : Head) (body : Request) (o : Outcome) (out : List ℕ) → IsHead head → ReadsAsRequest frame head body
      → Tells frame (node_answer latest n t frame) o out → Asked head body o out
  asked head body o out good reads tells =
      let one : TellsSaid item_there (said_there item_there) o out = subst (λ f. Tells frame (answer_judged latest n t frame f) o out) reads.faultless tells in
      let same : item_there ≡ record { head = head; request = body } = λ i. record { head = reads.same_head i; request = reads.same_body i } in
      let told : TellsSaid (record { head = head; request = body }) (said_there (record { head = head; request = body })) o out =
      subst (λ (i : Item). TellsSaid i (said_there i) o out) same one in
      record {
        short = short_of (record { head = head; request = body }) _ o out told;
        readable = readable_of (record { head = head; request = body }) _ o out good told;
        tells = told;
      }

  pub asked_said : (head : Head) (body : Request) (s : FrameAnswer) (out : List ℕ) → ReadsAsRequest frame head body
      → IsSaidTo (record { head = head; request = body }) (said_there (record { head = head; request = body })) s out
      → IsSaid frame (node_answer latest n t frame) s out
  asked_said head body s out reads told =
      let same : record { head = head; request = body } ≡ item_there = λ i. record { head = sym reads.same_head i; request = sym reads.same_body i } in
      let one : IsSaidTo item_there (said_there item_there) s out = subst (λ (i : Item). IsSaidTo i (said_there i) s out) same told in
      subst (λ f. IsSaid frame (answer_judged latest n t frame f) s out) (sym reads.faultless) one

-- ---- what is told
made_so : (item : Item) (h told : How) (reply : Reply) (bytes : List ℕ) → IsHead item.head → told ≡ h → bytes ≡ reply_frame item.head (kind_of item.request) reply
    → IsCarried (kind_of item.request) h reply → made_in told item.request (reply_in bytes) ≡ made_in h item.request reply
made_so item how.Executed told reply bytes head same spelled carried =
    ap (λ h. made_in h item.request (reply_in bytes)) same ∙ ap (λ r. made_in how.Executed item.request r) (carried_again item reply bytes head spelled carried).same_body
made_so item how.Repeated told reply bytes head same spelled carried = ap (λ h. made_in h item.request (reply_in bytes)) same
made_so item how.Looked told reply bytes head same spelled carried = ap (λ h. made_in h item.request (reply_in bytes)) same

pub answers_said : (item : Item) (x : NodeSaid) (len : ℕ) (told : How) (status : ℕ) (out : List ℕ) → IsHead item.head → TellsSaid item x (outcome.Replied len told status) out
    → IsSaidTo item x (said.Answers (record { head = item.head; made = made_in told item.request (reply_in (take len out)); status = status; len = len })) out
answers_said item (Gives h reply) len told status out head tells = (refl, made_so item h told reply (take len out) head tells.0 tells.3 tells.4, tells.1, tells.3)
answers_said item (IsBusy since at) len told status out head tells = absurd tells

-- ---- the step
module _ (l k : ℕ) (part : Part) where
  module _ (i : Item) (reply : Reply) (len : ℕ) (out : List ℕ) (bytes : take len out ≡ reply_frame i.head (kind_of i.request) reply) (v : WorldState) where
    -- the step, with these bytes sent
    abbrev sending : How → List ℕ → Stepped
    sending h sent =
        shows
        (sends_frame (record v { history = entered h (entry_of l part i reply) v.history }) l (to.Client i.head.client) sent (record { part = part; looked = looked_by h i.request }))
        (did.Handled k i.head.client part h (status_in reply) (next_frame v))

    -- what was made of the item is entered, noted and told as the node's answer is
    answered_so : (h : How) → node_said v l k part i (Gives h reply) ≡ answered_step v l k part (record { head = i.head; made = made_in h i.request reply; status = status_in reply; len = len }) out
    answered_so how.Executed = ap (sending how.Executed) (sym bytes)
    answered_so how.Repeated = ap (sending how.Repeated) (sym bytes)
    answered_so how.Looked = ap (sending how.Looked) (sym bytes)

  -- what the node says to an item is the step of what is told of it
  item_so : (i : Item) (x : NodeSaid) (s : FrameAnswer) (out : List ℕ) → IsSaidTo i x s out → (v : WorldState) → node_said v l k part i x ≡ said_step v l k part s out
  item_so i (Gives h reply) (said.Answers a) out told v =
      answered_so i reply a.len out told.3 v h
      ∙ (λ j. answered_step v l k part (record { head = sym told.0 j; made = sym told.1 j; status = sym told.2 j; len = a.len }) out)
  item_so i (Gives h reply) (said.Bad fault) out told v = absurd told
  item_so i (Gives h reply) (said.Busy client since now) out told v = absurd told
  item_so i (IsBusy oldest at) (said.Busy client since now) out told v = λ j. shows v (did.Busy k (sym told.0 j) part (sym told.1 j) (sym told.2 j))
  item_so i (IsBusy oldest at) (said.Bad fault) out told v = absurd told
  item_so i (IsBusy oldest at) (said.Answers a) out told v = absurd told

  module _ (w : WorldState) (frame : List ℕ) (n : NodeState) where
    refused_so : (fault : BadFrame) (s : FrameAnswer) (out : List ℕ) → n ≡ w.node → IsSaid frame (Refuses fault) s out → shows w (did.Bad fault) ≡ said_step (record w { node = n }) l k part s out
    refused_so fault (said.Bad told) out is same = λ j. shows (record w { node = sym is j }) (did.Bad (sym same j))
    refused_so fault (said.Busy client since now) out is same = absurd same
    refused_so fault (said.Answers a) out is same = absurd same

    -- bytes that came to the node are the step of what is told of them
    pub node_so : (s : FrameAnswer) (out : List ℕ) → n ≡ node_given latest w.node w.moment frame → IsSaid frame (node_answer latest w.node w.moment frame) s out
        → node_judged w l k part frame (request_fault frame) ≡ said_step (record w { node = n }) l k part s out
    node_so s out is told = go (request_fault frame) is told where
      go : (o : Option BadFrame) → n ≡ node_after latest w.node w.moment (items_judged frame o) → IsSaid frame (answer_judged latest w.node w.moment frame o) s out
          → node_judged w l k part frame o ≡ said_step (record w { node = n }) l k part s out
      go (Some fault) is told = refused_so fault s out is told
      go None is told =
          let i : Item = record { head = head_in frame; request = request_in frame } in
          let step : NodeStep = step_item latest w.node w.moment i in
          item_so i step.said s out told (record w { node = step.node }) ∙ ap (λ (m : NodeState). said_step (record w { node = m }) l k part s out) (sym is)
