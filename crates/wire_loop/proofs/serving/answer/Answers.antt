use Rattle.std.proofs.Common.{rules, ◌≡◌, ◌≤◌, [], ◌∷◌, ◌++◌, true, false, length, sym, ◌∙◌, arith, take}
use Rattle.std.proofs.lemmas.List.{length-take-le}
use Rattle.cl_types.specs.declared.limits.TheConstants.{REPLY_BYTES}
use Rattle.cl_types.specs.declared.limits.TheConstants.{FRAME_ROOM}
use Rattle.wire_loop.specs.Turns.{serving}
use Rattle.wire_loop.proofs.AnswerLemmas.{answers_bad, answers_busy, answers_failed, answers_sent, reply_is_short}
use Rattle.wire_loop.proofs.RanLemmas.{added_none, added_same, incoming_same}
use Rattle.wire_loop.proofs.serving.answer.Goals as goal

pub slice_bounds-send-end : goal.slice_bounds-send-end
slice_bounds-send-end g c =
    let short : c.in-Replied.len ≤ REPLY_BYTES = reply_is_short c.args.node.now.node c.args.now c.args.bytes.now
    c.in-Replied.len c.in-Replied.how c.in-Replied.status c.handle-outcome.new.out c.in-Replied.ensures.answer in
    let room : length c.handle-outcome.new.out ≡ FRAME_ROOM = search rules in
    omega (arith, short, room)

pub slice_bounds-send-end-in-Replied : goal.slice_bounds-send-end-in-Replied
slice_bounds-send-end-in-Replied g c =
    let short : c.in-Replied.len ≤ REPLY_BYTES = reply_is_short c.args.node.now.node c.args.now c.args.bytes.now
    c.in-Replied.len c.in-Replied.how c.in-Replied.status c.handle-outcome.new.out c.in-Replied.ensures.answer in
    let room : length c.handle-outcome.new.out ≡ FRAME_ROOM = search rules in
    let within : c.in-Replied.len ≤ length c.handle-outcome.new.out = omega (arith, short, room) in
    sym (length-take-le c.in-Replied.len c.handle-outcome.new.out within)

pub returns-in-Sent-clause-answers : goal.returns-in-Sent-clause-answers
returns-in-Sent-clause-answers g c =
    let sent = take c.in-Replied.len c.handle-outcome.new.out in record {
      sendings = true ∷ [];
      sent = (c.args.from, sent) ∷ [];
      messages = c.in-Sent.ensures.sent;
      holds = λ clock more others served idles.
          answers_sent c.args.from c.args.now clock more others served idles c.in-Replied.len c.in-Replied.how
          c.in-Replied.status c.handle-outcome.new.out c.args.node.now.node c.args.bytes.now c.in-Replied.ensures.answer
          ∙ (λ j. serving (sym c.handle-outcome.ensures.node j).node c.args.now clock more
          (others ++ (c.args.from, sent) ∷ []) served idles false);
    }

pub returns-in-Failed-clause-answers : goal.returns-in-Failed-clause-answers
returns-in-Failed-clause-answers g c = record {
  sendings = false ∷ [];
  sent = [];
  messages = added_same _ _ c.in-Failed.ensures.sent;
  holds = λ clock more others served idles.
      answers_failed c.args.from c.args.now clock more others served idles c.in-Replied.len c.in-Replied.how
      c.in-Replied.status c.handle-outcome.new.out c.args.node.now.node c.args.bytes.now c.in-Replied.ensures.answer
      ∙ (λ j. serving (sym c.handle-outcome.ensures.node j).node c.args.now clock more (others ++ []) served idles true);
}

pub returns-in-Busy-clause-answers : goal.returns-in-Busy-clause-answers
returns-in-Busy-clause-answers g c = record {
  sendings = [];
  sent = [];
  messages = added_none _;
  holds = λ clock more others served idles.
      answers_busy c.args.from c.args.now clock more others served idles c.args.node.now.node c.args.bytes.now
      c.handle-outcome.new.out _ _ c.in-Busy.ensures.answer
      ∙ (λ j. serving (sym c.handle-outcome.ensures.node j).node c.args.now clock more (others ++ []) served idles false);
}

pub returns-in-Bad-clause-answers : goal.returns-in-Bad-clause-answers
returns-in-Bad-clause-answers g c = record {
  sendings = [];
  sent = [];
  messages = added_none _;
  holds = λ clock more others served idles.
      answers_bad c.args.from c.args.now clock more others served idles c.args.node.now.node c.args.bytes.now
      c.handle-outcome.new.out _ c.in-Bad.ensures.answer
      ∙ (λ j. serving (sym c.handle-outcome.ensures.node j).node c.args.now clock more (others ++ []) served idles false);
}

pub returns-in-Sent-clause-coming : goal.returns-in-Sent-clause-coming
returns-in-Sent-clause-coming g c = incoming_same c.send.ensures.coming c.send.ensures.idles

pub returns-in-Failed-clause-coming : goal.returns-in-Failed-clause-coming
returns-in-Failed-clause-coming g c = incoming_same c.send.ensures.coming c.send.ensures.idles

pub returns-in-Sent-clause-came : goal.returns-in-Sent-clause-came
returns-in-Sent-clause-came g c = (c.handle-outcome.new.out, c.in-Replied.ensures.answer)

pub returns-in-Failed-clause-came : goal.returns-in-Failed-clause-came
returns-in-Failed-clause-came g c = (c.handle-outcome.new.out, c.in-Replied.ensures.answer)

pub returns-in-Busy-clause-came : goal.returns-in-Busy-clause-came
returns-in-Busy-clause-came g c = (c.handle-outcome.new.out, c.handle-outcome.ensures.answer)

pub returns-in-Bad-clause-came : goal.returns-in-Bad-clause-came
returns-in-Bad-clause-came g c = (c.handle-outcome.new.out, c.in-Bad.ensures.answer)
