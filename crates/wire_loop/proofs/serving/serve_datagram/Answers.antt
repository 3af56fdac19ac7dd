use Rattle.std.proofs.Common.{rules, ◌≡◌, ◌++◌, max, sym, ap, ◌∙◌, subst}
use Rattle.wire_loop.specs.Outside.{Datagram, moment_of}
use Rattle.wire_loop.specs.Serves.{IsTold}
use Rattle.wire_loop.specs.Turns.{IsTurnEnd, fails, idles_by, served_by, serving}
use Rattle.wire_loop.proofs.ClockLemmas.{clock_before}
use Rattle.wire_loop.proofs.TurnLemmas.{turned}
use Rattle.wire_loop.proofs.serving.serve_datagram.Goals as goal

pub returns-clause-turns : goal.returns-clause-turns
returns-clause-turns g c =
    let a = c.answer.ensures.answers in record {
      is_end = subst (λ now. IsTurnEnd c.args.node.now.node now (Datagram c.args.bytes.now c.args.from) c.answer.result)
          (sym c.answer.ensures.last) c.answer.ensures.came;
      sendings = a.sendings;
      sent = a.sent;
      messages = a.messages;
      holds = λ clock is.
          let later = subst (IsTold clock) c.now.ensures.moments is in
          let b = clock_before (g.C.Clock.moments c.args.clock.now) c.now.result c.now.ensures.answer clock later in
          let at : moment_of b.first c.args.node.now.last ≡ c.max-now.result
          = ap (λ n. max n c.args.node.now.last) b.gives ∙ search rules in (
            b.first,
            b.told,
            λ more others served idles.
                turned c.args.node.now.node c.answer.new.node.node c.args.node.now.last c.max-now.result
                c.args.from c.args.bytes.now b.first clock (a.sendings ++ more) more others (others ++ a.sent) served idles
                c.answer.result c.answer.ensures.came at b.after (a.holds clock more others served idles)
                ∙ (λ j. serving c.answer.new.node.node (sym c.answer.ensures.last j) clock more (others ++ a.sent)
                (served_by c.answer.result served) (idles_by c.answer.result idles) (fails c.answer.result)),
          );
    }
