use Rattle.std.proofs.Common.{rules, ◌≡◌, ℕ, List, subst}
use Rattle.cl_outside.specs.Loops.{WroteFront}
use Rattle.cl_outside.specs.Told.{Added}
use Rattle.client_command.specs.Lines.{stalled_line}
use Rattle.client_command.proofs.lines.end_stalled.Goals as goal

pub returns-in-Ok-write_all : goal.returns-in-Ok-write_all
returns-in-Ok-write_all g c =
    let is : c.as_bytes.result.now ≡ stalled_line c.args.moment c.args.turns = search rules in (
      subst (λ (l : List ℕ). Added l (g.K.Sink.written c.args.sink.now) (g.K.Sink.written c.write_all.new.sink)) is
          c.in-Ok-write_all.ensures.all,
      c.in-Ok-write_all.ensures.counted,
    )

pub returns : goal.returns
returns g c =
    let is : c.as_bytes.result.now ≡ stalled_line c.args.moment c.args.turns = search rules in (
      subst (λ (l : List ℕ). WroteFront l (g.K.Sink.written c.args.sink.now) (g.K.Sink.written c.write_all.new.sink)) is
          c.in-Err.ensures.front,
      c.in-Err.ensures.counted,
    )
