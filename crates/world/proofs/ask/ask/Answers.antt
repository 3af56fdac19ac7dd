use Rattle.cl_types.specs.Requests.{request_of}
use Rattle.world.proofs.NodeLemmas.{asked, asked_said}
use Rattle.world.proofs.Results.{if_ok_weaker}
use Rattle.world.proofs.ask.ask.Goals as goal

pub said_of-requires-clause-short : goal.said_of-requires-clause-short
said_of-requires-clause-short c =
    (asked c.args.node.now.node c.args.now c.args.frame.now c.in-Ok.view.head (request_of c.in-Ok.view.body) _ _ c.in-Ok.ensures.spelled.good_head c.in-Ok.ensures.read c.handle-outcome.ensures.answer).short

pub said_of-requires-clause-readable : goal.said_of-requires-clause-readable
said_of-requires-clause-readable c =
    (asked c.args.node.now.node c.args.now c.args.frame.now c.in-Ok.view.head (request_of c.in-Ok.view.body) _ _ c.in-Ok.ensures.spelled.good_head c.in-Ok.ensures.read c.handle-outcome.ensures.answer).readable

pub returns-in-Ok-clause-said : goal.returns-in-Ok-clause-said
returns-in-Ok-clause-said c =
    let a = asked c.args.node.now.node c.args.now c.args.frame.now c.in-Ok.view.head (request_of c.in-Ok.view.body) _ _ c.in-Ok.ensures.spelled.good_head c.in-Ok.ensures.read c.handle-outcome.ensures.answer in
    if_ok_weaker _ _ c.said_of.result
    (λ s told. asked_said c.args.node.now.node c.args.now c.args.frame.now c.in-Ok.view.head (request_of c.in-Ok.view.body) s _ c.in-Ok.ensures.read told)
    (c.said_of.ensures.said _ a.tells)
