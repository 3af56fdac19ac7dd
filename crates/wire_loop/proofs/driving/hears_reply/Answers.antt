use Rattle.client_core.specs.Answers.{heard_as}
use Rattle.client_core.specs.declared.answers.Heard.TheVariants as heard
use Rattle.wire_loop.proofs.PollLemmas.{tells_taken}
use Rattle.wire_loop.proofs.driving.hears_reply.Goals as goal

pub returns-in-Took-clause-taken : goal.returns-in-Took-clause-taken
returns-in-Took-clause-taken c = tells_taken c.args.client.now (heard_as c.args.client.now c.args.bytes.now) (heard.Took c.in-Took._part) c.in-Took.ensures.answer

pub returns-in-Ended-clause-taken : goal.returns-in-Ended-clause-taken
returns-in-Ended-clause-taken c = tells_taken c.args.client.now (heard_as c.args.client.now c.args.bytes.now) (heard.Ended c.in-Ended._part) c.in-Ended.ensures.answer
