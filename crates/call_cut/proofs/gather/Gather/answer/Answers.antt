-- Some part waits, or one failed, or all are done.
use Rattle.std.proofs.Common.{take}
use Rattle.call_cut.proofs.Endings.{answer_waiting, answer_failed, answer_done}
use Rattle.call_cut.proofs.gather.Gather.answer.Goals as goal

pub returns-then-is_any_waiting-clause-answer : goal.returns-then-is_any_waiting-clause-answer
returns-then-is_any_waiting-clause-answer c =
    (answer_waiting (take c.self.inside.parts c.self.inside.outcomes) c.self.view_is c.requires c.is_any_waiting.ensures c.if-is_any_waiting.true).answer_is

pub returns-then-is_any_waiting-clause-filled : goal.returns-then-is_any_waiting-clause-filled
returns-then-is_any_waiting-clause-filled c =
    (answer_waiting (take c.self.inside.parts c.self.inside.outcomes) c.self.view_is c.requires c.is_any_waiting.ensures c.if-is_any_waiting.true).call_is

pub returns-in_default-clause-answer : goal.returns-in_default-clause-answer
returns-in_default-clause-answer c =
    (answer_done (take c.self.inside.parts c.self.inside.outcomes) c.self.view_is c.requires c.is_any_waiting.ensures c.if-is_any_waiting.false c.failure.ensures c.in_default.is c.finish.ensures.value c.finish.ensures.call).answer_is

pub returns-in_default-clause-filled : goal.returns-in_default-clause-filled
returns-in_default-clause-filled c =
    (answer_done (take c.self.inside.parts c.self.inside.outcomes) c.self.view_is c.requires c.is_any_waiting.ensures c.if-is_any_waiting.false c.failure.ensures c.in_default.is c.finish.ensures.value c.finish.ensures.call).call_is

pub returns-clause-answer : goal.returns-clause-answer
returns-clause-answer c =
    (answer_failed (take c.self.inside.parts c.self.inside.outcomes) c.self.view_is c.requires c.is_any_waiting.ensures c.if-is_any_waiting.false c.failure.ensures c.in-Some.is c.clear.ensures).answer_is

pub returns-clause-filled : goal.returns-clause-filled
returns-clause-filled c =
    (answer_failed (take c.self.inside.parts c.self.inside.outcomes) c.self.view_is c.requires c.is_any_waiting.ensures c.if-is_any_waiting.false c.failure.ensures c.in-Some.is c.clear.ensures).call_is
