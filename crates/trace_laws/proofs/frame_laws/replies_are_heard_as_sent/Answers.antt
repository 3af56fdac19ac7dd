use Rattle.trace_laws.proofs.Spelled.{replies_are_heard}
use Rattle.trace_laws.proofs.frame_laws.replies_are_heard_as_sent.Goals as goal

pub returns : goal.returns
returns c = replies_are_heard
