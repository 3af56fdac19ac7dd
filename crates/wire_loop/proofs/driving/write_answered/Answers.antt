use Rattle.wire_loop.proofs.IssueLemmas.{none_written, on_err_always}
use Rattle.wire_loop.proofs.driving.write_answered.Goals as goal

pub returns-in_err-print_answered-clause-front : goal.returns-in_err-print_answered-clause-front
returns-in_err-print_answered-clause-front g c = on_err_always c.from_residual.result (none_written _ _)
