use Rattle.std.proofs.Common.{rules}
use Rattle.schedule_text.proofs.reading.Reading.order_fault.Goals as goal

pub returns-then-is_node : goal.returns-then-is_node
returns-then-is_node c = search rules

pub returns : goal.returns
returns c = search rules
