use Rattle.std.proofs.Common.{length}
use Rattle.transcript_text.proofs.numbers.+print_dotted.Given as goal

abbrev pub decreases-print_dotted : goal.decreases-print_dotted
decreases-print_dotted l = length l.numbers.now
