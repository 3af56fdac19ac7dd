use Rattle.std.proofs.Common.{length}
use Rattle.transcript_text.proofs.word.+print_words.Given as goal

abbrev pub decreases-print_words : goal.decreases-print_words
decreases-print_words l = length l.line.now
