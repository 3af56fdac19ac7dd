use Rattle.transcript_text.proofs.numbers.+print_hex_number.Given as goal

abbrev pub decreases-print_hex_number : goal.decreases-print_hex_number
decreases-print_hex_number l = l.n
