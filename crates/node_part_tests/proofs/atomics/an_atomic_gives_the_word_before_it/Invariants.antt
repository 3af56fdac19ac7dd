use Rattle.node_part_tests.proofs.atomics.an_atomic_gives_the_word_before_it.Given as goal

-- each counter's name and parts are those of its blank
abbrev pub ghosts-words-A-Ledger : goal.ghosts-words-A-Ledger
ghosts-words-A-Ledger g a = record { name = a.reads.name; parts = a.reads.parts }

abbrev pub ghosts-words-B-Ledger : goal.ghosts-words-B-Ledger
ghosts-words-B-Ledger g a = record { name = a.takes.name; parts = a.takes.parts }
