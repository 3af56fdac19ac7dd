use Rattle.node_part_tests.proofs.store.a_read_gives_what_was_written_and_each_refusal_has_its_cause.Given as goal

-- each counter's name and parts are those of its blank
abbrev pub ghosts-answers-A-Ledger : goal.ghosts-answers-A-Ledger
ghosts-answers-A-Ledger g a = record { name = a.reads.name; parts = a.reads.parts }

abbrev pub ghosts-answers-B-Ledger : goal.ghosts-answers-B-Ledger
ghosts-answers-B-Ledger g a = record { name = a.takes.name; parts = a.takes.parts }
