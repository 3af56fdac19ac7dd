use Rattle.node_part_tests.proofs.exit.an_exit_takes_out_all_that_a_process_has.Given as goal

-- each counter's name and parts are those of its blank
abbrev pub ghosts-answers_of_small-A-Ledger : goal.ghosts-answers_of_small-A-Ledger
ghosts-answers_of_small-A-Ledger g a = record { name = a.reads.name; parts = a.reads.parts }

abbrev pub ghosts-answers_of_small-B-Ledger : goal.ghosts-answers_of_small-B-Ledger
ghosts-answers_of_small-B-Ledger g a = record { name = a.takes.name; parts = a.takes.parts }
