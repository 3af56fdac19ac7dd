-- Each counter's name and parts are those of its blank.
use Rattle.node_tests.proofs.node.Tried.ask.Given as goal

abbrev pub ghosts-step-A-Ledger : goal.ghosts-step-A-Ledger
ghosts-step-A-Ledger a = record { name = a.reads.name; parts = a.reads.parts }

abbrev pub ghosts-step-B-Ledger : goal.ghosts-step-B-Ledger
ghosts-step-B-Ledger a = record { name = a.takes.name; parts = a.takes.parts }
