-- Each counter's name and parts are those of its blank.
use Rattle.node_core.proofs.node.Node.handle.Given as goal

abbrev pub ghosts-counted_step-A-Ledger : goal.ghosts-counted_step-A-Ledger
ghosts-counted_step-A-Ledger a = record { name = a.reads.name; parts = a.reads.parts }

abbrev pub ghosts-counted_step-B-Ledger : goal.ghosts-counted_step-B-Ledger
ghosts-counted_step-B-Ledger a = record { name = a.takes.name; parts = a.takes.parts }
