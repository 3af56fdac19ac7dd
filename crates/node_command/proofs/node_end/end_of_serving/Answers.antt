use Rattle.node_command.proofs.node_end.end_of_serving.Goals as goal

pub returns-in-Err : goal.returns-in-Err
returns-in-Err c = rw (c.in-Err.is) c.end_of_cut.ensures
