use Rattle.cl_outside.proofs.loops.read_piece.Goals as goal

-- a read that failed gave nothing, and no call was made after it
pub returns-in-Failed-clause-got : goal.returns-in-Failed-clause-got
returns-in-Failed-clause-got g c = tt

pub returns-in-Failed-clause-kept : goal.returns-in-Failed-clause-kept
returns-in-Failed-clause-kept g c = λ _. c.in-Failed.ensures.bytes

pub returns-in-Failed-clause-counted : goal.returns-in-Failed-clause-counted
returns-in-Failed-clause-counted g c = c.in-Failed.ensures.cause
