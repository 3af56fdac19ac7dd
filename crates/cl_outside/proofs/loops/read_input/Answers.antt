use Rattle.std.proofs.Common.{◌≤◌, ◌+◌, length, arith}
use Rattle.cl_outside.proofs.ToldLemmas.{took_long, took_more}
use Rattle.cl_outside.proofs.loops.read_input.Goals as goal
use Rattle.cl_types.specs.declared.limits.TheConstants.{INPUT_BYTES}

-- a piece that could not be kept was taken too
pub returns-in_err-read_piece-clause-taken : goal.returns-in_err-read_piece-clause-taken
returns-in_err-read_piece-clause-taken g c =
    let few : length c.loop-source.bytes.items ≤ INPUT_BYTES + 1 = c.loop-source.invariant.2 in
    took_more (INPUT_BYTES + 1) _ c.loop-source.bytes.items _ _ _ c.loop-source.invariant.0 (omega (arith, few)) c.in_err-read_piece.ensures.taken

-- it stops with one byte too many
pub returns-clause-long : goal.returns-clause-long
returns-clause-long g c = λ _. took_long INPUT_BYTES c.loop-source.bytes.items _ _ c.loop-source.invariant.0 (omega (arith, c.loop-source-test.false, c.len.ensures))

pub returns-clause-stopped : goal.returns-clause-stopped
returns-clause-stopped g c = λ _. (c.loop-source.bytes.items, omega (arith, c.loop-source-test.false, c.len.ensures, c.loop-source.invariant.2), c.loop-source.invariant.0)
