use Rattle.std.proofs.Common.{arith}
use Rattle.schedule_text.proofs.calls.call_word.Goals as goal

pub returns-then-eq : goal.returns-then-eq
returns-then-eq c = grind arith

pub returns-then-eq-2 : goal.returns-then-eq-2
returns-then-eq-2 c = grind arith

pub returns-then-eq-3 : goal.returns-then-eq-3
returns-then-eq-3 c = grind arith

pub returns-then-eq-4 : goal.returns-then-eq-4
returns-then-eq-4 c = grind arith

pub returns-then-eq-5 : goal.returns-then-eq-5
returns-then-eq-5 c = grind arith

pub returns-then-eq-6 : goal.returns-then-eq-6
returns-then-eq-6 c = grind arith

pub returns-then-eq-7 : goal.returns-then-eq-7
returns-then-eq-7 c = grind arith

pub returns-then-eq-8 : goal.returns-then-eq-8
returns-then-eq-8 c = grind arith

pub returns-then-eq-9 : goal.returns-then-eq-9
returns-then-eq-9 c = grind arith

pub returns-then-eq-10 : goal.returns-then-eq-10
returns-then-eq-10 c = grind arith
