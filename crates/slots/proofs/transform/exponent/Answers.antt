-- `slots::transform::exponent` meets its contract: its test is the definition's.
-- Assumes nothing.
use Prim.Native.Nat.{◌%◌}
use native.Mathlib.Omega.{arith}
use borrow.Author.Tests.{eq-eqb, ne_eqb}
use Rattle.algebra.specs.Transform.{exponent}
use Rattle.slots.proofs.transform.exponent.Goals as goal

pub returns-then-k-eq0 : goal.returns-then-k-eq0
unfolding exponent
returns-then-k-eq0 c = rw (eq-eqb (c.args.k % 2) 0 c.if-k-eq0.true) (omega arith)

pub returns-else-k-eq0 : goal.returns-else-k-eq0
unfolding exponent
returns-else-k-eq0 c = rw (ne_eqb (c.args.k % 2) 0 c.if-k-eq0.false) (omega arith)
