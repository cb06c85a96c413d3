-- `Engine::value` meets its contract: after i turns the sum is the value of the first i coefficients, and `at` the exponent of the next power.
-- Assumes nothing.
use mathlib.Core.Path.{◌≡◌}
use Prim.Native.Nat.{◌*◌, ◌%◌}
use Rattle.residue.specs.Field.{generator, powq}
use Rattle.algebra.specs.Transform.{value}
use Rattle.slots.proofs.engine.Engine.value.Given as goal

abbrev pub invariant-loop-x : goal.invariant-loop-x
invariant-loop-x l = (l.sum.0 ≡ value l.x-index l.a (powq generator l.log)) × (l.at ≡ l.log * l.x-index % 3456)
