-- `Engine::transform` meets its contract: the slots are filled from the left.
-- Assumes nothing.
use Prim.Native.Nat.{◌+◌}
use Rattle.residue.specs.Field.{generator, powq}
use Rattle.algebra.specs.Transform.{exponent, value}
use Rattle.lists.proofs.Fill.{Fill}
use Rattle.slots.proofs.engine.Engine.transform.Given as goal

abbrev pub invariant-loop-k : goal.invariant-loop-k
invariant-loop-k l =
    let n = l.self.half + l.self.half in Fill (λ i. value n l.a (powq (powq generator l.self.step) (exponent i))) n l.out l.k
