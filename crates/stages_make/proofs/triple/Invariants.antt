-- `triple` meets its contract: the coefficients are tripled from the left, and the others stand as they were.
-- Assumes nothing.
use Rattle.std.proofs.Common.{◌≡◌, ◌++◌, map, take, drop}
use Rattle.residue.specs.Field.{mulq}
use Rattle.stages_make.proofs.triple.Given as goal

abbrev pub invariant-loop-x : goal.invariant-loop-x
invariant-loop-x l = l.p ≡ map (mulq 3) (take l.x-index l.fn.p) ++ drop l.x-index l.fn.p
