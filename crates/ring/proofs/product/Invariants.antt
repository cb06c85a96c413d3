-- `product` meets its contract: places i and h + i hold the product, for the i that are done.
-- Assumes nothing.
use Rattle.algebra.specs.Numbers.{residues}
use Rattle.algebra.specs.Product.{coefficient, schoolbook, fold}
use Rattle.ring.proofs.HalfFill.{HalfFill}
use Rattle.ring.proofs.product.Given as goal

abbrev pub invariant-loop-i : goal.invariant-loop-i
invariant-loop-i l = HalfFill (fold residues l.half (schoolbook residues (coefficient residues l.a) (coefficient residues l.b))) l.half l.out l.i
