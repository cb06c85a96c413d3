-- `residue::Residue::mul` meets its contract.
-- Assumes nothing.
use Rattle.std.proofs.Common.{rules}
use Rattle.residue.specs.Field.{mulq}
use Rattle.residue.proofs.Residue.mul.Goals as goal

pub returns : goal.returns
unfolding mulq
returns c = search rules
