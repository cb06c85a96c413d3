-- `residue::Residue::inv` meets its contract.
-- Assumes nothing.
use Rattle.std.proofs.Common.{rules}
use Rattle.residue.specs.Field.{invq}
use Rattle.residue.proofs.Residue.inv.Goals as goal

pub returns : goal.returns
unfolding invq
returns c = search rules
