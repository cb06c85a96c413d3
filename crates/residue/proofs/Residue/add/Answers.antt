-- `residue::Residue::add` meets its contract.
-- Assumes nothing.
use Rattle.std.proofs.Common.{rules}
use Rattle.residue.specs.Field.{addq}
use Rattle.residue.proofs.Residue.add.Goals as goal

pub returns : goal.returns
unfolding addq
returns c = search rules
