-- `residue::Residue::sub` meets its contract.
-- Assumes nothing.
use Rattle.std.proofs.Common.{rules}
use Rattle.residue.specs.Field.{addq, negq, subq}
use Rattle.residue.proofs.Residue.sub.Goals as goal

pub returns : goal.returns
unfolding subq addq negq
returns c = search rules
