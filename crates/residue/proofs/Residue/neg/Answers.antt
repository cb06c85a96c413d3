-- `residue::Residue::neg` meets its contract: -a is 0 - a.
-- Assumes nothing.
use Rattle.std.proofs.Common.{rules}
use Rattle.residue.specs.Field.{addq, negq, subq}
use Rattle.residue.proofs.Residue.neg.Goals as goal

pub returns : goal.returns
unfolding subq addq negq
returns c = search rules
