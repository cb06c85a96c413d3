-- `marks::residue_of` meets its contract: by its three marks.
-- Assumes nothing.
use Rattle.std.proofs.Common.{rules}
use Rattle.residue.specs.Signed.{residue_of}
use Rattle.marks.specs.Marks.{of_mark}
use Rattle.marks.proofs.residue_of.Goals as goal

pub returns : goal.returns
unfolding residue_of of_mark
returns c = search rules
