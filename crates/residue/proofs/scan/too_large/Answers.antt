-- `residue::scan::too_large` meets its contract: the same comparison.
-- Assumes nothing.
use Rattle.std.proofs.Common.{refl}
use Rattle.residue.specs.Large.{too_large}
use Rattle.residue.proofs.scan.too_large.Goals as goal

pub returns : goal.returns
unfolding too_large
returns c = refl
