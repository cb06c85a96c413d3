-- `residue::Residue::pow` ends: the exponent falls by halves.
-- Assumes nothing.
use Rattle.residue.proofs.Residue.+pow.Given as goal

abbrev pub decreases-pow : goal.decreases-pow
decreases-pow l = l.e
