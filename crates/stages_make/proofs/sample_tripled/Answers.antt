-- `sample_tripled` meets its contract: what is sampled are residues.
-- Assumes nothing.
use mathlib.Core.Path.{refl}
use Rattle.residue.proofs.ResiduesLaws.{own_length}
use Rattle.stages.proofs.ImageLaws.{residues_as, sampled_residues}
use Rattle.stages_make.proofs.sample_tripled.Goals as goal

pub triple-requires : goal.triple-requires
triple-requires c = own_length (residues_as (sampled_residues c.args.block.now refl) c.sample.ensures refl)
