-- `r_image_in` packs the image of r.
-- Assumes nothing.
use mathlib.Core.Path.{ap, ◌∙◌}
use lib.ListN.{length}
use Rattle.residue.specs.Field.{generator, powq}
use Rattle.stages.specs.Sealing.{small_r, r_image}
use Rattle.stages.proofs.ImageLaws.{residues_as, image_of_residues}
use Rattle.calls_r_image.proofs.r_image_in.Goals as goal

pub pack-requires-clause-residues : goal.pack-requires-clause-residues
unfolding r_image
pack-requires-clause-residues c =
    let engine = c.args.engine.now in
    let image = image_of_residues engine.half (powq generator engine.step) (small_r c.args.hblock.now) in
    residues_as image c.r_image.ensures (ap length c.r_image.ensures ∙ image.long)
