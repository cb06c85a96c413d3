-- `g_image` meets its contract: what is sampled is tripled and transformed.
-- Assumes nothing.
use mathlib.Core.Path.{ap, ◌∙◌}
use Rattle.residue.specs.Field.{generator, powq}
use Rattle.algebra.specs.Transform.{image}
use Rattle.stages.specs.Images.{image_of}
use Rattle.stages.specs.Making.{g_image}
use Rattle.stages_make.proofs.MakingLaws.{tripled_is, tripled_residues}
use Rattle.stages_make.proofs.g_image.Goals as goal

pub transform-requires : goal.transform-requires
transform-requires c = (tripled_residues c.args.block.now c.requires.1 c.sample_tripled.ensures, c.requires.2)

pub returns : goal.returns
unfolding g_image image_of
returns c =
    let engine = c.args.engine.now in
    c.transform.ensures ∙ ap (image engine.half (powq generator engine.step)) (tripled_is c.args.block.now c.requires.1 c.sample_tripled.ensures)
