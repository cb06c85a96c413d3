-- `sampled_image` meets its contract: what is sampled is transformed.
-- Assumes nothing.
use mathlib.Core.Path.{sym, ap, ◌∙◌, subst}
use Prim.Native.Nat.{◌+◌}
use Rattle.residue.specs.Field.{generator, powq}
use Rattle.residue.specs.Residues.{Residues}
use Rattle.algebra.specs.Transform.{image}
use Rattle.stages.specs.Images.{image_of}
use Rattle.stages.proofs.ImageLaws.{sampled_residues}
use Rattle.stages.proofs.images.sampled_image.Goals as goal

pub transform-requires : goal.transform-requires
transform-requires c =
    let h = c.args.engine.now.half in
    (subst (Residues (h + h)) (sym c.sample.ensures) (sampled_residues c.args.block.now c.requires.1), c.requires.2)

pub returns : goal.returns
unfolding image_of
returns c = c.transform.ensures ∙ ap (image c.args.engine.now.half (powq generator c.args.engine.now.step)) c.sample.ensures
