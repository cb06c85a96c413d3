-- `encoded_image` meets its contract: what is encoded is transformed.
-- Assumes nothing.
use mathlib.Core.Path.{sym, ap, ◌∙◌, subst}
use Prim.Native.Nat.{◌+◌}
use native.Mathlib.Omega.{arith}
use Rattle.residue.specs.Field.{generator, powq}
use Rattle.residue.specs.Residues.{Residues}
use Rattle.algebra.specs.Transform.{image}
use Rattle.stages.specs.Images.{image_of}
use Rattle.stages.proofs.ImageLaws.{encoded_residues}
use Rattle.stages.proofs.images.encoded_image.Goals as goal

pub transform-requires : goal.transform-requires
transform-requires c =
    let h = c.args.engine.now.half in
    (subst (Residues (h + h)) (sym c.encode.ensures) (encoded_residues c.args.message.now c.args.block.now (omega (arith, c.requires))), c.requires.3)

pub returns : goal.returns
unfolding image_of
returns c = c.transform.ensures ∙ ap (image c.args.engine.now.half (powq generator c.args.engine.now.step)) c.encode.ensures
