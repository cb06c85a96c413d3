-- `f_image` meets its contract: what is sampled is tripled, 1 is added, and the sum is transformed.
-- Assumes nothing.
use mathlib.Core.Path.{ap, ◌∙◌}
use Rattle.residue.specs.Field.{generator, powq}
use Rattle.algebra.specs.Transform.{image}
use Rattle.stages.specs.Images.{image_of}
use Rattle.stages.specs.Making.{f_image}
use Rattle.stages_make.proofs.MakingLaws.{some_numbers, tripled_residues, first_plus_one, plus_one_residues}
use Rattle.stages_make.proofs.f_image.Goals as goal

pub invariant_of-add : goal.invariant_of-add
invariant_of-add c =
    let engine = c.args.engine.now in
    record { below = (tripled_residues c.args.block.now c.requires.1 c.sample_tripled.ensures).low 0 (some_numbers engine.ready) }

pub transform-requires : goal.transform-requires
transform-requires c =
    let engine = c.args.engine.now in
    (plus_one_residues c.args.block.now c.requires.1 c.sample_tripled.ensures (some_numbers engine.ready) c.add.ensures, c.requires.2)

pub returns : goal.returns
unfolding f_image image_of
returns c =
    let engine = c.args.engine.now in
    c.transform.ensures
    ∙ ap (image engine.half (powq generator engine.step)) (first_plus_one c.args.block.now c.requires.1 c.sample_tripled.ensures (some_numbers engine.ready) c.add.ensures)
