-- `r_image` meets its contract: what follows the key bytes is sampled.
-- Assumes nothing.
use mathlib.Core.Path.{ap, ◌∙◌}
use borrow.Author.Rules.{part_to_end}
use Rattle.residue.specs.Field.{generator, powq}
use Rattle.small.specs.Sampling.{sampled}
use Rattle.stages.specs.Images.{image_of}
use Rattle.stages.specs.Sealing.{small_r, r_image}
use Rattle.stages_seal.proofs.r_image.Goals as goal

pub returns : goal.returns
unfolding r_image small_r
returns c =
    let engine = c.args.engine.now in
    c.sampled_image.ensures
    ∙ ap (λ l. image_of engine.half (powq generator engine.step) (sampled l)) (part_to_end c.args.hblock.now 32)
