-- `pair_images` meets its contract: f from the first half of the seed block, g from the second.
-- Assumes nothing.
use mathlib.Core.Path.{ap, ◌∙◌}
use Prim.Native.Nat.{◌/◌}
use lib.ListN.{length}
use borrow.Author.Rules.{part_to_end}
use Rattle.residue.specs.Field.{generator, powq}
use Rattle.small.specs.Sampling.{first_half, second_half, sampled}
use Rattle.stages.specs.Making.{small_f, small_g, g_image}
use Rattle.stages_make.proofs.pair_images.Goals as goal

pub returns-clause-f_after : goal.returns-clause-f_after
unfolding small_f first_half
returns-clause-f_after c = c.f_image.ensures

pub returns-clause-g_after : goal.returns-clause-g_after
unfolding small_g second_half
returns-clause-g_after c =
    let seed = c.args.seed.now in
    let engine = c.args.engine.now in
    c.g_image.ensures ∙ ap (λ l. g_image engine.half (powq generator engine.step) (sampled l)) (part_to_end seed (length seed / 2))
