-- `triple` meets its contract: a turn triples one more coefficient.
-- Assumes nothing.
use Rattle.std.proofs.Common.{arith}
use Rattle.std.proofs.lemmas.Grind.{common_steps}
use Rattle.std.proofs.lemmas.List.Edits.{map_over_more}
use Rattle.residue.specs.Field.{mulq}
use Rattle.stages_make.proofs.triple.Goals as goal

pub loop-x-preserved : goal.loop-x-preserved
loop-x-preserved c = grind (arith, common_steps, map_over_more (mulq 3))
