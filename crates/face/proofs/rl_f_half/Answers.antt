-- `rl_f_half` keeps its promise: the first part of the key begins at 0.
-- Assumes nothing.
use mathlib.Core.Path.{ap, ◌∙◌}
use lib.ListN.{length}
use Rattle.face.proofs.Parts.{no_further, first_part}
use Rattle.face.proofs.rl_f_half.Goals as goal

pub returns : goal.returns
returns c =
    let half = c.f_half-part.ensures in
    let found = first_part _ _ _ half.content in
    record { kept = record { content = found ∙ half.content; lent = no_further _ }; within = ap length found }
