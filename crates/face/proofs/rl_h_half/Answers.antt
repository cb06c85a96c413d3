-- `rl_h_half` keeps its promise: the second part of the key begins at its own length.
-- Assumes nothing.
use mathlib.Core.Path.{ap, ◌∙◌}
use lib.ListN.{length}
use Rattle.calls_halves.specs.Halves.{further}
use Rattle.face.proofs.Parts.{second_start, second_part}
use Rattle.face.proofs.rl_h_half.Goals as goal

pub returns : goal.returns
returns c =
    let half = c.h_half-part.ensures in
    let found = second_part _ _ _ half.content in
    let start = ap (further c.args.key.ref_ptr) (second_start _ _ _ half.content) in
    record { kept = record { content = found ∙ half.content; lent = start }; within = ap length found }
