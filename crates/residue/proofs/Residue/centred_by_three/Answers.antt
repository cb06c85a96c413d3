-- `residue::Residue::centred_by_three` meets its contract: each call's whole number is read back from its bits.
-- Assumes nothing.
use Rattle.std.proofs.Common.{ap, ◌∙◌}
use Rattle.residue.specs.Signed.{by_three, centred_by_three}
use Rattle.residue.proofs.Machine.{back}
use Rattle.residue.proofs.Residue.centred_by_three.Goals as goal

pub returns : goal.returns
unfolding centred_by_three
returns c =
    let first = c.centred in
    let second = c.by_three in
    back second.result second.type_inv ∙ second.ensures ∙ ap by_three (back first.result first.type_inv ∙ first.ensures)
