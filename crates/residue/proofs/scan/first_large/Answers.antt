-- `residue::scan::first_large` meets its contract: where not even the largest number is too large, none is.
-- Assumes nothing.
use Rattle.std.proofs.Common.{◌≡◌, length, sym, ◌∙◌, arith}
use Rattle.lists.proofs.FirstLaws.{position_nowhere}
use Rattle.residue.specs.Large.{too_large, first_large}
use Rattle.residue.proofs.LargeLaws.{none_above}
use Rattle.residue.proofs.scan.first_large.Goals as goal

pub returns-else-too_large : goal.returns-else-too_large
unfolding first_large
returns-else-too_large c =
    let list = c.args.list.now in
    let none : first_large list ≡ length list = none_above c.largest.result list c.largest.ensures (sym c.too_large.ensures ∙ c.if-too_large.false) in
    sym (position_nowhere too_large list (omega (arith, none)))
