-- `bits::list_row` meets its contract: the row is filled from the left.
-- Assumes nothing.
use Rattle.lists.proofs.Fill.{fill_end}
use Rattle.bits.proofs.list_row.Goals as goal

pub returns : goal.returns
returns c = fill_end c.loop-u.invariant c.loop-u-test.false
