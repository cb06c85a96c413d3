-- `slotwise::slot_by_slot` meets its contract: the slots are filled from the left.
-- Assumes nothing.
use Rattle.std.proofs.Common.{arith}
use Rattle.lists.proofs.Fill.{fill_end}
use Rattle.slotwise.proofs.slot_by_slot.Goals as goal

pub returns : goal.returns
returns g c = fill_end c.loop-i.invariant (omega arith)
