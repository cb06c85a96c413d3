-- `slotwise::slot_by_slot` meets its contract: the slots are filled from the left.
-- Assumes nothing.
use Rattle.std.proofs.Common.{length, get_or}
use Rattle.lists.proofs.Fill.{Fill}
use Rattle.slotwise.proofs.slot_by_slot.Given as goal

abbrev pub invariant-loop-i : goal.invariant-loop-i
invariant-loop-i g l = Fill (λ k. g.f (get_or l.a k 0) (get_or l.b k 0)) (length l.initial.out) l.out l.i
