-- In `slotwise::minus` each step computes `subq`: another one in the code is refused for its value.
-- Assumes nothing.
use Rattle.residue.specs.Field.{subq}
use Rattle.slotwise.proofs.minus.Given as goal

abbrev pub ghost-slot_by_slot : goal.ghost-slot_by_slot
ghost-slot_by_slot a = subq
