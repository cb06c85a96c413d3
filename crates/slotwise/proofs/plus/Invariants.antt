-- In `slotwise::plus` each step computes `addq`: another one in the code is refused for its value.
-- Assumes nothing.
use Rattle.residue.specs.Field.{addq}
use Rattle.slotwise.proofs.plus.Given as goal

abbrev pub ghost-slot_by_slot : goal.ghost-slot_by_slot
ghost-slot_by_slot a = addq
