-- In `slotwise::times` each step computes `mulq`: another one in the code is refused for its value.
-- Assumes nothing.
use Rattle.residue.specs.Field.{mulq}
use Rattle.slotwise.proofs.times.Given as goal

abbrev pub ghost-slot_by_slot : goal.ghost-slot_by_slot
ghost-slot_by_slot a = mulq
