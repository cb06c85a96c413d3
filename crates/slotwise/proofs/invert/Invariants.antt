-- In `slotwise::invert` each step computes `invq`: another one in the code is refused for its value.
-- Assumes nothing.
use Rattle.residue.specs.Field.{invq}
use Rattle.slotwise.proofs.invert.Given as goal

abbrev pub ghost-slot_by_slot : goal.ghost-slot_by_slot
ghost-slot_by_slot a = λ x y. invq x
