-- In `slotwise::same` what is kept is whether the places read agree.
-- Assumes nothing.
use Rattle.std.proofs.Common.{◌≡◌, length}
use Rattle.lists.specs.Every.{agree}
use Rattle.slotwise.proofs.same.Given as goal

abbrev pub invariant-loop-x : goal.invariant-loop-x
invariant-loop-x l = l.same ≡ agree (length l.yielded) l.a l.b
