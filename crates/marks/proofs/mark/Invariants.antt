-- `marks::mark` meets its contract: the marks are filled from the left.
-- Assumes nothing.
use Rattle.std.proofs.Common.{length, get_or}
use Rattle.residue.specs.Signed.{centred_by_three}
use Rattle.lists.proofs.Fill.{Fill}
use Rattle.marks.specs.Marks.{mark_of}
use Rattle.marks.proofs.mark.Given as goal

abbrev pub invariant-loop-i : goal.invariant-loop-i
invariant-loop-i l = Fill (λ k. mark_of (centred_by_three (get_or l.list k 0))) (length l.initial.marks) l.marks l.i
