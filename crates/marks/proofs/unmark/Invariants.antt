-- `marks::unmark` meets its contract: the residues are filled from the left.
-- Assumes nothing.
use Rattle.std.proofs.Common.{length, get_or}
use Rattle.residue.specs.Signed.{residue_of}
use Rattle.lists.proofs.Fill.{Fill}
use Rattle.marks.specs.Marks.{of_mark}
use Rattle.marks.proofs.unmark.Given as goal

abbrev pub invariant-loop-i : goal.invariant-loop-i
invariant-loop-i l = Fill (λ k. residue_of (of_mark (get_or l.marks k 0))) (length l.initial.list) l.list l.i
