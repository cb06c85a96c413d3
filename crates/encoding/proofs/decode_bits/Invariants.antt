-- `encoding::decode_bits` meets its contract: the bits are filled from the left.
-- Assumes nothing.
use Prim.Native.Nat.{◌+◌}
use lib.ListN.{get_or}
use Rattle.marks.specs.Marks.{of_mark}
use Rattle.lists.proofs.Fill.{Fill}
use Rattle.encoding.specs.Encoding.{decode_bit}
use Rattle.encoding.proofs.decode_bits.Given as goal

abbrev pub invariant-loop-i : goal.invariant-loop-i
invariant-loop-i l = Fill (λ k. decode_bit (of_mark (get_or l.marks k 0)) (get_or l.halves k 0) (get_or l.halves (l.n + k) 0)) l.n l.bits l.i
