-- The loop of `bits::list_row`: the row is filled from the left.
-- Assumes nothing.
use Rattle.std.proofs.Common.{◌+◌, ◌*◌, length}
use Rattle.lists.proofs.Fill.{Fill}
use Rattle.bits.specs.Bits.{bit_of}
use Rattle.bits.proofs.list_row.Given as goal

abbrev pub invariant-loop-u : goal.invariant-loop-u
invariant-loop-u l = Fill (λ k. bit_of l.bytes (16 * k + l.l)) (length l.initial.row) l.row l.u
