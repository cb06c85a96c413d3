-- The loop of `bits::list_block`: the block is filled by rows, row l from place l (B/16) on.
-- Assumes nothing.
use Rattle.std.proofs.Common.{◌*◌, length}
use Rattle.lists.proofs.Fill.{Fill}
use Rattle.bits.specs.Bits.{bit_of}
use Rattle.bits.specs.Listing.{comes_from}
use Rattle.bits.proofs.list_block.Given as goal

abbrev pub invariant-loop-l : goal.invariant-loop-l
invariant-loop-l l =
    Fill (λ p. bit_of l.bytes (comes_from (length l.initial.bits) p)) (length l.initial.bits) l.bits (l.l * l.width)
