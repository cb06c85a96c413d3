-- The loop of `bits::unlist_block`: the bytes are filled two by two, one half word a turn.
-- Assumes nothing.
use Rattle.std.proofs.Common.{◌+◌, ◌*◌, length, get_or}
use Rattle.lists.proofs.Fill.{Fill}
use Rattle.bits.specs.Bits.{number}
use Rattle.bits.specs.Listing.{goes_to}
use Rattle.bits.proofs.unlist_block.Given as goal

abbrev pub invariant-loop-u : goal.invariant-loop-u
invariant-loop-u l = Fill (λ i. number 8 (λ b. get_or l.bits (goes_to (length l.bits) (8 * i + b)) 0)) (length l.initial.bytes) l.bytes (2 * l.u)
