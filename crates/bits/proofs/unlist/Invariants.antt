-- The loop of `bits::unlist`: block by block, each written after those before it.
-- Assumes nothing.
use Rattle.std.proofs.Common.{◌-◌, ◌/◌, length}
use Rattle.bits.specs.Listing.{unlisted_block, unlisted}
use Rattle.bits.proofs.Blockwise.{Progress}
use Rattle.bits.proofs.unlist.Given as goal

abbrev pub invariant-loop-at : goal.invariant-loop-at
invariant-loop-at l = Progress unlisted_block (λ B. B) (unlisted l.bits) l.bits l.n (length l.initial.bytes) l.at l.at (l.at / 8) l.bytes

abbrev pub decreases-loop-at : goal.decreases-loop-at
decreases-loop-at l = l.n - l.at
