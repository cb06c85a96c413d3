-- The loop of `bits::list`: block by block, each written after those before it.
-- Assumes nothing.
use Rattle.std.proofs.Common.{◌-◌, ◌/◌}
use Rattle.bits.specs.Listing.{listed_block, listed}
use Rattle.bits.proofs.Blockwise.{Progress}
use Rattle.bits.proofs.list.Given as goal

abbrev pub invariant-loop-at : goal.invariant-loop-at
invariant-loop-at l = Progress listed_block (λ B. B / 8) (listed l.bytes) l.bytes l.n l.n l.at (l.at / 8) l.at l.bits

abbrev pub decreases-loop-at : goal.decreases-loop-at
decreases-loop-at l = l.n - l.at
