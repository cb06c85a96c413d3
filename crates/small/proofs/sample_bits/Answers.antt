-- `small::sample_bits` meets its contract: the coefficients are filled from the left.
-- Assumes nothing.
use Rattle.lists.proofs.Fill.{fill_end}
use Rattle.small.proofs.sample_bits.Goals as goal

pub returns : goal.returns
returns c = fill_end c.loop-i.invariant c.loop-i-test.false
