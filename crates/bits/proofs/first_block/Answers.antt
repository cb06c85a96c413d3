-- `bits::first_block` meets its contract: the first of the four lengths that the bits hold, by one law for all four.
-- Assumes nothing.
use Rattle.std.proofs.Common.{◌∷◌, [], refl, arith}
use Rattle.bits.specs.Blocks.{block_lengths, blocks}
use Rattle.bits.proofs.Blocks.{Short, first_fits}
use Rattle.bits.proofs.first_block.Goals as goal

pub returns-in-256-to-max : goal.returns-in-256-to-max
unfolding blocks block_lengths Short
returns-in-256-to-max c = first_fits [] 256 _ _ tt (omega arith) (omega arith) refl

pub returns-in-128-to-max : goal.returns-in-128-to-max
unfolding blocks block_lengths Short
returns-in-128-to-max c = first_fits (256 ∷ []) 128 _ _ (omega arith, tt) (omega arith) (omega arith) refl

pub returns-in-64-to-max : goal.returns-in-64-to-max
unfolding blocks block_lengths Short
returns-in-64-to-max c = first_fits (256 ∷ 128 ∷ []) 64 _ _ (omega arith, (omega arith, tt)) (omega arith) (omega arith) refl

pub returns-in_default : goal.returns-in_default
unfolding blocks block_lengths Short
returns-in_default c = first_fits (256 ∷ 128 ∷ 64 ∷ []) 32 _ _ (omega arith, (omega arith, (omega arith, tt))) (omega arith) (omega arith) refl
