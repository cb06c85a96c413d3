-- Sampled polynomials are small.
-- Assumes nothing.
use mathlib.Core.List.{List}
use mathlib.Core.Path.{◌≡◌}
use Prim.Native.Nat.{ℕ, ◌*◌, ◌<◌}
use native.Mathlib.Omega.{arith}
use lib.IntN.{pos}
use lib.ListN.{length}
use Rattle.marks.specs.Marks.{Small, Smalls}
use Rattle.lists.proofs.TabLaws.{length_tab, all_tab}
use Rattle.bits.proofs.ListingLaws.{below_listed}
use Rattle.small.specs.Sampling.{first_bit, second_bit, sampled}
use Rattle.small.proofs.BitLaws.{difference_small}

-- each bit of a block is 0 or 1
pub first_bit_lt : (block : List ℕ) (i : ℕ) → first_bit block i < 2
unfolding first_bit
first_bit_lt block i = (below_listed _).low i

pub second_bit_lt : (block : List ℕ) (i : ℕ) → second_bit block i < 2
unfolding second_bit
second_bit_lt block i = (below_listed _).low i

-- n coefficients from n/4 bytes
pub length_sampled : (block : List ℕ) → length (sampled block) ≡ 4 * length block
unfolding sampled
length_sampled block = length_tab (4 * length block) _

-- each of which is -1, 0 or 1
pub smalls_sampled : (block : List ℕ) → Smalls (sampled block)
unfolding sampled
smalls_sampled block =
    record { small = all_tab Small (pos 0) (difference_small 0 0 (omega arith) (omega arith)) _ _ (λ i. difference_small _ _ (first_bit_lt block i) (second_bit_lt block i)) }
