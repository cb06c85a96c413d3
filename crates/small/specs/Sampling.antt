-- Sampling: a small polynomial from n/4 bytes. A coefficient is a whole number.
-- Assumes nothing: these are definitions.
use Rattle.std.specs.Prelude.{List, ℕ, ◌*◌, ◌/◌, ℤ, pos, ◌-ℤ◌, length, get_or, take, drop}
use Rattle.lists.specs.Tab.{tab}
use Rattle.bits.specs.Listing.{listed}

-- the two halves of a block
unfoldable pub first_half : List ℕ → List ℕ
first_half block = take (length block / 2) block

unfoldable pub second_half : List ℕ → List ℕ
second_half block = drop (length block / 2) block

-- "Each half of n/8 bytes goes through the listing by itself": bit i of the first half, and of the second
unfoldable pub first_bit : List ℕ → ℕ → ℕ
first_bit block i = get_or (listed (first_half block)) i 0

unfoldable pub second_bit : List ℕ → ℕ → ℕ
second_bit block i = get_or (listed (second_half block)) i 0

-- "Sampling .. takes n/4 bytes. .. coefficient i is (bit i of the first half) - (bit i of the second)."
unfoldable pub sampled : List ℕ → List ℤ
sampled block = tab (4 * length block) (λ i. pos (first_bit block i) -ℤ pos (second_bit block i))
