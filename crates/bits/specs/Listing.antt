-- The listing, n/8 bytes to n bits, and its reverse: in a block by the place where each bit goes.
-- Assumes nothing: these are definitions.
use Rattle.std.specs.Prelude.{List, ℕ, ◌+◌, ◌*◌, ◌/◌, ◌%◌, length, get_or}
use Rattle.lists.specs.Tab.{tab}
use Rattle.bits.specs.Bits.{number, bit_of}
use Rattle.bits.specs.Blocks.{blocks, blockwise}

-- "In a block of B bits that starts at bit s, .. bit 16k + l of word j (k in 0..1, l in 0..15) goes to place s + (B/16)l + 2j + k."
unfoldable pub place : ℕ → ℕ → ℕ → ℕ → ℕ → ℕ
place s B j k l = s + B / 16 * l + 2 * j + k

-- so bit t = 32j + 16k + l of the block, counted from its start, goes there
unfoldable pub goes_to : ℕ → ℕ → ℕ
goes_to B t = place 0 B (t / 32) (t / 16 % 2) (t % 16)

-- and what comes to place p = (B/16)l + (2j + k) is bit l of its 16-bit half word 2j + k
unfoldable pub comes_from : ℕ → ℕ → ℕ
comes_from B p = 16 * (p % (B / 16)) + p / (B / 16)

-- one block: B/8 bytes to B bits, and back
unfoldable pub listed_block : ℕ → List ℕ → List ℕ
listed_block B bs = tab B (λ p. bit_of bs (comes_from B p))

unfoldable pub unlisted_block : ℕ → List ℕ → List ℕ
unlisted_block B v = tab (B / 8) (λ i. number 8 (λ b. get_or v (goes_to B (8 * i + b)) 0))

-- "The source's bit listing turns n/8 bytes into n bits", block by block, and its reverse turns them back.
unfoldable pub listed : List ℕ → List ℕ
listed bs = blockwise listed_block (λ B. B / 8) (blocks (8 * length bs)) bs

unfoldable pub unlisted : List ℕ → List ℕ
unlisted v = blockwise unlisted_block (λ B. B) (blocks (length v)) v
