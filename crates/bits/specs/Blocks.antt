-- The cutting of a run of bits into blocks, and a step done block by block.
-- Assumes nothing: these are definitions.
use Rattle.std.specs.Prelude.{List, [], ◌∷◌, ◌++◌, ℕ, ◌/◌, ◌%◌, take, drop, replicate}

-- as many blocks of the first length as n bits hold, then of the next length in the bits left, and so on
unfoldable pub cut : List ℕ → ℕ → List ℕ
cut [] n = []
cut (B ∷ Bs) n = replicate (n / B) B ++ cut Bs (n % B)

-- "The bytes are cut into blocks of 256 bits while they last, then at most one block each of 128, 64 and 32."
unfoldable pub block_lengths : List ℕ
block_lengths = 256 ∷ 128 ∷ 64 ∷ 32 ∷ []

unfoldable pub blocks : ℕ → List ℕ
blocks n = cut block_lengths n

-- a step done block by block, where a block of B bits takes `takes B` elements
unfoldable pub blockwise : (ℕ → List ℕ → List ℕ) → (ℕ → ℕ) → List ℕ → List ℕ → List ℕ
blockwise step takes [] xs = []
blockwise step takes (B ∷ Bs) xs = step B (take (takes B) xs) ++ blockwise step takes Bs (drop (takes B) xs)
