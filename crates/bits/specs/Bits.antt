-- The bits of numbers and of runs of bytes.
-- Assumes nothing: these are definitions.
use Rattle.std.specs.Prelude.{List, ℕ, zero, suc, ◌+◌, ◌*◌, ◌/◌, ◌%◌, ◌^◌, get_or}

-- bit i of a number
unfoldable pub bit : ℕ → ℕ → ℕ
bit x i = x / 2 ^ i % 2

-- the number whose w bits are f 0, f 1, .., the lowest first
unfoldable pub number : ℕ → (ℕ → ℕ) → ℕ
number zero f = 0
number (suc w) f = f 0 + 2 * number w (λ i. f (suc i))

-- the m bytes from place k on as one number, little-endian: the lowest byte first
unfoldable pub little_endian : ℕ → List ℕ → ℕ → ℕ
little_endian zero bs k = 0
little_endian (suc m) bs k = get_or bs k 0 + 256 * little_endian m bs (suc k)

-- "the bytes form little-endian 32-bit words": word j
unfoldable pub word : List ℕ → ℕ → ℕ
word bs j = little_endian 4 bs (4 * j)

-- bit t of a run of bytes is bit t mod 32 of its word t div 32
unfoldable pub bit_of : List ℕ → ℕ → ℕ
bit_of bs t = bit (word bs (t / 32)) (t % 32)
