-- Encoding a message as a small polynomial, and decoding. A coefficient is a whole number.
-- Assumes nothing: these are definitions.
use Rattle.std.specs.Prelude.{cond, List, ℕ, ◌*◌, ◌%◌, eqb, ℤ, pos, nat_abs, ◌+ℤ◌, ◌-ℤ◌, length, get_or}
use Rattle.lists.specs.Tab.{tab}
use Rattle.bits.specs.Listing.{listed, unlisted}
use Rattle.small.specs.Sampling.{first_bit, second_bit}

-- exclusive or of two bits: 1 where the one is 1 or the other, and not both
unfoldable pub xor : ℕ → ℕ → ℕ
xor a b = cond (eqb a b) 0 1

-- "coefficient i is (message bit XOR first-half bit) - second-half bit"
unfoldable pub encode_bit : ℕ → ℕ → ℕ → ℤ
encode_bit m a b = pos (xor m a) -ℤ pos b

-- "Encoding .. takes a message of n/8 bytes and n/4 bytes, the message and each half through the listing by themselves"
unfoldable pub encoded : List ℕ → List ℕ → List ℤ
encoded message block = tab (8 * length message) (λ i. encode_bit (get_or (listed message) i 0) (first_bit block i) (second_bit block i))

-- "Decoding .. gives message bit i = ((coefficient + second-half bit) mod 2, as 0 or 1) XOR first-half bit"
unfoldable pub decode_bit : ℤ → ℕ → ℕ → ℕ
decode_bit c a b = xor (nat_abs (c +ℤ pos b) % 2) a

-- "and turns bits back to bytes by the reverse of the listing."
unfoldable pub decoded : List ℤ → List ℕ → List ℕ
decoded coefficients block =
    unlisted (tab (length coefficients) (λ i. decode_bit (get_or coefficients i (pos 0)) (first_bit block i) (second_bit block i)))
