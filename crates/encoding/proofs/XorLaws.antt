-- The laws of encoding and decoding a single bit, each by trying all bits.
-- Assumes nothing.
use mathlib.Core.Path.{◌≡◌, refl}
use Prim.Native.Nat.{ℕ, zero, suc, ◌+◌, ◌/◌, ◌%◌, ◌<◌}
use native.Mathlib.Omega.{arith}
use lib.Bits.{bit_xor}
use lib.Dec.{eqb}
use lib.IntN.{ℤ}
use Rattle.marks.specs.Marks.{of_mark}
use Rattle.lists.proofs.TabLaws.{cond_both}
use Rattle.small.proofs.BitLaws.{bit, bits}
use Rattle.encoding.specs.Encoding.{xor, encode_bit, decode_bit}

-- exclusive or is the machine's, and the sum modulo 2
pub bit_xor_xor : (a b : ℕ) → a < 2 → b < 2 → bit_xor a b ≡ xor a b
unfolding xor
bit_xor_xor = bits (λ a b. bit_xor a b ≡ xor a b) refl refl refl refl

pub xor_sum : (a b : ℕ) → a < 2 → b < 2 → xor a b ≡ (a + b) % 2
unfolding xor
xor_sum = bits (λ a b. xor a b ≡ (a + b) % 2) refl refl refl refl

-- it is a bit
pub xor_lt : (a b : ℕ) → xor a b < 2
unfolding xor
xor_lt a b = cond_both (λ x. x < 2) (eqb a b) (omega arith) (omega arith)

-- the parity of a mark's value: odd for 1 and 2
pub decode_bit_mark : (m a b : ℕ) → m < 3 → a < 2 → b < 2 → bit_xor ((m + m / 2 + b) % 2) a ≡ decode_bit (of_mark m) a b
unfolding decode_bit of_mark xor
decode_bit_mark zero a b h = bits (λ a b. bit_xor ((0 + b) % 2) a ≡ decode_bit (of_mark 0) a b) refl refl refl refl a b
decode_bit_mark (suc zero) a b h = bits (λ a b. bit_xor ((1 + b) % 2) a ≡ decode_bit (of_mark 1) a b) refl refl refl refl a b
decode_bit_mark (suc (suc zero)) a b h = bits (λ a b. bit_xor ((3 + b) % 2) a ≡ decode_bit (of_mark 2) a b) refl refl refl refl a b
decode_bit_mark (suc (suc (suc m))) a b h = absurd (omega arith)

-- what is decoded is a bit
pub decode_bit_lt : (c : ℤ) (a b : ℕ) → decode_bit c a b < 2
unfolding decode_bit
decode_bit_lt c a b = xor_lt _ a

-- decoding takes the encoding back
pub decode_bit_encode_bit : (m a b : ℕ) → m < 2 → a < 2 → b < 2 → decode_bit (encode_bit m a b) a b ≡ m
unfolding xor encode_bit decode_bit
decode_bit_encode_bit m a b hm ha hb =
    bit (λ m. decode_bit (encode_bit m a b) a b ≡ m)
    (bits (λ a b. decode_bit (encode_bit 0 a b) a b ≡ 0) refl refl refl refl a b ha hb)
    (bits (λ a b. decode_bit (encode_bit 1 a b) a b ≡ 1) refl refl refl refl a b ha hb)
    m hm
