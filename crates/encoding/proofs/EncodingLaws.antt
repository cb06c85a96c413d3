-- Encoded polynomials are small; decoding takes the encoding back, and so encoding is one-to-one.
-- Assumes nothing.
use mathlib.Core.List.{List}
use mathlib.Core.Path.{◌≡◌, refl, sym, ap, ◌∙◌}
use Prim.Native.Nat.{ℕ, ◌*◌, ◌%◌, ◌<◌}
use native.Mathlib.Omega.{arith}
use lib.IntN.{pos}
use lib.ListN.{length, get_or}
use Rattle.lists.specs.Tab.{tab}
use Rattle.lists.specs.Below.{Below}
use Rattle.bits.specs.Listing.{listed, unlisted}
use Rattle.marks.specs.Marks.{Small, Smalls}
use Rattle.small.specs.Sampling.{first_bit, second_bit}
use Rattle.lists.proofs.TabLaws.{length_tab, get_or_tab, tab_of, tab_cong, all_tab}
use Rattle.bits.proofs.ListingLaws.{length_listed, below_listed, unlisted_listed}
use Rattle.small.proofs.BitLaws.{difference_small}
use Rattle.small.proofs.SmallLaws.{first_bit_lt, second_bit_lt}
use Rattle.encoding.specs.Encoding.{encode_bit, decode_bit, encoded, decoded}
use Rattle.encoding.proofs.XorLaws.{xor_lt, decode_bit_encode_bit}

-- n coefficients from a message of n/8 bytes
pub length_encoded : (message block : List ℕ) → length (encoded message block) ≡ 8 * length message
unfolding encoded
length_encoded message block = length_tab (8 * length message) _

-- each of which is -1, 0 or 1
pub smalls_encoded : (message block : List ℕ) → Smalls (encoded message block)
unfolding encoded encode_bit
smalls_encoded message block =
    record { small = all_tab Small (pos 0) (difference_small 0 0 (omega arith) (omega arith)) _ _ (λ i. difference_small _ _ (xor_lt _ _) (second_bit_lt block i)) }

-- ---- decoding what was encoded with the same block

module _ (message block : List ℕ) (words : length message % 4 ≡ 0) where
  -- bit by bit
  bit_back : (i : ℕ) → i < 8 * length message
      → decode_bit (get_or (encoded message block) i (pos 0)) (first_bit block i) (second_bit block i) ≡ get_or (listed message) i 0
  unfolding encoded
  bit_back i h =
      ap (λ c. decode_bit c (first_bit block i) (second_bit block i)) (get_or_tab (8 * length message) _ i (pos 0) h)
      ∙ decode_bit_encode_bit (get_or (listed message) i 0) (first_bit block i) (second_bit block i) ((below_listed message).low i) (first_bit_lt block i) (second_bit_lt block i)

  -- the message comes back, whatever the block
  pub decoded_encoded : Below 256 message → decoded (encoded message block) block ≡ message
  unfolding decoded
  decoded_encoded bytes =
      ap unlisted (ap (λ n. tab n (λ i. decode_bit (get_or (encoded message block) i (pos 0)) (first_bit block i) (second_bit block i))) (length_encoded message block)
      ∙ tab_cong (8 * length message) bit_back
      ∙ sym (tab_of 0 (8 * length message) (λ i. get_or (listed message) i 0) (listed message) (length_listed message words) (λ i h. refl)))
      ∙ unlisted_listed message words bytes

-- two messages that one block encodes alike are the same
pub encoded_injective : (a b block : List ℕ) → length a % 4 ≡ 0 → length b % 4 ≡ 0 → Below 256 a → Below 256 b → encoded a block ≡ encoded b block → a ≡ b
encoded_injective a b block wa wb ba bb e =
    sym (decoded_encoded a block wa ba) ∙ ap (λ c. decoded c block) e ∙ decoded_encoded b block wb bb
