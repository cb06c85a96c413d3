-- The listing and its reverse undo each other on whole words; their lengths, bits and bytes.
-- Assumes nothing.
use mathlib.Core.Path.{◌≡◌, sym, ap, ◌∙◌}
use mathlib.Core.List.{List}
use Prim.Native.Nat.{ℕ, ◌*◌, ◌/◌, ◌%◌}
use native.Mathlib.Omega.{arith}
use lib.ListN.{length}
use Rattle.lists.specs.Below.{Below}
use Rattle.bits.specs.Blocks.{blocks, blockwise}
use Rattle.bits.specs.Listing.{listed_block, unlisted_block, listed, unlisted}
use Rattle.bits.proofs.Blocks.{total, blocks_words, blocks_total, total_bytes}
use Rattle.bits.proofs.Blockwise.{length_blockwise, blockwise_undo, below_blockwise}
use Rattle.bits.proofs.BlockLaws.{length_listed_block, length_unlisted_block, below_listed_block, unlisted_block_listed_block, listed_block_unlisted_block}

-- the blocks of n bits take n/8 bytes
bytes_total : (n : ℕ) → n % 32 ≡ 0 → total (λ B. B / 8) (blocks n) ≡ n / 8
bytes_total n w = omega (arith, total_bytes (blocks n) (blocks_words n), blocks_total n w)

module _ (bs : List ℕ) (words : length bs % 4 ≡ 0) where
  -- n/8 bytes give n bits
  pub length_listed : length (listed bs) ≡ 8 * length bs
  unfolding listed
  length_listed =
      length_blockwise listed_block (λ B. B / 8) (λ B. B) length_listed_block (blocks (8 * length bs)) bs ∙ blocks_total (8 * length bs) (omega arith)

  -- bytes to bits and back
  pub unlisted_listed : Below 256 bs → unlisted (listed bs) ≡ bs
  unfolding unlisted listed
  unlisted_listed bytes =
      ap (λ n. blockwise unlisted_block (λ B. B) (blocks n) (listed bs)) length_listed
      ∙ blockwise_undo listed_block (λ B. B / 8) (λ B. B) length_listed_block unlisted_block 256 unlisted_block_listed_block
      (blocks (8 * length bs)) (blocks_words (8 * length bs)) bs (omega (arith, bytes_total (8 * length bs) (omega arith))) bytes

-- they are bits
pub below_listed : (bs : List ℕ) → Below 2 (listed bs)
unfolding listed
below_listed bs = below_blockwise listed_block (λ B. B / 8) 2 (omega arith) below_listed_block (blocks (8 * length bs)) bs

module _ (v : List ℕ) (words : length v % 32 ≡ 0) where
  -- n bits give n/8 bytes
  pub length_unlisted : length (unlisted v) ≡ length v / 8
  unfolding unlisted
  length_unlisted =
      length_blockwise unlisted_block (λ B. B) (λ B. B / 8) length_unlisted_block (blocks (length v)) v ∙ bytes_total (length v) words

  -- bits to bytes and back
  pub listed_unlisted : Below 2 v → listed (unlisted v) ≡ v
  unfolding unlisted listed
  listed_unlisted bits =
      ap (λ n. blockwise listed_block (λ B. B / 8) (blocks n) (unlisted v)) (ap (λ k. 8 * k) length_unlisted ∙ omega arith)
      ∙ blockwise_undo unlisted_block (λ B. B) (λ B. B / 8) length_unlisted_block listed_block 2 listed_block_unlisted_block
      (blocks (length v)) (blocks_words (length v)) v (sym (blocks_total (length v) words)) bits
