-- What steps on the bits of a block's two halves, one after the other in one room, make of the block.
-- Assumes nothing.
use mathlib.Core.List.{List, ◌++◌, map}
use mathlib.Core.Path.{◌≡◌, sym, ap, ◌∙◌, subst}
use Prim.Native.Nat.{ℕ, ◌+◌, ◌*◌, ◌/◌, ◌%◌, ◌<◌}
use native.Mathlib.Omega.{arith}
use lib.IntN.{pos, ◌-ℤ◌}
use lib.ListN.{length, get_or, length-append, length-drop, get_or-append}
use lib.Seq.{length-take-le, get_or-append-add}
use Rattle.lists.specs.Tab.{tab}
use Rattle.lists.specs.Below.{Below}
use Rattle.residue.specs.Signed.{residue_of}
use Rattle.bits.specs.Listing.{listed}
use Rattle.lists.proofs.TabLaws.{tab_cong, map_tab}
use Rattle.lists.proofs.BelowLaws.{below_append}
use Rattle.bits.proofs.ListingLaws.{length_listed, below_listed}
use Rattle.small.specs.Sampling.{first_half, second_half, first_bit, second_bit, sampled}

module _ (block : List ℕ) (words : length block % 8 ≡ 0) where
  -- n/8 bytes each
  length_first_half : length (first_half block) ≡ length block / 2
  unfolding first_half
  length_first_half = length-take-le (length block / 2) block (omega arith)

  length_second_half : length (second_half block) ≡ length block / 2
  unfolding second_half
  length_second_half = length-drop (length block / 2) block ∙ omega arith

  -- n bits of the first half, and n of the second
  pub length_first_bits : length (listed (first_half block)) ≡ 4 * length block
  length_first_bits = length_listed (first_half block) (omega (arith, length_first_half)) ∙ omega (arith, length_first_half)

  length_second_bits : length (listed (second_half block)) ≡ 4 * length block
  length_second_bits = length_listed (second_half block) (omega (arith, length_second_half)) ∙ omega (arith, length_second_half)

  -- the room that holds both
  module _ (halves : List ℕ) (is : halves ≡ listed (first_half block) ++ listed (second_half block)) where
    -- 2n places, all bits
    pub halves_long : length halves ≡ 8 * length block
    halves_long = ap length is ∙ length-append (listed (first_half block)) (listed (second_half block)) ∙ omega (arith, length_first_bits, length_second_bits)

    pub halves_low : Below 2 halves
    halves_low = subst (Below 2) (sym is) (below_append (listed (first_half block)) (below_listed _) (below_listed _))

    -- its bits i and n + i are bit i of the first half and of the second
    bit_first : (i : ℕ) → i < 4 * length block → get_or halves i 0 ≡ first_bit block i
    unfolding first_bit
    bit_first i h = ap (λ l. get_or l i 0) is ∙ get_or-append (listed (first_half block)) (listed (second_half block)) 0 i (omega (arith, length_first_bits))

    bit_second : (i : ℕ) → get_or halves (4 * length block + i) 0 ≡ second_bit block i
    unfolding second_bit
    bit_second i =
        ap (λ k. get_or halves (k + i) 0) (sym length_first_bits) ∙ ap (λ l. get_or l (length (listed (first_half block)) + i) 0) is
        ∙ get_or-append-add (listed (first_half block)) (listed (second_half block)) i 0

    -- so a step on them is a step on those
    pub step_is : (n : ℕ) → n ≡ 4 * length block → (f : ℕ → ℕ → ℕ → ℕ)
        → tab n (λ i. f i (get_or halves i 0) (get_or halves (n + i) 0)) ≡ tab n (λ i. f i (first_bit block i) (second_bit block i))
    step_is n e f =
        tab_cong n (λ i h. ap (λ a. f i a (get_or halves (n + i) 0)) (bit_first i (omega arith)) ∙ ap (f i (first_bit block i)) (ap (λ k. get_or halves (k + i) 0) e ∙ bit_second i))

    -- and one such step is sampling
    pub sampled_is : (n : ℕ) → n ≡ 4 * length block
        → tab n (λ i. residue_of (pos (get_or halves i 0) -ℤ pos (get_or halves (n + i) 0))) ≡ map residue_of (sampled block)
    unfolding sampled
    sampled_is n e =
        step_is n e (λ i a b. residue_of (pos a -ℤ pos b))
        ∙ ap (λ m. tab m (λ i. residue_of (pos (first_bit block i) -ℤ pos (second_bit block i)))) e
        ∙ sym (map_tab residue_of (4 * length block) (λ i. pos (first_bit block i) -ℤ pos (second_bit block i)))
