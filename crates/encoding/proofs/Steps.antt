-- The steps of encoding and decoding, on the bits of a block's two halves in one room, are those of the block.
-- Assumes nothing.
use mathlib.Core.List.{List, ◌++◌, map}
use mathlib.Core.Path.{◌≡◌, sym, ap, ◌∙◌}
use Prim.Native.Nat.{ℕ, ◌+◌, ◌*◌, ◌%◌}
use lib.IntN.{pos}
use lib.ListN.{length, get_or, length-map, get_or-map}
use Rattle.lists.specs.Tab.{tab}
use Rattle.residue.specs.Signed.{residue_of}
use Rattle.bits.specs.Listing.{listed, unlisted}
use Rattle.marks.specs.Marks.{of_mark}
use Rattle.small.specs.Sampling.{first_half, second_half, first_bit, second_bit}
use Rattle.lists.proofs.TabLaws.{tab_cong, map_tab}
use Rattle.small.proofs.Halves.{step_is}
use Rattle.encoding.specs.Encoding.{encode_bit, decode_bit, encoded, decoded}

-- what mark i stands for
mark_at : (marks : List ℕ) (i : ℕ) → of_mark (get_or marks i 0) ≡ get_or (map of_mark marks) i (pos 0)
unfolding of_mark
mark_at marks i = sym (get_or-map of_mark marks i 0)

module _ (block : List ℕ) (words : length block % 8 ≡ 0) (halves : List ℕ) (is : halves ≡ listed (first_half block) ++ listed (second_half block)) where
  -- the step on a bit of the message and two of the halves is the encoding
  pub encoded_is : (message bits : List ℕ) (n : ℕ) → n ≡ 4 * length block → n ≡ 8 * length message → bits ≡ listed message
      → tab n (λ i. residue_of (encode_bit (get_or bits i 0) (get_or halves i 0) (get_or halves (n + i) 0))) ≡ map residue_of (encoded message block)
  unfolding encoded
  encoded_is message bits n e k m =
      step_is block words halves is n e (λ i a b. residue_of (encode_bit (get_or bits i 0) a b))
      ∙ ap (λ l. tab n (λ i. residue_of (encode_bit (get_or l i 0) (first_bit block i) (second_bit block i)))) m
      ∙ ap (λ x. tab x (λ i. residue_of (encode_bit (get_or (listed message) i 0) (first_bit block i) (second_bit block i)))) k
      ∙ sym (map_tab residue_of (8 * length message) (λ i. encode_bit (get_or (listed message) i 0) (first_bit block i) (second_bit block i)))

  -- and the step on a mark and two bits, its bits turned back to bytes, is the decoding
  pub decoded_is : (marks bits : List ℕ) (n : ℕ) → n ≡ 4 * length block → n ≡ length marks
      → bits ≡ tab n (λ i. decode_bit (of_mark (get_or marks i 0)) (get_or halves i 0) (get_or halves (n + i) 0)) → unlisted bits ≡ decoded (map of_mark marks) block
  unfolding decoded
  decoded_is marks bits n e k b =
      ap unlisted (b ∙ step_is block words halves is n e (λ i x y. decode_bit (of_mark (get_or marks i 0)) x y)
      ∙ tab_cong n (λ i h. ap (λ c. decode_bit c (first_bit block i) (second_bit block i)) (mark_at marks i))
      ∙ ap (λ m. tab m (λ i. decode_bit (get_or (map of_mark marks) i (pos 0)) (first_bit block i) (second_bit block i))) (k ∙ sym (length-map marks of_mark)))
