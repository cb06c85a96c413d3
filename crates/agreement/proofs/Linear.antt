-- The image in a ring keeps sums and multiples, and the image of 1 is 1 in every slot: by the sums that its slots are.
-- Assumes nothing.
use mathlib.Core.Path.{◌≡◌, sym, ◌∙◌}
use Prim.Native.Nat.{ℕ, ◌+◌, ◌<◌}
use native.Mathlib.Omega.{arith}
use Rattle.algebra.proofs.Ring.{Ring, add_mul, mul_assoc, nil_mul, one_mul, pow_zero}
use Rattle.algebra.proofs.Sum.{sum_cong, sum_add, sum_mul, sum_single}
use Rattle.algebra.proofs.Value.{value_in}
use Rattle.algebra.proofs.Image.{image_in}
use Rattle.algebra.proofs.Monomials.{single, single_on, single_off}

module _ (R : Ring) (h : ℕ) (w : R.num.C) where
  open R use {num, one as 𝟙}
  open R.num use {C, add as ◌⊕◌, mul as ◌⊗◌}

  infixl 60 ◌⊕◌
  infixl 70 ◌⊗◌
  -- the image of a sum is the sum of the images
  pub image_add : (a b : ℕ → C) (k : ℕ) → image_in R h w (λ i. a i ⊕ b i) k ≡ image_in R h w a k ⊕ image_in R h w b k
  unfolding image_in value_in
  image_add a b k = sum_cong num (h + h) (λ i _. add_mul R (a i) (b i) _) ∙ sum_add R (h + h) _ _

  -- the image of a multiple is the multiple of the image
  pub image_scale : (t : C) (a : ℕ → C) (k : ℕ) → image_in R h w (λ i. t ⊗ a i) k ≡ t ⊗ image_in R h w a k
  unfolding image_in value_in
  image_scale t a k = sum_cong num (h + h) (λ i _. mul_assoc R t (a i) _) ∙ sym (sum_mul R (h + h) t _)

  -- the image of x^0 is 1 in every slot
  pub image_one : 0 < h → (k : ℕ) → image_in R h w (single R 0) k ≡ 𝟙
  unfolding image_in value_in
  image_one p k =
      sum_single R (h + h) 0 _ (omega arith) (λ i _ ne. rw (single_off R 0 i ne, nil_mul)) ∙ rw (single_on R 0, one_mul, pow_zero)
