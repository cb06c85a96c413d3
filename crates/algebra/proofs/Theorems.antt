-- The theorems on lists, once over n = 2h: the image of a product, reverse and image undo one another, the product by the images,
-- the image is one-to-one, and the product over whole numbers reduces to the product of the residues. Assumes nothing.
use mathlib.Core.Path.{◌≡◌, refl, sym, ap, ap₂, ◌∙◌}
use mathlib.Core.List.{List, map}
use Prim.Native.Nat.{ℕ, ◌+◌, ◌*◌}
use lib.IntN.{ℤ}
use Rattle.residue.specs.Field.{invq}
use Rattle.residue.specs.Residues.{Residues}
use Rattle.residue.specs.Signed.{residue_of}
use Rattle.residue.proofs.SignedLaws.{residue_of_add, residue_of_sub, residue_of_mul}
use Rattle.algebra.specs.Numbers.{residues, wholes}
use Rattle.algebra.specs.Product.{product}
use Rattle.algebra.specs.Roots.{IsRoot}
use Rattle.algebra.specs.SlotBySlot.{times}
use Rattle.algebra.specs.Transform.{image, reverse}
use Rattle.algebra.proofs.Map.{Map, map_product}
use Rattle.algebra.proofs.Image as I
use Rattle.algebra.proofs.ReverseImage as RI
use Rattle.algebra.proofs.ImageReverse as IR
use Rattle.algebra.proofs.Field.{F, ι}
use Rattle.algebra.proofs.Sets.{root_in}
use Rattle.algebra.proofs.Lists.{coeffs, coeffs_short, residues_ext, product_residues, times_residues, image_residues, reverse_residues, product_is, times_is, image_is, reverse_is}

module _ (h w : ℕ) (ρ : IsRoot h w) where
  -- the image of a product is the product of the images, slot by slot
  pub image_product : (a b : List ℕ) → Residues (h + h) a → Residues (h + h) b
      → image h w (product residues h a b) ≡ times (h + h) (image h w a) (image h w b)
  image_product a b ra rb =
      residues_ext (image_residues h w _) (times_residues (h + h) _ _)
      (λ k l. image_is h w (product residues h a b) k l ∙ I.image_cong F h (ι w) (product_is h a b) k
      ∙ I.image_product F h (ι w) (ι (invq w)) (ι (invq (3 * h))) (root_in h w ρ) (coeffs a) (coeffs b) (coeffs_short ra) (coeffs_short rb) k
      ∙ sym (times_is (h + h) _ _ k l ∙ ap₂ F.num.mul (image_is h w a k l) (image_is h w b k l)))

  -- the reverse of an image is the element
  pub reverse_image : (a : List ℕ) → Residues (h + h) a → reverse h w (image h w a) ≡ a
  reverse_image a ra =
      residues_ext (reverse_residues h w _) ra
      (λ j l. reverse_is h w (image h w a) j l ∙ I.reverse_cong F h (ι (invq w)) (ι (invq (3 * h))) (image_is h w a) j
      ∙ RI.reverse_image F h (ι w) (ι (invq w)) (ι (invq (3 * h))) (root_in h w ρ) (coeffs a) j l)

  -- the image of a reverse is the image: so the reverse is the one element with that image
  pub image_reverse : (A : List ℕ) → Residues (h + h) A → image h w (reverse h w A) ≡ A
  image_reverse A r_a =
      residues_ext (image_residues h w _) r_a
      (λ k l. image_is h w (reverse h w A) k l ∙ I.image_cong F h (ι w) (reverse_is h w A) k
      ∙ IR.image_reverse F h (ι w) (ι (invq w)) (ι (invq (3 * h))) (root_in h w ρ) (coeffs A) k l)

  -- transforming, multiplying slot by slot and transforming back is the folded schoolbook product
  pub reverse_times : (a b : List ℕ) → Residues (h + h) a → Residues (h + h) b
      → reverse h w (times (h + h) (image h w a) (image h w b)) ≡ product residues h a b
  reverse_times a b ra rb = ap (reverse h w) (sym (image_product a b ra rb)) ∙ reverse_image _ (product_residues h a b)

  -- the image is one-to-one
  pub image_injective : (a b : List ℕ) → Residues (h + h) a → Residues (h + h) b → image h w a ≡ image h w b → a ≡ b
  image_injective a b ra rb e = sym (reverse_image a ra) ∙ ap (reverse h w) e ∙ reverse_image b rb

-- reducing a product of whole numbers by 3457 is the product of the residues
residue_of_keeps : Map wholes residues residue_of
unfolding residue_of
residue_of_keeps = record { nil = refl; add = residue_of_add; sub = residue_of_sub; mul = residue_of_mul }

pub residue_of_product : (h : ℕ) (a b : List ℤ)
    → map residue_of (product wholes h a b) ≡ product residues h (map residue_of a) (map residue_of b)
residue_of_product = map_product wholes residues residue_of residue_of_keeps
