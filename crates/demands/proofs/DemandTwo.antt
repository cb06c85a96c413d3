-- Demand 2: "making a pair, sealing and opening equal source document 000 as document 01 condenses it": where a call answers 0, its buffers hold
-- what the rules give, for all bytes of its inputs. And a ciphertext is the packed image of h*r + m itself. Assumes nothing.
use mathlib.Core.List.{List, map}
use mathlib.Core.Path.{◌≡◌, sym, ap, ap₂, ◌∙◌}
use Prim.Native.Nat.{ℕ, ◌+◌}
use lib.IntN.{ℤ}
use lib.ListN.{length}
use Rattle.residue.specs.Residues.{Residues}
use Rattle.residue.specs.Signed.{residue_of}
use Rattle.algebra.specs.Numbers.{residues}
use Rattle.algebra.specs.Product.{product}
use Rattle.algebra.specs.Roots.{IsRoot}
use Rattle.algebra.specs.SlotBySlot.{plus, times}
use Rattle.algebra.specs.Transform.{image, reverse}
use Rattle.answers.specs.Answers.{Answer}
use Rattle.answers.specs.Answers.{number_of}
use Rattle.stages.specs.Images.{image_of}
use Rattle.stages.specs.Opening.{opened_message}
use Rattle.stages.specs.Sealing.{key_bytes, sealed_image}
use Rattle.calls_make.specs.Make.{public_of, private_of, Make}
use Rattle.calls_r_image.specs.RImage.{r_image_of, RImage}
use Rattle.calls_seal.specs.Seal.{cipher_of, Seal}
use Rattle.calls_open_1.specs.OpenOne.{marks_of, opened_image_of, OpenOne}
use Rattle.calls_open_2.specs.OpenTwo.{OpenTwo}
use Rattle.calls_open_3.specs.OpenThree.{OpenThree}
use Rattle.algebra.proofs.Field.{F, ι}
use Rattle.algebra.proofs.Image.{image_cong}
use Rattle.algebra.proofs.Lists.{coeffs, residues_ext, plus_residues, image_residues, reverse_residues, plus_is, image_is}
use Rattle.algebra.proofs.Theorems.{image_product, image_reverse}
use Rattle.stages.proofs.ImageLaws.{whole_residues}
use Rattle.agreement.proofs.Linear.{image_add}
use Rattle.demands.proofs.Answered.{written}

module _ (set : ℕ) (r : Answer) (zero : number_of r ≡ 0) where
  pub makes : (seed public private public' private' : List ℕ) → Make set seed public private r public' private'
      → (public' ≡ public_of set seed) × (private' ≡ private_of set seed)
  unfolding Make
  makes seed public private public' private' o =
      let z = sym o.number ∙ zero in
      (o.content.0 ∙ written _ _ public z, o.content.1 ∙ written _ _ private z)

  pub images_r : (hblock image image' : List ℕ) → RImage set hblock image r image' → image' ≡ r_image_of set hblock
  unfolding RImage
  images_r hblock image image' o = o.content ∙ written _ _ image (sym o.number ∙ zero)

  pub seals : (public message hblock gblock cipher key cipher' key' : List ℕ) → Seal set public message hblock gblock cipher key r cipher' key'
      → (cipher' ≡ cipher_of set public message hblock gblock) × (key' ≡ key_bytes hblock)
  unfolding Seal
  seals public message hblock gblock cipher key cipher' key' o =
      let z = sym o.number ∙ zero in
      (o.content.0 ∙ written _ _ cipher z, o.content.1 ∙ written _ _ key z)

  pub opens_one : (private cipher marks image marks' image' : List ℕ) → OpenOne set private cipher marks image r marks' image'
      → (marks' ≡ marks_of set private cipher) × (image' ≡ opened_image_of set private cipher)
  unfolding OpenOne
  opens_one private cipher marks image marks' image' o =
      let z = sym o.number ∙ zero in
      (o.content.0 ∙ written _ _ marks z, o.content.1 ∙ written _ _ image z)

  pub opens_two : (marks gblock message message' : List ℕ) → OpenTwo set marks gblock message r message' → message' ≡ opened_message marks gblock
  unfolding OpenTwo
  opens_two marks gblock message message' o = o.content ∙ written _ _ message (sym o.number ∙ zero)

  pub opens_three : (image hblock key key' : List ℕ) → OpenThree set image hblock key r key' → key' ≡ key_bytes hblock
  unfolding OpenThree
  opens_three image hblock key key' o = o.content ∙ written _ _ key (sym o.number ∙ zero)

-- ---- "packed image of h*r + m"

-- the image of a sum is the sum of the images
image_plus : (h w : ℕ) (a b : List ℕ) → image h w (plus (h + h) a b) ≡ plus (h + h) (image h w a) (image h w b)
image_plus h w a b =
    residues_ext (image_residues h w _) (plus_residues (h + h) _ _)
    (λ k l. image_is h w (plus (h + h) a b) k l ∙ image_cong F h (ι w) (plus_is (h + h) a b) k ∙ image_add F h (ι w) (coeffs a) (coeffs b) k
    ∙ sym (plus_is (h + h) _ _ k l ∙ ap₂ F.num.add (image_is h w a k l) (image_is h w b k l)))

-- what is packed is the image of h*r + m, where h is the element whose image was lent
pub sealed_is_image : (h w : ℕ) → IsRoot h w → (H : List ℕ) (r m : List ℤ) → Residues (h + h) H → length r ≡ h + h
    → sealed_image h w H r m ≡ image h w (plus (h + h) (product residues h (reverse h w H) (map residue_of r)) (map residue_of m))
unfolding sealed_image image_of
sealed_is_image h w ρ H r m r_h lr =
    sym (image_plus h w _ (map residue_of m)
    ∙ ap (λ A. plus (h + h) A (image h w (map residue_of m)))
    (image_product h w ρ (reverse h w H) (map residue_of r) (reverse_residues h w H) (whole_residues r lr)
    ∙ ap (λ A. times (h + h) A (image h w (map residue_of r))) (image_reverse h w ρ H r_h)))
