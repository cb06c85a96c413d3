-- Making and sealing, slot by slot in the field: the image of whole polynomials keeps sums, triples and products, and so H F = G, H K = 1,
-- and C F is the image of 3(g'r + mf') + m. Assumes nothing.
use mathlib.Core.Path.{◌≡◌, sym, ap, ap₂, ◌∙◌}
use mathlib.Core.List.{List, [], ◌∷◌}
use Prim.Native.Nat.{ℕ, zero, suc, ◌+◌, ◌<◌}
use native.Mathlib.Omega.{arith}
use lib.Dec.{lit<}
use lib.IntN.{ℤ, pos, ◌+ℤ◌, ◌*ℤ◌}
use lib.ListN.{length, get_or, length-map, get_or-map}
use Rattle.residue.specs.Residues.{Residues}
use Rattle.residue.specs.Signed.{residue_of}
use Rattle.algebra.specs.Numbers.{wholes}
use Rattle.algebra.specs.Product.{product}
use Rattle.algebra.specs.Roots.{IsRoot}
use Rattle.algebra.specs.SlotBySlot.{times, inverses}
use Rattle.algebra.specs.Transform.{image}
use Rattle.stages.specs.Images.{tripled, plus_one, image_of}
use Rattle.stages.specs.Making.{f_image, g_image, h_image}
use Rattle.stages.specs.Sealing.{sealed_image}
use Rattle.lists.proofs.TabLaws.{get_or_tab}
use Rattle.residue.proofs.SignedLaws.{residue_of_add, residue_of_mul}
use Rattle.algebra.proofs.Ring.{ring, add_nil, mul_assoc, mul_comm, mul_one, nil_mul}
use Rattle.algebra.proofs.Image.{image_in, image_cong}
use Rattle.algebra.proofs.Field.{F, ι, ι_injective, ι_keeps, ι_one, ι_inverse}
use Rattle.algebra.proofs.Lists.{coeffs, coeffs_tab, residues_ext, times_residues, plus_is, times_is, image_is}
use Rattle.algebra.proofs.Monomials.{single, single_on, single_off}
use Rattle.algebra.proofs.Sets.{half_positive}
use Rattle.algebra.proofs.Theorems.{image_product, residue_of_product}
use Rattle.stages.proofs.ImageLaws.{whole_at, whole_residues, image_of_residues}
use Rattle.agreement.specs.Opened.{opened, Pair}
use Rattle.agreement.proofs.Linear.{image_add, image_scale, image_one}
open F use {one as 𝟙}
open F.num use {C, add as ◌⊕◌, mul as ◌⊗◌}

infixl 60 ◌⊕◌
infixl 70 ◌⊗◌
-- ---- whole coefficients in the field

-- coefficient i of a whole polynomial, and 3
abbrev pub ζ : List ℤ → ℕ → C
ζ p i = ι (residue_of (get_or p i (pos 0)))

abbrev pub three : C
three = ι (residue_of (pos 3))

-- 3y + z
ζ_triple_add : (y z : ℤ) → ι (residue_of (pos 3 *ℤ y +ℤ z)) ≡ three ⊗ ι (residue_of y) ⊕ ι (residue_of z)
ζ_triple_add y z =
    ap ι (residue_of_add (pos 3 *ℤ y) z) ∙ ι_keeps.add _ _
    ∙ ap (λ x. x ⊕ ι (residue_of z)) (ap ι (residue_of_mul (pos 3) y) ∙ ι_keeps.mul _ _)

-- the coefficients of 3p
ζ_tripled : (p : List ℤ) (i : ℕ) → ζ (tripled p) i ≡ three ⊗ ζ p i
unfolding tripled
ζ_tripled p i =
    ap (λ z. ι (residue_of z)) (get_or-map (λ z. pos 3 *ℤ z) p i (pos 0)) ∙ ap ι (residue_of_mul (pos 3) (get_or p i (pos 0))) ∙ ι_keeps.mul _ _

-- and of p + 1
ζ_plus_one : (p : List ℤ) → 0 < length p → (i : ℕ) → ζ (plus_one p) i ≡ ζ p i ⊕ single F 0 i
unfolding plus_one
ζ_plus_one [] h i = absurd (omega arith)
ζ_plus_one (z ∷ p) h zero = ap ι (residue_of_add z (pos 1)) ∙ ι_keeps.add _ _ ∙ ap (λ x. ι (residue_of z) ⊕ x) one
  where
    one : ι (residue_of (pos 1)) ≡ single F 0 0
    one = unfold residue_of in ι_one ∙ sym (single_on F 0)
ζ_plus_one (z ∷ p) h (suc i) = sym (ap (λ x. ζ p i ⊕ x) (single_off F 0 (suc i) (omega arith)) ∙ add_nil F (ζ p i))

-- ---- the images of whole polynomials

module _ (h w : ℕ) where
  -- slot k of the image of p
  abbrev φ : List ℤ → ℕ → C
  φ p k = coeffs (image_of h w p) k

  -- the image on lists is that in the field
  pub image_of_is : (p : List ℤ) (k : ℕ) → k < h + h → φ p k ≡ image_in F h (ι w) (ζ p) k
  unfolding image_of
  image_of_is p k l = image_is h w _ k l ∙ image_cong F h (ι w) (λ i _. ap ι (whole_at p i)) k

  -- the image of 3p
  image_of_tripled : (p : List ℤ) (k : ℕ) → k < h + h → φ (tripled p) k ≡ three ⊗ φ p k
  image_of_tripled p k l =
      image_of_is (tripled p) k l ∙ image_cong F h (ι w) (λ i _. ζ_tripled p i) k ∙ image_scale F h (ι w) three (ζ p) k
      ∙ ap (λ x. three ⊗ x) (sym (image_of_is p k l))

  -- of p + 1
  image_of_plus_one : 0 < h → (p : List ℤ) → 0 < length p → (k : ℕ) → k < h + h → φ (plus_one p) k ≡ φ p k ⊕ 𝟙
  image_of_plus_one b p some k l =
      image_of_is (plus_one p) k l ∙ image_cong F h (ι w) (λ i _. ζ_plus_one p some i) k ∙ image_add F h (ι w) (ζ p) (single F 0) k
      ∙ ap₂ ◌⊕◌ (sym (image_of_is p k l)) (image_one F h (ι w) b k)

  -- of a product
  image_of_product : IsRoot h w → (a b : List ℤ) → length a ≡ h + h → length b ≡ h + h
      → image_of h w (product wholes h a b) ≡ times (h + h) (image_of h w a) (image_of h w b)
  unfolding image_of
  image_of_product ρ a b la lb =
      ap (image h w) (residue_of_product h a b) ∙ image_product h w ρ _ _ (whole_residues a la) (whole_residues b lb)

-- ---- the keys

-- F = 3f' + 1
pub f_image_is : (h w : ℕ) → 0 < h → (f' : List ℤ) → length f' ≡ h + h → (k : ℕ) → k < h + h
    → coeffs (f_image h w f') k ≡ three ⊗ φ h w f' k ⊕ 𝟙
unfolding f_image
f_image_is h w b f' lf k l =
    image_of_plus_one h w b (tripled f') some k l ∙ ap (λ x. x ⊕ 𝟙) (image_of_tripled h w f' k l)
  where
    some : 0 < length (tripled f')
    some = unfold tripled in omega (arith, length-map f' (λ z. pos 3 *ℤ z), lf)

-- G = 3g'
pub g_image_is : (h w : ℕ) (g' : List ℤ) (k : ℕ) → k < h + h → coeffs (g_image h w g') k ≡ three ⊗ φ h w g' k
unfolding g_image
g_image_is h w g' k l = image_of_tripled h w g' k l

-- A (1/A) = 1 where A is not 0
inverses_undo : {n : ℕ} {A : List ℕ} → Residues n A → (k : ℕ) → k < n → 0 < get_or A k 0 → coeffs A k ⊗ coeffs (inverses n A) k ≡ 𝟙
unfolding inverses
inverses_undo {n} {A} r k l p = ap (λ x. coeffs A k ⊗ x) (coeffs_tab n _ k l) ∙ ι_inverse (get_or A k 0) p (r.low k l)

-- what has an inverse is not 0
pub unit_positive : (x : ℕ) (y : C) → ι x ⊗ y ≡ 𝟙 → 0 < x
unit_positive zero y e =
    let nil : ι 0 ≡ ι 1 = ι_keeps.nil ∙ sym (nil_mul F y) ∙ ap (λ x. x ⊗ y) (sym ι_keeps.nil) ∙ e ∙ sym ι_one in
    absurd (omega (arith, ι_injective {x = 0} {y = 1} (lit< tt) (lit< tt) nil))
unit_positive (suc x) y e = omega arith

-- the images F, G and H are n residues
pub f_image_residues : (h w : ℕ) (f' : List ℤ) → Residues (h + h) (f_image h w f')
unfolding f_image
f_image_residues h w f' = image_of_residues h w _

g_image_residues : (h w : ℕ) (g' : List ℤ) → Residues (h + h) (g_image h w g')
unfolding g_image
g_image_residues h w g' = image_of_residues h w _

pub h_image_residues : (h w : ℕ) (f' g' : List ℤ) → Residues (h + h) (h_image h w f' g')
unfolding h_image
h_image_residues h w f' g' = times_residues (h + h) _ _

module _ (h w : ℕ) (f' g' : List ℤ) (pair : Pair h w f' g') (k : ℕ) (l : k < h + h) where
  -- their slots k
  abbrev Fₖ : C
  Fₖ = coeffs (f_image h w f') k

  abbrev Gₖ : C
  Gₖ = coeffs (g_image h w g') k

  abbrev Hₖ : C
  Hₖ = coeffs (h_image h w f' g') k

  -- H F = G
  pub key_product : Hₖ ⊗ Fₖ ≡ Gₖ
  unfolding h_image
  key_product =
      ap (λ x. x ⊗ Fₖ) (times_is (h + h) _ _ k l) ∙ mul_assoc F _ _ _
      ∙ ap (λ x. Gₖ ⊗ x) (mul_comm F _ _ ∙ inverses_undo (f_image_residues h w f') k l (pair.f_slots k l)) ∙ mul_one F _

  -- H K = 1, since H (F/G) = 1
  pub key_inverse : Hₖ ⊗ coeffs (inverses (h + h) (h_image h w f' g')) k ≡ 𝟙
  key_inverse = inverses_undo (h_image_residues h w f' g') k l (unit_positive _ (Fₖ ⊗ coeffs (inverses (h + h) (g_image h w g')) k) unit)
    where
      unit : Hₖ ⊗ (Fₖ ⊗ coeffs (inverses (h + h) (g_image h w g')) k) ≡ 𝟙
      unit =
          sym (mul_assoc F _ _ _) ∙ ap (λ x. x ⊗ coeffs (inverses (h + h) (g_image h w g')) k) key_product
          ∙ inverses_undo (g_image_residues h w g') k l (pair.g_slots k l)

-- ---- the ciphertext

-- C = H R + M
pub sealed_image_is : (h w : ℕ) (H : List ℕ) (r m : List ℤ) (k : ℕ) → k < h + h
    → coeffs (sealed_image h w H r m) k ≡ coeffs H k ⊗ φ h w r k ⊕ φ h w m k
unfolding sealed_image
sealed_image_is h w H r m k l = plus_is (h + h) _ _ k l ∙ ap (λ x. x ⊕ φ h w m k) (times_is (h + h) H (image_of h w r) k l)

module _ (h w : ℕ) (ρ : IsRoot h w) (f' g' r m : List ℤ) (lf : length f' ≡ h + h) (lg : length g' ≡ h + h) (lr : length r ≡ h + h) (lm : length m ≡ h + h) where
  -- the image of a product, in slot k
  product_slot : (a b : List ℤ) → length a ≡ h + h → length b ≡ h + h → (k : ℕ) → k < h + h
      → image_in F h (ι w) (ζ (product wholes h a b)) k ≡ φ h w a k ⊗ φ h w b k
  product_slot a b la lb k l =
      sym (image_of_is h w (product wholes h a b) k l) ∙ ap (λ x. coeffs x k) (image_of_product h w ρ a b la lb) ∙ times_is (h + h) _ _ k l

  -- the coefficients of 3(g'r + mf') + m
  ζ_opened : (i : ℕ) → i < h + h
      → ζ (opened h f' g' r m) i ≡ three ⊗ (ζ (product wholes h g' r) i ⊕ ζ (product wholes h m f') i) ⊕ ζ m i
  unfolding opened
  ζ_opened i l =
      ap (λ z. ι (residue_of z)) (get_or_tab (h + h) _ i (pos 0) l) ∙ ζ_triple_add _ (get_or m i (pos 0))
      ∙ ap (λ x. three ⊗ x ⊕ ζ m i) (ap ι (residue_of_add _ _) ∙ ι_keeps.add _ _)

  -- the image of 3(g'r + mf') + m
  opened_is : (k : ℕ) → k < h + h
      → φ h w (opened h f' g' r m) k ≡ three ⊗ (φ h w g' k ⊗ φ h w r k ⊕ φ h w m k ⊗ φ h w f' k) ⊕ φ h w m k
  opened_is k l =
      image_of_is h w (opened h f' g' r m) k l ∙ image_cong F h (ι w) ζ_opened k ∙ image_add F h (ι w) _ (ζ m) k
      ∙ ap₂ ◌⊕◌ (image_scale F h (ι w) three _ k ∙ ap (λ x. three ⊗ x) (image_add F h (ι w) _ _ k
      ∙ ap₂ ◌⊕◌ (product_slot g' r lg lr k l) (product_slot m f' lm lf k l)))
      (sym (image_of_is h w m k l))

  -- C F is the image of 3(g'r + mf') + m
  pub sealed_is : Pair h w f' g' → times (h + h) (sealed_image h w (h_image h w f' g') r m) (f_image h w f') ≡ image_of h w (opened h f' g' r m)
  sealed_is pair = residues_ext (times_residues (h + h) _ _) (image_of_residues h w _) slot
    where
      distribute : (H R M f G : C) → H ⊗ f ≡ G → (H ⊗ R ⊕ M) ⊗ f ≡ G ⊗ R ⊕ M ⊗ f
      distribute H R M f G e = rw (sym e) (simp ring)

      regroup : (g r m f : C) → three ⊗ g ⊗ r ⊕ m ⊗ (three ⊗ f ⊕ 𝟙) ≡ three ⊗ (g ⊗ r ⊕ m ⊗ f) ⊕ m
      regroup g r m f = simp (ring, mul_one)

      slot : (k : ℕ) → k < h + h
          → coeffs (times (h + h) (sealed_image h w (h_image h w f' g') r m) (f_image h w f')) k ≡ φ h w (opened h f' g' r m) k
      slot k l =
          times_is (h + h) _ _ k l ∙ ap (λ x. x ⊗ coeffs (f_image h w f') k) (sealed_image_is h w _ r m k l)
          ∙ distribute _ _ _ _ _ (key_product h w f' g' pair k l)
          ∙ ap₂ (λ x y. x ⊗ φ h w r k ⊕ φ h w m k ⊗ y) (g_image_is h w g' k l) (f_image_is h w (half_positive h w ρ) f' lf k l)
          ∙ regroup _ _ _ _ ∙ sym (opened_is k l)
