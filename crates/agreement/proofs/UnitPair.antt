-- The pair f' = 0, g' = 1: in every slot F is 1 and G is 3, and 3(g'r + mf') + m is 3r + m, so every sealing with it is in range.
-- Once over n = 2h. Assumes nothing.
use mathlib.Core.Path.{◌≡◌, sym, ap, ap₂, ◌∙◌, subst}
use mathlib.Core.List.{List}
use Prim.Native.Nat.{ℕ, ◌+◌, ◌≤◌, ◌<◌}
use native.Mathlib.Omega.{arith}
use lib.Dec.{eqb, lit<}
use lib.IntN.{ℤ, pos, negsuc, nat_abs, ◌+ℤ◌, ◌*ℤ◌, +ℤ_idr}
use lib.ListN.{length, get_or}
use Rattle.residue.specs.Field.{invq}
use Rattle.residue.specs.Signed.{residue_of}
use Rattle.algebra.specs.Numbers.{wholes}
use Rattle.algebra.specs.Product.{product}
use Rattle.marks.specs.Marks.{Small, Smalls}
use Rattle.stages.specs.Images.{image_of}
use Rattle.stages.specs.Making.{f_image, g_image}
use Rattle.lists.proofs.TabLaws.{get_or_tab, all_tab, map_cond}
use Rattle.algebra.proofs.Ring.{units, mul_one, nil_mul}
use Rattle.algebra.proofs.Image.{image_cong}
use Rattle.algebra.proofs.Field.{F, ι, ι_keeps, ι_one, ι_inverse}
use Rattle.algebra.proofs.Lists.{coeffs}
use Rattle.algebra.proofs.Monomials.{single}
use Rattle.marks.proofs.MarkLaws.{small_by}
use Rattle.agreement.specs.Opened.{opened, InRange, Pair}
use Rattle.agreement.proofs.Linear.{image_scale, image_one}
use Rattle.agreement.proofs.Slots.{ζ, three, image_of_is, f_image_is, g_image_is, unit_positive}
use Rattle.agreement.proofs.Units.{zero_of, one_of, zero_of_long, zero_of_at, product_zero, product_one}
open F use {one as 𝟙}
open F.num use {nil as 𝟘, add as ◌⊕◌, mul as ◌⊗◌}

infixl 60 ◌⊕◌
infixl 70 ◌⊗◌
-- ---- the slots

-- the coefficients of 0 and of 1 in the field
ζ_zero : (n i : ℕ) → ζ (zero_of n) i ≡ 𝟘
unfolding residue_of
ζ_zero n i = ap (λ z. ι (residue_of z)) (zero_of_at n i) ∙ ι_keeps.nil

ζ_one : (n i : ℕ) → i < n → ζ (one_of n) i ≡ single F 0 i
unfolding one_of single residue_of
ζ_one n i l =
    ap (λ z. ι (residue_of z)) (get_or_tab n _ i (pos 0) l) ∙ map_cond (λ z. ι (residue_of z)) (eqb i 0) (pos 1) (pos 0) ∙ rw (ι_one, ι_keeps.nil)

module _ (h w : ℕ) (p : 0 < h) (k : ℕ) (l : k < h + h) where
  -- their images are 0 and 1
  image_zero : coeffs (image_of h w (zero_of (h + h))) k ≡ 𝟘
  image_zero =
      image_of_is h w _ k l ∙ image_cong F h (ι w) (λ i _. ζ_zero (h + h) i ∙ sym (nil_mul F (single F 0 i))) k
      ∙ image_scale F h (ι w) 𝟘 (single F 0) k ∙ nil_mul F _

  image_unit : coeffs (image_of h w (one_of (h + h))) k ≡ 𝟙
  image_unit = image_of_is h w _ k l ∙ image_cong F h (ι w) (ζ_one (h + h)) k ∙ image_one F h (ι w) p k

  -- F = 1 and G = 3
  f_image_unit : coeffs (f_image h w (zero_of (h + h))) k ≡ 𝟙
  f_image_unit = f_image_is h w p _ (zero_of_long (h + h)) k l ∙ ap (λ x. three ⊗ x ⊕ 𝟙) image_zero ∙ simp units

  g_image_three : coeffs (g_image h w (one_of (h + h))) k ≡ ι 3
  unfolding residue_of
  g_image_three = g_image_is h w _ k l ∙ ap (λ x. three ⊗ x) image_unit ∙ mul_one F _

-- so none of them is 0
pub unit_pair : (h w : ℕ) → 0 < h → Pair h w (zero_of (h + h)) (one_of (h + h))
unit_pair h w p =
    record {
      f_slots = λ k l. unit_positive _ 𝟙 (ap (λ x. x ⊗ 𝟙) (f_image_unit h w p k l) ∙ mul_one F 𝟙);
      g_slots = λ k l. unit_positive _ (ι (invq 3)) (ap (λ x. x ⊗ ι (invq 3)) (g_image_three h w p k l) ∙ ι_inverse 3 (lit< tt) (lit< tt));
    }

-- ---- the sealings

-- 3x + y of small x and y is within 4
near_small : (x y : ℤ) → Small x → Small y → nat_abs (pos 3 *ℤ x +ℤ y) ≤ 4
near_small x y sx sy =
    small_by (λ x. nat_abs (pos 3 *ℤ x +ℤ y) ≤ 4)
    (small_by (λ y. nat_abs (pos 3 *ℤ pos 0 +ℤ y) ≤ 4) (omega arith) (omega arith) (omega arith) y sy)
    (small_by (λ y. nat_abs (pos 3 *ℤ pos 1 +ℤ y) ≤ 4) (omega arith) (omega arith) (omega arith) y sy)
    (small_by (λ y. nat_abs (pos 3 *ℤ negsuc 0 +ℤ y) ≤ 4) (omega arith) (omega arith) (omega arith) y sy)
    x sx

-- every coefficient of 3(g'r + mf') + m is such, for small r and m
unit_small : (h : ℕ) → 0 < h → (r m : List ℤ) → length r ≡ h + h → Smalls r → Smalls m → (i : ℕ)
    → nat_abs (get_or (opened h (zero_of (h + h)) (one_of (h + h)) r m) i (pos 0)) ≤ 4
unfolding opened
unit_small h p r m lr sr sm =
    all_tab (λ z. nat_abs z ≤ 4) (pos 0) (omega arith) (h + h) _ (λ i. subst (λ z. nat_abs z ≤ 4) (sym (value i)) (bound i))
  where
    bound : (i : ℕ) → nat_abs (pos 3 *ℤ get_or r i (pos 0) +ℤ get_or m i (pos 0)) ≤ 4
    bound i = near_small (get_or r i (pos 0)) (get_or m i (pos 0)) (sr.small i) (sm.small i)

    value : (i : ℕ) → pos 3 *ℤ (get_or (product wholes h (one_of (h + h)) r) i (pos 0) +ℤ get_or (product wholes h m (zero_of (h + h))) i (pos 0)) +ℤ get_or m i (pos 0)
        ≡ pos 3 *ℤ get_or r i (pos 0) +ℤ get_or m i (pos 0)
    value i =
        ap (λ x. pos 3 *ℤ x +ℤ get_or m i (pos 0))
        (ap₂ (λ a b. get_or a i (pos 0) +ℤ get_or b i (pos 0)) (product_one h p r lr) (product_zero h m)
        ∙ ap (λ x. get_or r i (pos 0) +ℤ x) (zero_of_at (h + h) i) ∙ +ℤ_idr (get_or r i (pos 0)))

-- so all of them may be sealed with it
pub unit_near : (h : ℕ) → 0 < h → (r m : List ℤ) → length r ≡ h + h → Smalls r → Smalls m → InRange (opened h (zero_of (h + h)) (one_of (h + h)) r m)
unit_near h p r m lr sr sm = record { near = λ i. omega (arith, unit_small h p r m lr sr sm i) }
