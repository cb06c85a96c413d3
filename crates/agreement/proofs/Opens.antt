-- Opening gives back what was sealed, and a ciphertext has one opening: C F is the image of 3(g'r + mf') + m, which comes back where it is in range,
-- and (C - M) K = R. Once over n = 2h and the root w. Assumes nothing.
use mathlib.Core.Path.{◌≡◌, refl, sym, ap, ◌∙◌, subst}
use mathlib.Core.List.{List, map}
use Prim.Native.Nat.{ℕ, ◌+◌, ◌≤◌, ◌<◌}
use lib.IntN.{ℤ, pos, nat_abs, ◌+ℤ◌, ◌*ℤ◌}
use lib.ListN.{length, get_or}
use Rattle.residue.specs.Signed.{centred_by_three, residue_of}
use Rattle.algebra.specs.Numbers.{wholes}
use Rattle.algebra.specs.Product.{product}
use Rattle.algebra.specs.Roots.{IsRoot}
use Rattle.algebra.specs.SlotBySlot.{minus, times, inverses}
use Rattle.algebra.specs.Transform.{reverse}
use Rattle.marks.specs.Marks.{Smalls}
use Rattle.stages.specs.Images.{image_of}
use Rattle.stages.specs.Making.{f_image, h_image}
use Rattle.stages.specs.Sealing.{sealed_image}
use Rattle.stages.specs.Opening.{opened_m, opened_r}
use Rattle.lists.proofs.TabLaws.{length_tab, get_or_tab, tab_of, map_tab}
use Rattle.algebra.proofs.Ring.{sub_of, sub_is, mul_assoc, mul_comm, mul_one}
use Rattle.algebra.proofs.Field.{F}
use Rattle.algebra.proofs.Lists.{coeffs, residues_ext, times_residues, minus_is, times_is}
use Rattle.algebra.proofs.Theorems.{reverse_image, image_injective}
use Rattle.stages.proofs.ImageLaws.{whole_residues, image_of_residues}
use Rattle.agreement.specs.Opened.{opened, InRange, Pair}
use Rattle.agreement.proofs.Centring.{centred_by_three_three, smalls_injective}
use Rattle.agreement.proofs.Slots.{key_inverse, sealed_image_is, sealed_is}
open F use {one as 𝟙}
open F.num use {C, add as ◌⊕◌, sub as ◌⊖◌, mul as ◌⊗◌}

infixl 60 ◌⊕◌ ◌⊖◌
infixl 70 ◌⊗◌
-- ---- m

-- m is what centring and the remainder by 3 make of 3(g'r + mf') + m, where that is in range
centred_by_three_opened : (h : ℕ) (f' g' r m : List ℤ) → length m ≡ h + h → Smalls m → InRange (opened h f' g' r m)
    → map centred_by_three (map residue_of (opened h f' g' r m)) ≡ m
unfolding opened
centred_by_three_opened h f' g' r m lm s near =
    ap (map centred_by_three) (map_tab residue_of (h + h) _) ∙ map_tab centred_by_three (h + h) _
    ∙ sym (tab_of (pos 0) (h + h) _ m lm (λ i l. sym (back i l)))
  where
    a : ℕ → ℤ
    a i = get_or (product wholes h g' r) i (pos 0) +ℤ get_or (product wholes h m f') i (pos 0)

    back : (i : ℕ) → i < h + h → centred_by_three (residue_of (pos 3 *ℤ a i +ℤ get_or m i (pos 0))) ≡ get_or m i (pos 0)
    back i l =
        centred_by_three_three (a i) (get_or m i (pos 0)) (s.small i)
        (subst (λ z. nat_abs z ≤ 1728) (get_or_tab (h + h) (λ i. pos 3 *ℤ a i +ℤ get_or m i (pos 0)) i (pos 0) l) (near.near i))

-- ---- r

-- (H R + M - M) K = R
cancel : (H K R M : C) → H ⊗ K ≡ 𝟙 → (H ⊗ R ⊕ M ⊖ M) ⊗ K ≡ R
cancel H K R M e =
    ap (λ x. x ⊗ K) (sub_is F (H ⊗ R ⊕ M) M ∙ sub_of F (H ⊗ R ⊕ M) M (H ⊗ R) refl) ∙ rw (mul_comm F H R, mul_assoc, e, mul_one)

module _ (h w : ℕ) (f' g' : List ℤ) where
  -- F, H and K = 1/H
  abbrev f_key : List ℕ
  f_key = f_image h w f'

  abbrev h_key : List ℕ
  h_key = h_image h w f' g'

  abbrev k_key : List ℕ
  k_key = inverses (h + h) h_key

  -- where m comes back, so does the image of r: (C - M) K = R
  pub opens_r_of : Pair h w f' g' → (r m : List ℤ) → opened_m h w f_key (sealed_image h w h_key r m) ≡ m
      → opened_r h w f_key k_key (sealed_image h w h_key r m) ≡ image_of h w r
  unfolding opened_r
  opens_r_of pair r m e =
      ap (λ x. times (h + h) (minus (h + h) (sealed_image h w h_key r m) (image_of h w x)) k_key) e
      ∙ residues_ext (times_residues (h + h) _ _) (image_of_residues h w r) slot
    where
      slot : (k : ℕ) → k < h + h
          → coeffs (times (h + h) (minus (h + h) (sealed_image h w h_key r m) (image_of h w m)) k_key) k ≡ coeffs (image_of h w r) k
      slot k l =
          times_is (h + h) _ _ k l
          ∙ ap (λ x. x ⊗ coeffs k_key k)
          (minus_is (h + h) _ _ k l ∙ ap (λ x. x ⊖ coeffs (image_of h w m) k) (sealed_image_is h w h_key r m k l))
          ∙ cancel _ _ _ _ (key_inverse h w f' g' pair k l)

  -- ---- both

  module _ (ρ : IsRoot h w) (lf : length f' ≡ h + h) (lg : length g' ≡ h + h) (pair : Pair h w f' g') where
    module _ (r m : List ℤ) (lr : length r ≡ h + h) (lm : length m ≡ h + h) where
      -- the reverse of C F is 3(g'r + mf') + m by its residues
      reversed : reverse h w (times (h + h) (sealed_image h w h_key r m) f_key) ≡ map residue_of (opened h f' g' r m)
      unfolding image_of opened
      reversed =
          ap (reverse h w) (sealed_is h w ρ f' g' r m lf lg lr lm pair)
          ∙ reverse_image h w ρ _ (whole_residues (opened h f' g' r m) (length_tab (h + h) _))

      -- m comes back
      pub opens_m : Smalls m → InRange (opened h f' g' r m) → opened_m h w f_key (sealed_image h w h_key r m) ≡ m
      unfolding opened_m
      opens_m s near = ap (map centred_by_three) reversed ∙ centred_by_three_opened h f' g' r m lm s near

      -- and so the image of r
      pub opens_r : Smalls m → InRange (opened h f' g' r m) → opened_r h w f_key k_key (sealed_image h w h_key r m) ≡ image_of h w r
      opens_r s near = opens_r_of pair r m (opens_m s near)

    -- two sealings that are small and in range, and give the same ciphertext, are the same
    pub opens_once : (r m r₂ m₂ : List ℤ) → length r ≡ h + h → length m ≡ h + h → length r₂ ≡ h + h → length m₂ ≡ h + h
        → Smalls r → Smalls m → Smalls r₂ → Smalls m₂ → InRange (opened h f' g' r m) → InRange (opened h f' g' r₂ m₂)
        → sealed_image h w h_key r m ≡ sealed_image h w h_key r₂ m₂ → (m ≡ m₂) × (r ≡ r₂)
    unfolding image_of
    opens_once r m r₂ m₂ lr lm lr₂ lm₂ sr sm sr₂ sm₂ near near₂ e = (
      sym (opens_m r m lr lm sm near) ∙ ap (opened_m h w f_key) e ∙ opens_m r₂ m₂ lr₂ lm₂ sm₂ near₂,
      smalls_injective r r₂ sr sr₂
          (image_injective h w ρ _ _ (whole_residues r lr) (whole_residues r₂ lr₂)
          (sym (opens_r r m lr lm sm near) ∙ ap (opened_r h w f_key k_key) e ∙ opens_r r₂ m₂ lr₂ lm₂ sm₂ near₂)),
    )
