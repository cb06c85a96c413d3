-- The transform in a ring: image, slot sums and reverse of n = 2h coefficients, and the image of a product.
-- Assumes nothing.
use mathlib.Core.Path.{◌≡◌, ap, ◌∙◌}
use Prim.Native.Nat.{ℕ, suc, ◌+◌, ◌<◌}
use native.Mathlib.Nat as N
use native.Mathlib.Omega.{arith}
use borrow.Author.Tests.{le-ltb, lt-ltb}
use Rattle.algebra.specs.Numbers.{sum}
use Rattle.algebra.specs.Product.{schoolbook, fold}
use Rattle.algebra.specs.Transform.{exponent, partner}
use Rattle.algebra.proofs.Ring.{Ring, pow, sub_is, pow_comm}
use Rattle.algebra.proofs.Sum.{sum_cong}
use Rattle.algebra.proofs.Sixth.{Sixth, sixth_one_more, sixth_five_more, sixth_fifth}
use Rattle.algebra.proofs.Exponent.{Parity, even, odd, parity, exponent_even, exponent_odd}
use Rattle.algebra.proofs.Value.{value_in, Short, product_value}
use Rattle.algebra.proofs.Root.{Root, undo, sixth_u}

-- the partner is in the other half
pub partner_low : (h j : ℕ) → j < h → partner h j ≡ h + j
unfolding partner
partner_low h j l = rw (lt-ltb j h l)

pub partner_high : (h j : ℕ) → partner h (h + j) ≡ j
unfolding partner
partner_high h j = rw (le-ltb (h + j) h (omega arith)) (N.add-sub_cancel_left h j)

module _ (R : Ring) where
  open R use {num, neg as ν}
  open R.num use {C, add as ◌⊕◌, sub as ◌⊖◌, mul as ◌⊗◌}

  infixl 60 ◌⊕◌
  infixl 60 ◌⊖◌
  infixl 70 ◌⊗◌
  -- slot k is the value at w^e
  unfoldable pub image_in : ℕ → C → (ℕ → C) → ℕ → C
  image_in h w a k = value_in R (h + h) a (pow R w (exponent k))

  -- S_j, the sum over the slots of A_k u^(e j)
  unfoldable pub slot_sum_in : ℕ → C → (ℕ → C) → ℕ → C
  slot_sum_in h u A j = sum num (h + h) (λ k. A k ⊗ pow R (pow R u (exponent k)) j)

  -- a coefficient from its slot sum and its partner's: (2 s - t) / 3h
  unfoldable pub mix : C → C → C → C
  mix c s t = c ⊗ (s ⊕ s ⊖ t)

  pub mix_is : (c s t : C) → mix c s t ≡ c ⊗ (s ⊕ s ⊕ ν ⊗ t)
  unfolding mix
  mix_is c s t = ap (λ x. c ⊗ x) (sub_is R (s ⊕ s) t)

  unfoldable pub reverse_in : ℕ → C → C → (ℕ → C) → ℕ → C
  reverse_in h u c A j = mix c (slot_sum_in h u A j) (slot_sum_in h u A (partner h j))

  -- ---- what each reads

  pub image_cong : (h : ℕ) (w : C) {a b : ℕ → C} → ((i : ℕ) → i < h + h → a i ≡ b i) → (k : ℕ) → image_in h w a k ≡ image_in h w b k
  unfolding image_in value_in
  image_cong h w e k = sum_cong num (h + h) (λ i l. ap (λ x. x ⊗ pow R (pow R w (exponent k)) i) (e i l))

  slot_sum_cong : (h : ℕ) (u : C) {A B : ℕ → C} → ((k : ℕ) → k < h + h → A k ≡ B k) → (j : ℕ) → slot_sum_in h u A j ≡ slot_sum_in h u B j
  unfolding slot_sum_in
  slot_sum_cong h u e j = sum_cong num (h + h) (λ k l. ap (λ x. x ⊗ pow R (pow R u (exponent k)) j) (e k l))

  pub reverse_cong : (h : ℕ) (u c : C) {A B : ℕ → C} → ((k : ℕ) → k < h + h → A k ≡ B k) → (j : ℕ) → reverse_in h u c A j ≡ reverse_in h u c B j
  unfolding reverse_in
  reverse_cong h u c e j = rw (slot_sum_cong h u e j, slot_sum_cong h u e (partner h j))

  pub reverse_low : (h : ℕ) (u c : C) (A : ℕ → C) (j : ℕ) → j < h
      → reverse_in h u c A j ≡ mix c (slot_sum_in h u A j) (slot_sum_in h u A (h + j))
  unfolding reverse_in
  reverse_low h u c A j l = rw (partner_low h j l)

  pub reverse_high : (h : ℕ) (u c : C) (A : ℕ → C) (j : ℕ)
      → reverse_in h u c A (h + j) ≡ mix c (slot_sum_in h u A (h + j)) (slot_sum_in h u A j)
  unfolding reverse_in
  reverse_high h u c A j = rw (partner_high h j)

module _ (R : Ring) (h : ℕ) (w u c : R.num.C) (ω : Root R h w u c) where
  open R use {num}
  open R.num use {C, mul as ◌⊗◌}
  open ω use {sixth}

  infixl 70 ◌⊗◌
  -- ---- the points of the slots: to the power h, one of the two roots of x^2 - x + 1 at even slots and the other at odd ones

  pub w_even : (t : ℕ) → pow R (pow R w (exponent (t + t))) h ≡ pow R w h
  w_even t = pow_comm R w _ h ∙ rw exponent_even (sixth_one_more R _ sixth t)

  pub w_odd : (t : ℕ) → pow R (pow R w (exponent (suc (t + t)))) h ≡ pow R u h
  w_odd t = pow_comm R w _ h ∙ rw exponent_odd (sixth_five_more R _ sixth t ∙ sixth_fifth R _ sixth _ (undo R h w u c ω h))

  -- each is a root of x^n - x^h + 1
  point : (k : ℕ) → Sixth R (pow R (pow R w (exponent k)) h)
  point k = by k (parity k)
    where
      by : (k : ℕ) → Parity k → Sixth R (pow R (pow R w (exponent k)) h)
      by k (even t) = rw w_even sixth
      by k (odd t) = rw w_odd (sixth_u R h w u c ω)

  -- the image of a product is the product of the images, slot by slot
  pub image_product : (a b : ℕ → C) → Short R (h + h) a → Short R (h + h) b → (k : ℕ)
      → image_in R h w (fold num h (schoolbook num a b)) k ≡ image_in R h w a k ⊗ image_in R h w b k
  unfolding image_in
  image_product a b ha hb k = product_value R h _ (point k) a b ha hb
