-- The reverse of the image is the polynomial: the slot sums of an image hold each coefficient h times twice over, and its partner h times.
-- Assumes nothing.
use mathlib.Core.Path.{◌≡◌, sym, ap, ap₂, ◌∙◌}
use Prim.Native.Nat.{ℕ, ◌+◌, ◌<◌}
use Rattle.algebra.specs.Numbers.{sum}
use Rattle.algebra.specs.Transform.{exponent}
use Rattle.algebra.proofs.Ring.{Ring, ring, units, pow, add_comm, mul_assoc, mul_left_comm, mul_mul_comm, mul_one, one_mul, sub_of, mul_pow, one_pow, pow_add, pow_comm}
use Rattle.algebra.proofs.Sum.{sum_cong, sum_mul, sum_mul_right, sum_swap, sum_halves, sum_single}
use Rattle.algebra.proofs.Sixth.{sixth_six}
use Rattle.algebra.proofs.Halves.{halves}
use Rattle.algebra.proofs.Value.{value_in}
use Rattle.algebra.proofs.Root.{Root, slot_powers, half, slot_powers_one, slot_powers_sixth, slot_powers_nil, three_halves, undo, sixth_u}
use Rattle.algebra.proofs.Image.{image_in, slot_sum_in, mix, mix_is, reverse_in, reverse_low, reverse_high}

module _ (R : Ring) (h : ℕ) (w u c : R.num.C) (ω : Root R h w u c) where
  open R use {num, one as 𝟙}
  open R.num use {C, add as ◌⊕◌, mul as ◌⊗◌}
  open ω use {sixth, third}

  infixl 60 ◌⊕◌
  infixl 70 ◌⊗◌
  abbrev K : C → C
  K = slot_powers R h

  abbrev H : C
  H = half R h

  -- S_j = sum of a_i K(w^i u^j)
  slot_sum_image : (a : ℕ → C) (j : ℕ)
      → slot_sum_in R h u (image_in R h w a) j ≡ sum num (h + h) (λ i. a i ⊗ K (pow R w i ⊗ pow R u j))
  unfolding slot_sum_in image_in value_in slot_powers
  slot_sum_image a j =
      sum_cong num (h + h) (λ k _. sum_mul_right R (h + h) _ _ ∙ sum_cong num (h + h) (λ i _. term k i))
      ∙ sum_swap R (h + h) (h + h) (λ k i. a i ⊗ pow R (pow R w i ⊗ pow R u j) (exponent k))
      ∙ sum_cong num (h + h) (λ i _. sym (sum_mul R (h + h) (a i) _))
    where
      term : (k i : ℕ) → a i ⊗ pow R (pow R w (exponent k)) i ⊗ pow R (pow R u (exponent k)) j
          ≡ a i ⊗ pow R (pow R w i ⊗ pow R u j) (exponent k)
      term k i = rw (mul_pow, pow_comm R w (exponent k) i, pow_comm R u (exponent k) j, mul_assoc)

  -- of the two halves only the places i = j count
  only_own : (a : ℕ → C) (s t : C) → pow R s 6 ≡ 𝟙 → pow R t 6 ≡ 𝟙 → (j : ℕ) → j < h
      → sum num h (λ i. a i ⊗ K (s ⊗ (pow R w i ⊗ pow R u j)) ⊕ a (h + i) ⊗ K (t ⊗ (pow R w i ⊗ pow R u j)))
      ≡ a j ⊗ K s ⊕ a (h + j) ⊗ K t
  only_own a s t es et j l =
      sum_single R h j _ l (λ i hi ne. rw (slot_powers_nil R h w u c ω s es i j hi l ne, slot_powers_nil R h w u c ω t et i j hi l ne) (simp units))
      ∙ rw (undo R h w u c ω j) (simp mul_one)

  -- S_j = 2h a_j + h a_(h+j)
  slot_sum_low : (a : ℕ → C) (j : ℕ) → j < h → slot_sum_in R h u (image_in R h w a) j ≡ a j ⊗ (H ⊕ H) ⊕ a (h + j) ⊗ H
  slot_sum_low a j l =
      slot_sum_image a j ∙ sum_halves R h _
      ∙ sum_cong num h (λ i _. ap₂ (λ x y. a i ⊗ K x ⊕ a (h + i) ⊗ K y) (sym (one_mul R _)) (simp (pow_add, mul_assoc)))
      ∙ only_own a 𝟙 (pow R w h) (one_pow R 6) (sixth_six R _ sixth) j l
      ∙ rw (slot_powers_one, slot_powers_sixth R h (pow R w h) sixth)

  -- S_(h+j) = h a_j + 2h a_(h+j)
  slot_sum_high : (a : ℕ → C) (j : ℕ) → j < h → slot_sum_in R h u (image_in R h w a) (h + j) ≡ a j ⊗ H ⊕ a (h + j) ⊗ (H ⊕ H)
  slot_sum_high a j l =
      slot_sum_image a (h + j) ∙ sum_halves R h _
      ∙ sum_cong num h (λ i _. ap₂ (λ x y. a i ⊗ K x ⊕ a (h + i) ⊗ K y) (rw (pow_add, mul_left_comm R (pow R w i) (pow R u h) (pow R u j))) (both i))
      ∙ only_own a (pow R u h) 𝟙 (sixth_six R _ (sixth_u R h w u c ω)) (one_pow R 6) j l
      ∙ rw (slot_powers_one, slot_powers_sixth R h (pow R u h) (sixth_u R h w u c ω))
    where
      both : (i : ℕ) → pow R w (h + i) ⊗ pow R u (h + j) ≡ 𝟙 ⊗ (pow R w i ⊗ pow R u j)
      both i =
          rw (pow_add R w h i, pow_add R u h j)
          (mul_mul_comm R (pow R w h) (pow R w i) (pow R u h) (pow R u j)
          ∙ ap (λ x. x ⊗ (pow R w i ⊗ pow R u j)) (undo R h w u c ω h))

  -- 2 (2h x + h y) - (h x + 2h y) = 3h x
  three_times : (x y : C) → mix R c (x ⊗ (H ⊕ H) ⊕ y ⊗ H) (x ⊗ H ⊕ y ⊗ (H ⊕ H)) ≡ x
  three_times x y =
      mix_is R c _ _ ∙ ap (λ t. c ⊗ t) (sub_of R _ _ (x ⊗ (H ⊕ H ⊕ H)) (simp ring))
      ∙ mul_left_comm R c x (H ⊕ H ⊕ H) ∙ ap (λ t. x ⊗ (c ⊗ t)) (sym (three_halves R h)) ∙ rw (third, mul_one)

  pub reverse_image : (a : ℕ → C) (j : ℕ) → j < h + h → reverse_in R h u c (image_in R h w a) j ≡ a j
  reverse_image a =
      halves h (λ j. reverse_in R h u c (image_in R h w a) j ≡ a j)
      (λ j l. reverse_low R h u c _ j l ∙ rw (slot_sum_low a j l, slot_sum_high a j l) (three_times (a j) (a (h + j))))
      (λ j l. reverse_high R h u c _ j
      ∙ rw (slot_sum_low a j l, slot_sum_high a j l, add_comm R (a j ⊗ H), add_comm R (a j ⊗ (H ⊕ H))) (three_times (a (h + j)) (a j)))
