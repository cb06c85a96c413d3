-- The image of the reverse is the image: slot k of A has weight 1 in slot k of the image of its reverse, and weight 0 in every other slot.
-- Assumes nothing.
use mathlib.Core.Path.{◌≡◌, sym, ap, ap₂, ◌∙◌}
use mathlib.Core.Logic.{◌≢◌}
use Prim.Native.Nat.{ℕ, suc, ◌+◌, ◌*◌, ◌<◌}
use native.Mathlib.Nat as N
use native.Mathlib.Omega.{arith}
use Rattle.algebra.specs.Numbers.{sum}
use Rattle.algebra.specs.Transform.{exponent}
use Rattle.algebra.proofs.Ring.{Ring, ring, units, pow, add_assoc, add_comm, add_add_comm, nil_add, add_mul, mul_add, mul_assoc, mul_comm, mul_mul_comm, mul_nil, nil_mul, mul_one, one_mul, sub_of, mul_pow, one_pow, pow_add, pow_comm, pow_mul}
use Rattle.algebra.proofs.Sum.{sum_cong, sum_add, sum_mul, sum_mul_right, sum_swap, sum_halves, sum_single}
use Rattle.algebra.proofs.Sixth.{Sixth, sixth_add, sixth_five, sixth_fifth, sixth_one_more, sixth_five_more}
use Rattle.algebra.proofs.Exponent.{Parity, even, odd, parity, exponent_even, exponent_odd}
use Rattle.algebra.proofs.Value.{value_in}
use Rattle.algebra.proofs.Root.{Root, half, three_halves, undo, sixth_u, vanish}
use Rattle.algebra.proofs.Image.{image_in, slot_sum_in, mix, mix_is, reverse_in, reverse_low, reverse_high, w_even, w_odd}

module _ (R : Ring) (h : ℕ) (c : R.num.C) where
  open R use {num, one as 𝟙, neg as ν}
  open R.num use {C, nil as 𝟘, add as ◌⊕◌, mul as ◌⊗◌}

  infixl 60 ◌⊕◌
  infixl 70 ◌⊗◌
  -- the weight of a slot whose point is 1/x in the image of the reverse at z
  weight : C → C → C
  weight z x =
      sum num h (λ j. mix R c (pow R x j) (pow R x (h + j)) ⊗ pow R z j ⊕ mix R c (pow R x (h + j)) (pow R x j) ⊗ pow R z (h + j))

  -- (2 + 2 v y - (v + y)) / 3h
  bracket : C → C → C
  bracket y v = c ⊗ (𝟙 ⊕ 𝟙 ⊕ (v ⊗ y ⊕ v ⊗ y) ⊕ ν ⊗ (v ⊕ y))

  weight_is : (z x : C) → weight z x ≡ bracket (pow R z h) (pow R x h) ⊗ sum num h (pow R (z ⊗ x))
  unfolding weight bracket
  weight_is z x = sum_cong num h (λ j _. term j) ∙ sym (sum_mul R h _ _)
    where
      term : (j : ℕ) → mix R c (pow R x j) (pow R x (h + j)) ⊗ pow R z j ⊕ mix R c (pow R x (h + j)) (pow R x j) ⊗ pow R z (h + j)
          ≡ bracket (pow R z h) (pow R x h) ⊗ pow R (z ⊗ x) j
      term j = simp (pow_add, mul_pow, mix_is) (simp (ring, units))

  mix_sum : (n : ℕ) (A s t : ℕ → C)
      → mix R c (sum num n (λ k. A k ⊗ s k)) (sum num n (λ k. A k ⊗ t k)) ≡ sum num n (λ k. A k ⊗ mix R c (s k) (t k))
  mix_sum n A s t =
      mix_is R c _ _ ∙ ap (λ x. c ⊗ x) (ap₂ ◌⊕◌ (sym (sum_add R n _ _)) (sum_mul R n ν _) ∙ sym (sum_add R n _ _)) ∙ sum_mul R n c _
      ∙ sum_cong num n (λ k _. rw (mix_is R c (s k) (t k)) (simp ring))

  image_reverse_sum : (w u : C) (A : ℕ → C) (l : ℕ)
      → image_in R h w (reverse_in R h u c A) l ≡ sum num (h + h) (λ k. A k ⊗ weight (pow R w (exponent l)) (pow R u (exponent k)))
  unfolding image_in value_in weight slot_sum_in
  image_reverse_sum w u A l =
      sum_halves R h _
      ∙ sum_cong num h (λ j hj. ap₂ (λ x y. x ⊗ pow R z j ⊕ y ⊗ pow R z (h + j)) (reverse_low R h u c A j hj ∙ mix_sum (h + h) A _ _) (reverse_high R h u c A j ∙ mix_sum (h + h) A _ _)
      ∙ ap₂ ◌⊕◌ (sum_mul_right R (h + h) _ _) (sum_mul_right R (h + h) _ _) ∙ sym (sum_add R (h + h) _ _))
      ∙ sum_swap R h (h + h) _
      ∙ sum_cong num (h + h) (λ k _. sum_cong num h (λ j _. simp (mul_add, mul_assoc)) ∙ sym (sum_mul R h (A k) _))
    where
      z : C
      z = pow R w (exponent l)

  -- the bracket of two equal roots of x^2 - x + 1 is 0
  bracket_nil : (g : C) → Sixth R g → bracket g g ≡ 𝟘
  unfolding bracket
  bracket_nil g s =
      ap (λ x. c ⊗ x) (sub_of R _ _ 𝟘 (add_add_comm R 𝟙 𝟙 (g ⊗ g) (g ⊗ g) ∙ rw (sixth_add R g s, nil_add))) ∙ mul_nil R c

  -- and of the two different ones it is 3 / 3h
  bracket_three : (g k : C) → g ⊗ k ≡ 𝟙 → Sixth R g → bracket g k ≡ c ⊗ (𝟙 ⊕ 𝟙 ⊕ 𝟙)
  unfolding bracket
  bracket_three g k e s =
      ap (λ x. c ⊗ x) (sub_of R _ _ _ (rw (mul_comm R k g, e, add_comm R k g, one) (sym (add_assoc R (𝟙 ⊕ 𝟙) 𝟙 𝟙))))
    where
      one : g ⊕ k ≡ 𝟙
      one = ap (λ x. g ⊕ x) (sym (sixth_fifth R g s k e)) ∙ sixth_five R g s

module _ (R : Ring) (h : ℕ) (w u c : R.num.C) (ω : Root R h w u c) where
  open R use {num, one as 𝟙}
  open R.num use {C, nil as 𝟘, add as ◌⊕◌, mul as ◌⊗◌}
  open ω use {sixth, third}

  infixl 60 ◌⊕◌
  infixl 70 ◌⊗◌
  undone : pow R u h ⊗ pow R w h ≡ 𝟙
  undone = mul_comm R (pow R u h) (pow R w h) ∙ undo R h w u c ω h

  u_even : (t : ℕ) → pow R (pow R u (exponent (t + t))) h ≡ pow R u h
  u_even t = pow_comm R u _ h ∙ rw exponent_even (sixth_one_more R _ (sixth_u R h w u c ω) t)

  u_odd : (t : ℕ) → pow R (pow R u (exponent (suc (t + t)))) h ≡ pow R w h
  u_odd t =
      pow_comm R u _ h
      ∙ rw exponent_odd (sixth_five_more R _ (sixth_u R h w u c ω) t ∙ sixth_fifth R _ (sixth_u R h w u c ω) _ undone)

  -- the ratio of the points of two slots of one parity is a sixth power
  ratio : (e s t : ℕ) → pow R w (6 * s + e) ⊗ pow R u (6 * t + e) ≡ pow R (pow R w s ⊗ pow R u t) 6
  ratio e s t =
      ap₂ ◌⊗◌ (pow_add R w (6 * s) e) (pow_add R u (6 * t) e) ∙ mul_mul_comm R _ _ _ _
      ∙ rw (undo R h w u c ω e, mul_one, N.mul_comm 6 s, N.mul_comm 6 t, pow_mul R w s 6, pow_mul R u t 6, mul_pow)

  weight_other : (l k : ℕ) → l < h + h → k < h + h → k ≢ l → weight R h c (pow R w (exponent l)) (pow R u (exponent k)) ≡ 𝟘
  weight_other l k hl hk ne = weight_is R h c _ _ ∙ by l k (parity l) (parity k) hl hk ne
    where
      by : (l k : ℕ) → Parity l → Parity k → l < h + h → k < h + h → k ≢ l
          → bracket R h c (pow R (pow R w (exponent l)) h) (pow R (pow R u (exponent k)) h) ⊗ sum num h (pow R (pow R w (exponent l) ⊗ pow R u (exponent k))) ≡ 𝟘
      by l k (even s) (even t) hl hk ne =
          rw (exponent_even s, exponent_even t, ratio 1 s t, vanish R h w u c ω s t (omega arith) (omega arith) (λ p. ne (omega arith)), mul_nil)
      by l k (even s) (odd t) hl hk ne = rw (w_even R h w u c ω s, u_odd t, bracket_nil R h c (pow R w h) sixth, nil_mul)
      by l k (odd s) (even t) hl hk ne = rw (w_odd R h w u c ω s, u_even t, bracket_nil R h c (pow R u h) (sixth_u R h w u c ω), nil_mul)
      by l k (odd s) (odd t) hl hk ne =
          rw (exponent_odd s, exponent_odd t, ratio 5 s t, vanish R h w u c ω s t (omega arith) (omega arith) (λ p. ne (omega arith)), mul_nil)

  weight_own : (l : ℕ) → weight R h c (pow R w (exponent l)) (pow R u (exponent l)) ≡ 𝟙
  unfolding half
  weight_own l = weight_is R h c _ _ ∙ ap₂ ◌⊗◌ (by l (parity l)) ones ∙ rw mul_assoc (simp (add_mul, one_mul) (ap (λ x. c ⊗ x) (sym (three_halves R h)) ∙ third))
    where
      ones : sum num h (pow R (pow R w (exponent l) ⊗ pow R u (exponent l))) ≡ half R h
      ones = rw (undo R h w u c ω (exponent l)) (sum_cong num h (λ j _. one_pow R j))

      by : (l : ℕ) → Parity l → bracket R h c (pow R (pow R w (exponent l)) h) (pow R (pow R u (exponent l)) h) ≡ c ⊗ (𝟙 ⊕ 𝟙 ⊕ 𝟙)
      by l (even t) = rw (w_even R h w u c ω t, u_even t) (bracket_three R h c (pow R w h) (pow R u h) (undo R h w u c ω h) sixth)
      by l (odd t) = rw (w_odd R h w u c ω t, u_odd t) (bracket_three R h c (pow R u h) (pow R w h) undone (sixth_u R h w u c ω))

  pub image_reverse : (A : ℕ → C) (l : ℕ) → l < h + h → image_in R h w (reverse_in R h u c A) l ≡ A l
  image_reverse A l hl =
      image_reverse_sum R h c w u A l
      ∙ sum_single R (h + h) l _ hl (λ k hk ne. rw (weight_other l k hl hk ne, mul_nil))
      ∙ rw (weight_own l, mul_one)
