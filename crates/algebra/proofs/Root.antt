-- What the transform over n = 2h asks of its root w, as one record, and the sums of powers that vanish by it.
-- Assumes nothing.
use mathlib.Core.Path.{◌≡◌, sym, ap, ◌∙◌}
use mathlib.Core.Logic.{◌≢◌}
use Prim.Native.Nat.{ℕ, suc, ◌+◌, ◌*◌, ◌-◌, ◌≤◌, ◌<◌}
use native.Mathlib.Decide.{dec_lt}
use native.Mathlib.Nat as N
use native.Mathlib.Omega.{arith}
use Rattle.algebra.specs.Numbers.{sum}
use Rattle.algebra.specs.Transform.{exponent}
use Rattle.algebra.proofs.Ring.{Ring, pow, add_cancel, add_mul, mul_assoc, mul_comm, mul_nil, mul_one, one_mul, mul_pow, one_pow, pow_add, pow_comm, pow_mul, pow_one}
use Rattle.algebra.proofs.Sum.{sum_cong, sum_mul, sum_split, sum_pairs, geometric}
use Rattle.algebra.proofs.Sixth.{Sixth, sixth_six, sixth_five, sixth_inverse}
use Rattle.algebra.proofs.Exponent.{exponent_even, exponent_odd}

-- u = 1/w; w^h is a root of x^2 - x + 1; what w^6, w^12, .. w^(6h - 6) keep is 0, so none of them is 1; c = 1/3h
pub record Root (R : Ring) (h : ℕ) (w u c : R.num.C) : Type 0 where
  pub inverse : R.num.mul w u ≡ R.one
  pub sixth : Sixth R (pow R w h)
  pub order : (d : ℕ) → 0 < d → d < h → (x : R.num.C) → R.num.mul (pow R w (6 * d)) x ≡ x → x ≡ R.num.nil
  pub third : R.num.mul c (sum R.num (3 * h) (λ _. R.one)) ≡ R.one

-- ---- the sum of g^e over the exponents e of the slots

module _ (R : Ring) (h : ℕ) where
  open R use {num, one as 𝟙}
  open R.num use {C, add as ◌⊕◌, mul as ◌⊗◌}

  infixl 60 ◌⊕◌
  infixl 70 ◌⊗◌
  unfoldable pub slot_powers : C → C
  slot_powers g = sum num (h + h) (λ k. pow R g (exponent k))

  -- h, as a number of the ring
  unfoldable pub half : C
  half = sum num h (λ _. 𝟙)

  -- (g + g^5) (1 + g^6 + g^12 + .. + g^(6h - 6))
  pub slot_powers_is : (g : C) → slot_powers g ≡ (g ⊕ pow R g 5) ⊗ sum num h (pow R (pow R g 6))
  unfolding slot_powers
  slot_powers_is g = sum_pairs R h _ ∙ sum_cong num h (λ t _. term t) ∙ sym (sum_mul R h _ _)
    where
      term : (t : ℕ) → pow R g (exponent (t + t)) ⊕ pow R g (exponent (suc (t + t))) ≡ (g ⊕ pow R g 5) ⊗ pow R (pow R g 6) t
      term t = simp (exponent_even, exponent_odd, pow_add, pow_mul, pow_one, add_mul, mul_comm)

  -- 1 sums to 2h
  pub slot_powers_one : slot_powers 𝟙 ≡ half ⊕ half
  unfolding slot_powers half
  slot_powers_one = sum_cong num (h + h) (λ k _. one_pow R (exponent k)) ∙ sum_split R h h _

  -- a root of x^2 - x + 1 sums to h
  pub slot_powers_sixth : (g : C) → Sixth R g → slot_powers g ≡ half
  unfolding half
  slot_powers_sixth g s =
      slot_powers_is g ∙ rw (sixth_five R g s, sixth_six R g s, one_mul) (sum_cong num h (λ i _. one_pow R i))

  -- 3h = h + h + h
  pub three_halves : sum num (3 * h) (λ _. 𝟙) ≡ half ⊕ half ⊕ half
  unfolding half
  three_halves = ap (λ k. sum num k (λ _. 𝟙)) e ∙ sum_split R (h + h) h _ ∙ ap (λ x. x ⊕ half) (sum_split R h h _)
    where
      e : 3 * h ≡ h + h + h
      e = omega arith

-- ---- at a root

module _ (R : Ring) (h : ℕ) (w u c : R.num.C) (ω : Root R h w u c) where
  open R use {num, one as 𝟙}
  open R.num use {C, nil as 𝟘, add as ◌⊕◌, mul as ◌⊗◌}
  open ω use {inverse, sixth, order}

  infixl 60 ◌⊕◌
  infixl 70 ◌⊗◌
  -- w^n u^n = 1
  pub undo : (n : ℕ) → pow R w n ⊗ pow R u n ≡ 𝟙
  undo n = rw (← mul_pow R w u n, inverse, one_pow)

  pub sixth_u : Sixth R (pow R u h)
  sixth_u = sixth_inverse R (pow R w h) sixth (pow R u h) (undo h)

  order_u : (d : ℕ) → 0 < d → d < h → (x : C) → pow R u (6 * d) ⊗ x ≡ x → x ≡ 𝟘
  order_u d p l x e =
      order d p l x (ap (λ y. pow R w (6 * d) ⊗ y) (sym e) ∙ rw (← mul_assoc R (pow R w (6 * d)) (pow R u (6 * d)) x, undo, one_mul))

  -- 1 + v^6d + v^12d + .. over h terms is 0, for v = w and v = u
  geometric_nil : (v : C) (d : ℕ) → Sixth R (pow R v h) → ((x : C) → pow R v (6 * d) ⊗ x ≡ x → x ≡ 𝟘)
      → sum num h (pow R (pow R (pow R v d) 6)) ≡ 𝟘
  geometric_nil v d s keeps =
      keeps _ (rw at_six (add_cancel R _ _ 𝟙 (geometric R r h ∙ ap (λ x. sum num h (pow R r) ⊕ x) around)))
    where
      r : C
      r = pow R (pow R v d) 6

      at_six : pow R v (6 * d) ≡ r
      at_six = rw (N.mul_comm 6 d, pow_mul)

      around : pow R r h ≡ 𝟙
      around = ap (λ x. pow R x h) (sym at_six) ∙ pow_comm R v (6 * d) h ∙ rw (pow_mul, sixth_six R _ s, one_pow)

  -- w^i u^j is w^(i - j) or u^(j - i)
  ratio_w : (i j : ℕ) → j ≤ i → pow R w i ⊗ pow R u j ≡ pow R w (i - j)
  ratio_w i j l = rw (ap (pow R w) (sym (N.sub-add_cancel l)) ∙ pow_add R w (i - j) j, mul_assoc, undo, mul_one)

  ratio_u : (i j : ℕ) → i ≤ j → pow R w i ⊗ pow R u j ≡ pow R u (j - i)
  ratio_u i j l =
      rw (ap (pow R u) (sym (N.sub-add_cancel l)) ∙ pow_add R u (j - i) i, mul_comm R (pow R u (j - i)) (pow R u i), ← mul_assoc R (pow R w i) (pow R u i) (pow R u (j - i)), undo, one_mul)

  -- so it is for v^d = w^i u^j
  pub vanish : (i j : ℕ) → i < h → j < h → i ≢ j → sum num h (pow R (pow R (pow R w i ⊗ pow R u j) 6)) ≡ 𝟘
  vanish i j hi hj ne = by (dec_lt i j)
    where
      by : Dec (i < j) → sum num h (pow R (pow R (pow R w i ⊗ pow R u j) 6)) ≡ 𝟘
      by (yes l) = rw (ratio_u i j (omega arith)) (geometric_nil u (j - i) sixth_u (order_u (j - i) (omega arith) (omega arith)))
      by (no l) = rw (ratio_w i j (omega arith)) (geometric_nil w (i - j) sixth (order (i - j) (omega arith) (omega arith)))

  -- the slots' powers of s w^i u^j, for a sixth root s of 1, sum to 0 where i and j differ
  pub slot_powers_nil : (s : C) → pow R s 6 ≡ 𝟙 → (i j : ℕ) → i < h → j < h → i ≢ j
      → slot_powers R h (s ⊗ (pow R w i ⊗ pow R u j)) ≡ 𝟘
  slot_powers_nil s e i j hi hj ne = slot_powers_is R h _ ∙ rw (mul_pow R s _ 6, e, one_mul, vanish i j hi hj ne, mul_nil)
