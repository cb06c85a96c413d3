-- Sixth roots of 1 in a ring: the roots g of x^2 - x + 1. Then g^3 = -1, g^6 = 1, g + g^5 = 1, and g^5 is the inverse.
-- Assumes nothing.
use mathlib.Core.Path.{◌≡◌, sym, ap, ap₂, ◌∙◌}
use Prim.Native.Nat.{ℕ, ◌+◌, ◌*◌}
use Rattle.algebra.proofs.Ring.{Ring, pow, add_assoc, add_comm, add_left_comm, add_right_comm, add_nil, nil_add, mul_assoc, mul_comm, mul_one, one_mul, mul_add, add_mul, one_neg, mul_mul_comm, minus, add_cancel, neg_neg, pow_suc, pow_one, pow_add, pow_mul, one_pow}

module _ (R : Ring) where
  open R use {one as 𝟙, neg as ν}
  open R.num use {C, add as ◌⊕◌, mul as ◌⊗◌}

  infixl 60 ◌⊕◌
  infixl 70 ◌⊗◌
  -- g^2 = g - 1
  abbrev pub Sixth : C → Type 0
  Sixth g = g ⊗ g ≡ g ⊕ ν

  pow_two : (g : C) → pow R g 2 ≡ g ⊗ g
  pow_two g = pow_add R g 1 1 ∙ rw (pow_one R g)

  module _ (g : C) (s : Sixth g) where
    -- 1 + g^2 = g
    pub sixth_add : 𝟙 ⊕ g ⊗ g ≡ g
    sixth_add = rw (s, add_left_comm, one_neg, add_nil)

    -- g^3 = -1
    pub sixth_three : pow R g 3 ≡ ν
    sixth_three = pow_suc R g 2 ∙ rw (pow_two, s, add_mul, s, add_right_comm R g ν (ν ⊗ g), minus, nil_add)

    -- g^6 = 1
    pub sixth_six : pow R g 6 ≡ 𝟙
    sixth_six = rw (pow_add R g 3 3, sixth_three, neg_neg)

    -- g + g^5 = 1
    pub sixth_five : g ⊕ pow R g 5 ≡ 𝟙
    sixth_five = rw (pow_add R g 3 2, sixth_three, pow_two, s, mul_add, neg_neg, ← add_assoc R g (ν ⊗ g) 𝟙, minus, nil_add)

    -- g^(6t + 1) = g
    pub sixth_one_more : (t : ℕ) → pow R g (6 * t + 1) ≡ g
    sixth_one_more t = rw (pow_add, pow_mul, sixth_six, one_pow, pow_one, one_mul)

    -- g^(6t + 5) = g^5
    pub sixth_five_more : (t : ℕ) → pow R g (6 * t + 5) ≡ pow R g 5
    sixth_five_more t = rw (pow_add, pow_mul, sixth_six, one_pow, one_mul)

    module _ (k : C) (e : g ⊗ k ≡ 𝟙) where
      -- g^5 = 1/g
      pub sixth_fifth : pow R g 5 ≡ k
      sixth_fifth =
          sym (mul_one R (pow R g 5)) ∙ ap (λ x. pow R g 5 ⊗ x) (sym e) ∙ sym (mul_assoc R (pow R g 5) g k)
          ∙ ap (λ x. x ⊗ k) (sym (pow_suc R g 5) ∙ sixth_six) ∙ one_mul R k

      -- 1/g is a sixth root too
      pub sixth_inverse : Sixth k
      sixth_inverse = add_cancel R (k ⊗ k) (k ⊕ ν) 𝟙 (left ∙ sym right)
        where
          right : k ⊕ ν ⊕ 𝟙 ≡ k
          right = rw (add_assoc, add_comm R ν 𝟙, one_neg, add_nil)

          one' : k ⊗ k ⊗ (g ⊗ g) ≡ 𝟙
          one' = mul_mul_comm R k k g g ∙ rw (mul_comm R k g, e, mul_one)

          left : k ⊗ k ⊕ 𝟙 ≡ k
          left =
              ap₂ ◌⊕◌ (sym (mul_one R (k ⊗ k))) (sym one') ∙ sym (mul_add R (k ⊗ k) 𝟙 (g ⊗ g))
              ∙ rw (sixth_add, mul_assoc, mul_comm R k g, e, mul_one)
