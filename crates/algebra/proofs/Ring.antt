-- A commutative ring, as a record over its numbers: 1, -1 and the laws. A difference is a + -1 * b, so that all algebra is sorting sums of products.
-- Assumes nothing.
use mathlib.Core.Path.{◌≡◌, refl, sym, ap, ◌∙◌}
use Prim.Native.Nat.{ℕ, zero, suc, ◌+◌, ◌*◌}
use native.Mathlib.Nat.{add-zero, add-suc, mul-zero, mul-suc}
use native.Mathlib.Nat as N
use Rattle.algebra.specs.Numbers.{Numbers}

pub record Ring : Type 1 where
  pub num : Numbers
  pub one : num.C
  pub neg : num.C
  pub l_add_assoc : (a b c : num.C) → num.add (num.add a b) c ≡ num.add a (num.add b c)
  pub l_add_comm : (a b : num.C) → num.add a b ≡ num.add b a
  pub l_add_nil : (a : num.C) → num.add a num.nil ≡ a
  pub l_mul_assoc : (a b c : num.C) → num.mul (num.mul a b) c ≡ num.mul a (num.mul b c)
  pub l_mul_comm : (a b : num.C) → num.mul a b ≡ num.mul b a
  pub l_mul_one : (a : num.C) → num.mul a one ≡ a
  pub l_mul_nil : (a : num.C) → num.mul a num.nil ≡ num.nil
  pub l_mul_add : (a b c : num.C) → num.mul a (num.add b c) ≡ num.add (num.mul a b) (num.mul a c)
  pub l_one_neg : num.add one neg ≡ num.nil
  pub l_sub : (a b : num.C) → num.sub a b ≡ num.add a (num.mul neg b)

module _ (R : Ring) where
  open R use {one as 𝟙, neg as ν}
  open R.num use {C, nil as 𝟘, add as ◌⊕◌, sub as ◌⊖◌, mul as ◌⊗◌}

  infixl 60 ◌⊕◌ ◌⊖◌
  infixl 70 ◌⊗◌
  -- ---- the laws, by names that `rw` and `simp` take

  pub add_assoc : (a b c : C) → a ⊕ b ⊕ c ≡ a ⊕ (b ⊕ c)
  add_assoc = R.l_add_assoc

  pub add_comm : (a b : C) → a ⊕ b ≡ b ⊕ a
  add_comm = R.l_add_comm

  pub add_nil : (a : C) → a ⊕ 𝟘 ≡ a
  add_nil = R.l_add_nil

  pub nil_add : (a : C) → 𝟘 ⊕ a ≡ a
  nil_add a = add_comm 𝟘 a ∙ add_nil a

  pub mul_assoc : (a b c : C) → a ⊗ b ⊗ c ≡ a ⊗ (b ⊗ c)
  mul_assoc = R.l_mul_assoc

  pub mul_comm : (a b : C) → a ⊗ b ≡ b ⊗ a
  mul_comm = R.l_mul_comm

  pub mul_one : (a : C) → a ⊗ 𝟙 ≡ a
  mul_one = R.l_mul_one

  pub one_mul : (a : C) → 𝟙 ⊗ a ≡ a
  one_mul a = mul_comm 𝟙 a ∙ mul_one a

  pub mul_nil : (a : C) → a ⊗ 𝟘 ≡ 𝟘
  mul_nil = R.l_mul_nil

  pub nil_mul : (a : C) → 𝟘 ⊗ a ≡ 𝟘
  nil_mul a = mul_comm 𝟘 a ∙ mul_nil a

  pub mul_add : (a b c : C) → a ⊗ (b ⊕ c) ≡ a ⊗ b ⊕ a ⊗ c
  mul_add = R.l_mul_add

  pub add_mul : (a b c : C) → (a ⊕ b) ⊗ c ≡ a ⊗ c ⊕ b ⊗ c
  add_mul a b c = rw (mul_comm (a ⊕ b) c, mul_add, mul_comm c a, mul_comm c b)

  pub sub_is : (a b : C) → a ⊖ b ≡ a ⊕ ν ⊗ b
  sub_is = R.l_sub

  pub one_neg : 𝟙 ⊕ ν ≡ 𝟘
  one_neg = R.l_one_neg

  -- ---- sums and products, sorted

  pub add_left_comm : (a b c : C) → a ⊕ (b ⊕ c) ≡ b ⊕ (a ⊕ c)
  add_left_comm a b c = rw (← (add_assoc a b c), add_comm a b, add_assoc)

  pub add_right_comm : (a b c : C) → a ⊕ b ⊕ c ≡ a ⊕ c ⊕ b
  add_right_comm a b c = rw (add_assoc a b c, add_comm b c, ← add_assoc a c b)

  pub mul_left_comm : (a b c : C) → a ⊗ (b ⊗ c) ≡ b ⊗ (a ⊗ c)
  mul_left_comm a b c = rw (← (mul_assoc a b c), mul_comm a b, mul_assoc)

  pub add_add_comm : (a b c d : C) → a ⊕ b ⊕ (c ⊕ d) ≡ a ⊕ c ⊕ (b ⊕ d)
  add_add_comm a b c d = simp (add_assoc, add_left_comm)

  pub mul_mul_comm : (a b c d : C) → a ⊗ b ⊗ (c ⊗ d) ≡ a ⊗ c ⊗ (b ⊗ d)
  mul_mul_comm a b c d = simp (mul_assoc, mul_left_comm)

  pub ruleset ring = (mul_add, add_mul, add_assoc, add_comm, add_left_comm, mul_assoc, mul_comm, mul_left_comm)

  pub ruleset units = (add_nil, nil_add, mul_one, one_mul, mul_nil, nil_mul)

  -- ---- differences

  -- a - a = 0
  pub minus : (a : C) → a ⊕ ν ⊗ a ≡ 𝟘
  minus a = rw (ap (λ x. x ⊕ ν ⊗ a) (sym (one_mul a)), ← add_mul 𝟙 ν a, one_neg, nil_mul)

  -- a difference, by the sum that it undoes
  pub sub_of : (p s t : C) → p ≡ t ⊕ s → p ⊕ ν ⊗ s ≡ t
  sub_of p s t e = rw (e, add_assoc, minus, add_nil)

  pub add_cancel : (a b c : C) → a ⊕ c ≡ b ⊕ c → a ≡ b
  add_cancel a b c e = sym (sub_of (b ⊕ c) c a (sym e)) ∙ sub_of (b ⊕ c) c b refl

  -- -1 * -1 = 1
  pub neg_neg : ν ⊗ ν ≡ 𝟙
  neg_neg = add_cancel (ν ⊗ ν) 𝟙 ν (rw (add_comm (ν ⊗ ν) ν, minus, one_neg))

  -- ---- powers

  pub pow : C → ℕ → C
  pow a zero = 𝟙
  pow a (suc n) = pow a n ⊗ a

  pub pow_zero : (a : C) → pow a 0 ≡ 𝟙
  unfolding pow
  pow_zero a = refl

  pub pow_suc : (a : C) (n : ℕ) → pow a (suc n) ≡ pow a n ⊗ a
  unfolding pow
  pow_suc a n = refl

  pub pow_one : (a : C) → pow a 1 ≡ a
  pow_one a = pow_suc a 0 ∙ rw (pow_zero, one_mul)

  pub pow_add : (a : C) (m n : ℕ) → pow a (m + n) ≡ pow a m ⊗ pow a n
  pow_add a m zero = simp (add-zero, pow_zero, mul_one)
  pow_add a m (suc n) = simp (add-suc, pow_suc, pow_add a m n, mul_assoc)

  pub pow_mul : (a : C) (m n : ℕ) → pow a (m * n) ≡ pow (pow a m) n
  pow_mul a m zero = simp (mul-zero, pow_zero)
  pow_mul a m (suc n) = simp (mul-suc, pow_suc, pow_add a (m * n) m, pow_mul a m n)

  pub mul_pow : (a b : C) (n : ℕ) → pow (a ⊗ b) n ≡ pow a n ⊗ pow b n
  mul_pow a b zero = simp (pow_zero, mul_one)
  mul_pow a b (suc n) = simp (pow_suc, mul_pow a b n, mul_assoc, mul_comm, mul_left_comm)

  pub one_pow : (n : ℕ) → pow 𝟙 n ≡ 𝟙
  one_pow zero = pow_zero 𝟙
  one_pow (suc n) = simp (pow_suc, one_pow n, mul_one)

  pub pow_comm : (a : C) (m n : ℕ) → pow (pow a m) n ≡ pow (pow a n) m
  pow_comm a m n = rw (← pow_mul a m n, N.mul_comm m n, pow_mul)
