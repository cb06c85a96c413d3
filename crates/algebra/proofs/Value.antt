-- The value of a polynomial at a point of a ring. At a root of x^(2h) - x^h + 1 folding keeps it, so the value of the folded product
-- is the product of the values. Assumes nothing.
use mathlib.Core.Path.{◌≡◌, sym, ap, ap₂, ◌∙◌}
use Prim.Native.Nat.{ℕ, suc, ◌+◌, ◌-◌, ◌≤◌, ◌<◌}
use native.Mathlib.Decide.{dec_lt}
use native.Mathlib.Nat.{add-sub_of_le, add-sub_cancel_left}
use native.Mathlib.Omega.{arith}
use borrow.Author.Tests.{le-ltb, lt-ltb}
use Rattle.algebra.specs.Numbers.{Numbers, sum}
use Rattle.algebra.specs.Product.{schoolbook, fold_low, fold_high, fold}
use Rattle.algebra.proofs.Ring.{Ring, ring, pow, pow_add, mul_assoc, nil_mul, add_mul, add_right_comm, minus, nil_add, sub_is}
use Rattle.algebra.proofs.Sum.{sum_cong, sum_add, sum_mul, sum_mul_right, sum_past, sum_split, sum_halves, sum_diagonals}

-- ---- the halves of a folded product, of any numbers

module _ (N : Numbers) where
  pub fold_low_lem : (h : ℕ) (c : ℕ → N.C) (i : ℕ) → i < h → fold N h c i ≡ fold_low N h c i
  unfolding fold
  fold_low_lem h c i l = rw (lt-ltb i h l)

  pub fold_high_lem : (h : ℕ) (c : ℕ → N.C) (i : ℕ) → fold N h c (h + i) ≡ fold_high N h c i
  unfolding fold
  fold_high_lem h c i = rw (le-ltb (h + i) h (omega arith), add-sub_cancel_left)

-- ---- in a ring

module _ (R : Ring) where
  open R use {num, neg as ν}
  open R.num use {C, nil as 𝟘, add as ◌⊕◌, mul as ◌⊗◌}

  infixl 60 ◌⊕◌
  infixl 70 ◌⊗◌
  -- a_0 + a_1 z + .. + a_(n-1) z^(n-1)
  unfoldable pub value_in : ℕ → (ℕ → C) → C → C
  value_in n a z = sum num n (λ i. a i ⊗ pow R z i)

  -- n coefficients: past them all is 0
  abbrev pub Short : ℕ → (ℕ → C) → Type 0
  Short n a = (i : ℕ) → n ≤ i → a i ≡ 𝟘

  -- the value of the schoolbook product is the product of the values
  pub schoolbook_value : (n : ℕ) (a b : ℕ → C) (z : C) → Short n a → Short n b
      → value_in (n + n) (schoolbook num a b) z ≡ value_in n a z ⊗ value_in n b z
  unfolding value_in schoolbook
  schoolbook_value n a b z ha hb =
      sum_cong num (n + n) (λ m _. sum_mul_right R (suc m) _ (pow R z m) ∙ sum_cong num (suc m) (λ i h. split i m h))
      ∙ sum_diagonals R (n + n) (λ i j. a i ⊗ pow R z i ⊗ (b j ⊗ pow R z j))
      ∙ sum_cong num (n + n) (λ i h. sym (sum_mul R (n + n - i) (a i ⊗ pow R z i) _) ∙ row i h (dec_lt i n))
      ∙ sum_past R n (n + n) _ (omega arith) (λ i h. rw (ha i h, nil_mul, nil_mul))
      ∙ sym (sum_mul_right R n _ (value_in n b z))
    where
      split : (i m : ℕ) → i < suc m → a i ⊗ b (m - i) ⊗ pow R z m ≡ a i ⊗ pow R z i ⊗ (b (m - i) ⊗ pow R z (m - i))
      split i m h = rw (ap (pow R z) (sym (add-sub_of_le {n = m} {m = i} (omega arith))) ∙ pow_add R z i (m - i)) (simp ring)

      row : (i : ℕ) → i < n + n → Dec (i < n)
          → a i ⊗ pow R z i ⊗ sum num (n + n - i) (λ j. b j ⊗ pow R z j) ≡ a i ⊗ pow R z i ⊗ value_in n b z
      row i h (yes l) =
          ap (λ x. a i ⊗ pow R z i ⊗ x)
          (sum_past R n (n + n - i) (λ j. b j ⊗ pow R z j) (omega arith) (λ j k. rw (hb j k, nil_mul)))
      row i h (no l) = rw (ha i (omega arith), nil_mul R (pow R z i), nil_mul R (sum num (n + n - i) _), nil_mul)

  -- ---- folding

  module _ (h : ℕ) (z : C) (root : pow R z h ⊗ pow R z h ≡ pow R z h ⊕ ν) where
    -- z^3h = -1
    cube : (p : C) → (pow R z h ⊕ ν) ⊗ (pow R z h ⊗ p) ≡ ν ⊗ p
    cube p =
        rw (← mul_assoc R (pow R z h ⊕ ν) (pow R z h) p, add_mul, root, add_right_comm R (pow R z h) ν (ν ⊗ pow R z h), minus, nil_add)

    -- folding keeps the value at z
    pub fold_value : (c : ℕ → C) → value_in (h + h) (fold num h c) z ≡ value_in (h + h + (h + h)) c z
    unfolding value_in fold_low fold_high
    fold_value c =
        sum_halves R h _ ∙ sum_cong num h (λ i l. term i l) ∙ sum_add R h _ _
        ∙ sym (sum_split R (h + h) (h + h) _ ∙ ap₂ ◌⊕◌ (sum_halves R h _) (sum_halves R h _))
      where
        term : (i : ℕ) → i < h → fold num h c i ⊗ pow R z i ⊕ fold num h c (h + i) ⊗ pow R z (h + i)
            ≡ c i ⊗ pow R z i ⊕ c (h + i) ⊗ pow R z (h + i)
            ⊕ (c (h + h + i) ⊗ pow R z (h + h + i) ⊕ c (h + h + (h + i)) ⊗ pow R z (h + h + (h + i)))
        term i l = rw (fold_low_lem num h c i l, fold_high_lem num h c i) (simp (fold_low, fold_high, sub_is R, pow_add, root, cube) (simp ring))

    -- the value of the folded product is the product of the values
    pub product_value : (a b : ℕ → C) → Short (h + h) a → Short (h + h) b
        → value_in (h + h) (fold num h (schoolbook num a b)) z ≡ value_in (h + h) a z ⊗ value_in (h + h) b z
    product_value a b ha hb = fold_value (schoolbook num a b) ∙ schoolbook_value (h + h) a b z ha hb
