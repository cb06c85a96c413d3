-- Finite sums in a commutative ring: added, multiplied, exchanged, split, the geometric sum, and a triangle summed by its diagonals.
-- Assumes nothing.
use mathlib.Core.Path.{◌≡◌, refl, sym, ap, ◌∙◌}
use mathlib.Core.Logic.{◌≢◌}
use Prim.Native.Nat.{ℕ, zero, suc, ◌+◌, ◌-◌, ◌≤◌, ◌<◌}
use native.Mathlib.Decide.{ℕ_discrete}
use native.Mathlib.Nat.{add-zero, add-suc, suc-add, sub_self, add-sub_of_le}
use native.Mathlib.Omega.{arith}
use Rattle.algebra.specs.Numbers.{Numbers, sum}
use Rattle.algebra.proofs.Ring.{Ring, pow, add_assoc, add_comm, add_left_comm, add_right_comm, add_nil, nil_add, mul_add, mul_comm, mul_nil, pow_zero, pow_suc}

-- ---- of any numbers

module _ (N : Numbers) where
  pub sum_zero : (f : ℕ → N.C) → sum N 0 f ≡ N.nil
  unfolding sum
  sum_zero f = refl

  pub sum_suc : (n : ℕ) (f : ℕ → N.C) → sum N (suc n) f ≡ N.add (sum N n f) (f n)
  unfolding sum
  sum_suc n f = refl

  pub sum_cong : (n : ℕ) {f g : ℕ → N.C} → ((i : ℕ) → i < n → f i ≡ g i) → sum N n f ≡ sum N n g
  sum_cong zero {f} {g} e = simp sum_zero
  sum_cong (suc n) {f} {g} e = rw (sum_suc n f, sum_suc n g, sum_cong n (λ i h. e i (omega arith)), e n (omega arith))

-- ---- in a ring

module _ (R : Ring) where
  open R use {one as 𝟙}
  open R.num use {C, nil as 𝟘, add as ◌⊕◌, mul as ◌⊗◌}

  infixl 60 ◌⊕◌
  infixl 70 ◌⊗◌
  abbrev Σ : ℕ → (ℕ → C) → C
  Σ = sum R.num

  pub sum_add : (n : ℕ) (f g : ℕ → C) → Σ n (λ i. f i ⊕ g i) ≡ Σ n f ⊕ Σ n g
  sum_add zero f g = simp (sum_zero, add_nil)
  sum_add (suc n) f g = simp (sum_suc, sum_add n f g, add_assoc, add_comm, add_left_comm)

  pub sum_mul : (n : ℕ) (a : C) (f : ℕ → C) → a ⊗ Σ n f ≡ Σ n (λ i. a ⊗ f i)
  sum_mul zero a f = simp (sum_zero, mul_nil)
  sum_mul (suc n) a f = simp (sum_suc, mul_add, sum_mul n a f)

  pub sum_mul_right : (n : ℕ) (f : ℕ → C) (a : C) → Σ n f ⊗ a ≡ Σ n (λ i. f i ⊗ a)
  sum_mul_right n f a = mul_comm R (Σ n f) a ∙ sum_mul n a f ∙ sum_cong R.num n (λ i _. mul_comm R a (f i))

  pub sum_nil : (n : ℕ) (f : ℕ → C) → ((i : ℕ) → i < n → f i ≡ 𝟘) → Σ n f ≡ 𝟘
  sum_nil zero f e = sum_zero R.num f
  sum_nil (suc n) f e = rw (sum_suc R.num n f, sum_nil n f (λ i h. e i (omega arith)), e n (omega arith), add_nil)

  pub sum_swap : (n m : ℕ) (f : ℕ → ℕ → C) → Σ n (λ i. Σ m (λ j. f i j)) ≡ Σ m (λ j. Σ n (λ i. f i j))
  sum_swap zero m f = sum_zero R.num _ ∙ sym (sum_nil m _ (λ j _. sum_zero R.num _))
  sum_swap (suc n) m f =
      sum_suc R.num n _ ∙ ap (λ x. x ⊕ Σ m (f n)) (sum_swap n m f) ∙ sym (sum_add m _ _)
      ∙ sum_cong R.num m (λ j _. sym (sum_suc R.num n _))

  pub sum_split : (n m : ℕ) (f : ℕ → C) → Σ (n + m) f ≡ Σ n f ⊕ Σ m (λ i. f (n + i))
  sum_split n zero f = simp (add-zero, sum_zero, add_nil)
  sum_split n (suc m) f = simp (add-suc, sum_suc, sum_split n m f, add_assoc)

  -- the two halves side by side
  pub sum_halves : (h : ℕ) (f : ℕ → C) → Σ (h + h) f ≡ Σ h (λ i. f i ⊕ f (h + i))
  sum_halves h f = sum_split h h f ∙ sym (sum_add h _ _)

  -- even and odd places side by side
  pub sum_pairs : (h : ℕ) (f : ℕ → C) → Σ (h + h) f ≡ Σ h (λ t. f (t + t) ⊕ f (suc (t + t)))
  sum_pairs zero f = simp sum_zero
  sum_pairs (suc h) f = simp (suc-add, add-suc, sum_suc, sum_pairs h f, add_assoc)

  -- only the place j counts
  pub sum_single : (n j : ℕ) (f : ℕ → C) → j < n → ((i : ℕ) → i < n → i ≢ j → f i ≡ 𝟘) → Σ n f ≡ f j
  sum_single zero j f h e = absurd (omega arith)
  sum_single (suc n) j f h e =
      sum_suc R.num n f ∙ by (ℕ_discrete n j) (λ k. sum_single n j f k (λ i l. e i (omega arith)))
    where
      by : Dec (n ≡ j) → (j < n → Σ n f ≡ f j) → Σ n f ⊕ f n ≡ f j
      by (yes p) k = rw (sum_nil n f (λ i l. e i (omega arith) (omega arith)), nil_add, p)
      by (no p) k = rw (k (omega arith), e n (omega arith) p, add_nil)

  -- past n all is 0
  pub sum_past : (n m : ℕ) (f : ℕ → C) → n ≤ m → ((i : ℕ) → n ≤ i → f i ≡ 𝟘) → Σ m f ≡ Σ n f
  sum_past n m f h e =
      ap (λ k. Σ k f) (sym (add-sub_of_le h)) ∙ sum_split n (m - n) f
      ∙ ap (λ x. Σ n f ⊕ x) (sum_nil (m - n) _ (λ i _. e (n + i) (omega arith))) ∙ add_nil R (Σ n f)

  -- r (1 + r + .. + r^(n-1)) + 1 = (1 + r + .. + r^(n-1)) + r^n
  pub geometric : (r : C) (n : ℕ) → r ⊗ Σ n (pow R r) ⊕ 𝟙 ≡ Σ n (pow R r) ⊕ pow R r n
  geometric r zero = simp (sum_zero, pow_zero, mul_nil)
  geometric r (suc n) =
      rw (sum_suc R.num n (pow R r), mul_add, pow_suc, mul_comm R (pow R r n) r, add_right_comm R (r ⊗ Σ n (pow R r)) (r ⊗ pow R r n) 𝟙, geometric r n)

  -- a triangle summed by its diagonals is the triangle summed by its rows
  pub sum_diagonals : (n : ℕ) (f : ℕ → ℕ → C) → Σ n (λ m. Σ (suc m) (λ i. f i (m - i))) ≡ Σ n (λ i. Σ (n - i) (f i))
  sum_diagonals zero f = simp sum_zero
  sum_diagonals (suc n) f =
      sum_suc R.num n _ ∙ ap (λ x. x ⊕ Σ (suc n) (λ i. f i (n - i))) (sum_diagonals n f ∙ sym last) ∙ sym (sum_add (suc n) _ _)
      ∙ sum_cong R.num (suc n) (λ i h. sym (sum_suc R.num (n - i) (f i)) ∙ ap (λ k. Σ k (f i)) (omega arith))
    where
      last : Σ (suc n) (λ i. Σ (n - i) (f i)) ≡ Σ n (λ i. Σ (n - i) (f i))
      last = simp (sum_suc, sub_self, sum_zero, add_nil)
