-- A map of numbers that keeps 0, sums, differences and products keeps sums of many terms and products of polynomials.
-- Assumes nothing.
use mathlib.Core.Path.{◌≡◌, sym, ap, ap₂, ◌∙◌}
use mathlib.Core.List.{List, map}
use Prim.Native.Nat.{ℕ, zero, suc, ◌+◌, ◌-◌}
use lib.Dec.{ltb}
use lib.ListN.{get_or, get_or-map}
use Rattle.lists.proofs.TabLaws.{tab_cong, map_tab, map_cond}
use Rattle.algebra.specs.Numbers.{Numbers, sum}
use Rattle.algebra.specs.Product.{coefficient, schoolbook, fold_low, fold_high, fold, product}
use Rattle.algebra.proofs.Sum.{sum_zero, sum_suc, sum_cong}

pub record Map (N M : Numbers) (φ : N.C → M.C) : Type 0 where
  pub nil : φ N.nil ≡ M.nil
  pub add : (a b : N.C) → φ (N.add a b) ≡ M.add (φ a) (φ b)
  pub sub : (a b : N.C) → φ (N.sub a b) ≡ M.sub (φ a) (φ b)
  pub mul : (a b : N.C) → φ (N.mul a b) ≡ M.mul (φ a) (φ b)

module _ (N M : Numbers) (φ : N.C → M.C) (keeps : Map N M φ) where
  pub map_sum : (n : ℕ) (f : ℕ → N.C) → φ (sum N n f) ≡ sum M n (λ i. φ (f i))
  map_sum zero f = ap φ (sum_zero N f) ∙ keeps.nil ∙ sym (sum_zero M _)
  map_sum (suc n) f =
      ap φ (sum_suc N n f) ∙ keeps.add _ _ ∙ ap (λ x. M.add x (φ (f n))) (map_sum n f) ∙ sym (sum_suc M n _)

  pub map_schoolbook : (a b : ℕ → N.C) (m : ℕ) → φ (schoolbook N a b m) ≡ schoolbook M (λ i. φ (a i)) (λ i. φ (b i)) m
  unfolding schoolbook
  map_schoolbook a b m = map_sum (suc m) _ ∙ sum_cong M (suc m) (λ i _. keeps.mul (a i) (b (m - i)))

  pub map_fold : (h : ℕ) (c : ℕ → N.C) (i : ℕ) → φ (fold N h c i) ≡ fold M h (λ m. φ (c m)) i
  unfolding fold fold_low fold_high
  map_fold h c i = map_cond φ (ltb i h) _ _ ∙ simp (fold_low, fold_high, keeps.add, keeps.sub)

  map_coefficient : (a : List N.C) (i : ℕ) → φ (coefficient N a i) ≡ coefficient M (map φ a) i
  map_coefficient a i = sym (get_or-map φ a i N.nil) ∙ ap (get_or (map φ a) i) keeps.nil

  -- the coefficient at x^i of the product
  pub map_folded : (h : ℕ) (a b : ℕ → N.C) (i : ℕ)
      → φ (fold N h (schoolbook N a b) i) ≡ fold M h (schoolbook M (λ k. φ (a k)) (λ k. φ (b k))) i
  map_folded h a b i = map_fold h _ i ∙ ap (λ c. fold M h c i) (λ t m. map_schoolbook a b m t)

  pub map_product : (h : ℕ) (a b : List N.C) → map φ (product N h a b) ≡ product M h (map φ a) (map φ b)
  unfolding product
  map_product h a b =
      map_tab φ (h + h) _
      ∙ tab_cong (h + h) (λ i _. map_folded h _ _ i
      ∙ ap₂ (λ c d. fold M h (schoolbook M c d) i) (λ t k. map_coefficient a k t) (λ t k. map_coefficient b k t))
