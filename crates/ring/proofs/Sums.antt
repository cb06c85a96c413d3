-- Sums of residues as the loops make them: one term more, and terms that are 0 before and after the others.
-- Assumes nothing.
use mathlib.Core.Path.{◌≡◌, sym, ap, ap₂, ◌∙◌, subst}
use Prim.Native.Nat.{ℕ, zero, suc, ◌+◌, ◌≤◌, ◌<◌}
use native.Mathlib.Nat.{add-zero, add-suc}
use native.Mathlib.Numerals.{add-one}
use native.Mathlib.Omega.{arith}
use lib.Dec.{lit<}
use Rattle.residue.specs.Field.{q, addq}
use Rattle.algebra.specs.Numbers.{residues, sum}
use Rattle.residue.proofs.FieldLaws.{addq_zero}
use Rattle.algebra.proofs.Sum.{sum_zero, sum_suc}
use Rattle.algebra.proofs.Lists.{sum_lt}

module _ (f : ℕ → ℕ) where
  -- f 0 + .. + f (n - 1), and f n more
  pub sum_more : (n : ℕ) {s t : ℕ} → s ≡ sum residues n f → t ≡ f n → addq s t ≡ sum residues (n + 1) f
  sum_more n e p = ap₂ addq e p ∙ sym (ap (λ k. sum residues k f) (add-one n) ∙ sum_suc residues n f)

  -- a sum is a residue
  pub sum_low : (n : ℕ) {s : ℕ} → s ≡ sum residues n f → s < q
  sum_low n e = subst (λ x. x < q) (sym e) (sum_lt n f)

  -- 0 + .. + 0 = 0
  pub sum_nothing : (n : ℕ) → ((i : ℕ) → i < n → f i ≡ 0) → sum residues n f ≡ 0
  sum_nothing zero e = sum_zero residues f
  sum_nothing (suc n) e =
      sum_suc residues n f ∙ ap₂ addq (sum_nothing n (λ i h. e i (omega arith))) (e n (omega arith)) ∙ addq_zero (lit< tt)

  -- past n all is 0
  pub sum_stops : (n m : ℕ) → ((i : ℕ) → n ≤ i → f i ≡ 0) → sum residues (n + m) f ≡ sum residues n f
  sum_stops n zero e = ap (λ k. sum residues k f) (add-zero n)
  sum_stops n (suc m) e =
      ap (λ k. sum residues k f) (add-suc n m) ∙ sum_suc residues (n + m) f ∙ ap₂ addq (sum_stops n m e) (e (n + m) (omega arith))
      ∙ addq_zero (sum_lt n f)
