-- A coefficient of the schoolbook product from the terms at which neither list is past its end, and the folded coefficients from four of them.
-- Assumes nothing.
use mathlib.Core.Path.{◌≡◌, sym, ap, ap₂, ◌∙◌}
use mathlib.Core.List.{List}
use Prim.Native.Nat.{ℕ, suc, ◌+◌, ◌-◌, ◌≤◌, ◌<◌}
use native.Mathlib.Nat.{add-sub_of_le}
use native.Mathlib.Numerals.{add-one}
use native.Mathlib.Omega.{arith}
use lib.ListN.{length, get_or, get_or-eq_default}
use Rattle.residue.specs.Field.{addq, subq, mulq}
use Rattle.algebra.specs.Numbers.{residues, sum}
use Rattle.algebra.specs.Product.{coefficient, schoolbook, fold_low, fold_high, fold}
use Rattle.residue.proofs.FieldLaws.{mulq_comm, mulq_zero}
use Rattle.algebra.proofs.Value.{fold_low_lem, fold_high_lem}
use Rattle.ring.proofs.Sums.{sum_nothing, sum_stops}

module _ (a b : List ℕ) (m : ℕ) where
  -- a_i b_(m - i)
  abbrev term : ℕ → ℕ
  term i = mulq (get_or a i 0) (get_or b (m - i) 0)

  -- b is past its end
  before : (i : ℕ) → i < m + 1 - length b → term i ≡ 0
  before i h = ap (mulq (get_or a i 0)) (get_or-eq_default b 0 {n = m - i} (omega arith)) ∙ mulq_zero (get_or a i 0)

  -- a is past its end
  after : (i : ℕ) → length a ≤ i → term i ≡ 0
  after i h =
      ap (λ x. mulq x (get_or b (m - i) 0)) (get_or-eq_default a 0 {n = i} h) ∙ mulq_comm 0 (get_or b (m - i) 0) ∙ mulq_zero (get_or b (m - i) 0)

  -- the terms before b's end count nothing
  pub dot_start : {from : ℕ} → from ≡ m + 1 - length b → 0 ≡ sum residues from (λ i. mulq (get_or a i 0) (get_or b (m - i) 0))
  dot_start {from} e = sym (sum_nothing term from (λ i h. before i (omega arith)))

  -- all m + 1 terms
  pub dot_all : sum residues (m + 1) (λ i. mulq (get_or a i 0) (get_or b (m - i) 0)) ≡ schoolbook residues (coefficient residues a) (coefficient residues b) m
  unfolding schoolbook
  dot_all = ap (λ n. sum residues n term) (add-one m)

  -- those within a
  pub dot_within : {n : ℕ} → length a ≡ n → n ≤ m
      → sum residues n (λ i. mulq (get_or a i 0) (get_or b (m - i) 0)) ≡ schoolbook residues (coefficient residues a) (coefficient residues b) m
  unfolding schoolbook
  dot_within {n} e h =
      let whole : n + (suc m - n) ≡ suc m = add-sub_of_le (omega arith) in
      sym (ap (λ k. sum residues k term) (sym whole) ∙ sum_stops term n (suc m - n) (λ i l. after i (omega arith)))

module _ (h : ℕ) (c : ℕ → ℕ) (i : ℕ) where
  -- folded, below x^h
  pub folded_low : {x y z : ℕ} → i < h → x ≡ c i → y ≡ c (h + h + i) → z ≡ c (h + h + (h + i)) → subq x (addq y z) ≡ fold residues h c i
  unfolding fold_low
  folded_low l ex ey ez = ap₂ subq ex (ap₂ addq ey ez) ∙ sym (fold_low_lem residues h c i l)

  -- folded, from x^h up
  pub folded_high : {x y : ℕ} → x ≡ c (h + i) → y ≡ c (h + h + i) → addq x y ≡ fold residues h c (h + i)
  unfolding fold_high
  folded_high ex ey = ap₂ addq ex ey ∙ sym (fold_high_lem residues h c i)
