-- The polynomials 0 and 1 over whole numbers: a product by 0 is 0 and a product by 1 is the other factor, since nothing of it is folded.
-- Assumes nothing.
use mathlib.Core.Bool.{cond}
use mathlib.Core.Logic.{◌≢◌}
use mathlib.Core.List.{List}
use mathlib.Core.Path.{◌≡◌, refl, sym, ap, ap₂, ◌∙◌}
use Prim.Native.Nat.{ℕ, zero, suc, ◌+◌, ◌-◌, ◌≤◌, ◌<◌}
use native.Mathlib.Decide.{dec_lt}
use native.Mathlib.Nat.{sub-zero}
use native.Mathlib.Omega.{arith}
use lib.Dec.{eqb}
use lib.IntN.{ℤ, pos, ◌+ℤ◌, ◌-ℤ◌, ◌*ℤ◌, one, +ℤ_idl, +ℤ_idr, zero-*ℤ, *ℤ-zero, *ℤ-one, *ℤ_comm}
use lib.ListN.{length, get_or, get_or-eq_default}
use borrow.Author.Tests.{ne_eqb}
use Rattle.lists.specs.Tab.{tab}
use Rattle.algebra.specs.Numbers.{wholes, sum}
use Rattle.algebra.specs.Product.{schoolbook, fold_low, fold_high, fold, product}
use Rattle.lists.proofs.TabLaws.{length_tab, get_or_tab, tab_of, tab_cong, all_tab}
use Rattle.algebra.proofs.Halves.{halves}
use Rattle.algebra.proofs.Sum.{sum_zero, sum_suc}
use Rattle.algebra.proofs.Value.{fold_low_lem, fold_high_lem}

-- 0 and 1, as n coefficients
unfoldable pub zero_of : ℕ → List ℤ
zero_of n = tab n (λ _. pos 0)

unfoldable pub one_of : ℕ → List ℤ
one_of n = tab n (λ i. cond (eqb i 0) (pos 1) (pos 0))

-- each is n long
pub zero_of_long : (n : ℕ) → length (zero_of n) ≡ n
unfolding zero_of
zero_of_long n = length_tab n _

one_of_long : (n : ℕ) → length (one_of n) ≡ n
unfolding one_of
one_of_long n = length_tab n _

-- ---- their coefficients

-- those of 0
pub zero_of_at : (n i : ℕ) → get_or (zero_of n) i (pos 0) ≡ pos 0
unfolding zero_of
zero_of_at n i = all_tab (λ z. z ≡ pos 0) (pos 0) refl n _ (λ _. refl) i

-- those of 1: the first, and the others
one_of_first : (n : ℕ) → 0 < n → get_or (one_of n) 0 (pos 0) ≡ pos 1
unfolding one_of
one_of_first n p = get_or_tab n _ 0 (pos 0) p

one_of_other : (n i : ℕ) → i ≢ 0 → get_or (one_of n) i (pos 0) ≡ pos 0
unfolding one_of
one_of_other n i ne = by (dec_lt i n)
  where
    by : Dec (i < n) → get_or (one_of n) i (pos 0) ≡ pos 0
    by (yes l) = get_or_tab n _ i (pos 0) l ∙ rw (ne_eqb i 0 ne)
    by (no l) = get_or-eq_default (one_of n) (pos 0) {n = i} (omega (arith, one_of_long n))

-- ---- sums of which at most the first term counts

-- none counts
sum_zeros : (n : ℕ) (z : ℕ → ℤ) → ((i : ℕ) → z i ≡ pos 0) → sum wholes n z ≡ pos 0
sum_zeros zero z e = sum_zero wholes z
sum_zeros (suc n) z e = sum_suc wholes n z ∙ ap₂ ◌+ℤ◌ (sum_zeros n z e) (e n)

-- the first counts
sum_first : (n : ℕ) (z : ℕ → ℤ) → ((i : ℕ) → i ≢ 0 → z i ≡ pos 0) → sum wholes (suc n) z ≡ z 0
sum_first zero z e = sum_suc wholes 0 z ∙ ap (λ x. x +ℤ z 0) (sum_zero wholes z) ∙ +ℤ_idl (z 0)
sum_first (suc n) z e = sum_suc wholes (suc n) z ∙ ap₂ ◌+ℤ◌ (sum_first n z e) (e (suc n) (omega arith)) ∙ +ℤ_idr (z 0)

-- ---- products

-- of fewer than n + 1 coefficients nothing is folded
fold_short : (h : ℕ) (c : ℕ → ℤ) → ((m : ℕ) → h + h ≤ m → c m ≡ pos 0) → (i : ℕ) → i < h + h → fold wholes h c i ≡ c i
unfolding fold_low fold_high
fold_short h c none =
    halves h (λ i. fold wholes h c i ≡ c i)
    (λ i l. fold_low_lem wholes h c i l
    ∙ ap₂ (λ x y. c i -ℤ (x +ℤ y)) (none (h + h + i) (omega arith)) (none (h + h + (h + i)) (omega arith)) ∙ +ℤ_idr (c i))
    (λ i l. fold_high_lem wholes h c i ∙ ap (λ x. c (h + i) +ℤ x) (none (h + h + i) (omega arith)) ∙ +ℤ_idr (c (h + i)))

-- a 0 = 0
schoolbook_zero : (a : ℕ → ℤ) (n m : ℕ) → schoolbook wholes a (λ i. get_or (zero_of n) i (pos 0)) m ≡ pos 0
unfolding schoolbook
schoolbook_zero a n m = sum_zeros (suc m) _ (λ i. ap (λ x. a i *ℤ x) (zero_of_at n (m - i)) ∙ *ℤ-zero (a i))

pub product_zero : (h : ℕ) (a : List ℤ) → product wholes h a (zero_of (h + h)) ≡ zero_of (h + h)
unfolding product zero_of
product_zero h a =
    tab_cong (h + h) (λ i l. fold_short h _ (λ m _. schoolbook_zero _ (h + h) m) i l ∙ schoolbook_zero _ (h + h) i)

-- 1 b = b
schoolbook_one : (b : ℕ → ℤ) (n : ℕ) → 0 < n → (m : ℕ) → schoolbook wholes (λ i. get_or (one_of n) i (pos 0)) b m ≡ b m
unfolding schoolbook one
schoolbook_one b n p m =
    sum_first m _ (λ i ne. ap (λ x. x *ℤ b (m - i)) (one_of_other n i ne) ∙ zero-*ℤ (b (m - i)))
    ∙ ap₂ (λ x k. x *ℤ b k) (one_of_first n p) (sub-zero m) ∙ *ℤ_comm (pos 1) (b m) ∙ *ℤ-one (b m)

pub product_one : (h : ℕ) → 0 < h → (b : List ℤ) → length b ≡ h + h → product wholes h (one_of (h + h)) b ≡ b
unfolding product
product_one h p b lb =
    tab_cong (h + h) (λ i l. fold_short h _ past i l ∙ coefficients i) ∙ sym (tab_of (pos 0) (h + h) _ b lb (λ i _. refl))
  where
    coefficients : (m : ℕ) → schoolbook wholes (λ i. get_or (one_of (h + h)) i (pos 0)) (λ i. get_or b i (pos 0)) m ≡ get_or b m (pos 0)
    coefficients m = schoolbook_one (λ i. get_or b i (pos 0)) (h + h) (omega arith) m

    past : (m : ℕ) → h + h ≤ m → schoolbook wholes (λ i. get_or (one_of (h + h)) i (pos 0)) (λ i. get_or b i (pos 0)) m ≡ pos 0
    past m k = coefficients m ∙ get_or-eq_default b (pos 0) {n = m} (omega (arith, lb))
