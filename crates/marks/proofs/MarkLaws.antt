-- Marks and small numbers stand for each other, each tried; what is taken by 3 is small; bytes none of which is bad are marks.
-- Assumes nothing.
use mathlib.Core.Path.{◌≡◌, refl, ap, ◌∙◌}
use mathlib.Core.List.{List, [], ◌∷◌, map}
use Prim.Native.Nat.{ℕ, zero, suc, ◌%◌, ◌≤◌, ◌<◌}
use native.Mathlib.Omega.{arith}
use lib.IntN.{ℤ, pos, negsuc, neg_ℤ}
use lib.ListN.{length, get_or}
use borrow.Author.Tests.{ltb-false, le-ltb}
use Rattle.lists.specs.First.{first_where}
use Rattle.lists.specs.Below.{Below}
use Rattle.residue.specs.Field.{negq}
use Rattle.residue.specs.Signed.{around_zero, by_three, residue_of}
use Rattle.lists.proofs.FirstLaws.{first_before, first_nowhere}
use Rattle.lists.proofs.BelowLaws.{below_places}
use Rattle.marks.specs.Marks.{Small, mark_of, of_mark, no_mark, Smalls}

-- what holds of 0, 1 and -1 holds of each small number
pub small_by : (P : ℤ → Type 0) → P (pos 0) → P (pos 1) → P (negsuc 0) → (z : ℤ) → Small z → P z
unfolding Small
small_by P a b c (pos zero) h = a
small_by P a b c (pos (suc zero)) h = b
small_by P a b c (pos (suc (suc n))) h = absurd (omega (arith, h))
small_by P a b c (negsuc zero) h = c
small_by P a b c (negsuc (suc n)) h = absurd (omega (arith, h))

-- -1 is residue 3456 and mark 2
pub minus_one : (residue_of (negsuc 0) ≡ 3456) × (mark_of (negsuc 0) ≡ 2)
unfolding residue_of negq mark_of
minus_one = (refl, refl)

-- the mark of a small number is below 3, and stands for it
pub mark_of_lt : (z : ℤ) → Small z → mark_of z < 3
unfolding mark_of
mark_of_lt = small_by (λ z. mark_of z < 3) (omega arith) (omega arith) (omega arith)

pub of_mark_mark_of : (z : ℤ) → Small z → of_mark (mark_of z) ≡ z
unfolding mark_of of_mark
of_mark_mark_of = small_by (λ z. of_mark (mark_of z) ≡ z) refl refl refl

-- so the marks of a small polynomial give it back
pub map_of_mark_mark_of : (l : List ℤ) → Smalls l → map of_mark (map mark_of l) ≡ l
map_of_mark_mark_of [] h = refl
map_of_mark_mark_of (z ∷ l) h =
    ap (λ x. x ∷ map of_mark (map mark_of l)) (of_mark_mark_of z (h.small 0))
    ∙ ap (λ xs. z ∷ xs) (map_of_mark_mark_of l (record { small = λ i. h.small (suc i) }))

-- a remainder by 3 is small, and so is its negative
around_zero_small : (m : ℕ) → Small (around_zero m)
unfolding Small
around_zero_small zero = omega arith
around_zero_small (suc zero) = omega arith
around_zero_small (suc (suc m)) = omega arith

neg_ℤ_small : (z : ℤ) → Small z → Small (neg_ℤ z)
unfolding Small
neg_ℤ_small = small_by (λ z. Small (neg_ℤ z)) (omega arith) (omega arith) (omega arith)

-- and so what is taken by 3
pub by_three_small : (z : ℤ) → Small (by_three z)
unfolding by_three
by_three_small (pos n) = around_zero_small (n % 3)
by_three_small (negsuc n) = neg_ℤ_small (around_zero (suc n % 3)) (around_zero_small (suc n % 3))

-- bytes none of which is bad are marks, and among marks none is bad
pub marks_of_lem : (l : List ℕ) → length l ≤ first_where no_mark l → Below 3 l
unfolding no_mark
marks_of_lem l h = below_places (omega arith) l (λ i b. omega (arith, ltb-false 2 (get_or l i 0) (first_before no_mark l i (omega arith))))

pub none_bad : (l : List ℕ) → Below 3 l → first_where no_mark l ≡ length l
unfolding no_mark
none_bad l r = first_nowhere no_mark l (λ i b. le-ltb 2 (get_or l i 0) (omega (arith, r.low i)))
