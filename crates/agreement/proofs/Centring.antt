-- What centring and the remainder by 3 give back: a number near 0 from its residue, and m from 3a + m; and so small polynomials
-- from their residues. Each is by the few forms that a whole number has. Assumes nothing.
use mathlib.Core.Path.{◌≡◌, refl, sym, ap, ◌∙◌}
use mathlib.Core.List.{List, [], ◌∷◌, map}
use Prim.Native.Nat.{ℕ, zero, suc, ◌+◌, ◌*◌, ◌-◌, ◌%◌, ◌≤◌}
use native.Mathlib.Omega.{arith}
use lib.IntN.{ℤ, pos, negsuc, neg_ℤ, nat_abs, ◌+ℤ◌, ◌*ℤ◌, +ℤ_idr}
use borrow.Author.Tests.{le-ltb, lt-ltb}
use Rattle.residue.specs.Signed.{around_zero, by_three, centred, centred_by_three, residue_of}
use Rattle.marks.specs.Marks.{Small, Smalls}
use Rattle.residue.proofs.SignedLaws.{centred_residue_of}
use Rattle.marks.proofs.MarkLaws.{small_by}

-- ---- by 3

-- by the remainder k of the absolute value
by_three_pos : (n k : ℕ) → n % 3 ≡ k → by_three (pos n) ≡ around_zero k
unfolding by_three
by_three_pos n k e = ap around_zero e

by_three_neg : (n k : ℕ) → suc n % 3 ≡ k → by_three (negsuc n) ≡ neg_ℤ (around_zero k)
unfolding by_three
by_three_neg n k e = ap (λ x. neg_ℤ (around_zero x)) e

-- -3(x + 1) = -(3x + 3)
triple_neg : (x : ℕ) → pos 3 *ℤ negsuc x ≡ negsuc (3 * x + 2)
triple_neg x =
    let e : 3 * suc x ≡ suc (3 * x + 2) = omega arith in
    rw e

-- 3a, 3a + 1 and 3a - 1 by 3
three_none : (a : ℤ) → by_three (pos 3 *ℤ a) ≡ pos 0
three_none (pos x) = by_three_pos (3 * x) 0 (omega arith)
three_none (negsuc x) = rw (triple_neg x) (by_three_neg (3 * x + 2) 0 (omega arith))

three_more : (a : ℤ) → by_three (pos 3 *ℤ a +ℤ pos 1) ≡ pos 1
three_more (pos x) = by_three_pos (3 * x + 1) 1 (omega arith)
three_more (negsuc x) =
    rw (triple_neg x, lt-ltb 1 (suc (3 * x + 2)) (omega arith)) (by_three_neg (suc (3 * x + 2) - 2) 2 (omega arith))

three_less : (a : ℤ) → by_three (pos 3 *ℤ a +ℤ negsuc 0) ≡ negsuc 0
three_less (pos zero) = by_three_neg 0 1 refl
three_less (pos (suc x)) = rw (le-ltb (3 * suc x) 1 (omega arith)) (by_three_pos (3 * suc x - 1) 2 (omega arith))
three_less (negsuc x) = rw (triple_neg x) (by_three_neg (suc (3 * x + 2 + 0)) 1 (omega arith))

-- 3a + m by 3 is m
by_three_three : (a m : ℤ) → Small m → by_three (pos 3 *ℤ a +ℤ m) ≡ m
by_three_three a = small_by (λ m. by_three (pos 3 *ℤ a +ℤ m) ≡ m) (ap by_three (+ℤ_idr (pos 3 *ℤ a)) ∙ three_none a) (three_more a) (three_less a)

-- m comes back from the residue of 3a + m, where that is within -1728..1728
pub centred_by_three_three : (a m : ℤ) → Small m → nat_abs (pos 3 *ℤ a +ℤ m) ≤ 1728 → centred_by_three (residue_of (pos 3 *ℤ a +ℤ m)) ≡ m
unfolding centred_by_three
centred_by_three_three a m s near = ap by_three (centred_residue_of (pos 3 *ℤ a +ℤ m) near) ∙ by_three_three a m s

-- ---- small polynomials

-- a small number is near 0
small_near : (z : ℤ) → Small z → nat_abs z ≤ 1728
unfolding Small
small_near z s = omega (arith, s)

-- a small polynomial comes back from its residues
centred_smalls : (l : List ℤ) → Smalls l → map centred (map residue_of l) ≡ l
centred_smalls [] s = refl
centred_smalls (z ∷ l) s =
    ap (λ x. x ∷ map centred (map residue_of l)) (centred_residue_of z (small_near z (s.small 0)))
    ∙ ap (λ xs. z ∷ xs) (centred_smalls l (record { small = λ i. s.small (suc i) }))

-- so small polynomials with the same residues are the same
pub smalls_injective : (a b : List ℤ) → Smalls a → Smalls b → map residue_of a ≡ map residue_of b → a ≡ b
smalls_injective a b sa sb e = sym (centred_smalls a sa) ∙ ap (map centred) e ∙ centred_smalls b sb
