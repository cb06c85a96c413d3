-- Residues and whole numbers: the centred value is within -1728..1728 and congruent, and comes back from its residue;
-- the residue of a sum, a difference or a product is that of the residues. Assumes nothing.
use mathlib.Core.Path.{◌≡◌, refl, sym, ap, ◌∙◌}
use mathlib.Core.Bool.{Bool, true, false}
use Prim.Native.Nat.{ℕ, zero, suc, ◌+◌, ◌*◌, ◌-◌, ◌%◌, ◌≤◌, ◌<◌}
use native.Mathlib.Decide.{dec_le}
use native.Mathlib.Nat.{mod-add-mod, add-mod-mod, add-mul-mod_self_right}
use native.Mathlib.Omega.{arith}
use lib.Dec.{ltb}
use lib.IntN.{ℤ, pos, negsuc, neg_ℤ, nat_abs, sub_ℕ, ◌+ℤ◌, ◌-ℤ◌, ◌*ℤ◌, *ℤ_comm}
use borrow.Author.Tests.{le-leb, lt-leb, ltb-true, ltb-false}
use Rattle.residue.specs.Field.{q, addq, negq, subq, mulq}
use Rattle.residue.specs.Signed.{centred, residue_of}
use Rattle.residue.proofs.Mod.{mul_mod_mod, mod_mul_mod}
use Rattle.residue.proofs.FieldLaws.{addq_comm, negq_negq, negq_mulq, mulq_comm, mulq_negq, mulq_lt}

-- ---- centring

-- up to 1728 a residue stands for itself
centred_low : (a : ℕ) → a ≤ 1728 → centred a ≡ pos a
unfolding centred
centred_low a h = rw (le-leb a 1728 h)

-- from 1729 on for a - 3457
centred_high : (a k : ℕ) → a + suc k ≡ q → k < 1728 → centred a ≡ negsuc k
unfolding centred
centred_high a k e h =
    let d : q - a ≡ suc k = omega arith in
    rw (lt-leb a 1728 (omega arith), d)

-- the value is within -1728..1728
pub centred_near : (a : ℕ) → a < q → nat_abs (centred a) ≤ 1728
centred_near a h = by (dec_le a 1728)
  where
    by : Dec (a ≤ 1728) → nat_abs (centred a) ≤ 1728
    by (yes l) = rw (centred_low a l) l
    by (no l) = rw (centred_high a (3456 - a) (omega arith) (omega arith)) (omega arith)

-- and congruent to the residue
pub residue_of_centred : (a : ℕ) → a < q → residue_of (centred a) ≡ a
unfolding residue_of negq
residue_of_centred a h = by (dec_le a 1728)
  where
    by : Dec (a ≤ 1728) → residue_of (centred a) ≡ a
    by (yes l) = rw (centred_low a l) (omega arith)
    by (no l) = rw (centred_high a (3456 - a) (omega arith) (omega arith)) (omega arith)

-- a whole number within -1728..1728 comes back from its residue
pub centred_residue_of : (z : ℤ) → nat_abs z ≤ 1728 → centred (residue_of z) ≡ z
unfolding residue_of negq
centred_residue_of (pos n) h =
    let e : n % q ≡ n = omega arith in
    rw e (centred_low n h)
centred_residue_of (negsuc n) h =
    let b : suc n ≤ 1728 = h in
    centred_high _ n (omega arith) (omega arith)

-- ---- the residue of a sum, a difference, a product

pub residue_of_lt : (z : ℤ) → residue_of z < q
unfolding residue_of negq
residue_of_lt (pos n) = omega arith
residue_of_lt (negsuc n) = omega arith

pub residue_of_neg : (z : ℤ) → residue_of (neg_ℤ z) ≡ negq (residue_of z)
unfolding residue_of negq
residue_of_neg (pos zero) = refl
residue_of_neg (pos (suc n)) = omega arith
residue_of_neg (negsuc n) = omega arith

-- -(a + b) = -a + -b
negq_addq : (a b : ℕ) → negq (a + b) ≡ addq (negq a) (negq b)
unfolding addq mulq
negq_addq a b = rw (negq_mulq (a + b), negq_mulq a, negq_mulq b) (simp (mod-add-mod, add-mod-mod) (omega arith))

-- a - b, of natural numbers
residue_of_less : (a b : ℕ) → residue_of (sub_ℕ a b) ≡ addq (a % q) (negq b)
unfolding residue_of addq mulq
residue_of_less a b = by (ltb a b) refl
  where
    by : (t : Bool) → ltb a b ≡ t → residue_of (sub_ℕ a b) ≡ addq (a % q) (negq b)
    by true e =
        let h : a < b = ltb-true a b e in
        let d : a + 3456 * b ≡ 3456 * suc (b - suc a) + a * q = omega arith in
        rw (e, negq_mulq (suc (b - suc a)), negq_mulq b)
        (simp (mod-add-mod, add-mod-mod) (sym (ap (λ x. x % q) d ∙ add-mul-mod_self_right (3456 * suc (b - suc a)) a q)))
    by false e =
        let h : b ≤ a = ltb-false a b e in
        rw (e, negq_mulq b) (simp (mod-add-mod, add-mod-mod) (omega arith))

pub residue_of_add : (y z : ℤ) → residue_of (y +ℤ z) ≡ addq (residue_of y) (residue_of z)
unfolding residue_of addq
residue_of_add (pos a) (pos b) = simp (mod-add-mod, add-mod-mod)
residue_of_add (pos a) (negsuc b) = residue_of_less a (suc b)
residue_of_add (negsuc a) (pos b) = residue_of_less b (suc a) ∙ addq_comm (b % q) (negq (suc a))
residue_of_add (negsuc a) (negsuc b) = ap negq e ∙ negq_addq (suc a) (suc b)
  where
    e : suc (suc (a + b)) ≡ suc a + suc b
    e = omega arith

pub residue_of_sub : (y z : ℤ) → residue_of (y -ℤ z) ≡ subq (residue_of y) (residue_of z)
unfolding subq
residue_of_sub y z = residue_of_add y (neg_ℤ z) ∙ ap (addq (residue_of y)) (residue_of_neg z)

-- a * -b
residue_of_mul_neg : (a b : ℕ) → residue_of (pos a *ℤ negsuc b) ≡ mulq (residue_of (pos a)) (residue_of (negsuc b))
unfolding residue_of mulq
residue_of_mul_neg a b =
    residue_of_neg (pos (a * suc b)) ∙ ap negq (sym (mod_mul_mod a (suc b) q)) ∙ sym (mulq_negq (a % q) (suc b))

pub residue_of_mul : (y z : ℤ) → residue_of (y *ℤ z) ≡ mulq (residue_of y) (residue_of z)
unfolding residue_of mulq
residue_of_mul (pos a) (pos b) = simp (mul_mod_mod, mod_mul_mod)
residue_of_mul (pos a) (negsuc b) = residue_of_mul_neg a b
residue_of_mul (negsuc a) (pos b) =
    ap residue_of (*ℤ_comm (negsuc a) (pos b)) ∙ residue_of_mul_neg b a ∙ mulq_comm (residue_of (pos b)) (residue_of (negsuc a))
residue_of_mul (negsuc a) (negsuc b) =
    sym (mulq_negq (negq (suc a)) (suc b) ∙ ap negq (mulq_comm (negq (suc a)) (suc b) ∙ mulq_negq (suc b) (suc a) ∙ ap negq (mulq_comm (suc b) (suc a)))
    ∙ negq_negq (mulq_lt (suc a) (suc b)))
