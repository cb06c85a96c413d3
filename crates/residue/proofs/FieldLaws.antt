-- The residues are a commutative ring, and every step's value is a residue.
-- Assumes nothing.
use mathlib.Core.Path.{◌≡◌, sym, ap, ◌∙◌}
use Prim.Native.Nat.{ℕ, ◌-◌, ◌<◌}
use native.Mathlib.Nat.{mod-add-mod, add-mod-mod, mod-mod, add_comm, add_assoc, add_left_comm, mul_comm, mul_assoc, mul_left_comm, mul-add, add-mul}
use native.Mathlib.Omega.{arith}
use Rattle.residue.specs.Field.{q, addq, negq, subq, mulq, powq, invq}
use Rattle.residue.proofs.Mod.{mul_mod_mod, mod_mul_mod}

-- inner remainders go, sums and products are multiplied out and sorted
ruleset modular = (mod-add-mod, add-mod-mod, mod-mod, mul_mod_mod, mod_mul_mod, mul-add, add-mul, add_assoc, add_comm, add_left_comm, mul_assoc, mul_comm, mul_left_comm)

pub addq_comm : (a b : ℕ) → addq a b ≡ addq b a
unfolding addq
addq_comm a b = simp add_comm

pub addq_assoc : (a b c : ℕ) → addq (addq a b) c ≡ addq a (addq b c)
unfolding addq
addq_assoc a b c = simp modular

pub mulq_comm : (a b : ℕ) → mulq a b ≡ mulq b a
unfolding mulq
mulq_comm a b = simp mul_comm

pub mulq_assoc : (a b c : ℕ) → mulq (mulq a b) c ≡ mulq a (mulq b c)
unfolding mulq
mulq_assoc a b c = simp modular

pub mulq_addq : (a b c : ℕ) → mulq a (addq b c) ≡ addq (mulq a b) (mulq a c)
unfolding addq mulq
mulq_addq a b c = simp modular

-- ---- 0, 1 and -1

pub addq_zero : {a : ℕ} → a < q → addq a 0 ≡ a
unfolding addq
addq_zero h = omega arith

pub mulq_one : {a : ℕ} → a < q → mulq a 1 ≡ a
unfolding mulq
mulq_one h = omega arith

pub one_mulq : {a : ℕ} → a < q → mulq 1 a ≡ a
one_mulq {a} h = mulq_comm 1 a ∙ mulq_one h

pub mulq_zero : (a : ℕ) → mulq a 0 ≡ 0
unfolding mulq
mulq_zero a = omega arith

pub addq_negq : (a : ℕ) → addq a (negq a) ≡ 0
unfolding addq negq
addq_negq a = omega arith

-- -a = -1 * a
pub negq_mulq : (a : ℕ) → negq a ≡ mulq 3456 a
unfolding negq mulq
negq_mulq a = omega arith

pub negq_negq : {a : ℕ} → a < q → negq (negq a) ≡ a
unfolding negq
negq_negq h = omega arith

-- a * -b = -(a b)
pub mulq_negq : (a b : ℕ) → mulq a (negq b) ≡ negq (mulq a b)
mulq_negq a b =
    ap (mulq a) (negq_mulq b) ∙ sym (mulq_assoc a 3456 b) ∙ ap (λ x. mulq x b) (mulq_comm a 3456) ∙ mulq_assoc 3456 a b
    ∙ sym (negq_mulq (mulq a b))

-- a - b = a + -1 * b
pub subq_mulq : (a b : ℕ) → subq a b ≡ addq a (mulq 3456 b)
unfolding subq
subq_mulq a b = ap (addq a) (negq_mulq b)

-- ---- every value is a residue

pub addq_lt : (a b : ℕ) → addq a b < q
unfolding addq
addq_lt a b = omega arith

pub negq_lt : (a : ℕ) → negq a < q
unfolding negq
negq_lt a = omega arith

pub subq_lt : (a b : ℕ) → subq a b < q
unfolding subq
subq_lt a b = addq_lt a (negq b)

pub mulq_lt : (a b : ℕ) → mulq a b < q
unfolding mulq
mulq_lt a b = omega arith

pub powq_lt : (a n : ℕ) → powq a n < q
unfolding powq
powq_lt a n = omega arith

pub invq_lt : (a : ℕ) → invq a < q
unfolding invq
invq_lt a = powq_lt a (q - 2)
