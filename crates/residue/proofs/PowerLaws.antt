-- The laws of exponents, and the two steps by which a power is found from the power of half the exponent.
-- Assumes nothing.
use mathlib.Core.Path.{◌≡◌, sym, ap, ◌∙◌}
use Prim.Native.Nat.{ℕ, zero, suc, ◌+◌, ◌*◌, ◌/◌, ◌%◌, ◌<◌}
use native.Mathlib.Nat.{mul-zero, mul-suc, pow-zero, pow-succ'}
use native.Mathlib.Omega.{arith}
use lib.Dec.{lit<}
use lib.Pow.{pow-add}
use Rattle.residue.specs.Field.{q, mulq, powq}
use Rattle.residue.proofs.Mod.{mul_mod_mod, mod_mul_mod}
use Rattle.residue.proofs.FieldLaws.{mulq_comm, mulq_one}

-- a^0 = 1
pub powq_zero : (a : ℕ) → powq a 0 ≡ 1
unfolding powq
powq_zero a = rw pow-zero

-- a^(n+1) = a a^n
pub powq_suc : (a n : ℕ) → powq a (suc n) ≡ mulq a (powq a n)
unfolding powq mulq
powq_suc a n = rw pow-succ' (simp mul_mod_mod)

-- a^(m+n) = a^m a^n
pub powq_add : (a m n : ℕ) → powq a (m + n) ≡ mulq (powq a m) (powq a n)
unfolding powq mulq
powq_add a m n = rw pow-add (simp (mul_mod_mod, mod_mul_mod))

-- a^1 = a
pub powq_one : {a : ℕ} → a < q → powq a 1 ≡ a
powq_one {a} h = powq_suc a 0 ∙ ap (mulq a) (powq_zero a) ∙ mulq_one h

-- a^(mn) = (a^m)^n
pub powq_mul : (a m n : ℕ) → powq a (m * n) ≡ powq (powq a m) n
powq_mul a m zero = ap (powq a) (mul-zero m) ∙ powq_zero a ∙ sym (powq_zero (powq a m))
powq_mul a m (suc n) =
    ap (powq a) (mul-suc m n) ∙ powq_add a (m * n) m ∙ ap (λ x. mulq x (powq a m)) (powq_mul a m n)
    ∙ mulq_comm (powq (powq a m) n) (powq a m) ∙ sym (powq_suc (powq a m) n)

-- 1^n = 1
pub one_powq : (n : ℕ) → powq 1 n ≡ 1
one_powq zero = powq_zero 1
one_powq (suc n) = powq_suc 1 n ∙ ap (mulq 1) (one_powq n) ∙ mulq_one (lit< tt)

-- ---- from the power of half the exponent

-- e even: the square
pub powq_even : (a e : ℕ) → e % 2 ≡ 0 → powq a e ≡ mulq (powq a (e / 2)) (powq a (e / 2))
powq_even a e h = ap (powq a) halves ∙ powq_add a (e / 2) (e / 2)
  where
    halves : e ≡ e / 2 + e / 2
    halves = omega arith

-- e odd: the square, times a
pub powq_odd : (a e : ℕ) → ¬ (e % 2 ≡ 0) → powq a e ≡ mulq (mulq (powq a (e / 2)) (powq a (e / 2))) a
powq_odd a e h =
    ap (powq a) halves ∙ powq_suc a (e / 2 + e / 2) ∙ mulq_comm a (powq a (e / 2 + e / 2))
    ∙ ap (λ x. mulq x a) (powq_add a (e / 2) (e / 2))
  where
    halves : e ≡ suc (e / 2 + e / 2)
    halves = omega arith
