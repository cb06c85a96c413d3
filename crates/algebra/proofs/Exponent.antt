-- The exponents of the slots: 6t + 1 at slot 2t, 6t + 5 at slot 2t + 1. They are the numbers coprime to 6, in rising order.
-- Assumes nothing.
use mathlib.Core.Path.{◌≡◌, refl, ap, subst}
use Prim.Native.Nat.{ℕ, suc, ◌+◌, ◌*◌, ◌/◌, ◌%◌, ◌<◌}
use native.Mathlib.Decide.{ℕ_discrete}
use native.Mathlib.Omega.{arith}
use borrow.Author.Tests.{eq-eqb, ne_eqb}
use Rattle.algebra.specs.Transform.{exponent}

pub data Parity : ℕ → Type 0 where
  even : (t : ℕ) → Parity (t + t)
  odd : (t : ℕ) → Parity (suc (t + t))

pub parity : (k : ℕ) → Parity k
parity k = by (ℕ_discrete (k % 2) 0)
  where
    by : Dec (k % 2 ≡ 0) → Parity k
    by (yes p) = subst Parity (omega arith) (even (k / 2))
    by (no p) = subst Parity (omega arith) (odd (k / 2))

pub exponent_even : (t : ℕ) → exponent (t + t) ≡ 6 * t + 1
unfolding exponent
exponent_even t = rw (eq-eqb ((t + t) % 2) 0 (omega arith)) (omega arith)

pub exponent_odd : (t : ℕ) → exponent (suc (t + t)) ≡ 6 * t + 5
unfolding exponent
exponent_odd t = rw (ne_eqb (suc (t + t) % 2) 0 (λ e. omega arith)) (omega arith)

-- ---- the numbers coprime to 6, in rising order

pub exponent_coprime : (k : ℕ) → (exponent k % 2 ≡ 1) × (exponent k % 3 ≡ 0 → ⊥)
exponent_coprime k = by k (parity k)
  where
    by : (k : ℕ) → Parity k → (exponent k % 2 ≡ 1) × (exponent k % 3 ≡ 0 → ⊥)
    by k (even t) = (omega (arith, exponent_even t), λ e. omega (arith, exponent_even t))
    by k (odd t) = (omega (arith, exponent_odd t), λ e. omega (arith, exponent_odd t))

pub exponent_rises : (k : ℕ) → exponent k < exponent (suc k)
exponent_rises k = by k (parity k)
  where
    by : (k : ℕ) → Parity k → exponent k < exponent (suc k)
    by k (even t) = omega (arith, exponent_even t, exponent_odd t)
    by k (odd t) =
        let p : suc (suc (t + t)) ≡ suc t + suc t = omega arith in
        omega (arith, exponent_odd t, exponent_even (suc t), ap exponent p)

-- each of them is the exponent of a slot
pub exponent_all : (e : ℕ) → e % 2 ≡ 1 → (e % 3 ≡ 0 → ⊥) → exponent (e / 3) ≡ e
exponent_all e a b = by (e / 3) (parity (e / 3)) refl
  where
    by : (k : ℕ) → Parity k → e / 3 ≡ k → exponent k ≡ e
    by k (even t) p = omega (arith, exponent_even t)
    by k (odd t) p = omega (arith, exponent_odd t)
