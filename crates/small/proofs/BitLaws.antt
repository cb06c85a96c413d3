-- What holds of each bit, by trying both; a difference of two is small.
-- Assumes nothing.
use Prim.Native.Nat.{ℕ, zero, suc, ◌<◌, ◌≤◌}
use native.Mathlib.Omega.{arith}
use lib.IntN.{pos, nat_abs, ◌-ℤ◌}
use Rattle.marks.specs.Marks.{Small}

-- what holds at 0 and at 1 holds of each bit
pub bit : (P : ℕ → Type 0) → P 0 → P 1 → (a : ℕ) → a < 2 → P a
bit P p0 p1 zero h = p0
bit P p0 p1 (suc zero) h = p1
bit P p0 p1 (suc (suc a)) h = absurd (omega arith)

-- and of each two
pub bits : (P : ℕ → ℕ → Type 0) → P 0 0 → P 0 1 → P 1 0 → P 1 1 → (a b : ℕ) → a < 2 → b < 2 → P a b
bits P p00 p01 p10 p11 a b ha hb = bit (λ a. P a b) (bit (P 0) p00 p01 b hb) (bit (P 1) p10 p11 b hb) a ha

-- a difference of bits is small
pub difference_small : (a b : ℕ) → a < 2 → b < 2 → Small (pos a -ℤ pos b)
unfolding Small
difference_small = bits (λ a b. nat_abs (pos a -ℤ pos b) ≤ 1) (omega arith) (omega arith) (omega arith) (omega arith)
