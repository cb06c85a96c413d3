-- An index below n = 2h lies in the lower or in the upper half.
-- Assumes nothing.
use mathlib.Core.Path.{subst}
use Prim.Native.Nat.{ℕ, ◌+◌, ◌-◌, ◌<◌}
use native.Mathlib.Decide.{dec_lt}
use native.Mathlib.Nat.{add-sub_of_le}
use native.Mathlib.Omega.{arith}

pub halves : (h : ℕ) (P : ℕ → Type 0) → ((j : ℕ) → j < h → P j) → ((j : ℕ) → j < h → P (h + j)) → (k : ℕ) → k < h + h → P k
halves h P lower upper k l = by (dec_lt k h)
  where
    by : Dec (k < h) → P k
    by (yes b) = lower k b
    by (no b) = subst P (add-sub_of_le {n = k} {m = h} (omega arith)) (upper (k - h) (omega arith))
