-- What a set that is ready brings to the transforms: how large h and the exponents of 7 are.
-- Assumes nothing.
use mathlib.Core.Path.{refl}
use mathlib.Core.List.{List}
use Prim.Native.Nat.{ℕ, ◌+◌, ◌*◌, ◌≤◌, ◌<◌}
use native.Mathlib.Omega.{arith}
use Rattle.residue.specs.Field.{generator, powq}
use Rattle.algebra.specs.Roots.{IsRoot}
use Rattle.algebra.specs.Transform.{exponent}
use Rattle.algebra.proofs.Exponent.{Parity, even, odd, parity, exponent_even, exponent_odd}
use Rattle.algebra.proofs.Sets.{order_small, log_below, log_small, root_positive}
use Rattle.slots.specs.Ready.{Ready}

module _ {h s : ℕ} {powers : List ℕ} (ready : Ready h s powers) where
  -- w = 7^s is a root of the set
  abbrev root : IsRoot h (powq generator s)
  root = record { log = s; turns = ready.turns; root = refl }

  -- 6h ≤ 3456
  pub half_small : h ≤ 576
  half_small = omega (arith, order_small h (powq generator s) root)

  -- w is not 0, and s is at most the order of 7
  pub root_whole : 0 < powq generator s
  root_whole = root_positive h (powq generator s) root

  pub step_small : s ≤ 3456
  step_small = log_small h (powq generator s) root

  -- w^k is 7^(s k), with no reduction of s k below w^(6h)
  pub root_log : (k : ℕ) → k < 6 * h → s * k < 3456
  root_log = log_below h (powq generator s) root

-- e < 6h at every slot
pub exponent_below : (h k : ℕ) → k < h + h → exponent k < 6 * h
exponent_below h k = by k (parity k)
  where
    by : (k : ℕ) → Parity k → k < h + h → exponent k < 6 * h
    by k (even t) l = omega (arith, exponent_even t)
    by k (odd t) l = omega (arith, exponent_odd t)
