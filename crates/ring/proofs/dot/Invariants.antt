-- `dot` meets its contract: the sum so far has the terms below i.
-- Assumes nothing.
use mathlib.Core.Path.{◌≡◌}
use Prim.Native.Nat.{◌-◌, ◌≤◌}
use lib.ListN.{get_or}
use Rattle.residue.specs.Field.{mulq}
use Rattle.algebra.specs.Numbers.{residues, sum}
use Rattle.ring.proofs.dot.Given as goal

abbrev pub invariant-loop-i : goal.invariant-loop-i
invariant-loop-i l = (l.from ≤ l.i) × (l.i ≤ l.end) × (l.sum.0 ≡ sum residues l.i (λ k. mulq (get_or l.a k 0) (get_or l.b (l.m - k) 0)))
