-- `small::sample_bits` meets its contract: the coefficients are filled from the left.
-- Assumes nothing.
use Prim.Native.Nat.{◌+◌}
use lib.IntN.{pos, ◌-ℤ◌}
use lib.ListN.{get_or}
use Rattle.residue.specs.Signed.{residue_of}
use Rattle.lists.proofs.Fill.{Fill}
use Rattle.small.proofs.sample_bits.Given as goal

abbrev pub invariant-loop-i : goal.invariant-loop-i
invariant-loop-i l = Fill (λ k. residue_of (pos (get_or l.halves k 0) -ℤ pos (get_or l.halves (l.n + k) 0))) l.n l.coefficients l.i
