-- `Engine::value` meets its contract: after i turns the sum is the value of the first i coefficients, and `at` the exponent of the next power.
-- Assumes nothing.
use mathlib.Core.Path.{sym, ap, ◌∙◌}
use native.Mathlib.Omega.{arith}
use lib.ListN.{get_or}
use Rattle.residue.specs.Field.{mulq}
use Rattle.algebra.specs.Numbers.{residues}
use Rattle.algebra.specs.Transform.{value}
use Rattle.algebra.proofs.Sum.{sum_zero}
use Rattle.ring.proofs.Sums.{sum_more, sum_low}
use Rattle.slots.proofs.Logs.{log_one, log_add, log_power}
use Rattle.slots.proofs.engine.Engine.value.Goals as goal

pub loop-x-init : goal.loop-x-init
unfolding value
loop-x-init c = (sym (sum_zero residues _), omega arith)

pub invariant_of-sum : goal.invariant_of-sum
unfolding value
invariant_of-sum c = record { below = sum_low _ c.loop-x.x-index c.loop-x.invariant.0 }

pub invariant_of-sum-2 : goal.invariant_of-sum-2
unfolding value
invariant_of-sum-2 c = record { below = sum_low _ c.loop-x.x-index c.loop-x.invariant.0 }

pub loop-x-preserved : goal.loop-x-preserved
unfolding value
loop-x-preserved c =
    let l = c.loop-x in
    let i = l.x-index in
    let log = c.args.log in (
      c.plus_term-sum.ensures ∙ sum_more _ i l.invariant.0 (ap (mulq (get_or c.args.a.now i 0)) (log_power log i l.invariant.1)),
      c.advance-at.ensures ∙ log_add log i 1 l.invariant.1 (log_one log c.requires.1) (omega arith),
    )
