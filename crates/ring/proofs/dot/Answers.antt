-- `dot` meets its contract: the sum so far has the terms below i.
-- Assumes nothing.
use mathlib.Core.Path.{refl, ◌∙◌}
use native.Mathlib.Omega.{arith}
use borrow.Author.Rules.{rules}
use Rattle.ring.proofs.Sums.{sum_more, sum_low}
use Rattle.ring.proofs.ProductLaws.{dot_start}
use Rattle.ring.proofs.dot.Goals as goal

pub loop-i-init : goal.loop-i-init
loop-i-init c = (search rules, search rules, dot_start c.args.a.now c.args.b.now c.args.m c.requires.from_value.0)

pub invariant_of-sum : goal.invariant_of-sum
invariant_of-sum c = record { below = sum_low _ c.loop-i.i c.loop-i.invariant.2 }

pub invariant_of-sum-2 : goal.invariant_of-sum-2
invariant_of-sum-2 c = record { below = sum_low _ c.loop-i.i c.loop-i.invariant.2 }

pub loop-i-preserved : goal.loop-i-preserved
loop-i-preserved c =
    let l = c.loop-i in
    (omega arith, omega arith, c.plus_product-sum.ensures ∙ sum_more _ l.i l.invariant.2 refl)
