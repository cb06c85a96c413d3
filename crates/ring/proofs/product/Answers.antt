-- `product` meets its contract: places i and h + i hold the product, for the i that are done.
-- Assumes nothing.
use mathlib.Core.Path.{◌∙◌}
use Rattle.algebra.specs.Product.{product}
use Rattle.ring.proofs.HalfFill.{half_turn, half_end}
use Rattle.ring.proofs.ProductLaws.{folded_low, folded_high}
use Rattle.ring.proofs.product.Goals as goal

pub loop-i-preserved : goal.loop-i-preserved
loop-i-preserved c =
    let s = c.args in
    let l = c.loop-i in
    let taken = c.loop-i-test.true in
    let first = c.coefficient-first.ensures in
    let second = c.coefficient-second.ensures in
    let third = c.coefficient-third.ensures in
    let fourth = c.coefficient-fourth.ensures in
    half_turn l.invariant _ _ taken
    (c.fold_low.ensures ∙ folded_low s.half _ l.i taken first third fourth)
    (c.fold_high.ensures ∙ folded_high s.half _ l.i second third)

pub returns : goal.returns
unfolding product
returns c = half_end c.loop-i.invariant c.loop-i-test.false
