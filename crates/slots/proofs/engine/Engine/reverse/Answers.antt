-- `Engine::reverse` meets its contract: places j and h + j hold the element, for the j that are done.
-- Assumes nothing.
use Prim.Native.Nat.{◌+◌}
use Rattle.residue.specs.Field.{generator, powq}
use Rattle.algebra.specs.Transform.{reverse}
use Rattle.algebra.proofs.Image.{partner_low, partner_high}
use Rattle.ring.proofs.HalfFill.{half_turn, half_end}
use Rattle.slots.proofs.SlotLaws.{reverse_at, reverse_at_lem}
use Rattle.slots.proofs.engine.Engine.reverse.Goals as goal

pub loop-j-preserved : goal.loop-j-preserved
loop-j-preserved c =
    let s = c.args in
    let l = c.loop-j in
    let h = s.self.now.half in
    let w = powq generator s.self.now.step in
    let taken = c.loop-j-test.true in
    let scale = c.inv-scale.ensures in
    let low = c.slot_sum-low.ensures in
    let high = c.slot_sum-high.ensures in
    half_turn l.invariant _ _ taken
    (reverse_at_lem h w s.a.now l.j (h + l.j) (partner_low h l.j taken) c.settle.ensures scale low high)
    (reverse_at_lem h w s.a.now (h + l.j) l.j (partner_high h l.j) c.settle-in-loop-j.ensures scale high low)

pub returns : goal.returns
unfolding reverse reverse_at
returns c = half_end c.loop-j.invariant c.loop-j-test.false
