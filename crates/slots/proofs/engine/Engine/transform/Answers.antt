-- `Engine::transform` meets its contract: the slots are filled from the left.
-- Assumes nothing.
use mathlib.Core.Path.{ap, ap₂, ◌∙◌}
use native.Mathlib.Omega.{arith}
use Rattle.residue.specs.Field.{generator, powq}
use Rattle.algebra.specs.Transform.{exponent, value, image}
use Rattle.lists.proofs.Fill.{fill_turn, fill_end}
use Rattle.residue.proofs.PowerLaws.{powq_mul}
use Rattle.residue.proofs.ResiduesLaws.{own_length}
use Rattle.slots.proofs.ReadyLaws.{half_small, root_log, exponent_below}
use Rattle.slots.proofs.engine.Engine.transform.Goals as goal

pub slot_log-requires : goal.slot_log-requires
slot_log-requires c =
    let engine = c.args.self.now in
    (omega (arith, half_small engine.ready), root_log engine.ready _ (exponent_below engine.half c.loop-k.k (omega arith)))

pub value-requires : goal.value-requires
value-requires c =
    let engine = c.args.self.now in
    (own_length c.requires.0, omega (arith, root_log engine.ready _ (exponent_below engine.half c.loop-k.k (omega arith))))

pub loop-k-preserved : goal.loop-k-preserved
loop-k-preserved c =
    let l = c.loop-k in
    let point = ap (powq generator) c.slot_log.ensures ∙ powq_mul generator c.args.self.now.step (exponent l.k) in
    fill_turn l.invariant _ (omega arith) (c.value.ensures ∙ ap₂ (λ n x. value n c.args.a.now x) c.requires.0.long point)

pub returns : goal.returns
unfolding image
returns c = fill_end c.loop-k.invariant (omega arith)
