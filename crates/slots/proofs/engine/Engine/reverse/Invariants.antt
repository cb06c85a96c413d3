-- `Engine::reverse` meets its contract: places j and h + j hold the element, for the j that are done.
-- Assumes nothing.
use Rattle.residue.specs.Field.{generator, powq}
use Rattle.ring.proofs.HalfFill.{HalfFill}
use Rattle.slots.proofs.SlotLaws.{reverse_at}
use Rattle.slots.proofs.engine.Engine.reverse.Given as goal

abbrev pub invariant-loop-j : goal.invariant-loop-j
invariant-loop-j l = HalfFill (reverse_at l.self.half (powq generator l.self.step) l.a) l.self.half l.out l.j
